-- For private contracts: what is reported where a link is late.
use Rattle.std.specs.Prelude.{[], ◌∷◌}
use Rattle.oca_control.specs.declared.report.DriveReport.{DriveReport}
use Rattle.oca_control.specs.Links.{IsLost}
use Rattle.oca_control.specs.Driving.{drive_report_of}

-- nothing was sent, and the link counts as lost
abbrev pub lost_report : DriveReport
lost_report = drive_report_of [] (IsLost ∷ []) 0 0

use Rattle.oca_control.proofs.Words.{◌≡◌, ◌+◌, ◌*◌, ◌<◌, false, last_u64, DrivesEnd, IsReportWithin}
use Rattle.oca_control.proofs.driving.drive.Given as goal

abbrev pub invariant-loop-turn : goal.invariant-loop-turn
invariant-loop-turn g l = record {
  driven : DrivesEnd l.fn.link l.link (g.E.End.state l.fn.end) (g.E.End.state l.end) l.report;
  device : l.link.device ≡ l.fn.link.device;
  going : l.report.lost ≡ false;
  turns : l.report.turns ≡ l._turn;
  within : IsReportWithin (l._turn * 4294967295) l.report;
  receives : (g.E.End.state l.end).receives < last_u64 → (g.E.End.state l.end).receives ≡ (g.E.End.state l.fn.end).receives + l.report.turns;
}

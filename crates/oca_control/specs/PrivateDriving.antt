-- For private contracts: what a part of a turn does and reports.
use Rattle.std.specs.Prelude.{[], ◌∷◌, ◌≡◌, ◌≤◌, Bool, List, None, Option, Some, ℕ}
use Rattle.oca_control.specs.Words.{DeliversAndTakes, Delivery, EndState, Receives, SendsAllBut, one_more}
use Rattle.oca_net.specs.declared.end.Heard.TheVariants as heard
use Rattle.oca_control.specs.declared.report.DriveReport.{DriveReport}
use Rattle.oca_control.specs.Links.{LinkState, Decision, decision, gone_on}
use Rattle.oca_control.specs.Driving.{DrivesTurn, drive_report_of, goes_on, given_to, all_given_to}

-- no number of the report is above m
pub record IsReportWithin (m : ℕ) (r : DriveReport) : Type 0 where
  pub turns : r.turns ≤ m
  pub sent : r.sent ≤ m
  pub keep_alives : r.keep_alives ≤ m
  pub answered : r.answered ≤ m
  pub failed_receives : r.failed_receives ≤ m
  pub failed_sends : r.failed_sends ≤ m

-- the report of decisions in which so many sends failed
abbrev pub given_report : List Decision → ℕ → DriveReport
given_report decisions failed_sends = drive_report_of [] decisions 0 failed_sends

-- a decision was taken, and what it gives handed to the end
pub record GivesOne (now : ℕ) (l l' : LinkState) (before after : EndState) (go : Bool) (given : DriveReport)
    : Type 0 where
  pub link : l' ≡ gone_on now l
  pub goes : go ≡ goes_on (decision now l)
  pub reported : given ≡ given_report (decision now l ∷ []) given.failed_sends
  pub sends : SendsAllBut given.failed_sends before after (given_to l.device (decision now l))

-- a turn
pub record DrivesOnce (old new : LinkState) (before after : EndState) (turn : DriveReport) : Type 0 where
  pub delivery : Delivery
  pub decisions : List Decision
  pub answered : ℕ
  pub drives : DrivesTurn delivery old new decisions answered
  pub reported : turn ≡ drive_report_of (delivery ∷ []) decisions answered turn.failed_sends
  pub runs : DeliversAndTakes (delivery ∷ []) (all_given_to old.device decisions)
      turn.failed_receives turn.failed_sends before after
  pub device : new.device ≡ old.device
  pub receives : after.receives ≡ one_more before.receives

-- at Closed the link is as it was
pub record DriveFindsClosed (old new : LinkState) (before after : EndState) : Type 0 where
  pub link : new ≡ old
  pub received : Receives heard.Closed [] before after

-- a turn, or none at Closed
abbrev pub TakesDriveTurn : LinkState → LinkState → EndState → EndState → Option DriveReport → Type 0
TakesDriveTurn old new before after None = DriveFindsClosed old new before after
TakesDriveTurn old new before after (Some turn) = DrivesOnce old new before after turn

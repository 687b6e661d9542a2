-- The outcome of a command that is asked of a link over an end.
use Rattle.std.specs.Prelude.{◌+◌, ◌||◌, ◌≡◌, ◌≤◌, Bool, Err, None, Ok, Result, Some, false, if◌then◌else◌, true, ℕ}
use Rattle.oca_control.specs.Words.{EndState, Handle, RequestFields}
pub use Rattle.oca_net.specs.EndStates.{IsPresent}
use Rattle.oca_control.specs.declared.fault.ControlFault.{ControlFault}
use Rattle.oca_control.specs.declared.fault.ControlFault.TheVariants as faults
use Rattle.oca_control.specs.declared.outcome.Outcome.{Outcome}
use Rattle.oca_control.specs.declared.outcome.Outcome.TheVariants as outcomes
use Rattle.oca_control.specs.declared.report.DriveReport.{DriveReport}
use Rattle.oca_control.specs.Answers.{answer_fields}
use Rattle.oca_control.specs.Untaken.{answer_under}
use Rattle.oca_control.specs.Links.{LinkState, late_at, submission, submitted, taken}
use Rattle.oca_control.specs.Driving.{SendsDue}
use Rattle.oca_control.specs.Turning.{Turns}

-- A turn was taken, or the end was closed; and whether the link was found lost, or late, in it. The end was asked once.
pub record TakesATurn (lost : Bool) (old new : LinkState) (before after : EndState) : Type 0 where
  pub report : DriveReport
  pub turns : Turns old new before after report
  pub found : report.lost ≡ lost

-- So many turns were taken, one after another, and before each no answer was held under the handle and the link was not
-- lost, nor was it found late in one before; and whether it was in the last.
pub data TakesTurns (h : ℕ) : (turns : ℕ) (lost : Bool) (old new : LinkState) (before after : EndState) → Type 0 where
  NoneTaken : {l : LinkState} {e : EndState} → TakesTurns h 0 false l l e e
  OneTaken : {n : ℕ} {lost : Bool} {old l new : LinkState} {d e f : EndState} → TakesTurns h n false old l d e →
      answer_under h l.untaken ≡ None → l.lost ≡ false →
      TakesATurn lost l new e f → TakesTurns h (n + 1) lost old new d f

-- From a link under whose handle an answer is waited for, to the link after it, where so many turns were allowed. An
-- answer is the one that was then held, and is taken, also where the link was found late. Lost: none is held, and the
-- link is lost or was found late. Unanswered: none is held, the link is not lost, and all the turns were taken.
abbrev pub Waits : ℕ → ℕ → LinkState → Outcome → LinkState → EndState → EndState → Type 0
Waits h turns old (outcomes.Answered a) new before after =
    (l : LinkState) × (n : ℕ) × (lost : Bool) × (n ≤ turns) × TakesTurns h n lost old l before after
    × (answer_under h l.untaken ≡ Some (answer_fields a)) × (new ≡ taken h l)
Waits h turns old (outcomes.Refused fault) new before after = ⊥
Waits h turns old outcomes.Lost new before after =
    (n : ℕ) × (lost : Bool) × (n ≤ turns) × TakesTurns h n lost old new before after
    × (answer_under h new.untaken ≡ None) × ((lost || new.lost) ≡ true)
Waits h turns old outcomes.Unanswered new before after =
    TakesTurns h turns false old new before after × (answer_under h new.untaken ≡ None) × (new.lost ≡ false)

-- How often was received, where so many turns were allowed: at most so often, and just so often where no answer came.
abbrev pub ReceivesSoOften : ℕ → Outcome → ℕ → ℕ → Type 0
ReceivesSoOften turns (outcomes.Answered a) before after = after ≤ before + turns
ReceivesSoOften turns (outcomes.Refused fault) before after = after ≡ before
ReceivesSoOften turns outcomes.Lost before after = after ≤ before + turns
ReceivesSoOften turns outcomes.Unanswered before after = after ≡ before + turns

-- the outcome of a command that the link refuses
abbrev pub refused_by : ControlFault → Outcome
refused_by faults.Lost = outcomes.Lost
refused_by faults.HandlesSpent = outcomes.Refused faults.HandlesSpent
refused_by faults.SpanFull = outcomes.Refused faults.SpanFull
refused_by faults.TooLong = outcomes.Refused faults.TooLong

-- What comes of a command that is to begin at a moment: a link that is late takes none.
abbrev pub beginning : RequestFields → ℕ → LinkState → Result Handle ControlFault
beginning request now l = if late_at now l then Err faults.Lost else submission request l

-- The command was submitted at a moment, and all that was due then sent; or it was refused, which changes nothing.
abbrev pub GivesFirst : RequestFields → ℕ → Result Handle ControlFault → LinkState → LinkState → EndState → EndState →
    Type 0
GivesFirst request now (Ok handle) old new before after =
    (report : DriveReport)
    × SendsDue now ((submitted request now old).span + 1) (submitted request now old) new before after report
GivesFirst request now (Err fault) old new before after = (new ≡ old) × (after ≡ before)

-- A COMMAND WAS BEGUN at the present moment of the end. Where the end says 0, as one that keeps no time, that counts as
-- the link's own moment.
pub record Begins (request : RequestFields) (returned : Result Handle ControlFault) (old new : LinkState)
    (before after : EndState) : Type 0 where
  pub now : ℕ
  pub present : IsPresent now before
  pub answer : returned ≡ beginning request now old
  pub gives : GivesFirst request now returned old new before after

-- The outcome of a command that was begun: it was waited for, or it had been refused, which changes nothing.
abbrev pub HasOutcome : ℕ → Result Handle ControlFault → LinkState → Outcome → LinkState → EndState → EndState → Type 0
HasOutcome turns (Ok handle) old outcome new before after = Waits handle.0 turns old outcome new before after
HasOutcome turns (Err fault) old outcome new before after =
    (outcome ≡ refused_by fault) × (new ≡ old) × (after ≡ before)

-- A COMMAND WAS ASKED: it was begun, and its answer waited for.
pub record Asks (request : RequestFields) (turns : ℕ) (old : LinkState) (outcome : Outcome) (new : LinkState)
    (before after : EndState) : Type 0 where
  pub returned : Result Handle ControlFault
  pub link : LinkState
  pub end_then : EndState
  pub begins : Begins request returned old link before end_then
  pub outcome_is : HasOutcome turns returned link outcome new end_then after

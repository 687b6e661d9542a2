-- A panel: its link, the end that it is driven over, and what its calls do.
use Rattle.std.specs.Prelude.{◌&&◌, ◌==◌, ◌||◌, ◌≡◌, Bool, Err, None, Ok, Option, Result, Some, false, not, true, ℕ}
use Rattle.oca_panel.specs.Words.{Begins, ControlFault, DriveReport, EndState, Handle, LinkState, Outcome, Peer}
use Rattle.oca_panel.specs.Words.{RequestFields, Turns, Waits, answer_under, new_link}
use Rattle.oca_control.specs.declared.outcome.Outcome.TheVariants as outcomes
use Rattle.oca_control.specs.Asking.{IsPresent}
use Rattle.oca_control.specs.Waiting.{WaitsWhile}

-- A link, what the end that it is driven over says of itself, for how many milliseconds a command waits for its answer,
-- and whether one that was waited for got none.
pub record PanelState : Type 0 where
  pub link : LinkState
  pub end_state : EndState
  pub wait : ℕ
  pub unanswered : Bool

-- A panel whose link is new, made at the end's present moment, over an end in this state.
pub record IsOpened (device : Peer) (first span wait : ℕ) (before : EndState) (p : PanelState) : Type 0 where
  pub now : ℕ
  pub present : IsPresent now before
  pub panel : p ≡ record {
    link = new_link device first now span;
    end_state = before;
    wait = wait;
    unanswered = false;
  }

-- no answer came
abbrev pub is_lost_or_unanswered : Outcome → Bool
is_lost_or_unanswered (outcomes.Answered a) = false
is_lost_or_unanswered (outcomes.Refused fault) = false
is_lost_or_unanswered _ = true

-- The request was begun: it got its handle and what was due was sent, or it was refused, which changes nothing.
pub record BeginsIn (request : RequestFields) (returned : Result Handle ControlFault)
    (old new : PanelState) : Type 0 where
  pub begins : Begins request returned old.link new.link old.end_state new.end_state
  pub wait : new.wait ≡ old.wait
  pub unanswered : new.unanswered ≡ old.unanswered

-- The answer under this handle was waited for, as long as a command waits.
pub record FinishesIn (handle : ℕ) (old new : PanelState) (outcome : Outcome) : Type 0 where
  pub waits : WaitsWhile handle old.wait old.link outcome new.link old.end_state new.end_state
  pub wait : new.wait ≡ old.wait
  pub unanswered : new.unanswered ≡ (old.unanswered || is_lost_or_unanswered outcome)

-- it is known how a command came out
abbrev pub IsKnown : Outcome → Type 0
IsKnown (outcomes.Answered a) = Unit {0}
IsKnown (outcomes.Refused fault) = Unit {0}
IsKnown outcomes.Lost = Unit {0}
IsKnown outcomes.Unanswered = ⊥

-- How the command under this handle came out was looked up, without a turn: the answer is taken where it is there, else
-- the link is lost.
pub record SettlesIn (handle : ℕ) (old new : PanelState) (outcome : Outcome) : Type 0 where
  pub known : IsKnown outcome
  pub waits : Waits handle 0 old.link outcome new.link old.end_state new.end_state
  pub wait : new.wait ≡ old.wait
  pub unanswered : new.unanswered ≡ (old.unanswered || is_lost_or_unanswered outcome)

-- Nothing is known yet: no answer is there, the link is not lost, and nothing changed.
abbrev pub MaySettle : Option Outcome → ℕ → PanelState → PanelState → Type 0
MaySettle (Some outcome) handle old new = SettlesIn handle old new outcome
MaySettle None handle old new = (new ≡ old) × (answer_under handle old.link.untaken ≡ None) × (old.link.lost ≡ false)

-- The link took a turn; and whether it may go on: it was a turn, and the link was found neither lost nor late.
pub record TurnsOnce (old new : PanelState) (further : Bool) : Type 0 where
  pub report : DriveReport
  pub takes : Turns old.link new.link old.end_state new.end_state report
  pub goes_on : further ≡ (report.turns == 1 && not report.lost)
  pub wait : new.wait ≡ old.wait
  pub unanswered : new.unanswered ≡ old.unanswered

-- How a command ended that was to be begun: it was waited for, or the link refused it, so that it was never sent.
abbrev pub EndsIn : Result Handle ControlFault → PanelState → PanelState → Outcome → Type 0
EndsIn (Ok handle) old new outcome = FinishesIn handle.0 old new outcome
EndsIn (Err fault) old new outcome = (outcome ≡ outcomes.Refused fault) × (new ≡ old)

-- The request was asked, and came out so: it was begun, and then waited for unless it was refused.
pub record AsksIn (request : RequestFields) (old new : PanelState) (outcome : Outcome) : Type 0 where
  pub returned : Result Handle ControlFault
  pub between : PanelState
  pub begins : BeginsIn request returned old between
  pub ends : EndsIn returned between new outcome

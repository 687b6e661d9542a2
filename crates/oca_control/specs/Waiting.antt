-- A wait for an answer until a moment.
use Rattle.std.specs.Prelude.{◌+◌, ◌<◌, ◌==◌, ◌||◌, ◌≡◌, ◌≤◌, ◌⊎◌, Bool, None, Some, false, min, true, ℕ}
use Rattle.oca_control.specs.Words.{EndState, last_u64}
use Rattle.oca_control.specs.declared.outcome.Outcome.{Outcome}
use Rattle.oca_control.specs.declared.outcome.Outcome.TheVariants as outcomes
use Rattle.oca_control.specs.declared.report.DriveReport.{DriveReport}
use Rattle.oca_control.specs.Answers.{answer_fields}
use Rattle.oca_control.specs.Asking.{IsPresent}
use Rattle.oca_control.specs.Untaken.{answer_under}
use Rattle.oca_control.specs.Links.{LinkState, present_moment, taken}
use Rattle.oca_control.specs.Turning.{Turns}

-- The present moment of a link over an end: what the end says, or the link's own where that is later.
pub record IsPresentOf (moment : ℕ) (l : LinkState) (e : EndState) : Type 0 where
  pub now : ℕ
  pub present : IsPresent now e
  pub latest : moment ≡ present_moment now l

-- the present moment is before another one
pub record IsBefore (until : ℕ) (l : LinkState) (e : EndState) : Type 0 where
  pub moment : ℕ
  pub present : IsPresentOf moment l e
  pub before : moment < until

-- the present moment is another one or later
pub record HasCome (until : ℕ) (l : LinkState) (e : EndState) : Type 0 where
  pub moment : ℕ
  pub present : IsPresentOf moment l e
  pub reached : until ≤ moment

-- A turn was taken, or the end was found closed; and whether the link was found lost, or late, in it.
pub record TakesATurnAndSees (lost closed : Bool) (old new : LinkState) (before after : EndState) : Type 0 where
  pub report : DriveReport
  pub turns : Turns old new before after report
  pub lost_there : lost ≡ report.lost
  pub closed_there : closed ≡ (report.turns == 0)

-- SO MANY TURNS WERE TAKEN, one after another, each begun before a moment; and before each no answer was held under the
-- handle, the link was not lost, and the one before had found neither that it is late nor that the end is closed. What
-- the last found.
pub data TakesTurnsBefore (h until : ℕ) : (turns : ℕ) (lost closed : Bool) (old new : LinkState)
    (before after : EndState) → Type 0 where
  NoTurn : {l : LinkState} {e : EndState} → TakesTurnsBefore h until 0 false false l l e e
  OneTurn : {n : ℕ} {lost closed : Bool} {old l new : LinkState} {d e f : EndState} →
      TakesTurnsBefore h until n false false old l d e →
      answer_under h l.untaken ≡ None → l.lost ≡ false → IsBefore until l e →
      TakesATurnAndSees lost closed l new e f → TakesTurnsBefore h until (n + 1) lost closed old new d f

-- the most turns of a wait
abbrev pub most_turns_of_a_wait : ℕ
most_turns_of_a_wait = 4294967295

-- Why a wait ended without an answer: the moment was reached, the end was found closed, or all the turns were taken.
abbrev pub IsWaitGivenUp : (until turns : ℕ) → (closed : Bool) → LinkState → EndState → Type 0
IsWaitGivenUp until turns closed l e = HasCome until l e ⊎ ((closed ≡ true) ⊎ (turns ≡ most_turns_of_a_wait))

-- THE ANSWER WAS WAITED FOR UNTIL A MOMENT. An answer is the one that was then held, and is taken, also where the link
-- was found late. Lost: none is held, and the link is lost or was found late. Unanswered: none is held, the link is
-- not lost, and there was no time left.
abbrev pub WaitsUntil : (h until : ℕ) → LinkState → Outcome → LinkState → EndState → EndState → Type 0
WaitsUntil h until old (outcomes.Answered a) new before after =
    (l : LinkState) × (n : ℕ) × (lost : Bool) × (closed : Bool) × (n ≤ most_turns_of_a_wait)
    × TakesTurnsBefore h until n lost closed old l before after
    × (answer_under h l.untaken ≡ Some (answer_fields a)) × (new ≡ taken h l)
WaitsUntil h until old (outcomes.Refused fault) new before after = ⊥
WaitsUntil h until old outcomes.Lost new before after =
    (n : ℕ) × (lost : Bool) × (closed : Bool) × (n ≤ most_turns_of_a_wait)
    × TakesTurnsBefore h until n lost closed old new before after
    × (answer_under h new.untaken ≡ None) × ((lost || new.lost) ≡ true)
WaitsUntil h until old outcomes.Unanswered new before after =
    (n : ℕ) × (closed : Bool) × (n ≤ most_turns_of_a_wait)
    × TakesTurnsBefore h until n false closed old new before after
    × (answer_under h new.untaken ≡ None) × (new.lost ≡ false) × IsWaitGivenUp until n closed new after

-- THE SAME, FOR SO MANY MILLISECONDS from the present moment on, in moments of 64 bits.
pub record WaitsWhile (h milliseconds : ℕ) (old : LinkState) (outcome : Outcome) (new : LinkState)
    (before after : EndState) : Type 0 where
  pub from : ℕ
  pub present : IsPresentOf from old before
  pub waits : WaitsUntil h (min (from + milliseconds) last_u64) old outcome new before after

-- how often was received in a wait: at most as often as it may take turns
abbrev pub ReceivesInAWait : (before after : ℕ) → Type 0
ReceivesInAWait before after = after < last_u64 → after ≤ before + most_turns_of_a_wait

-- For private contracts: what a link shows of a command without a turn.
use Rattle.std.specs.Prelude.{◌||◌, ◌≡◌, ◌⊎◌, Bool, None, Option, Some, false, true, ℕ}
use Rattle.oca_control.specs.Words.{EndState}
use Rattle.oca_control.specs.declared.outcome.Outcome.{Outcome}
use Rattle.oca_control.specs.declared.outcome.Outcome.TheVariants as outcomes
use Rattle.oca_control.specs.Answers.{answer_fields}
use Rattle.oca_control.specs.Untaken.{answer_under}
use Rattle.oca_control.specs.Links.{LinkState, taken}
use Rattle.oca_control.specs.Waiting.{IsBefore, HasCome}

-- The answer under the handle, which is taken; or that none is held and the link is lost, or was found late; or
-- neither.
abbrev pub Settles : ℕ → Bool → LinkState → Option Outcome → LinkState → Type 0
Settles h late old (Some (outcomes.Answered a)) new =
    (answer_under h old.untaken ≡ Some (answer_fields a)) × (new ≡ taken h old)
Settles h late old (Some (outcomes.Refused fault)) new = ⊥
Settles h late old (Some outcomes.Lost) new =
    (answer_under h old.untaken ≡ None) × ((late || old.lost) ≡ true) × (new ≡ old)
Settles h late old (Some outcomes.Unanswered) new = ⊥
Settles h late old None new = (answer_under h old.untaken ≡ None) × ((late || old.lost) ≡ false) × (new ≡ old)

-- By whether the end was found closed, and by the present moment: that there is no time left, or that there is.
abbrev pub IsWaitOver : (until : ℕ) → (closed : Bool) → EndState → LinkState → Option Outcome → Type 0
IsWaitOver until closed e l (Some (outcomes.Answered a)) = ⊥
IsWaitOver until closed e l (Some (outcomes.Refused fault)) = ⊥
IsWaitOver until closed e l (Some outcomes.Lost) = ⊥
IsWaitOver until closed e l (Some outcomes.Unanswered) = HasCome until l e ⊎ (closed ≡ true)
IsWaitOver until closed e l None = (closed ≡ false) × IsBefore until l e

-- What is known without a turn: the answer, which is taken, or that the link is lost; else that there is no time left;
-- else nothing.
abbrev pub EndsWait : (h until : ℕ) → (lost closed : Bool) → EndState → LinkState → Option Outcome → LinkState → Type 0
EndsWait h until lost closed e old (Some (outcomes.Answered a)) new =
    Settles h lost old (Some (outcomes.Answered a)) new
EndsWait h until lost closed e old (Some (outcomes.Refused fault)) new = ⊥
EndsWait h until lost closed e old (Some outcomes.Lost) new = Settles h lost old (Some outcomes.Lost) new
EndsWait h until lost closed e old (Some outcomes.Unanswered) new =
    Settles h lost old None new × IsWaitOver until closed e new (Some outcomes.Unanswered)
EndsWait h until lost closed e old None new = Settles h lost old None new × IsWaitOver until closed e new None

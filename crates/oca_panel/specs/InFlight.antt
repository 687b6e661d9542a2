-- Commands in flight on a panel, in the order in which they were begun. Of each there is its handle, and what its
-- caller says of it.
use Rattle.std.specs.Prelude.{[], ◌++◌, ◌==◌, ◌∷◌, ◌≡◌, Bool, Err, List, None, Ok, Option, Result, Some, false, length}
use Rattle.std.specs.Prelude.{true, ℕ}
use Rattle.oca_panel.specs.Words.{ControlFault, Handle, LinkState, Outcome, RequestFields, answer_under}
use Rattle.oca_control.specs.declared.fault.ControlFault.TheVariants.{SpanFull}
use Rattle.oca_panel.specs.Panels.{PanelState, BeginsIn, FinishesIn, SettlesIn}

-- as many as the largest span has handles
abbrev pub is_full : {T : Type 0} → List (ℕ × T) → Bool
is_full queue = length queue == 32

-- a command that was begun is behind the others
abbrev pub put_behind : {T : Type 0} → List (ℕ × T) → T → Result Handle ControlFault → List (ℕ × T)
put_behind queue item (Ok handle) = queue ++ (handle.0, item) ∷ []
put_behind queue item (Err fault) = queue

-- where there is room the request was begun or refused by the link; where there is none nothing was asked
abbrev pub BeginsUnless : (full : Bool) → RequestFields → Result Handle ControlFault → PanelState → PanelState → Type 0
BeginsUnless false request returned old new = BeginsIn request returned old new
BeginsUnless true request returned old new = (returned ≡ Err SpanFull) × (new ≡ old)

-- A COMMAND WAS BEGUN, and is in flight behind the others; or it was refused, which changes nothing.
pub record BeginsBehind {T : Type 0} (request : RequestFields) (item : T) (returned : Result Handle ControlFault)
    (queue more : List (ℕ × T)) (old new : PanelState) : Type 0 where
  pub begins : BeginsUnless (is_full queue) request returned old new
  pub behind : more ≡ put_behind queue item returned

-- THE FIRST WAS WAITED FOR, as long as a command waits, and is in flight no longer. Where none was in flight nothing
-- changed.
abbrev pub FinishesFirst : {T : Type 0} → Option (T × Outcome) → (queue rest : List (ℕ × T)) → PanelState → PanelState
    → Type 0
FinishesFirst (Some came) queue rest old new =
    (handle : ℕ) × (queue ≡ (handle, came.0) ∷ rest) × FinishesIn handle old new came.1
FinishesFirst None queue rest old new = (queue ≡ []) × (rest ≡ []) × (new ≡ old)

-- no answer to the first is there, where one is in flight, and the link is not lost
abbrev pub FirstIsUnknown : {T : Type 0} → List (ℕ × T) → LinkState → Type 0
FirstIsUnknown [] link = Unit {0}
FirstIsUnknown (first ∷ rest) link = (answer_under first.0 link.untaken ≡ None) × (link.lost ≡ false)

-- HOW THE FIRST CAME OUT was looked up without a turn. Where it is known it is in flight no longer, else nothing
-- changed.
abbrev pub SettlesFirst : {T : Type 0} → Option (T × Outcome) → (queue rest : List (ℕ × T)) → PanelState → PanelState
    → Type 0
SettlesFirst (Some came) queue rest old new =
    (handle : ℕ) × (queue ≡ (handle, came.0) ∷ rest) × SettlesIn handle old new came.1
SettlesFirst None queue rest old new = (rest ≡ queue) × (new ≡ old) × FirstIsUnknown queue old.link

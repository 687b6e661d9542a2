-- Commands of any method that are begun (AES70-2).
use Rattle.std.specs.Prelude.{◌≡◌, Err, Ok, Result, ℕ}
use Rattle.oca_panel.specs.Words.{Class, ControlFault, Handle, IsRefusedCall, Request, RequestFault, RequestFields}
use Rattle.oca_panel.specs.declared.trouble.Trouble.{Trouble}
use Rattle.oca_panel.specs.declared.trouble.Trouble.TheVariants as trouble
use Rattle.oca_panel.specs.Panels.{PanelState, BeginsIn}
use Rattle.oca_panel.specs.Objects.{IsRequestTo}

-- The command that asks this of an object of the class was begun, or refused by the link.
pub record BeginsRequest (target : ℕ) (of : Class) (asked : Request) (returned : Result Handle ControlFault)
    (old new : PanelState) : Type 0 where
  pub request : RequestFields
  pub calls : IsRequestTo target of asked request
  pub begins : BeginsIn request returned old new

-- No method of the class asks this, or its parameters are too long: nothing was asked.
abbrev pub AsksNothing : Class → Request → PanelState → PanelState → Type 0
AsksNothing of asked old new = (fault : RequestFault) × IsRefusedCall of asked fault × (new ≡ old)

-- THIS WAS BEGUN: its handle, or why it was not, which changes nothing.
abbrev pub BeginsAsking : ℕ → Class → Request → Result Handle Trouble → PanelState → PanelState → Type 0
BeginsAsking target of asked (Ok handle) old new = BeginsRequest target of asked (Ok handle) old new
BeginsAsking target of asked (Err (trouble.NotSubmitted fault)) old new = BeginsRequest target of asked
    (Err fault) old new
BeginsAsking target of asked (Err trouble.NoValue) old new = AsksNothing of asked old new
BeginsAsking target of asked _ old new = ⊥

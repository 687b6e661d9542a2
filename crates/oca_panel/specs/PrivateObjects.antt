-- For private contracts: what can be asked of an object of a class.
use Rattle.oca_panel.specs.Words.{Class, IsRefusedCall, Request, RequestFault}

-- The class has a method for it, and its parameters are short enough.
abbrev pub CanBeAsked : Class → Request → Type 0
CanBeAsked of asked = (fault : RequestFault) → IsRefusedCall of asked fault → ⊥

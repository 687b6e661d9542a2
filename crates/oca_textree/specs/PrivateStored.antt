-- What the program's own values of a stored line's parts say.
use Rattle.std.specs.Prelude.{ℕ, List, [], ◌∷◌, Bool, Option, Some, None, Result, Ok, Err}
use Rattle.std.specs.Option.{option_copied}
use denote.Ref.{Bor}
use Rattle.oca_tree.specs.declared.builder.Kind.{Kind}
use Rattle.oca_tree.specs.declared.object.Object.{Object}
use Rattle.oca_tree.specs.Building.{root}
use Rattle.oca_script.specs.declared.object_fault.ObjectFault.{ObjectFault}
use Rattle.oca_textree.specs.declared.stored.Ending.{Ending as Ended}
use Rattle.oca_textree.specs.PrivateLines.{kind_valued}
use Rattle.oca_textree.specs.Stored.{Ending, Positions, Flagged}

abbrev pub text_view : Result (List ℕ × Option (Bor (List ℕ))) ObjectFault
    → Result (List ℕ × Option (List ℕ)) ObjectFault
text_view (Ok p) = Ok (p.0, option_copied p.1)
text_view (Err f) = Err f

-- names that were added, and what is left
abbrev pub names_rest_view : Result (Option (Bor (List ℕ))) ObjectFault → List (List ℕ)
    → Result (List (List ℕ) × Option (List ℕ)) ObjectFault
names_rest_view (Ok rest) names = Ok (names, option_copied rest)
names_rest_view (Err f) names = Err f

-- the current position and what is left, with the flags and the names that were added
abbrev pub switch_view : Result (ℕ × Option (Bor (List ℕ))) ObjectFault → List Bool → List (List ℕ)
    → Result Positions ObjectFault
switch_view (Ok p) flags names = Ok (record { flags = flags; names = names; position = p.0; rest = option_copied p.1 })
switch_view (Err f) flags names = Err f

abbrev pub ending_in : Ended → Ending
ending_in e = record { lockable = e.lockable; role = e.role; enabled = e.enabled; label = e.label }

abbrev pub ending_view : Result Ended ObjectFault → Result Ending ObjectFault
ending_view (Ok e) = Ok (ending_in e)
ending_view (Err f) = Err f

-- what an object is, with the flags of its positions
abbrev pub kind_flagged : Kind → Option (Bor (List Bool)) → Option (Bor (List ℕ)) → Flagged
kind_flagged kind flags rest = record { valued = kind_valued kind rest; flags = option_copied flags }

-- flags that were added
abbrev pub flags_view : Option Unit → List Bool → Option (List Bool)
flags_view None flags = None
flags_view (Some u) flags = Some flags

-- the root with what its line says of it
abbrev pub root_view : Result (Bool × List ℕ) ObjectFault → Result (List Object) ObjectFault
root_view (Ok start) = Ok (record root { label = start.1; enabled = start.0 } ∷ [])
root_view (Err f) = Err f

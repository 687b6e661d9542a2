-- What the program's own values of a line's parts say.
use Rattle.std.specs.Prelude.{◌≡◌, ◌⊎◌, ℕ, List, map, Bool, Option, Some, None, Result, Ok, Err, ℤ, ◌≤ℤ◌}
use Rattle.std.specs.Option.{option_copied}
use denote.Ref.{Bor}
use Rattle.oca_tree.specs.declared.object.Object.{Object}
use Rattle.oca_tree.specs.declared.builder.Kind.{Kind}
use Rattle.oca_tree.specs.Objects.{Store}
use Rattle.oca_tree.specs.Building.{value_of, has_bad_name}
use Rattle.oca_script.specs.declared.object_fault.ObjectFault.{ObjectFault}
use Rattle.oca_textree.specs.declared.fault.TreeFault.{TreeFault}
use Rattle.oca_textree.specs.declared.fault.TreeFault.TheVariants.{Line}
use Rattle.oca_textree.specs.declared.value.Limits.{Limits}
use Rattle.oca_types.specs.declared.class.Class.{Class}
use Rattle.oca_script.specs.declared.object_fault.ObjectFault.TheVariants as fault
use Rattle.oca_textree.specs.Lines.{Taken, Limited, Placed, Valued, field_at, integer_of}

abbrev pub field_view : Result (Bor (List ℕ) × Option (Bor (List ℕ))) ObjectFault → Result Taken ObjectFault
field_view (Ok p) = Ok (p.0.now, option_copied p.1)
field_view (Err f) = Err f

abbrev pub ono_view : Result (ℕ × Option (Bor (List ℕ))) ObjectFault → Result (ℕ × Option (List ℕ)) ObjectFault
ono_view (Ok p) = Ok (p.0, option_copied p.1)
ono_view (Err f) = Err f

abbrev pub placed_view : Result (ℕ × ℕ × Class × Option (Bor (List ℕ))) ObjectFault → Result Placed ObjectFault
placed_view (Ok p) = Ok (record { ono = p.0; container = p.1; class_read = p.2; rest = option_copied p.3 })
placed_view (Err f) = Err f

-- The next field was read as an integer from the one to the other; or it has that fault.
abbrev pub IsLimit : ℤ → ℤ → Option (List ℕ) → Result (ℤ × Option (Bor (List ℕ))) ObjectFault → Type 0
IsLimit low high rest (Ok p) =
    (text : List ℕ) × (field_at rest ≡ Ok (text, option_copied p.1)) × (integer_of low high text ≡ Some p.0)
IsLimit low high rest (Err f) =
    (field_at rest ≡ Err f)
    ⊎ ((f ≡ fault.Number) × (t : Taken) × (field_at rest ≡ Ok t) × (integer_of low high t.0 ≡ None))

abbrev pub limits_view : Result Limits ObjectFault → Result Limited ObjectFault
limits_view (Ok l) = Ok
    (record { least = l.least; greatest = l.greatest; setting = l.setting; rest = option_copied l.rest })
limits_view (Err f) = Err f

-- all three are from the one to the other
pub record IsWithin (low high : ℤ) (l : Limits) : Type 0 where
  pub least_low : low ≤ℤ l.least
  pub least_high : l.least ≤ℤ high
  pub greatest_low : low ≤ℤ l.greatest
  pub greatest_high : l.greatest ≤ℤ high
  pub setting_low : low ≤ℤ l.setting
  pub setting_high : l.setting ≤ℤ high

-- names that were added
abbrev pub names_view : Result Unit ObjectFault → List (List ℕ) → Result (List (List ℕ)) ObjectFault
names_view (Ok u) names = Ok names
names_view (Err f) names = Err f

-- the current position and the names
abbrev pub positions_view : Result (ℕ × Option (Bor (List ℕ))) ObjectFault → List (Bor (List ℕ))
    → Result (ℕ × List (List ℕ) × Option (List ℕ)) ObjectFault
positions_view (Ok p) names = Ok (p.0, map (λ n. n.now) names, option_copied p.1)
positions_view (Err f) names = Err f

-- what an object is, and what is left of its line
abbrev pub kind_valued : Kind → Option (Bor (List ℕ)) → Valued
kind_valued kind rest = record { bad_name = has_bad_name kind; value = value_of kind; rest = option_copied rest }

abbrev pub kind_view : Result (Kind × Option (Bor (List ℕ))) ObjectFault → Result Valued ObjectFault
kind_view (Ok p) = Ok (kind_valued p.0 p.1)
kind_view (Err f) = Err f

abbrev pub last_view : Result (Bool × Bor (List ℕ)) ObjectFault → Result (Bool × List ℕ) ObjectFault
last_view (Ok p) = Ok (p.0, p.1.now)
last_view (Err f) = Err f

-- The builder has the objects that a line makes of those before it, or it is as it was and the line has that fault.
abbrev pub Became : Result Unit ObjectFault → Store → Store → Result (List Object) ObjectFault → Type 0
Became (Ok u) old new reading = (reading ≡ Ok new.list) × (new.room ≡ old.room)
Became (Err f) old new reading = (reading ≡ Err f) × (new ≡ old)

abbrev pub IsReadSoFar : Result Unit TreeFault → Store → Store → ℕ → Result (List Object) ObjectFault → Type 0
IsReadSoFar (Ok u) old new number reading = (reading ≡ Ok new.list) × (new.room ≡ old.room)
IsReadSoFar (Err (Line n f)) old new number reading = (reading ≡ Err f) × (n ≡ number)
IsReadSoFar (Err _) old new number reading = ⊥

abbrev pub IsReadAs : Result Unit TreeFault → List Object → Result (List Object) TreeFault → Type 0
IsReadAs (Ok u) tree reading = reading ≡ Ok tree
IsReadAs (Err f) tree reading = reading ≡ Err f

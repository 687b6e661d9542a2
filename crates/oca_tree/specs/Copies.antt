-- What is read of an object so that the same object can be added again.
use Rattle.std.specs.Prelude.{◌≡◌, ℕ, Bool, false, List, [], map, Option, Some, None}
use Rattle.std.specs.Option.{option_map}
use Rattle.oca_tree.specs.declared.object.Object.{Object}
use Rattle.oca_tree.specs.declared.object.Value.{Value}
use Rattle.oca_tree.specs.declared.object.Value.TheVariants as values
use Rattle.oca_tree.specs.declared.builder.Spec.{Spec}
use Rattle.oca_tree.specs.declared.start.Start.{Start}
use Rattle.oca_tree.specs.Objects.{class_of, object_of}
use Rattle.oca_tree.specs.Readers.{value_setting}
use Rattle.oca_tree.specs.Building.{value_of, object_of_spec}
use Rattle.oca_tree.specs.Starts.{flags_of, restored}

-- ---- what is read

-- what was stored of an object: its label, whether it is enabled, and of a switch the flags of its positions
pub record Stored : Type 0 where
  pub label : List ℕ
  pub enabled : Bool
  pub flags : Option (List Bool)

abbrev pub stored_in : Start → Stored
stored_in start = record { label = start.label.now; enabled = start.enabled; flags = flags_of start }

-- only a switch has positions
unfoldable pub flags_in : Value → Option (List Bool)
flags_in (values.Switch switch) = Some switch.enableds.items
flags_in _ = None

unfoldable pub names_in : Value → List (List ℕ)
names_in (values.Switch switch) = switch.names.items
names_in _ = []

abbrev pub stored_of : Object → Stored
stored_of o = record { label = o.label; enabled = o.enabled; flags = flags_in o.value }

-- of the object with this number, where it is there
abbrev pub stored_at : List Object → ℕ → Option Stored
stored_at tree number = option_map stored_of (object_of tree number)

abbrev pub names_of_one : Option Object → List (List ℕ)
names_of_one None = []
names_of_one (Some o) = names_in o.value

abbrev pub names_of_ono : List Object → ℕ → List (List ℕ)
names_of_ono tree number = names_of_one (object_of tree number)

abbrev pub lockable_at : List Object → ℕ → Option Bool
lockable_at tree number = option_map (λ o. o.lockable) (object_of tree number)

-- ---- the same but for locks

-- the object without what lasts no longer than the device runs: its lock, and that its hardware refuses
abbrev pub unlocked : Object → Object
unlocked o = record o { lock = None; failing = false }

-- the objects without both
abbrev pub all_unlocked : List Object → List Object
all_unlocked tree = map unlocked tree

-- ---- made again

-- The Spec and the Start describe the object: its role, whether it can be locked, its class, how it is
-- set, the names of its positions, and what was stored.
pub record Describe (o : Object) (spec : Spec) (start : Start) : Type 0 where
  pub role : spec.role.now ≡ o.role
  pub lockable : spec.lockable ≡ o.lockable
  pub class : class_of (value_of spec.kind) ≡ class_of o.value
  pub setting : value_setting (value_of spec.kind) ≡ value_setting o.value
  pub names : names_in (value_of spec.kind) ≡ names_in o.value
  pub stored : stored_in start ≡ stored_of o

-- An object that is added by its description is the same, but for its lock and what its hardware refuses.
abbrev pub DescriptionMakesAgain : Type 0
DescriptionMakesAgain = (o : Object) (spec : Spec) (start : Start) → Describe o spec start →
    restored start (object_of_spec o.container.0 o.ono.0 spec) ≡ unlocked o

-- What was stored of an object and is handed back when the object is added.
use Rattle.std.specs.Prelude.{◌≡◌, ℕ, ◌==◌, not, Bool, true, false, if◌then◌else◌, List, [], ◌∷◌, ◌++◌, length, Option}
use Rattle.std.specs.Prelude.{Some, None, Result, Ok, Err}
use Rattle.std.specs.Option.{option_copied, option_map, option_or}
use Rattle.oca_tree.specs.declared.object.Object.{Object}
use Rattle.oca_tree.specs.declared.object.Value.{Value}
use Rattle.oca_tree.specs.declared.object.Value.TheVariants as values
use Rattle.oca_tree.specs.declared.builder.AddFault.TheVariants.{NoMemory}
use Rattle.oca_tree.specs.declared.builder.Spec.{Spec}
use Rattle.oca_tree.specs.declared.start.Start.{Start}
use Rattle.oca_tree.specs.declared.start.StartFault.{StartFault}
use Rattle.oca_tree.specs.declared.start.StartFault.TheVariants as faults
use Rattle.oca_tree.specs.Objects.{Store}
use Rattle.oca_tree.specs.Requests.{positions}
use Rattle.oca_tree.specs.Building.{is_long, value_of, root, object_of_spec, add_fault}

-- ---- the object that is added

-- the flags of its positions, where they were stored
abbrev pub flags_of : Start → Option (List Bool)
flags_of start = option_copied start.position_enableds

-- a switch with these flags of its positions; no other value has positions
abbrev pub with_flags : Option (List Bool) → Value → Value
with_flags (Some flags) (values.Switch switch) = values.Switch (record switch { enableds = record { items = flags } })
with_flags _ value = value

-- the object with its label, whether it is enabled, and the flags of its positions
abbrev pub restored : Start → Object → Object
restored start o =
    record o { label = start.label.now; enabled = start.enabled; value = with_flags (flags_of start) o.value }

-- ---- when it is refused

-- flags that are not as many as the positions
abbrev pub has_other_flags : Option (List Bool) → Value → Bool
has_other_flags None value = false
has_other_flags (Some flags) value = not (length flags == positions value)

-- THE FAULT of what was stored of an object with this value, the first that applies: a label of more than 64 bytes,
-- flags that are not as many as the positions.
unfoldable pub start_fault : Value → Start → Option StartFault
start_fault value start =
    if is_long start.label.now then Some faults.BadLabel
    else (if has_other_flags (flags_of start) value then Some faults.BadFlags else None)

-- THE FAULT of an addition with what was stored: that of the addition without it, and behind all those its own.
abbrev pub add_with_fault : ℕ → List Object → ℕ → ℕ → Spec → Start → Option StartFault
add_with_fault room tree container ono spec start =
    option_or (option_map faults.Add (add_fault room tree container ono spec)) (start_fault (value_of spec.kind) start)

-- The object that would be added without it is added at the end, restored, where there is no fault. A refusal changes
-- nothing, and is the fault.
abbrev pub AddsWith : {X : Type 0} → Result X StartFault → Store → Store → ℕ → ℕ → Spec → Start → Type 0
AddsWith (Ok _) old new container ono spec start =
    (add_with_fault old.room old.list container ono spec start ≡ None)
    × (new ≡ record old { list = old.list ++ restored start (object_of_spec container ono spec) ∷ [] })
AddsWith (Err e) old new container ono spec start =
    (new ≡ old) × (add_with_fault old.room old.list container ono spec start ≡ Some e)

-- A builder of this room begins with the root alone, restored, where what was stored of it has no fault and memory is
-- there.
abbrev pub BeginsWith : Result Store StartFault → ℕ → Start → Type 0
BeginsWith (Ok built) room start =
    (start_fault values.Block start ≡ None) × (built ≡ record { room = room; list = restored start root ∷ [] })
BeginsWith (Err e) room start = option_or (start_fault values.Block start) (Some (faults.Add NoMemory)) ≡ Some e

-- ---- nothing stored

-- an empty label, enabled, and all positions enabled
pub record IsPlain (start : Start) : Type 0 where
  pub label : start.label.now ≡ []
  pub enabled : start.enabled ≡ true
  pub flags : flags_of start ≡ None

-- Where nothing else was stored, an addition with it adds the object and has the faults of one without it.
abbrev pub PlainAddsTheSame : Type 0
PlainAddsTheSame = (start : Start) → IsPlain start → (room : ℕ) (tree : List Object) (container ono : ℕ) (spec : Spec) →
    (restored start (object_of_spec container ono spec) ≡ object_of_spec container ono spec)
    × (add_with_fault room tree container ono spec start
    ≡ option_map faults.Add (add_fault room tree container ono spec))

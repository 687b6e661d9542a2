-- How a tree is built (the order of the faults is the profile's).
use Rattle.std.specs.Prelude.{◌≡◌, ℕ, ◌+◌, ◌==◌, ◌||◌, not, Bool, true, false, if◌then◌else◌, nat_lt, nat_le, List, []}
use Rattle.std.specs.Prelude.{◌∷◌, ◌++◌, length, map, replicate, codes, Option, Some, None, is_some, Result, Ok, Err}
use Rattle.std.specs.List.{list_any}
use Rattle.oca_model.specs.declared.reading.Ranged.{Ranged}
use Rattle.oca_model.specs.declared.reading.Reading.{Reading}
use Rattle.oca_model.specs.declared.reading.Reading.TheVariants as readings
use Rattle.oca_model.specs.Settings.{is_within}
use Rattle.oca_tree.specs.declared.object.Object.{Object}
use Rattle.oca_tree.specs.declared.object.Value.{Value}
use Rattle.oca_tree.specs.declared.object.Value.TheVariants as values
use Rattle.oca_tree.specs.declared.builder.AddFault.{AddFault}
use Rattle.oca_tree.specs.declared.builder.AddFault.TheVariants as faults
use Rattle.oca_tree.specs.declared.builder.Spec.{Spec}
use Rattle.oca_tree.specs.declared.builder.Kind.{Kind}
use Rattle.oca_tree.specs.declared.builder.Kind.TheVariants as given
use Rattle.oca_tree.specs.Objects.{Store, object_of}
use Rattle.oca_tree.specs.Places.{places, is_block, depth}

-- ---- the object that is added

-- an integer actuator: its class's reading, of a setting with its limits
abbrev pub number : {X : Type 0} → (Ranged X → Reading) → X → X → X → Value
number of setting least greatest =
    values.Reads (of (record { setting = setting; least = least; greatest = greatest }))

-- a switch whose positions are all enabled
abbrev pub switch : List (List ℕ) → ℕ → Value
switch names position = values.Switch (record {
  names = record { items = names };
  enableds = record { items = replicate (length names) true };
  position = position;
})

unfoldable pub value_of : Kind → Value
value_of given.Block = values.Block
value_of (given.Mute state) = values.Reads (readings.Mute state)
value_of (given.Polarity state) = values.Reads (readings.Polarity state)
value_of (given.Switch names position) = switch (map (λ name. name.now) names.now) position
value_of (given.Boolean truth) = values.Reads (readings.Boolean truth)
value_of (given.Int8 setting least greatest) = number readings.Int8 setting least greatest
value_of (given.Int16 setting least greatest) = number readings.Int16 setting least greatest
value_of (given.Int32 setting least greatest) = number readings.Int32 setting least greatest
value_of (given.Int64 setting least greatest) = number readings.Int64 setting least greatest
value_of (given.Uint8 setting least greatest) = number readings.Uint8 setting least greatest
value_of (given.Uint16 setting least greatest) = number readings.Uint16 setting least greatest
value_of (given.Uint32 setting least greatest) = number readings.Uint32 setting least greatest
value_of (given.Uint64 setting least greatest) = number readings.Uint64 setting least greatest

-- an object as it is at first: with an empty label, enabled and unlocked, and its hardware refuses nothing
abbrev pub new_object : ℕ → ℕ → Bool → List ℕ → Value → Object
new_object ono container lockable role value = record {
  ono = record { 0 = ono };
  container = record { 0 = container };
  lockable = lockable;
  role = role;
  label = [];
  enabled = true;
  value = value;
  lock = None;
  failing = false;
}

abbrev pub root : Object
root = new_object 100 0 true (codes "root") values.Block

abbrev pub object_of_spec : ℕ → ℕ → Spec → Object
object_of_spec container ono spec = new_object ono container spec.lockable spec.role.now (value_of spec.kind)

-- ---- when it is refused

abbrev pub is_long : List ℕ → Bool
is_long text = nat_lt 64 (length text)

abbrev pub has_bad_name : Kind → Bool
has_bad_name (given.Switch names position) = list_any (λ name. is_long name.now) names.now
has_bad_name _ = false

-- a setting outside its limits, as each is where they are the wrong way round; other than 1 to 16 positions, a position
-- that is not there
unfoldable pub is_bad_value : Value → Bool
is_bad_value (values.Reads r) = not (is_within r)
is_bad_value (values.Switch switch) =
    (length switch.names.items == 0) || nat_lt 16 (length switch.names.items)
    || nat_le (length switch.names.items) switch.position
is_bad_value _ = false

-- the fault of the first line whose condition holds
abbrev pub first_fault : List (Bool × AddFault) → Option AddFault
first_fault [] = None
first_fault (line ∷ lines) = if line.0 then Some line.1 else first_fault lines

-- the profile's order: as many objects as there is room for, a reserved number, a number that is there, no block to
-- contain it, depth 9, a text that is empty or long, a range that does not hold
unfoldable pub add_fault : ℕ → List Object → ℕ → ℕ → Spec → Option AddFault
add_fault room tree container ono spec = first_fault (
    (nat_le room (length tree), faults.Full)
    ∷ (nat_lt ono 4096, faults.Reserved)
    ∷ (is_some (object_of tree ono), faults.Taken)
    ∷ (not (is_block (places tree) container), faults.NoSuchBlock)
    ∷ (nat_lt 8 (depth (places tree) container + 1), faults.TooDeep)
    ∷ ((length spec.role.now == 0) || is_long spec.role.now || has_bad_name spec.kind, faults.BadText)
    ∷ (is_bad_value (value_of spec.kind), faults.BadRange)
    ∷ [])

-- The object is added at the end where no line applies. A refusal changes nothing, and is the first line that
-- applies. Memory is not asked for: a builder has its room from the start.
abbrev pub Adds : {X : Type 0} → Result X AddFault → Store → Store → ℕ → ℕ → Spec → Type 0
Adds (Ok _) old new container ono spec =
    (add_fault old.room old.list container ono spec ≡ None)
    × (new ≡ record old { list = old.list ++ object_of_spec container ono spec ∷ [] })
Adds (Err e) old new container ono spec = (new ≡ old) × (add_fault old.room old.list container ono spec ≡ Some e)

-- What holds of every tree.
use Rattle.std.specs.Prelude.{ℕ, ◌↔◌, ◌≡◌, ◌≤◌, ◌<◌, true, List, [], ◌∷◌, ◌++◌, length, Option, Some, None}
use Rattle.std.specs.Prelude.{IsTrue, Bool, false}
use Rattle.std.specs.List.{All}
use Rattle.oca_model.specs.declared.reading.Reading.{Reading}
use Rattle.oca_model.specs.declared.reading.Reading.TheVariants as readings
use Rattle.oca_model.specs.Readings.{IsReading}
use Rattle.oca_model.specs.Settings.{is_within}
use Rattle.oca_tree.specs.declared.object.Object.{Object}
use Rattle.oca_tree.specs.declared.object.Lock.{Lock}
use Rattle.oca_tree.specs.declared.object.Switch.{Switch}
use Rattle.oca_tree.specs.declared.object.Value.{Value}
use Rattle.oca_tree.specs.declared.object.Value.TheVariants.{Switch as AsSwitch, Reads}
use Rattle.oca_tree.specs.Places.{Place, places, place_at, is_block, depth, reaches, ChainReaches}

-- whether it is the reading of a position
abbrev pub is_position_reading : Reading → Bool
is_position_reading (readings.Switch _) = true
is_position_reading _ = false

-- A reading that is held has its setting within its limits, all of one type. None is that of a position, which a switch
-- has with its names.
pub record IsSoundReading (r : Reading) : Type 0 where
  pub typed : IsReading r
  pub within : is_within r ≡ true
  pub other : is_position_reading r ≡ false

-- A switch has 1 to 16 positions, each with its name and enabled or not, and the current one is among them.
pub record IsSoundSwitch (switch : Switch) : Type 0 where
  pub few : length switch.names.items ≤ 16
  pub both : length switch.enableds.items ≡ length switch.names.items
  pub position : switch.position < length switch.names.items

unfoldable pub IsSoundValue : Value → Type 0
IsSoundValue (Reads r) = IsSoundReading r
IsSoundValue (AsSwitch switch) = IsSoundSwitch switch
IsSoundValue _ = Unit {0}

-- Only a lockable object has a lock.
abbrev pub IsSoundLock : Bool → Option Lock → Type 0
IsSoundLock lockable None = Unit {0}
IsSoundLock lockable (Some _) = IsTrue lockable

pub record IsSound (o : Object) : Type 0 where
  pub value : IsSoundValue o.value
  pub lock : IsSoundLock o.lockable o.lock

-- An object can be added at this place: its number is free and none of those that are reserved, and its container is a
-- block that stands before it and is at most at depth 7.
pub record IsFree (ps : List Place) (p : Place) : Type 0 where
  pub number : 4096 ≤ p.number
  pub untaken : place_at ps p.number ≡ None
  pub container : is_block ps p.container ≡ true
  pub shallow : depth ps p.container < 8

-- The first place is that of the root block, which has the number 100 and no container, and each other was free when it
-- was taken.
pub data IsBuilt : List Place → Type 0 where
  root : IsBuilt (record { number = 100; container = 0; block = true } ∷ [])
  next : (ps : List Place) (p : Place) → IsBuilt ps → IsFree ps p → IsBuilt (ps ++ p ∷ [])

pub record IsTree (tree : List Object) : Type 0 where
  pub built : IsBuilt (places tree)
  pub objects : All IsSound tree
  pub few : length tree ≤ 4096

-- The objects that are listed as descendants of a block are those whose chain of containers reaches it: the test by
-- which they are chosen answers exactly that.
abbrev pub DescendantsFollowChains : List Object → Type 0
DescendantsFollowChains tree =
    (block container : ℕ) → IsTrue (reaches (places tree) block container) ↔ ChainReaches (places tree) block container

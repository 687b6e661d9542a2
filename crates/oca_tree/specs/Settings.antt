-- A change at the device's own front: an object is set as its class's own set method sets it, and neither a lock nor
-- its hardware refuses it.
use Rattle.std.specs.Prelude.{◌≡◌, ℕ, Bool, true, false, not, if◌then◌else◌, List, Option, Some, None, is_some, Ok}
use Rattle.oca_types.specs.declared.words.Peer.{Peer}
use Rattle.oca_types.specs.declared.status.Status.{Status}
use Rattle.oca_types.specs.declared.status.Status.TheVariants as statuses
use Rattle.oca_types.specs.Peers.{CommandFields}
use Rattle.oca_model.specs.declared.value.Value.{Value}
use Rattle.oca_model.specs.declared.value.Value.TheVariants as set
use Rattle.oca_model.specs.declared.request.Request.TheVariants as asked
use Rattle.oca_model.specs.Settings.{with_value}
use Rattle.oca_model.specs.Values.{class_of_value}
use Rattle.oca_tree.specs.declared.object.Object.{Object}
use Rattle.oca_tree.specs.declared.object.Value.{Value as Held}
use Rattle.oca_tree.specs.declared.object.Value.TheVariants as held
use Rattle.oca_tree.specs.declared.setting.SetFault.{SetFault}
use Rattle.oca_tree.specs.declared.setting.SetFault.TheVariants as faults
use Rattle.oca_tree.specs.Places.{is_block_value}
use Rattle.oca_tree.specs.Objects.{class_of, object_of, with_object}
use Rattle.oca_tree.specs.Requests.{cannot_be}
use Rattle.oca_tree.specs.Typed.{changed_by}
use Rattle.oca_tree.specs.Execution.{TreeAndReply, execution, kind_at, asked_at, is_locked}

-- whether the value is one of the class of what is held
abbrev pub is_of_its_class : Held → Value → Bool
is_of_its_class (held.Switch _) (set.Switch _) = true
is_of_its_class (held.Reads r) value = is_some (with_value r value)
is_of_its_class _ _ = false

-- why an object cannot be set so, the first that applies: it is a block, it is of another class than the value, or the
-- value is out of range
abbrev pub fault_at : Held → Value → Option SetFault
fault_at value_held value =
    if is_block_value value_held then Some faults.NoSetting
    else (if not (is_of_its_class value_held value) then Some faults.OtherKind
    else (if cannot_be value_held value then Some faults.OutOfRange else None))

-- before all these: there is no object
abbrev pub set_fault_in : Option Object → Value → Option SetFault
set_fault_in None value = Some faults.NoObject
set_fault_in (Some o) value = fault_at o.value value

-- THE FAULT of setting the object with this number.
unfoldable pub set_fault : List Object → ℕ → Value → Option SetFault
set_fault tree number value = set_fault_in (object_of tree number) value

-- The peer in whose name the front asks. What a value changes is the same for each peer (AnyPeerSetsTheSame).
abbrev pub front : Peer
front = record { ip = 0; port = 0 }

-- an object is changed where there is no fault
abbrev pub set_where : Option SetFault → List Object → Option Object → Value → List Object
set_where None tree (Some o) value = with_object tree (changed_by o front (asked.Set value))
set_where _ tree _ value = tree

-- THE TREE AFTER SETTING the object with this number: at a fault, it is as it was.
unfoldable pub after_set : List Object → ℕ → Value → List Object
after_set tree number value = set_where (set_fault tree number value) tree (object_of tree number) value

-- Whichever peer asks, the object is set the same.
abbrev pub AnyPeerSetsTheSame : Type 0
AnyPeerSetsTheSame = (o : Object) (peer : Peer) (value : Value) →
    changed_by o peer (asked.Set value) ≡ changed_by o front (asked.Set value)

-- the status of a command that asks for what the front was asked for: OK where there is no fault
abbrev pub status_for : Option SetFault → Status
status_for None = statuses.Ok
status_for (Some fault) = statuses.ParameterOutOfRange

-- The command made of the tree what setting the object with this number makes of it, and its status is that of the
-- front's fault.
pub record SetsTheSame (tree : List Object) (number : ℕ) (value : Value) (x : TreeAndReply) : Type 0 where
  pub tree_is : x.tree ≡ after_set tree number value
  pub status_is : x.status ≡ status_for (set_fault tree number value)

-- What the front sets is what a peer's command sets that asks for the same value of the object's class, where neither a
-- lock nor the object's hardware refuses it; and the front refuses it exactly where the command's status is not OK.
abbrev pub FrontSetsAsPeersDo : Type 0
FrontSetsAsPeersDo = (tree : List Object) (peer : Peer) (c : CommandFields) (o : Object) (value : Value) →
    object_of tree c.target ≡ Some o → class_of o.value ≡ class_of_value value →
    is_locked (Some o) (kind_at (Some o) c) peer ≡ false → o.failing ≡ false →
    asked_at (Some o) (kind_at (Some o) c) c ≡ Ok (asked.Set value) →
    SetsTheSame tree c.target value (execution tree peer c)

-- Whatever a command can set an object to is a value of the object's class.
abbrev pub EachSettingIsAValue : Type 0
EachSettingIsAValue = (o : Object) (c : CommandFields) (value : Value) →
    asked_at (Some o) (kind_at (Some o) c) c ≡ Ok (asked.Set value) → class_of o.value ≡ class_of_value value

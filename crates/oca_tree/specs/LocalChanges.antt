-- What the device's own front changes: how an object is set, its label, whether it is enabled, its lock, or whether its
-- hardware refuses to be changed. No lock and no hardware refuses it (*profile*).
use Rattle.std.specs.Prelude.{ℕ, ◌||◌, Bool, not, if◌then◌else◌, List, Option, Some, None, is_none}
use Rattle.std.specs.Str.{is_utf8}
use Rattle.oca_model.specs.declared.request.Request.{Request}
use Rattle.oca_model.specs.declared.request.Request.TheVariants as asked
use Rattle.oca_model.specs.declared.value.Value.{Value}
use Rattle.oca_tree.specs.declared.front.FrontFault.{FrontFault}
use Rattle.oca_tree.specs.declared.front.FrontFault.TheVariants as faults
use Rattle.oca_tree.specs.declared.object.Object.{Object}
use Rattle.oca_tree.specs.Building.{is_long}
use Rattle.oca_tree.specs.Objects.{object_of, with_object}
use Rattle.oca_tree.specs.Settings.{front, after_set}
use Rattle.oca_tree.specs.Typed.{changed_by}

-- An object is set to a value, gets a label, is enabled or disabled, its lock is taken off, whoever holds it, or its
-- hardware refuses peers' changes from now on, or no longer.
pub data LocalChange : Type 0 where
  ToValue : (value : Value) → LocalChange
  ToLabel : (label : List ℕ) → LocalChange
  ToEnabled : (truth : Bool) → LocalChange
  ToUnlocked : LocalChange
  ToFailing : (truth : Bool) → LocalChange

-- a label is a text in UTF-8 of at most 64 bytes
abbrev pub is_bad_label : List ℕ → Bool
is_bad_label label = not (is_utf8 label) || is_long label

-- why the front is refused what it asks of an object, the first that applies: it is not there; the label is none; no
-- lock is there to be taken off
abbrev pub front_fault_in : Option Object → Request → Option FrontFault
front_fault_in None r = Some faults.NoObject
front_fault_in (Some o) (asked.SetLabel label) = if is_bad_label label then Some faults.BadLabel else None
front_fault_in (Some o) asked.Unlock = if is_none o.lock then Some faults.NotLocked else None
front_fault_in (Some o) _ = None

-- THE FAULT of asking the object with this number at the front for a label, to be enabled or not, or to be unlocked.
unfoldable pub front_fault : List Object → ℕ → Request → Option FrontFault
front_fault tree number r = front_fault_in (object_of tree number) r

-- an object is changed where there is no fault, as the request of a peer changes it
abbrev pub changed_where : Option FrontFault → List Object → Option Object → Request → List Object
changed_where None tree (Some o) r = with_object tree (changed_by o front r)
changed_where _ tree _ r = tree

-- THE TREE AFTER this was asked of the object with this number: at a fault, it is as it was.
unfoldable pub after_request : List Object → ℕ → Request → List Object
after_request tree number r = changed_where (front_fault tree number r) tree (object_of tree number) r

-- THE TREE AFTER it was told whether the hardware of the object with this number refuses; where it is not there, the
-- tree is as it was. The fault is that of enabling it.
abbrev pub failing_where : List Object → Option Object → Bool → List Object
failing_where tree None truth = tree
failing_where tree (Some o) truth = with_object tree (record o { failing = truth })

unfoldable pub after_failing : List Object → ℕ → Bool → List Object
after_failing tree number truth = failing_where tree (object_of tree number) truth

-- THE TREE AFTER A CHANGE at the front.
abbrev pub after_change : List Object → ℕ → LocalChange → List Object
after_change tree number (ToValue value) = after_set tree number value
after_change tree number (ToLabel label) = after_request tree number (asked.SetLabel label)
after_change tree number (ToEnabled truth) = after_request tree number (asked.SetEnabled truth)
after_change tree number ToUnlocked = after_request tree number asked.Unlock
after_change tree number (ToFailing truth) = after_failing tree number truth

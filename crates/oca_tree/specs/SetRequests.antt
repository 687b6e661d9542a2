-- What a device makes of the request of a panel that sets a value.
use Rattle.std.specs.Prelude.{◌≡◌, ℕ, false, List, Some, Ok}
use Rattle.oca_types.specs.declared.words.Peer.{Peer}
use Rattle.oca_types.specs.Peers.{CommandFields}
use Rattle.oca_model.specs.declared.request.Request.TheVariants as asked
use Rattle.oca_model.specs.declared.value.Value.{Value}
use Rattle.oca_model.specs.declared.value_request.ValueRequest.{ValueRequest}
use Rattle.oca_model.specs.Values.{class_of_value, value_encoding, set_method, IsOfItsType}
use Rattle.oca_model.specs.ValueRequests.{CallsMethod}
use Rattle.oca_tree.specs.declared.object.Object.{Object}
use Rattle.oca_tree.specs.Objects.{class_of, object_of}
use Rattle.oca_tree.specs.Execution.{execution, kind_at, asked_at, is_locked}
use Rattle.oca_tree.specs.Settings.{after_set}

-- the command that a request is, of an object and under a handle
abbrev pub command_for : ℕ → ℕ → ValueRequest → CommandFields
command_for handle target request = record {
  handle = handle;
  target = target;
  level = request.method.level;
  index = request.method.index;
  count = request.count;
  params = request.params.items;
}

-- The request is one that sets its object to the value, as set_request makes it.
abbrev pub SetsTo : Value → ValueRequest → Type 0
SetsTo value request = CallsMethod (class_of_value value) (set_method value) request 1 (value_encoding value)

-- A device understands a set request of an object of the value's class as setting that very value.
abbrev pub IsUnderstood : Type 0
IsUnderstood = (value : Value) (request : ValueRequest) (handle target : ℕ) (o : Object) → IsOfItsType value →
    SetsTo value request → class_of o.value ≡ class_of_value value
    → let c = command_for handle target request in asked_at (Some o) (kind_at (Some o) c) c ≡ Ok (asked.Set value)

-- Executing it, where neither a lock nor the object's hardware refuses it, sets the object as the device's own front
-- would: to that value, or not at all where it is out of range.
abbrev pub IsCarriedOut : Type 0
IsCarriedOut =
    (value : Value) (request : ValueRequest) (handle : ℕ) (tree : List Object) (peer : Peer) (target : ℕ) (o : Object) →
    IsOfItsType value → SetsTo value request
    → object_of tree target ≡ Some o → class_of o.value ≡ class_of_value value
    → let c = command_for handle target request in
    is_locked (Some o) (kind_at (Some o) c) peer ≡ false → o.failing ≡ false →
    (execution tree peer c).tree ≡ after_set tree target value

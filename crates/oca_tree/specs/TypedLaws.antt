-- What a command did, typed: what both ends can say of it (AES70-2).
use Rattle.std.specs.Prelude.{◌≡◌, ℕ, ◌<◌, ◌≤◌, ◌^◌, true, false, List, length, Some, Ok}
use Rattle.std.specs.List.{All}
use Rattle.oca_types.specs.declared.words.Peer.{Peer}
use Rattle.oca_types.specs.declared.words.MethodId.{MethodId}
use Rattle.oca_types.specs.declared.class.Access.{Access}
use Rattle.oca_types.specs.declared.class.Method.{Method}
use Rattle.oca_types.specs.declared.class.MethodKind.TheVariants.{Known}
use Rattle.oca_types.specs.Methods.{access, method_kind}
use Rattle.oca_types.specs.Peers.{CommandFields}
use Rattle.oca_types.specs.Sizes.{most_parameter_bytes}
use Rattle.oca_model.specs.declared.reading.Reading.{Reading}
use Rattle.oca_model.specs.declared.request.Request.{Request}
use Rattle.oca_model.specs.declared.value.Value.{Value}
use Rattle.oca_model.specs.Answers.{answer_encoding, shape_of, shape_of_answer, IsAnswer}
use Rattle.oca_model.specs.Lists.{IsText, Each}
use Rattle.oca_model.specs.Readings.{value_without_limits}
use Rattle.oca_model.specs.Settings.{reading_set_to}
use Rattle.oca_model.specs.Requests.{request_in}
use Rattle.oca_model.specs.Values.{class_of_value}
use Rattle.oca_tree.specs.declared.object.Object.{Object}
use Rattle.oca_tree.specs.declared.object.Value.{Value as Held}
use Rattle.oca_tree.specs.Objects.{class_of, object_of}
use Rattle.oca_tree.specs.Requests.{fits_positions, asks_out_of_range, asks_invalid}
use Rattle.oca_tree.specs.Execution.{kind_at, is_write, is_failing, carried_out, execution}
use Rattle.oca_tree.specs.Written.{is_ok}
use Rattle.oca_tree.specs.Trees.{IsSound}
use Rattle.oca_tree.specs.Copies.{names_in}
use Rattle.oca_tree.specs.Typed.{reading_held, answer_given, held_set_to}

-- ---- commands

-- WHAT A COMMAND DID whose status is OK: by this method it asked this of this object, whose hardware did not refuse it;
-- the object was put back as the request makes it, and the answer is what the object answered.
pub record CommandDid (tree : List Object) (peer : Peer) (c : CommandFields) : Type 0 where
  pub object : Object
  pub method : Method
  pub request : Request
  pub found : object_of tree c.target ≡ Some object
  pub known : kind_at (Some object) c ≡ Known method (access method)
  pub asked : request_in (class_of object.value) method c.count c.params ≡ Ok request
  pub fits : fits_positions object.value request ≡ true
  pub within : asks_out_of_range object.value request ≡ false
  pub valid : asks_invalid object request ≡ false
  pub short : length (answer_encoding (answer_given tree object request)) ≤ most_parameter_bytes
  pub works : is_failing (Some object) (Known method (access method)) ≡ false
  pub did : execution tree peer c ≡ carried_out tree peer object request

abbrev pub CommandsAreTyped : Type 0
CommandsAreTyped = (tree : List Object) (peer : Peer) (c : CommandFields) →
    is_ok (execution tree peer c).status ≡ true → CommandDid tree peer c

-- Any other status leaves the tree as it was.
abbrev pub RefusedKeepsTree : Type 0
RefusedKeepsTree = (tree : List Object) (peer : Peer) (c : CommandFields) →
    is_ok (execution tree peer c).status ≡ false → (execution tree peer c).tree ≡ tree

-- A COMMAND THAT WRITES to an object whose hardware refuses is not answered OK, and leaves the tree as it was.
abbrev pub FailingRefusesWrites : Type 0
FailingRefusesWrites = (tree : List Object) (peer : Peer) (c : CommandFields) (o : Object) →
    object_of tree c.target ≡ Some o → o.failing ≡ true → is_write (kind_at (Some o) c) ≡ true →
    (is_ok (execution tree peer c).status ≡ false) × ((execution tree peer c).tree ≡ tree)

-- ---- what was set is read

-- What was set reads as the value, with the limits that it had.
pub record SetsReading (held : Held) (value : Value) (reading : Reading) : Type 0 where
  pub before : reading_held held ≡ Some reading
  pub after : reading_held (held_set_to held value) ≡ Some (reading_set_to reading value)
  pub set : value_without_limits (reading_set_to reading value) ≡ value

-- Each value of an object's class can be read once it was set.
abbrev pub SettingsAreRead : Type 0
SettingsAreRead =
    (held : Held) (value : Value) → class_of held ≡ class_of_value value →
    (reading : Reading) × SetsReading held value reading

-- ---- answers that are read

-- Its texts are texts of at most 64 bytes, and its number and its container's are of 32 bits.
pub record IsOfItsTypes (o : Object) : Type 0 where
  pub role : IsText o.role
  pub label : IsText o.label
  pub names : Each IsText (names_in o.value)
  pub number : o.ono.0 < 2 ^ 32
  pub container : o.container.0 < 2 ^ 32

-- The answer is one to this method of an object of the class.
pub record IsRight (tree : List Object) (o : Object) (method : Method) (request : Request) : Type 0 where
  pub answer : IsAnswer (class_of o.value) (answer_given tree o request)
  pub shape : shape_of method ≡ shape_of_answer (answer_given tree o request)

-- What an object answers is an answer of its class, of the kind that the method has, where a response has room for it.
abbrev pub AnswersAreRight : Type 0
AnswersAreRight = (tree : List Object) (o : Object) → All IsOfItsTypes tree → IsOfItsTypes o → IsSound o →
    (id : MethodId) (method : Method) (reached : Access) → method_kind (class_of o.value) id ≡ Known method reached →
    (count : ℕ) (params : List ℕ) (request : Request) → request_in (class_of o.value) method count params ≡ Ok request →
    length (answer_encoding (answer_given tree o request)) ≤ most_parameter_bytes → IsRight tree o method request

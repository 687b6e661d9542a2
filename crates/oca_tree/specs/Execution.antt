-- What a command does to a tree, and what is answered (AES70-2; the order of the statuses is the profile's).
use Rattle.std.specs.Prelude.{ℕ, ◌||◌, ◌&&◌, not, Bool, true, false, if◌then◌else◌, List, [], ◌∷◌, length, nat_lt}
use Rattle.std.specs.Prelude.{Option, Some, None, is_none, Result, Ok, Err}
use Rattle.oca_types.specs.declared.words.Peer.{Peer}
use Rattle.oca_types.specs.declared.status.Status.{Status}
use Rattle.oca_types.specs.declared.status.Status.TheVariants as status
use Rattle.oca_types.specs.declared.class.Access.TheVariants.{Write}
use Rattle.oca_types.specs.declared.class.MethodKind.{MethodKind}
use Rattle.oca_types.specs.declared.class.MethodKind.TheVariants.{Known, LeftOut, Unknown}
use Rattle.oca_types.specs.Sizes.{most_parameter_bytes}
use Rattle.oca_types.specs.Methods.{method_kind}
use Rattle.oca_types.specs.Peers.{CommandFields}
use Rattle.oca_model.specs.declared.request.Request.{Request}
use Rattle.oca_model.specs.declared.value.ValueFault.{ValueFault}
use Rattle.oca_model.specs.declared.value.ValueFault.TheVariants.{Malformed, Unlisted}
use Rattle.oca_model.specs.Answers.{answer_encoding, answer_count}
use Rattle.oca_model.specs.Requests.{request_in}
use Rattle.oca_tree.specs.declared.object.Object.{Object}
use Rattle.oca_tree.specs.Objects.{class_of, object_of, with_object}
use Rattle.oca_tree.specs.Locks.{lock_refuses}
use Rattle.oca_tree.specs.Requests.{fits_positions, asks_out_of_range, asks_invalid}
use Rattle.oca_tree.specs.Typed.{answer_given, changed_by}

-- ---- the status

-- what a command finds in a tree: its object, what the class of that knows of the method, and what is asked
abbrev pub kind_at : Option Object → CommandFields → MethodKind
kind_at None c = Unknown
kind_at (Some o) c = method_kind (class_of o.value) (record { level = c.level; index = c.index })

abbrev pub asked_at : Option Object → MethodKind → CommandFields → Result Request ValueFault
asked_at (Some o) (Known method access) c = request_in (class_of o.value) method c.count c.params
asked_at _ _ c = Err Malformed

abbrev pub is_unknown : MethodKind → Bool
is_unknown Unknown = true
is_unknown _ = false

abbrev pub is_kind_left_out : MethodKind → Bool
is_kind_left_out LeftOut = true
is_kind_left_out _ = false

-- whether a lock refuses the method
abbrev pub is_locked : Option Object → MethodKind → Peer → Bool
is_locked (Some o) (Known method access) peer = lock_refuses o.lock peer access
is_locked _ _ peer = false

-- the method writes; one that takes the lock or gives it back does not
abbrev pub is_write : MethodKind → Bool
is_write (Known method Write) = true
is_write _ = false

-- whether the object's hardware refuses what the method writes
abbrev pub is_failing : Option Object → MethodKind → Bool
is_failing None method = false
is_failing (Some o) method = o.failing && is_write method

-- parameters that are not the method's
abbrev pub is_malformed : Result Request ValueFault → Bool
is_malformed (Err Malformed) = true
is_malformed _ = false

-- a state that is not listed
abbrev pub sets_unlisted : Result Request ValueFault → Bool
sets_unlisted (Err Unlisted) = true
sets_unlisted _ = false

-- a test of an object and what is asked of it
abbrev pub on_both : (Object → Request → Bool) → Option Object → Result Request ValueFault → Bool
on_both test (Some o) (Ok request) = test o request
on_both test _ _ = false

-- the status of the first line whose condition holds
abbrev pub first_that_applies : List (Bool × Status) → Status
first_that_applies [] = status.Ok
first_that_applies (line ∷ lines) = if line.0 then line.1 else first_that_applies lines

-- the profile's order of the refusals: no such object, no such method, a method that is left out, a lock of another
-- peer, parameters that are not the method's or a list that does not fit the positions, a value out of range, a lock
-- that cannot be made or is not there, a long answer, and behind all these hardware that refuses to be changed
abbrev pub status_lines : List Object → Peer → Option Object → MethodKind → Result Request ValueFault →
    List (Bool × Status)
status_lines tree peer o method asked =
    (is_none o, status.BadOno)
    ∷ (is_unknown method, status.BadMethod)
    ∷ (is_kind_left_out method, status.NotImplemented)
    ∷ (is_locked o method peer, status.Locked)
    ∷ (is_malformed asked || on_both (λ o r. not (fits_positions o.value r)) o asked, status.ParameterError)
    ∷ (sets_unlisted asked || on_both (λ o r. asks_out_of_range o.value r) o asked, status.ParameterOutOfRange)
    ∷ (on_both asks_invalid o asked, status.InvalidRequest)
    ∷ (
      on_both (λ o r. nat_lt most_parameter_bytes (length (answer_encoding (answer_given tree o r)))) o asked,
      status.BufferOverflow,
    )
    ∷ (is_failing o method, status.ProcessingFailed)
    ∷ []

abbrev pub status_of : List Object → Peer → Option Object → CommandFields → Status
status_of tree peer o c = first_that_applies (status_lines tree peer o (kind_at o c) (asked_at o (kind_at o c) c))

-- ---- the whole

-- the tree after a command, and the status, the ParamCount and the parameters of the answer
pub record TreeAndReply : Type 0 where
  pub tree : List Object
  pub status : Status
  pub count : ℕ
  pub parameters : List ℕ

-- a refusal changes nothing and has no parameters
abbrev pub refused : List Object → Status → TreeAndReply
refused tree status = record { tree = tree; status = status; count = 0; parameters = [] }

-- what the request makes of its object, and the encoding of what that answers
abbrev pub carried_out : List Object → Peer → Object → Request → TreeAndReply
carried_out tree peer o request =
    record {
      tree = with_object tree (changed_by o peer request);
      status = status.Ok;
      count = answer_count (answer_given tree o request);
      parameters = answer_encoding (answer_given tree o request);
    }

-- a command is carried out where its status is OK, and else refused
abbrev pub by_status : List Object → Peer → Option Object → Result Request ValueFault → Status → TreeAndReply
by_status tree peer (Some o) (Ok request) status.Ok = carried_out tree peer o request
by_status tree peer _ _ status = refused tree status

unfoldable pub execution : List Object → Peer → CommandFields → TreeAndReply
execution tree peer c =
    let o = object_of tree c.target in
    by_status tree peer o (asked_at o (kind_at o c) c) (status_of tree peer o c)

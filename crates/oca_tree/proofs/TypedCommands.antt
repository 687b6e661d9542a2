-- What a command did whose status is OK; any other status leaves the tree.
use Rattle.oca_tree.proofs.Words.{◌≡◌, ℕ, ◌≤◌, Bool, true, false, cond, List, length, refl, sym, ap, ◌∙◌, arith, Option, Some, None, Result, Ok, Err, not, nat_lt, ◌||◌, nat_tests, Peer, Status, Access, Method, MethodKind, Known, LeftOut, Unknown, access, CommandFields, Request, ValueFault, Malformed, Unlisted, Object, object_of, fits_positions, TreeAndReply, kind_at, asked_at, is_write, is_failing, status_of, by_status, is_ok, CommandDid}
use Rattle.oca_types.specs.declared.status.Status.TheVariants as statuses
use Rattle.oca_model.specs.Answers.{answer_encoding}
use Rattle.oca_model.specs.Requests.{request_in}
use Rattle.oca_tree.specs.Objects.{class_of}
use Rattle.oca_tree.specs.Locks.{lock_refuses}
use Rattle.oca_tree.specs.Requests.{asks_out_of_range, asks_invalid}
use Rattle.oca_tree.specs.Execution.{is_malformed, sets_unlisted, execution}
use Rattle.oca_tree.specs.Typed.{answer_given}
use Rattle.oca_tree.specs.TypedLaws.{CommandsAreTyped, RefusedKeepsTree, FailingRefusesWrites}
use Rattle.oca_tree.proofs.Executing.{known_access}

not_fits : (b : Bool) → not b ≡ false → b ≡ true
not_fits true e = refl
not_fits false e = cc

not_above : (n : ℕ) → nat_lt 1452 n ≡ false → n ≤ 1452
not_above n e = grind (arith, nat_tests)

-- the status of what came of a command is the one by which it came
pub same_end : (tree : List Object) (peer : Peer) (o : Option Object) (asked : Result Request ValueFault) (s : Status) → (by_status tree peer o asked s).status ≡ s
same_end tree peer None asked s = refl
same_end tree peer (Some o) (Err fault) s = refl
same_end tree peer (Some o) (Ok q) statuses.Ok = refl
same_end tree peer (Some o) (Ok q) _ = refl

module _ (tree : List Object) (peer : Peer) (c : CommandFields) where
  module _ (o : Object) (found : object_of tree c.target ≡ Some o) (method : Method) (reached : Access) (kind : kind_at (Some o) c ≡ Known method reached)
      (q : Request) (asked : request_in (class_of o.value) method c.count c.params ≡ Ok q) where
    abbrev its_end : Bool → Bool → Bool → Bool → Bool → Bool → TreeAndReply
    its_end a b d e f g = by_status tree peer (Some o) (Ok q) (cond a statuses.Locked (cond b statuses.ParameterError (cond d statuses.ParameterOutOfRange (cond e statuses.InvalidRequest (cond f statuses.BufferOverflow (cond g statuses.ProcessingFailed statuses.Ok))))))

    at_end : execution tree peer c ≡ its_end (lock_refuses o.lock peer reached) (not (fits_positions o.value q)) (asks_out_of_range o.value q) (asks_invalid o q) (nat_lt 1452 (length (answer_encoding (answer_given tree o q)))) (is_failing (Some o) (Known method reached))
    unfolding execution
    at_end = rw (found, kind, asked) refl

    by_lines : (a b d e f g : Bool) → lock_refuses o.lock peer reached ≡ a → not (fits_positions o.value q) ≡ b → asks_out_of_range o.value q ≡ d → asks_invalid o q ≡ e → nat_lt 1452 (length (answer_encoding (answer_given tree o q))) ≡ f
        → is_failing (Some o) (Known method reached) ≡ g → execution tree peer c ≡ its_end a b d e f g → is_ok (its_end a b d e f g).status ≡ true → CommandDid tree peer c
    by_lines true b d e f g la lb ld le lf lg ends ok = let no : ⊥ = cc in absurd no
    by_lines false true d e f g la lb ld le lf lg ends ok = let no : ⊥ = cc in absurd no
    by_lines false false true e f g la lb ld le lf lg ends ok = let no : ⊥ = cc in absurd no
    by_lines false false false true f g la lb ld le lf lg ends ok = let no : ⊥ = cc in absurd no
    by_lines false false false false true g la lb ld le lf lg ends ok = let no : ⊥ = cc in absurd no
    by_lines false false false false false true la lb ld le lf lg ends ok = let no : ⊥ = cc in absurd no
    by_lines false false false false false false la lb ld le lf lg ends ok =
        let reached_is : reached ≡ access method = known_access (class_of o.value) (record { level = c.level; index = c.index }) method reached kind in
        record {
          object = o;
          method = method;
          request = q;
          found = found;
          known = kind ∙ ap (Known method) reached_is;
          asked = asked;
          fits = not_fits (fits_positions o.value q) lb;
          within = ld;
          valid = le;
          short = not_above (length (answer_encoding (answer_given tree o q))) lf;
          works = ap (λ (r : Access). is_failing (Some o) (Known method r)) (sym reached_is) ∙ lg;
          did = ends;
        }

    pub of_request : is_ok (execution tree peer c).status ≡ true → CommandDid tree peer c
    of_request ok = by_lines (lock_refuses o.lock peer reached) (not (fits_positions o.value q)) (asks_out_of_range o.value q) (asks_invalid o q) (nat_lt 1452 (length (answer_encoding (answer_given tree o q)))) (is_failing (Some o) (Known method reached)) refl refl refl refl refl refl at_end
        (sym (ap (λ (x : TreeAndReply). is_ok x.status) at_end) ∙ ok)

  -- what was not understood is refused
  fault_refused : (o : Object) (fault : ValueFault) (locked fails : Bool)
      → is_ok (by_status tree peer (Some o) (Err fault) (cond locked statuses.Locked (cond (is_malformed (Err fault) || false) statuses.ParameterError (cond (sets_unlisted (Err fault) || false) statuses.ParameterOutOfRange (cond fails statuses.ProcessingFailed statuses.Ok))))).status ≡ true → ⊥
  fault_refused o fault true fails e = cc
  fault_refused o Malformed false fails e = cc
  fault_refused o Unlisted false fails e = cc

  by_asked : (o : Object) → object_of tree c.target ≡ Some o → (method : Method) (reached : Access) → kind_at (Some o) c ≡ Known method reached
      → (asked : Result Request ValueFault) → request_in (class_of o.value) method c.count c.params ≡ asked → is_ok (execution tree peer c).status ≡ true → CommandDid tree peer c
  unfolding execution
  by_asked o found method reached kind (Ok q) is ok = of_request o found method reached kind q is ok
  by_asked o found method reached kind (Err fault) is ok = absurd (fault_refused o fault (lock_refuses o.lock peer reached) (is_failing (Some o) (Known method reached)) (rw (found, kind, is) at ok))

  by_kind : (o : Object) → object_of tree c.target ≡ Some o → (kind : MethodKind) → kind_at (Some o) c ≡ kind → is_ok (execution tree peer c).status ≡ true → CommandDid tree peer c
  unfolding execution
  by_kind o found (Known method reached) kind ok = by_asked o found method reached kind (request_in (class_of o.value) method c.count c.params) refl ok
  by_kind o found LeftOut kind ok = let no : false ≡ true = rw (found, kind) at ok in let never : ⊥ = cc in absurd never
  by_kind o found Unknown kind ok = let no : false ≡ true = rw (found, kind) at ok in let never : ⊥ = cc in absurd never

  by_object : (found : Option Object) → object_of tree c.target ≡ found → is_ok (execution tree peer c).status ≡ true → CommandDid tree peer c
  unfolding execution
  by_object None is ok = let no : false ≡ true = rw is at ok in let never : ⊥ = cc in absurd never
  by_object (Some o) is ok = by_kind o is (kind_at (Some o) c) refl ok

  -- ---- refusals

  by_end : (o : Option Object) (asked : Result Request ValueFault) (s : Status) → is_ok s ≡ false → (by_status tree peer o asked s).tree ≡ tree
  by_end None asked s e = refl
  by_end (Some o) (Err fault) s e = refl
  by_end (Some o) (Ok q) statuses.Ok e = cc
  by_end (Some o) (Ok q) _ e = refl

pub commands_typed : CommandsAreTyped
commands_typed tree peer c ok = by_object tree peer c (object_of tree c.target) refl ok

pub refusals_change : RefusedKeepsTree
unfolding execution
refusals_change tree peer c e =
    let o = object_of tree c.target in
    let asked = asked_at o (kind_at o c) c in
    let s = status_of tree peer o c in
    by_end tree peer c o asked s (sym (ap is_ok (same_end tree peer o asked s)) ∙ e)

-- ---- hardware that refuses

pub writes_refused : FailingRefusesWrites
writes_refused tree peer c o found fails writes = (not_ok, refusals_change tree peer c not_ok)
  where
    same_object : (x : Object) → object_of tree c.target ≡ Some x → x ≡ o
    same_object x e = let is : Some x ≡ Some o = sym e ∙ found in cc

    never : CommandDid tree peer c → ⊥
    never did =
        let is = same_object did.object did.found in
        let here : is_write (kind_at (Some did.object) c) ≡ true = rw is writes in
        let there : is_write (Known did.method (access did.method)) ≡ true = rw did.known at here in
        let failing : did.object.failing ≡ true = rw is fails in
        let no : true ≡ false = sym (rw (failing, there) refl) ∙ did.works in
        cc

    by : (b : Bool) → is_ok (execution tree peer c).status ≡ b → b ≡ false
    by true ok = absurd (never (commands_typed tree peer c ok))
    by false ok = refl

    not_ok : is_ok (execution tree peer c).status ≡ false
    not_ok = by (is_ok (execution tree peer c).status) refl

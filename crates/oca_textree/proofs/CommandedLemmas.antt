-- What commands and the front panel leave: the texts that they set are in UTF-8 and of at most 64 bytes, and no role and no number changes.
use Rattle.std.proofs.Common.{◌≡◌, ℕ, ◌==◌, Bool, true, false, cond, List, [], ◌∷◌, map, Option, Some, None, refl, sym, ap, ◌∙◌, subst, eqb-true}
use Rattle.std.specs.Prelude.{Result, Ok, Err}
use Rattle.std.specs.List.{All}
use Rattle.std.proofs.lemmas.Bool.{both_ways, eq-eqb}
use Rattle.std.proofs.lemmas.List.Elements.{All-cons, All-head, All-tail, All-set, All-map, All-weaker}
use Rattle.oca_types.specs.declared.class.MethodKind.{MethodKind}
use Rattle.oca_types.specs.declared.class.MethodKind.TheVariants.{Known, LeftOut, Unknown}
use Rattle.oca_types.specs.declared.status.Status.{Status}
use Rattle.oca_types.specs.declared.status.Status.TheVariants as status
use Rattle.oca_types.specs.declared.words.Peer.{Peer}
use Rattle.oca_types.specs.Peers.{CommandFields}
use Rattle.oca_model.specs.declared.value.Value.{Value as Setting}
use Rattle.oca_model.specs.declared.request.Request.{Request}
use Rattle.oca_model.specs.declared.request.Request.TheVariants as requests
use Rattle.oca_model.specs.declared.value.ValueFault.{ValueFault}
use Rattle.oca_model.specs.Lists.{IsText, Each}
use Rattle.oca_model.proofs.Carried.{SetsTexts, asked_texts}
use Rattle.oca_tree.specs.declared.object.Object.{Object}
use Rattle.oca_tree.specs.declared.object.Value.{Value}
use Rattle.oca_tree.specs.Execution.{TreeAndReply, execution, asked_at, kind_at, status_of, by_status}
use Rattle.oca_tree.specs.Typed.{changed_by, value_changed_by}
use Rattle.oca_tree.specs.declared.setting.SetFault.{SetFault}
use Rattle.oca_tree.specs.declared.front.FrontFault.{FrontFault}
use Rattle.oca_tree.specs.LocalChanges.{LocalChange, ToValue, ToLabel, ToEnabled, ToUnlocked, ToFailing, front_fault_in, front_fault, changed_where, after_request, failing_where, after_failing, after_change}
use Rattle.oca_tree.proofs.LocalChanges.{label_text, told}
use Rattle.oca_tree.specs.Settings.{front, set_fault, set_where, after_set}
use Rattle.oca_tree.specs.Objects.{class_of, has_number, object_of, with_object}
use Rattle.oca_tree.specs.Locks.{without_lock_of, is_held_by, released}
use Rattle.oca_textree.specs.Written.{IsShortText, IsNamed}
use Rattle.oca_tree.proofs.Names.{names_kept}
use Rattle.oca_tree.proofs.Positions.{find_passes}
use Rattle.oca_textree.proofs.Standing.{found-holds}
use Rattle.oca_textree.proofs.ListedLemmas.{short-text, no-names, Rooted}

-- ---- what is asked

-- a text that a command carries is short
text-short : (text : List ℕ) → IsText text → IsShortText text
text-short text is = short-text text is.0 is.2

texts-short : (texts : List (List ℕ)) → Each IsText texts → All IsShortText texts
texts-short [] is = no-names
texts-short (text ∷ texts) is = All-cons IsShortText text texts (text-short text is.0) (texts-short texts is.1)

request-short : (o : Object) (kind : MethodKind) (c : CommandFields) (r : Request) → asked_at (Some o) kind c ≡ Ok r → SetsTexts r
request-short o (Known method access) c r e = asked_texts (class_of o.value) method c.count c.params r e
request-short o LeftOut c r e = let no : ⊥ = cc in absurd no
request-short o Unknown c r e = let no : ⊥ = cc in absurd no

-- ---- what is changed

-- the same number, container, role, and whether it can be locked
pub record IsSameBut (o new : Object) : Type 0 where
  pub number : new.ono.0 ≡ o.ono.0
  pub role : new.role ≡ o.role
  pub lockable : new.lockable ≡ o.lockable
  pub named : IsNamed o → IsNamed new

abbrev valued_as : Object → Value → Object
valued_as o v = record o { value = v }

value-named : (o : Object) (r : Request) → SetsTexts r → IsNamed o → IsNamed (valued_as o (value_changed_by o.value r))
value-named o r is h = record {
  ono = h.ono;
  container = h.container;
  role = h.role;
  some = h.some;
  label = h.label;
  names = names_kept (All IsShortText) texts-short (λ xs n t text k. All-set IsShortText xs n t (text-short t text) k) o.value r is h.names;
}

changed-same : (o : Object) (peer : Peer) (r : Request) → SetsTexts r → IsSameBut o (changed_by o peer r)
unfolding changed_by SetsTexts
changed-same o peer requests.LockTotal is = record { number = refl; role = refl; lockable = refl; named = λ h. record { ono = h.ono; container = h.container; role = h.role; some = h.some; label = h.label; names = h.names } }
changed-same o peer requests.LockReadonly is = record { number = refl; role = refl; lockable = refl; named = λ h. record { ono = h.ono; container = h.container; role = h.role; some = h.some; label = h.label; names = h.names } }
changed-same o peer requests.Unlock is = record { number = refl; role = refl; lockable = refl; named = λ h. record { ono = h.ono; container = h.container; role = h.role; some = h.some; label = h.label; names = h.names } }
changed-same o peer (requests.SetEnabled truth) is = record { number = refl; role = refl; lockable = refl; named = λ h. record { ono = h.ono; container = h.container; role = h.role; some = h.some; label = h.label; names = h.names } }
changed-same o peer (requests.SetLabel text) is = record { number = refl; role = refl; lockable = refl; named = λ h. record { ono = h.ono; container = h.container; role = h.role; some = h.some; label = text-short text is; names = h.names } }
changed-same o peer r is = record { number = refl; role = refl; lockable = refl; named = value-named o r is }

-- ---- in the list

placed : (tree : List Object) (new : Object) → IsNamed new → All IsNamed tree → All IsNamed (with_object tree new)
placed [] new is h = h
placed (o ∷ os) new is h = by (o.ono.0 == new.ono.0) (placed os new is (All-tail IsNamed o os h))
  where
    by : (b : Bool) → All IsNamed (with_object os new) → All IsNamed (cond b (new ∷ os) (o ∷ with_object os new))
    by true rest = All-cons IsNamed new os is (All-tail IsNamed o os h)
    by false rest = All-cons IsNamed o (with_object os new) (All-head IsNamed o os h) rest

-- the object with a number has that number
number-of : (tree : List Object) (n : ℕ) (o : Object) → object_of tree n ≡ Some o → o.ono.0 ≡ n
number-of tree n o e = eqb-true o.ono.0 n (find_passes (has_number n) tree o e)

-- the object that has the number of the first is the first
root-placed : (tree : List Object) (n : ℕ) (o new : Object) → object_of tree n ≡ Some o → IsSameBut o new → Rooted tree → Rooted (with_object tree new)
root-placed [] n o new e same h = h
root-placed (x ∷ xs) n o new e same h = by (x.ono.0 == n) refl e (x.ono.0 == new.ono.0) refl
  where
    by : (b : Bool) → (x.ono.0 == n) ≡ b → cond b (Some x) (object_of xs n) ≡ Some o → (c : Bool) → (x.ono.0 == new.ono.0) ≡ c → Rooted (cond c (new ∷ xs) (x ∷ with_object xs new))
    by b t q false u = h
    by true t q true u = let is : x ≡ o = cc in (same.role ∙ ap (λ (y : Object). y.role) (sym is) ∙ h.0, same.lockable ∙ ap (λ (y : Object). y.lockable) (sym is) ∙ h.1)
    by false t q true u =
        let number : x.ono.0 ≡ n = eqb-true x.ono.0 new.ono.0 u ∙ same.number ∙ number-of xs n o q in
        absurd (both_ways (x.ono.0 == n) t (eq-eqb x.ono.0 n number))

abbrev KeptBy : List Object → TreeAndReply → Type 0
KeptBy tree x = Rooted tree → All IsNamed tree → Rooted x.tree × All IsNamed x.tree

carried : (tree : List Object) (peer : Peer) (n : ℕ) (o : Object) (r : Request) → object_of tree n ≡ Some o → SetsTexts r → Rooted tree → All IsNamed tree
    → Rooted (with_object tree (changed_by o peer r)) × All IsNamed (with_object tree (changed_by o peer r))
carried tree peer n o r at is root named =
    let same = changed-same o peer r is in
    (root-placed tree n o (changed_by o peer r) at same root, placed tree (changed_by o peer r) (same.named (found-holds IsNamed tree n o named at)) named)

by-status : (tree : List Object) (peer : Peer) (n : ℕ) (o : Option Object) (r : Result Request ValueFault) (s : Status) → object_of tree n ≡ o
    → ((x : Object) (q : Request) → o ≡ Some x → r ≡ Ok q → SetsTexts q) → KeptBy tree (by_status tree peer o r s)
by-status tree peer n (Some o) (Ok r) status.Ok at is root named = carried tree peer n o r at (is o r refl refl) root named
by-status tree peer n None r s at is root named = (root, named)
by-status tree peer n (Some o) (Err fault) s at is root named = (root, named)
by-status tree peer n (Some o) (Ok r) s at is root named = (root, named)

-- A COMMAND LEAVES the root as it was made, and objects that fit a line.
pub command-kept : (tree : List Object) (peer : Peer) (c : CommandFields) → KeptBy tree (execution tree peer c)
unfolding execution
command-kept tree peer c = by (object_of tree c.target) refl
  where
    by : (o : Option Object) → object_of tree c.target ≡ o
        → KeptBy tree (by_status tree peer o (asked_at o (kind_at o c) c) (status_of tree peer o c))
    by None at = by-status tree peer c.target None (asked_at None (kind_at None c) c) (status_of tree peer None c) at (λ x q e. absurd (cc))
    by (Some o) at =
        by-status tree peer c.target (Some o) (asked_at (Some o) (kind_at (Some o) c) c) (status_of tree peer (Some o) c) at
        (λ x q e f. request-short o (kind_at (Some o) c) c q f)

-- ---- what the front panel sets

-- no value is a text
set-short : (value : Setting) → SetsTexts (requests.Set value)
unfolding SetsTexts
set-short value = tt

by-fault : (tree : List Object) (n : ℕ) (fault : Option SetFault) (o : Option Object) (value : Setting) → object_of tree n ≡ o → Rooted tree → All IsNamed tree
    → Rooted (set_where fault tree o value) × All IsNamed (set_where fault tree o value)
by-fault tree n None (Some o) value at root named = carried tree front n o (requests.Set value) at (set-short value) root named
by-fault tree n None None value at root named = (root, named)
by-fault tree n (Some fault) o value at root named = (root, named)

-- Setting an object at the front panel leaves them so too.
set-kept : (tree : List Object) (number : ℕ) (value : Setting) → Rooted tree → All IsNamed tree → Rooted (after_set tree number value) × All IsNamed (after_set tree number value)
unfolding after_set
set-kept tree number value = by-fault tree number (set_fault tree number value) (object_of tree number) value refl

by-front-fault : (tree : List Object) (n : ℕ) (fault : Option FrontFault) (o : Option Object) (r : Request) → object_of tree n ≡ o → ((x : Object) → o ≡ Some x → fault ≡ None → SetsTexts r)
    → Rooted tree → All IsNamed tree → Rooted (changed_where fault tree o r) × All IsNamed (changed_where fault tree o r)
by-front-fault tree n None (Some o) r at is root named = carried tree front n o r at (is o refl refl) root named
by-front-fault tree n None None r at is root named = (root, named)
by-front-fault tree n (Some fault) o r at is root named = (root, named)

request-kept : (tree : List Object) (number : ℕ) (r : Request) → ((o : Object) → front_fault_in (Some o) r ≡ None → SetsTexts r) → Rooted tree → All IsNamed tree
    → Rooted (after_request tree number r) × All IsNamed (after_request tree number r)
unfolding after_request front_fault
request-kept tree number r is = by (object_of tree number) refl
  where
    by : (o : Option Object) → object_of tree number ≡ o → Rooted tree → All IsNamed tree
        → Rooted (changed_where (front_fault_in o r) tree o r) × All IsNamed (changed_where (front_fault_in o r) tree o r)
    by None at root named = (root, named)
    by (Some o) at root named = by-front-fault tree number (front_fault_in (Some o) r) (Some o) r at (λ x same fine. is o fine) root named

-- whether its hardware refuses is no part of a line
told-same : (o : Object) (truth : Bool) → IsSameBut o (told o truth)
told-same o truth = record { number = refl; role = refl; lockable = refl; named = λ h. record { ono = h.ono; container = h.container; role = h.role; some = h.some; label = h.label; names = h.names } }

told-kept : (tree : List Object) (number : ℕ) (truth : Bool) → Rooted tree → All IsNamed tree → Rooted (after_failing tree number truth) × All IsNamed (after_failing tree number truth)
unfolding after_failing
told-kept tree number truth = by (object_of tree number) refl
  where
    by : (o : Option Object) → object_of tree number ≡ o → Rooted tree → All IsNamed tree → Rooted (failing_where tree o truth) × All IsNamed (failing_where tree o truth)
    by None at root named = (root, named)
    by (Some o) at root named =
        let same = told-same o truth in
        (root-placed tree number o (told o truth) at same root, placed tree (told o truth) (same.named (found-holds IsNamed tree number o named at)) named)

-- Changing an object at the front panel leaves them so too.
pub change-kept : (tree : List Object) (number : ℕ) (change : LocalChange) → Rooted tree → All IsNamed tree → Rooted (after_change tree number change) × All IsNamed (after_change tree number change)
unfolding SetsTexts
change-kept tree number (ToValue value) = set-kept tree number value
change-kept tree number (ToLabel label) = request-kept tree number (requests.SetLabel label) (label_text label)
change-kept tree number (ToEnabled truth) = request-kept tree number (requests.SetEnabled truth) (λ o fine. tt)
change-kept tree number ToUnlocked = request-kept tree number requests.Unlock (λ o fine. tt)
change-kept tree number (ToFailing truth) = told-kept tree number truth

-- ---- locks that are released

without-named : (peer : Peer) (o : Object) → IsNamed o → IsNamed (without_lock_of peer o)
without-named peer o h = by (is_held_by peer o.lock)
  where
    by : (b : Bool) → IsNamed (cond b (record o { lock = None }) o)
    by true = record { ono = h.ono; container = h.container; role = h.role; some = h.some; label = h.label; names = h.names }
    by false = h

without-root : (peer : Peer) (o : Object) (os : List Object) → Rooted (o ∷ os) → Rooted (without_lock_of peer o ∷ map (without_lock_of peer) os)
without-root peer o os h = by (is_held_by peer o.lock)
  where
    by : (b : Bool) → Rooted (cond b (record o { lock = None }) o ∷ map (without_lock_of peer) os)
    by true = h
    by false = h

-- Releasing the locks of a peer leaves them so too.
pub release-kept : (tree : List Object) (peer : Peer) → Rooted tree → All IsNamed tree → Rooted (released tree peer) × All IsNamed (released tree peer)
unfolding released
release-kept [] peer root named = (root, named)
release-kept (o ∷ os) peer root named = (without-root peer o os root, All-map IsNamed (without_lock_of peer) (o ∷ os) (All-weaker IsNamed (λ x. IsNamed (without_lock_of peer x)) (without-named peer) (o ∷ os) named))

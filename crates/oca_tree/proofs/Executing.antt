-- What a command does, from what each of its steps found.
use Rattle.oca_tree.proofs.Words.{◌≡◌, ℕ, ◌<◌, ◌≤◌, Bool, true, false, cond, List, [], ◌∷◌, length, get_or, set, refl, sym, ap, ◌∙◌, arith, eqb-true, Option, Some, None, Result, Ok, Err, not, nat_lt, ◌==◌, ◌&&◌, position, Peer, Status, Method, Access, Known, Class, MethodId, access, kind_from, row_at, own_methods, is_left_out, CommandFields, Request, ValueFault, Malformed, Unlisted, answer_count, as_request, Object, object_of, has_number, with_object, cannot_be, fits_positions, kind_at, asked_at, is_write, is_failing, status_of, by_status, carried_out, refused, IsTree, IsSound, is_ok, plain_request, MayCall}
use Rattle.std.proofs.lemmas.List.{set-get_or}
use Rattle.oca_types.specs.declared.status.Status.TheVariants as statuses
use Rattle.oca_types.specs.declared.class.Method.TheVariants as methods
use Rattle.oca_types.specs.Methods.{method_kind}
use Rattle.oca_model.specs.declared.request.Request.TheVariants as requests
use Rattle.oca_model.specs.declared.value.Value.{Value as Setting}
use Rattle.oca_model.specs.Answers.{answer_encoding}
use Rattle.oca_model.specs.Requests.{request_in, set_in}
use Rattle.oca_tree.specs.Objects.{class_of}
use Rattle.oca_tree.specs.Requests.{asks_out_of_range, asks_invalid}
use Rattle.oca_tree.specs.Typed.{answer_given, changed_by}
use Rattle.oca_tree.specs.Execution.{execution}
use Rattle.oca_tree.specs.PrivateSteps.{sets_value, setting_in, status_of_fault, refusal_of, MaySet, IsRefusedAt, IsAskedRightly, PutsAnswer, Executes}
use Rattle.oca_tree.proofs.Plain.{plain}
use Rattle.oca_tree.proofs.Positions.{find_some, find_passes, place_found, with_object_at, same_element}
use Rattle.oca_tree.proofs.Sound.{changed_place, changed_ono, changed_sound, written_tree}

-- the access of a method that a class knows is the method's
pub known_access : (class : Class) (id : MethodId) (method : Method) (reached : Access) → method_kind class id ≡ Known method reached → reached ≡ access method
unfolding method_kind
known_access class id method reached e = by (row_at (own_methods class id.level) id.index) (is_left_out class id) e
  where
    by : (o : Option Method) (left : Bool) → kind_from o left ≡ Known method reached → reached ≡ access method
    by None true h = cc
    by None false h = cc
    by (Some m) left h = cc

-- a set method asks that the object is set to what its parameters give
pub set_asks : (of : Class) (method : Method) (count : ℕ) (bytes : List ℕ) → sets_value method ≡ true → request_in of method count bytes ≡ set_in of count bytes
unfolding request_in
set_asks of methods.SetState count bytes e = refl
set_asks of methods.SetPosition count bytes e = refl
set_asks of methods.SetSetting count bytes e = refl
set_asks of _ count bytes e = cc

-- a set method writes
set_writes : (method : Method) → sets_value method ≡ true → is_write (Known method (access method)) ≡ true
set_writes methods.SetState e = refl
set_writes methods.SetPosition e = refl
set_writes methods.SetSetting e = refl
set_writes _ e = cc

both_false : (a b : Bool) → b ≡ false → (a && b) ≡ false
both_false true b e = e
both_false false b e = refl

-- hardware refuses a set method exactly where it refuses to be changed
pub fails_to_set : (o : Object) (peer : Peer) (c : CommandFields) → MaySet o peer c → o.failing ≡ true → is_failing (Some o) (kind_at (Some o) c) ≡ true
fails_to_set o peer c may e = rw (may.may.0, e) (set_writes may.method may.sets)

pub works : (o : Object) (c : CommandFields) → o.failing ≡ false → is_failing (Some o) (kind_at (Some o) c) ≡ false
works o c e = rw e refl

-- what sets an object answers nothing
pub nothing_put : (tree : List Object) (o : Object) (v : Setting) → PutsAnswer (Ok 0) [] [] (answer_given tree o (requests.Set v))
unfolding answer_given answer_encoding
nothing_put tree o v = (refl, refl)

-- ---- one object

module _ (o : Object) (peer : Peer) (c : CommandFields) (method : Method) (may : MayCall method o peer c) where
  abbrev Refuses : Status → Type 0
  Refuses s = IsRefusedAt s o peer c × (is_ok s ≡ false)

  pub not_understood : (fault : ValueFault) → request_in (class_of o.value) method c.count c.params ≡ Err fault → Refuses (status_of_fault fault)
  not_understood Malformed asked = (λ tree. rw (may.0, may.1, asked) refl, refl)
  not_understood Unlisted asked = (λ tree. rw (may.0, may.1, asked) refl, refl)

  module _ (r : Request) (asked : request_in (class_of o.value) method c.count c.params ≡ Ok r) where
    pub request_ok : fits_positions o.value r ≡ true → asks_out_of_range o.value r ≡ false → asks_invalid o r ≡ false → IsAskedRightly r o peer c
    request_ok fits within valid = record {
      asked = rw may.0 asked;
      fits = fits;
      within = within;
      valid = valid;
      ends = λ tree. rw (may.0, may.1, asked, fits, within, valid) refl;
    }

    abbrev first : Bool → Bool → Bool → Option Status
    first fits out invalid = cond (not fits) (Some statuses.ParameterError) (cond out (Some statuses.ParameterOutOfRange) (cond invalid (Some statuses.InvalidRequest) None))

    pub understood : refusal_of o r ≡ None → IsAskedRightly r o peer c
    understood e = by (fits_positions o.value r) (asks_out_of_range o.value r) (asks_invalid o r) refl refl refl e
      where
        by : (fits out invalid : Bool) → fits_positions o.value r ≡ fits → asks_out_of_range o.value r ≡ out → asks_invalid o r ≡ invalid → first fits out invalid ≡ None → IsAskedRightly r o peer c
        by true false false f w v h = request_ok f w v
        by true false true f w v h = let no : ⊥ = cc in absurd no
        by true true invalid f w v h = let no : ⊥ = cc in absurd no
        by false out invalid f w v h = let no : ⊥ = cc in absurd no

    pub refuses : (s : Status) → refusal_of o r ≡ Some s → Refuses s
    refuses s e = by (fits_positions o.value r) (asks_out_of_range o.value r) (asks_invalid o r) refl refl refl e
      where
        by : (fits out invalid : Bool) → fits_positions o.value r ≡ fits → asks_out_of_range o.value r ≡ out → asks_invalid o r ≡ invalid → first fits out invalid ≡ Some s → Refuses s
        by true false false f w v h = let no : ⊥ = cc in absurd no
        by true false true f w v h = let is : statuses.InvalidRequest ≡ s = cc in rw (← is) (λ tree. rw (may.0, may.1, asked, f, w, v) refl, refl)
        by true true invalid f w v h = let is : statuses.ParameterOutOfRange ≡ s = cc in rw (← is) (λ tree. rw (may.0, may.1, asked, f, w) refl, refl)
        by false out invalid f w v h = let is : statuses.ParameterError ≡ s = cc in rw (← is) (λ tree. rw (may.0, may.1, asked, f) refl, refl)

  -- what a set method sets it to
  module _ (sets : sets_value method ≡ true) where
    pub setting_not_understood : (fault : ValueFault) → setting_in (class_of o.value) c.count c.params ≡ Err fault → Refuses (status_of_fault fault)
    setting_not_understood fault e = not_understood fault (set_asks (class_of o.value) method c.count c.params sets ∙ ap (as_request requests.Set) e)

    module _ (v : Setting) (e : setting_in (class_of o.value) c.count c.params ≡ Ok v) where
      sets_to : request_in (class_of o.value) method c.count c.params ≡ Ok (requests.Set v)
      sets_to = set_asks (class_of o.value) method c.count c.params sets ∙ ap (as_request requests.Set) e

      pub setting_ok : cannot_be o.value v ≡ false → IsAskedRightly (requests.Set v) o peer c
      unfolding asks_out_of_range asks_invalid
      setting_ok within = request_ok (requests.Set v) sets_to refl within refl

      pub setting_refused : cannot_be o.value v ≡ true → Refuses statuses.ParameterOutOfRange
      unfolding asks_out_of_range
      setting_refused beyond = refuses (requests.Set v) sets_to statuses.ParameterOutOfRange (rw beyond refl)

  no_bytes : (bytes : List ℕ) → length bytes ≡ 0 → bytes ≡ []
  no_bytes [] e = refl
  no_bytes (b ∷ bytes) e = absurd (omega arith)

  -- a method that only reads and has no parameters, without any
  pub plain_ok : (r : Request) → plain_request method ≡ Some r → c.count ≡ 0 → length c.params ≡ 0 → IsAskedRightly r o peer c
  plain_ok r is none empty =
      let p = plain method r is in
      let asked : request_in (class_of o.value) method c.count c.params ≡ Ok r = rw (none, no_bytes c.params empty) (p.asked (class_of o.value)) in
      request_ok r asked (p.fits o) (p.within o) (p.valid o)

-- ---- a tree

module _ (tree : List Object) (peer : Peer) (c : CommandFields) where
  pub exec_none : object_of tree c.target ≡ None → execution tree peer c ≡ refused tree statuses.BadOno
  unfolding execution
  exec_none e = rw e refl

  module _ (o : Object) (found : object_of tree c.target ≡ Some o) where
    at_object : execution tree peer c ≡ by_status tree peer (Some o) (asked_at (Some o) (kind_at (Some o) c) c) (status_of tree peer (Some o) c)
    unfolding execution
    at_object = ap (λ x. by_status tree peer x (asked_at x (kind_at x c) c) (status_of tree peer x c)) found

    pub exec_refused : (s : Status) → IsRefusedAt s o peer c → execution tree peer c ≡ refused tree s
    exec_refused s h = at_object ∙ h tree

    module _ (r : Request) (asked : IsAskedRightly r o peer c) where
      abbrev long : ℕ
      long = length (answer_encoding (answer_given tree o r))

      with_request : execution tree peer c ≡ by_status tree peer (Some o) (Ok r) (cond (nat_lt 1452 long) statuses.BufferOverflow (cond (is_failing (Some o) (kind_at (Some o) c)) statuses.ProcessingFailed statuses.Ok))
      with_request = at_object ∙ ap (λ x. by_status tree peer (Some o) x (status_of tree peer (Some o) c)) asked.asked ∙ ap (by_status tree peer (Some o) (Ok r)) (asked.ends tree)

      pub exec_full : 1452 < long → execution tree peer c ≡ refused tree statuses.BufferOverflow
      exec_full h = let over : nat_lt 1452 long ≡ true = grind arith in with_request ∙ rw over refl

      pub exec_ok : long ≤ 1452 → is_failing (Some o) (kind_at (Some o) c) ≡ false → execution tree peer c ≡ carried_out tree peer o r
      exec_ok h works = let fits : nat_lt 1452 long ≡ false = grind arith in with_request ∙ rw (fits, works) refl

      pub exec_failed : long ≤ 1452 → is_failing (Some o) (kind_at (Some o) c) ≡ true → execution tree peer c ≡ refused tree statuses.ProcessingFailed
      exec_failed h fails = let fits : nat_lt 1452 long ≡ false = grind arith in with_request ∙ rw (fits, fails) refl

-- what was found at an index
module _ (tree : List Object) (peer : Peer) (c : CommandFields) (i : ℕ) (o : Object) (place : Some i ≡ position (has_number c.target) tree) (here : o ≡ get_or tree i o) where
  pub found_at : object_of tree c.target ≡ Some o
  found_at = find_some (has_number c.target) tree i o place ∙ ap Some (sym here)

  pub within_at : i < length tree
  within_at = (place_found (has_number c.target) tree i place).0

  pub sound_at : IsTree tree → IsSound o
  sound_at sound = rw (← here) at (sound.objects i o within_at)

  pub every_at : (d : Object) → get_or tree i d ≡ o
  every_at d = same_element tree i d o within_at ∙ sym here

  pub placed : (new : Object) → new.ono.0 ≡ o.ono.0 → with_object tree new ≡ set tree i new
  placed new same =
      let numbered : (o.ono.0 == c.target) ≡ true = find_passes (has_number c.target) tree o found_at in
      with_object_at tree i c.target new (same ∙ eqb-true o.ono.0 c.target numbered) place

  module _ (r : Request) (asked : IsAskedRightly r o peer c) (out : List ℕ) where
    pub full_at : (s : Status) → PutsAnswer (Err s) [] out (answer_given tree o r) → execution tree peer c ≡ refused tree s
    full_at s (is, long) = exec_full tree peer c o found_at r asked (omega (arith, long)) ∙ ap (refused tree) (sym is)

    abbrev new : Object
    new = changed_by o peer r

    module _ (count : ℕ) (puts : PutsAnswer (Ok count) [] out (answer_given tree o r)) (short : length out ≤ 1452) where
      pub failed_at : is_failing (Some o) (kind_at (Some o) c) ≡ true → execution tree peer c ≡ refused tree statuses.ProcessingFailed
      failed_at fails = exec_failed tree peer c o found_at r asked (rw (← puts.0) short) fails

      pub done_at : is_failing (Some o) (kind_at (Some o) c) ≡ false → execution tree peer c ≡ record { tree = set tree i new; status = statuses.Ok; count = count; parameters = out }
      done_at works =
          exec_ok tree peer c o found_at r asked (rw (← puts.0) short) works
          ∙ ap (λ t. record { tree = t; status = statuses.Ok; count = answer_count (answer_given tree o r); parameters = answer_encoding (answer_given tree o r) }) (placed new (changed_ono o peer r))
          ∙ ap (λ n. record { tree = set tree i new; status = statuses.Ok; count = n; parameters = answer_encoding (answer_given tree o r) }) (sym puts.1)
          ∙ ap (λ xs. record { tree = set tree i new; status = statuses.Ok; count = count; parameters = xs }) (sym puts.0)

    pub tree_at : IsTree tree → IsTree (set tree i new)
    tree_at sound =
        let changed_here = changed_sound o peer r (sound_at sound) asked.within asked.valid asked.fits in
        written_tree tree i o new within_at here (changed_place o peer r) changed_here sound

  -- what only reads leaves the tree
  pub read_at : (method : Method) (r : Request) → MayCall method o peer c → plain_request method ≡ Some r → c.count ≡ 0 → length c.params ≡ 0
      → (result : Result ℕ Status) (out : List ℕ) → PutsAnswer result [] out (answer_given tree o r) → length out ≤ 1452 → Executes result tree tree out peer c
  read_at method r may is none empty (Ok count) out puts short =
      let same : set tree i (changed_by o peer r) ≡ tree =
      ap (set tree i) ((plain method r is).same o peer ∙ here) ∙ set-get_or tree i o in
      let reads : is_failing (Some o) (kind_at (Some o) c) ≡ false = rw may.0 (both_false o.failing (is_write (Known method (access method))) (plain method r is).reads) in
      done_at r (plain_ok o peer c method may r is none empty) out count puts short reads
      ∙ ap (λ t. record { tree = t; status = statuses.Ok; count = count; parameters = out }) same
  read_at method r may is none empty (Err s) out puts short = (full_at r (plain_ok o peer c method may r is none empty) out s puts, refl, ap is_ok puts.0)

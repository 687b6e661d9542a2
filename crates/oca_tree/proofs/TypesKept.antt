-- What holds of the objects after each change: they are a tree, their texts are texts, and their classes stay.
use Rattle.oca_tree.proofs.Words.{◌≡◌, ℕ, zero, suc, Bool, true, false, cond, List, [], ◌∷◌, length, map, set, refl, sym, ap, ◌∙◌, subst, eqb-true, inl, inr, ◌++◌, lit<, lit≤, All, IsUtf8-nil, chars-nil, Class, Status, Peer, CommandFields, IsText, Each, Request, Object, SetFault, FrontFault, ToLabel, ToEnabled, ToUnlocked, ToFailing, front_fault_in, changed_where, failing_where, Place, asked_at, kind_at, status_of, value_changed_by, is_ok, front, fault_at, set_fault_in, set_where, has_number, object_of, with_object, without_lock_of, is_held_by, IsTree, IsSound, IsOfItsTypes, CommandDid}
use Rattle.std.proofs.Common.{◌==◌, Option, Some, None, ◌≢◌, ◌⊎◌}
use Rattle.std.specs.List.{AllByRecursion}
use Rattle.std.proofs.lemmas.Bool.{both_ways, eq-eqb}
use Rattle.std.proofs.lemmas.List.Elements.{All-from_recursion, recursion_from_All}
use Rattle.oca_types.specs.declared.status.Status.TheVariants as statuses
use Rattle.oca_model.specs.declared.request.Request.TheVariants as requests
use Rattle.oca_model.specs.declared.value.Value.{Value as Setting}
use Rattle.oca_tree.specs.LocalChanges.{LocalChange, ToValue, front_fault, after_request, after_failing, after_change}
use Rattle.oca_tree.specs.Execution.{execution}
use Rattle.oca_tree.specs.Typed.{changed_by}
use Rattle.oca_tree.specs.Settings.{set_fault, after_set}
use Rattle.oca_tree.specs.Objects.{class_of}
use Rattle.oca_tree.specs.Locks.{released}
use Rattle.oca_tree.proofs.Fronts.{set_sound}
use Rattle.oca_tree.proofs.LocalChanges.{label_sound, enabled_sound, unlock_sound, label_text, told, told_sound}
use Rattle.oca_tree.proofs.TypedCommands.{commands_typed, refusals_change, same_end}
use Rattle.oca_model.proofs.Carried.{SetsTexts, asked_texts}
use Rattle.oca_tree.proofs.Names.{names_kept}
use Rattle.oca_tree.proofs.Positions.{find_passes}
use Rattle.oca_tree.proofs.Sound.{shape_of, shapes, changed_shape, changed_sound, same_places, released_shapes, released_tree}

-- ---- texts

pub empty_text : IsText []
empty_text = (IsUtf8-nil, rw chars-nil (lit< tt), lit≤ tt)

pub each_push : (xs : List (List ℕ)) (t : List ℕ) → Each IsText xs → IsText t → Each IsText (xs ++ t ∷ [])
each_push [] t h is = (is, tt)
each_push (x ∷ xs) t h is = (h.0, each_push xs t h.1 is)

-- ---- what is changed

each_set_at : (xs : List (List ℕ)) (n : ℕ) (t : List ℕ) → IsText t → Each IsText xs → Each IsText (set xs n t)
each_set_at [] n t is h = tt
each_set_at (x ∷ xs) zero t is h = (is, h.1)
each_set_at (x ∷ xs) (suc n) t is h = (h.0, each_set_at xs n t is h.1)

-- ---- what a request leaves of an object

valued_typed : (o : Object) (r : Request) → SetsTexts r → IsOfItsTypes o → IsOfItsTypes (record o { value = value_changed_by o.value r })
valued_typed o r is h = record { role = h.role; label = h.label; names = names_kept (Each IsText) (λ xs t. t) each_set_at o.value r is h.names; number = h.number; container = h.container }

changed_typed : (o : Object) (peer : Peer) (r : Request) → SetsTexts r → IsOfItsTypes o → IsOfItsTypes (changed_by o peer r)
unfolding changed_by SetsTexts
changed_typed o peer requests.LockTotal is h = record { role = h.role; label = h.label; names = h.names; number = h.number; container = h.container }
changed_typed o peer requests.LockReadonly is h = record { role = h.role; label = h.label; names = h.names; number = h.number; container = h.container }
changed_typed o peer requests.Unlock is h = record { role = h.role; label = h.label; names = h.names; number = h.number; container = h.container }
changed_typed o peer (requests.SetEnabled truth) is h = record { role = h.role; label = h.label; names = h.names; number = h.number; container = h.container }
changed_typed o peer (requests.SetLabel text) is h = record { role = h.role; label = is; names = h.names; number = h.number; container = h.container }
changed_typed o peer r is h = valued_typed o r is h

-- ---- in the list

pub found_in : (P : Object → Type 0) (tree : List Object) (number : ℕ) (o : Object) → object_of tree number ≡ Some o → AllByRecursion P tree → P o
found_in P [] number o e a = absurd (cc)
found_in P (x ∷ xs) number o e a = by (x.ono.0 == number) e (found_in P xs number o)
  where
    by : (b : Bool) → cond b (Some x) (object_of xs number) ≡ Some o → (object_of xs number ≡ Some o → AllByRecursion P xs → P o) → P o
    by true q rest = let is : x ≡ o = cc in subst P is a.0
    by false q rest = rest q a.1

with_all : (P : Object → Type 0) (tree : List Object) (new : Object) → P new → AllByRecursion P tree → AllByRecursion P (with_object tree new)
with_all P [] new is a = tt
with_all P (x ∷ xs) new is a = by (x.ono.0 == new.ono.0) (with_all P xs new is a.1)
  where
    by : (b : Bool) → AllByRecursion P (with_object xs new) → AllByRecursion P (cond b (new ∷ xs) (x ∷ with_object xs new))
    by true rest = (is, a.1)
    by false rest = (a.0, rest)

with_length : (tree : List Object) (new : Object) → length (with_object tree new) ≡ length tree
with_length [] new = refl
with_length (x ∷ xs) new = by (x.ono.0 == new.ono.0) (with_length xs new)
  where
    by : (b : Bool) → length (with_object xs new) ≡ length xs → length (cond b (new ∷ xs) (x ∷ with_object xs new)) ≡ length (x ∷ xs)
    by true rest = refl
    by false rest = ap suc rest

pub number_of : (tree : List Object) (number : ℕ) (o : Object) → object_of tree number ≡ Some o → o.ono.0 ≡ number
number_of tree number o e = eqb-true o.ono.0 number (find_passes (has_number number) tree o e)

with_shapes : (tree : List Object) (number : ℕ) (o new : Object) → object_of tree number ≡ Some o → shape_of new ≡ shape_of o → shapes (with_object tree new) ≡ shapes tree
with_shapes [] number o new e same = refl
with_shapes (x ∷ xs) number o new e same = by (x.ono.0 == number) refl e (x.ono.0 == new.ono.0) refl (with_shapes xs number o new)
  where
    new_number : new.ono.0 ≡ number
    new_number = ap (λ (s : Place × Class). s.0.number) same ∙ number_of (x ∷ xs) number o e

    by : (b : Bool) → (x.ono.0 == number) ≡ b → cond b (Some x) (object_of xs number) ≡ Some o → (c : Bool) → (x.ono.0 == new.ono.0) ≡ c →
        (object_of xs number ≡ Some o → shape_of new ≡ shape_of o → shapes (with_object xs new) ≡ shapes xs) → shapes (cond c (new ∷ xs) (x ∷ with_object xs new)) ≡ shapes (x ∷ xs)
    by true t q true u rest = let is : x ≡ o = cc in ap (λ (s : Place × Class). s ∷ shapes xs) (same ∙ ap shape_of (sym is))
    by true t q false u rest = absurd (both_ways (x.ono.0 == new.ono.0) u (eq-eqb x.ono.0 new.ono.0 (eqb-true x.ono.0 number t ∙ sym new_number)))
    by false t q true u rest = absurd (both_ways (x.ono.0 == number) t (eq-eqb x.ono.0 number (eqb-true x.ono.0 new.ono.0 u ∙ new_number)))
    by false t q false u rest = ap (λ (ss : List (Place × Class)). shape_of x ∷ ss) (rest q same)

-- ---- a tree whose texts are texts

pub record IsGood (objects : List Object) : Type 0 where
  pub tree : IsTree objects
  pub typed : All IsOfItsTypes objects

-- one object is put in another's place
good_with : (tree : List Object) (number : ℕ) (o new : Object) → object_of tree number ≡ Some o → shape_of new ≡ shape_of o → (IsSound o → IsSound new) → (IsOfItsTypes o → IsOfItsTypes new) →
    IsGood tree → IsGood (with_object tree new)
good_with tree number o new e same sound typed g = record {
  tree = record {
    built = rw (same_places (with_object tree new) tree (with_shapes tree number o new e same)) g.tree.built;
    objects = All-from_recursion IsSound (with_object tree new)
        (with_all IsSound tree new (sound (found_in IsSound tree number o e (recursion_from_All IsSound tree g.tree.objects))) (recursion_from_All IsSound tree g.tree.objects));
    few = rw (with_length tree new) g.tree.few;
  };
  typed = All-from_recursion IsOfItsTypes (with_object tree new)
      (with_all IsOfItsTypes tree new (typed (found_in IsOfItsTypes tree number o e (recursion_from_All IsOfItsTypes tree g.typed))) (recursion_from_All IsOfItsTypes tree g.typed));
}

-- ---- a command

pub execution_status : (tree : List Object) (p : Peer) (c : CommandFields) → (execution tree p c).status ≡ status_of tree p (object_of tree c.target) c
unfolding execution
execution_status tree p c =
    let o : Option Object = object_of tree c.target in
    same_end tree p o (asked_at o (kind_at o c) c) (status_of tree p o c)

ok_tells : (s : Status) → s ≢ statuses.Ok → is_ok s ≡ false
ok_tells statuses.Ok bad = absurd (bad refl)
ok_tells _ bad = refl

pub ok_found : (tree : List Object) (p : Peer) (c : CommandFields) → status_of tree p (object_of tree c.target) c ≡ statuses.Ok → CommandDid tree p c
ok_found tree p c e = commands_typed tree p c (ap is_ok (execution_status tree p c ∙ e))

pub execution_refuses : (tree : List Object) (p : Peer) (c : CommandFields) → status_of tree p (object_of tree c.target) c ≢ statuses.Ok → (execution tree p c).tree ≡ tree
execution_refuses tree p c bad = refusals_change tree p c (ap is_ok (execution_status tree p c) ∙ ok_tells (status_of tree p (object_of tree c.target) c) bad)

-- ---- each change leaves it so

is_ok_or_not : (s : Status) → (s ≡ statuses.Ok) ⊎ (s ≢ statuses.Ok)
is_ok_or_not statuses.Ok = inl refl
is_ok_or_not _ = inr (λ e. cc)

-- what holds of a tree is left by a command, where it is left by what is carried out
by_command : (P : List Object → Type 0) (tree : List Object) (p : Peer) (c : CommandFields) →
    ((did : CommandDid tree p c) → P tree → P (with_object tree (changed_by did.object p did.request))) → P tree → P (execution tree p c).tree
by_command P tree p c carries h = elim (is_ok_or_not (status_of tree p (object_of tree c.target) c)) [
  | inl ok ↦ let did = ok_found tree p c ok in rw did.did (carries did h)
  | inr bad ↦ rw (execution_refuses tree p c bad) h
]

did_sound : (tree : List Object) (p : Peer) (c : CommandFields) (did : CommandDid tree p c) → IsSound did.object → IsSound (changed_by did.object p did.request)
did_sound tree p c did s = changed_sound did.object p did.request s did.within did.valid did.fits

pub command_good : (tree : List Object) (p : Peer) (c : CommandFields) → IsGood tree → IsGood (execution tree p c).tree
command_good tree p c = by_command IsGood tree p c (λ did.
    good_with tree c.target did.object (changed_by did.object p did.request) did.found (changed_shape did.object p did.request)
    (did_sound tree p c did)
    (changed_typed did.object p did.request (asked_texts (class_of did.object.value) did.method c.count c.params did.request did.asked)))

abbrev KeepsShapes : List Object → List Object → Type 0
KeepsShapes tree new = shapes new ≡ shapes tree

pub command_shapes : (tree : List Object) (p : Peer) (c : CommandFields) → shapes (execution tree p c).tree ≡ shapes tree
command_shapes tree p c = by_command (KeepsShapes tree) tree p c (λ did same. with_shapes tree c.target did.object (changed_by did.object p did.request) did.found (changed_shape did.object p did.request)) refl

setting_texts : (value : Setting) → SetsTexts (requests.Set value)
unfolding SetsTexts
setting_texts value = tt

by_set : (P : List Object → Type 0) (tree : List Object) (number : ℕ) (value : Setting) →
    ((o : Object) → object_of tree number ≡ Some o → fault_at o.value value ≡ None → P tree → P (with_object tree (changed_by o front (requests.Set value)))) → P tree → P (after_set tree number value)
unfolding after_set set_fault
by_set P tree number value sets h = by_object (object_of tree number) refl
  where
    by_fault : (o : Object) → object_of tree number ≡ Some o → (f : Option SetFault) → fault_at o.value value ≡ f → P (set_where f tree (Some o) value)
    by_fault o there None fine = sets o there fine h
    by_fault o there (Some f) fine = h

    by_object : (x : Option Object) → object_of tree number ≡ x → P (set_where (set_fault_in x value) tree x value)
    by_object None there = h
    by_object (Some o) there = by_fault o there (fault_at o.value value) refl

pub set_good : (tree : List Object) (number : ℕ) (value : Setting) → IsGood tree → IsGood (after_set tree number value)
set_good tree number value = by_set IsGood tree number value (λ o there fine.
    good_with tree number o (changed_by o front (requests.Set value)) there (changed_shape o front (requests.Set value))
    (λ s. set_sound o value s fine)
    (changed_typed o front (requests.Set value) (setting_texts value)))

set_shapes : (tree : List Object) (number : ℕ) (value : Setting) → shapes (after_set tree number value) ≡ shapes tree
set_shapes tree number value =
    by_set (KeepsShapes tree) tree number value (λ o there fine same. with_shapes tree number o (changed_by o front (requests.Set value)) there (changed_shape o front (requests.Set value))) refl

-- the front asks for a label, to be enabled or not, or to be unlocked
by_request : (P : List Object → Type 0) (tree : List Object) (number : ℕ) (r : Request) →
    ((o : Object) → object_of tree number ≡ Some o → front_fault_in (Some o) r ≡ None → P tree → P (with_object tree (changed_by o front r))) → P tree → P (after_request tree number r)
unfolding after_request front_fault
by_request P tree number r sets h = by_object (object_of tree number) refl
  where
    by_fault : (o : Object) → object_of tree number ≡ Some o → (f : Option FrontFault) → front_fault_in (Some o) r ≡ f → P (changed_where f tree (Some o) r)
    by_fault o there None fine = sets o there fine h
    by_fault o there (Some f) fine = h

    by_object : (x : Option Object) → object_of tree number ≡ x → P (changed_where (front_fault_in x r) tree x r)
    by_object None there = h
    by_object (Some o) there = by_fault o there (front_fault_in (Some o) r) refl

request_good : (tree : List Object) (number : ℕ) (r : Request) → ((o : Object) → front_fault_in (Some o) r ≡ None → SetsTexts r) → ((o : Object) → IsSound o → IsSound (changed_by o front r)) →
    IsGood tree → IsGood (after_request tree number r)
request_good tree number r texts sound = by_request IsGood tree number r (λ o there fine.
    good_with tree number o (changed_by o front r) there (changed_shape o front r) (sound o) (changed_typed o front r (texts o fine)))

request_shapes : (tree : List Object) (number : ℕ) (r : Request) → shapes (after_request tree number r) ≡ shapes tree
request_shapes tree number r =
    by_request (KeepsShapes tree) tree number r (λ o there fine same. with_shapes tree number o (changed_by o front r) there (changed_shape o front r)) refl

-- the front tells whether its hardware refuses
by_told : (P : List Object → Type 0) (tree : List Object) (number : ℕ) (truth : Bool) →
    ((o : Object) → object_of tree number ≡ Some o → P tree → P (with_object tree (told o truth))) → P tree → P (after_failing tree number truth)
unfolding after_failing
by_told P tree number truth tells h = by (object_of tree number) refl
  where
    by : (x : Option Object) → object_of tree number ≡ x → P (failing_where tree x truth)
    by None there = h
    by (Some o) there = tells o there h

told_typed : (o : Object) (truth : Bool) → IsOfItsTypes o → IsOfItsTypes (told o truth)
told_typed o truth h = record { role = h.role; label = h.label; names = h.names; number = h.number; container = h.container }

told_good : (tree : List Object) (number : ℕ) (truth : Bool) → IsGood tree → IsGood (after_failing tree number truth)
told_good tree number truth = by_told IsGood tree number truth (λ o there. good_with tree number o (told o truth) there refl (told_sound truth o) (told_typed o truth))

told_shapes : (tree : List Object) (number : ℕ) (truth : Bool) → shapes (after_failing tree number truth) ≡ shapes tree
told_shapes tree number truth = by_told (KeepsShapes tree) tree number truth (λ o there same. with_shapes tree number o (told o truth) there refl) refl

pub change_good : (tree : List Object) (number : ℕ) (change : LocalChange) → IsGood tree → IsGood (after_change tree number change)
unfolding SetsTexts
change_good tree number (ToValue value) = set_good tree number value
change_good tree number (ToLabel label) = request_good tree number (requests.SetLabel label) (label_text label) (label_sound label)
change_good tree number (ToEnabled truth) = request_good tree number (requests.SetEnabled truth) (λ o fine. tt) (enabled_sound truth)
change_good tree number ToUnlocked = request_good tree number requests.Unlock (λ o fine. tt) unlock_sound
change_good tree number (ToFailing truth) = told_good tree number truth

pub change_shapes : (tree : List Object) (number : ℕ) (change : LocalChange) → shapes (after_change tree number change) ≡ shapes tree
change_shapes tree number (ToValue value) = set_shapes tree number value
change_shapes tree number (ToLabel label) = request_shapes tree number (requests.SetLabel label)
change_shapes tree number (ToEnabled truth) = request_shapes tree number (requests.SetEnabled truth)
change_shapes tree number ToUnlocked = request_shapes tree number requests.Unlock
change_shapes tree number (ToFailing truth) = told_shapes tree number truth

without_typed : (peer : Peer) (o : Object) → IsOfItsTypes o → IsOfItsTypes (without_lock_of peer o)
without_typed peer o h = by (is_held_by peer o.lock)
  where
    by : (b : Bool) → IsOfItsTypes (cond b (record o { lock = None }) o)
    by true = record { role = h.role; label = h.label; names = h.names; number = h.number; container = h.container }
    by false = h

released_typed : (peer : Peer) (tree : List Object) → AllByRecursion IsOfItsTypes tree → AllByRecursion IsOfItsTypes (map (without_lock_of peer) tree)
released_typed peer [] a = tt
released_typed peer (o ∷ os) a = (without_typed peer o a.0, released_typed peer os a.1)

pub released_good : (tree : List Object) (peer : Peer) → IsGood tree → IsGood (released tree peer)
unfolding released
released_good tree peer g = record {
  tree = released_tree peer tree (map (without_lock_of peer) tree) refl g.tree;
  typed = All-from_recursion IsOfItsTypes (map (without_lock_of peer) tree) (released_typed peer tree (recursion_from_All IsOfItsTypes tree g.typed));
}

pub released_kept : (tree : List Object) (peer : Peer) → shapes (released tree peer) ≡ shapes tree
unfolding released
released_kept tree peer = released_shapes peer tree

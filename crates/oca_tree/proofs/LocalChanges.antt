-- What a change at the front does, from what each of its steps found.
use Rattle.oca_tree.proofs.Words.{◌≡◌, ℕ, ◌≤◌, ◌<◌, subst, Bool, true, false, cond, List, length, get_or, set, refl, sym, ap, ◌∙◌, arith, [], Option, Some, None, IfSome, not, ◌||◌, nat_lt, position, nat_tests, IsText, CommandFields, Request, Object, FrontFault, root, object_of, has_number, front, front_fault_in, changed_where, failing_where, IsSound}
use Rattle.std.proofs.Common.{◌^◌, chars, IsUtf8}
use Rattle.std.specs.Prelude.{IsSome}
use Rattle.std.specs.Str.{is_utf8}
use Rattle.std.proofs.lemmas.Str.{is_utf8-from_IsUtf8, IsUtf8-from_is_utf8, encodes-chars, length-le-encodes}
use Rattle.oca_model.proofs.Carried.{SetsTexts}
use Rattle.oca_model.specs.declared.request.Request.TheVariants as asked
use Rattle.oca_tree.specs.declared.front.FrontFault.TheVariants as faults
use Rattle.oca_tree.specs.Building.{is_long}
use Rattle.oca_tree.specs.Typed.{changed_by}
use Rattle.oca_tree.specs.LocalChanges.{is_bad_label, front_fault, after_request, after_failing}
use Rattle.oca_tree.proofs.Executing.{found_at, placed}
use Rattle.oca_tree.proofs.Positions.{place_found, same_element}
use Rattle.oca_tree.proofs.Sound.{changed_ono}

-- a command to the object of this number, for what was found by the number
abbrev to : ℕ → CommandFields
to number = record { handle = 0; target = number; level = 0; index = 0; count = 0; params = [] }

pub no_object : (tree : List Object) (number : ℕ) (r : Request) → object_of tree number ≡ None → front_fault tree number r ≡ Some faults.NoObject
unfolding front_fault
no_object tree number r e = ap (λ x. front_fault_in x r) e

pub unchanged : (tree : List Object) (number : ℕ) (r : Request) (f : FrontFault) → front_fault tree number r ≡ Some f → after_request tree number r ≡ tree
unfolding after_request
unchanged tree number r f e = rw e refl

-- a text is no bad label where it is short, and one where it is long
pub good_label : (label : List ℕ) → IsUtf8 label → length label ≤ 64 → is_bad_label label ≡ false
good_label label utf8 short = let few : nat_lt 64 (length label) ≡ false = grind (arith, nat_tests) in rw (is_utf8-from_IsUtf8 label utf8, few) refl

pub long_label : (label : List ℕ) → IsUtf8 label → (length label ≤ 64 → false ≡ true) → is_bad_label label ≡ true
long_label label utf8 long = by (nat_lt 64 (length label)) refl
  where
    by : (b : Bool) → nat_lt 64 (length label) ≡ b → is_bad_label label ≡ true
    by true many = rw (is_utf8-from_IsUtf8 label utf8, many) refl
    by false few = let no : false ≡ true = long (grind (arith, nat_tests, few)) in absurd cc

-- a text of at most 64 bytes has few characters
pub few_chars : (text : List ℕ) → IsUtf8 text → length text ≤ 64 → length (chars text) < 2 ^ 16
few_chars text u few = let least : length (chars text) ≤ length text = subst (λ l. length (chars text) ≤ length l) (encodes-chars text u) (length-le-encodes (chars text)) in omega (arith, few, least)

-- what was made of UTF-8 of at most 64 bytes is a text
pub made_text : (text : List ℕ) (r : Option (List ℕ)) → IsUtf8 text → (IsSome r → length text ≤ 64) → IfSome r (λ t. t ≡ text) → IfSome r IsText
made_text text None utf8 few same = tt
made_text text (Some t) utf8 few same = let short = few refl in rw same (utf8, few_chars text utf8 short, short)

no_fault : (a b : Bool) → cond (not a || b) (Some faults.BadLabel) None ≡ None → (a ≡ true) × (b ≡ false)
no_fault true false e = (refl, refl)
no_fault true true e = cc
no_fault false b e = cc

-- what is no bad label is a text
pub label_text : (label : List ℕ) (o : Object) → front_fault_in (Some o) (asked.SetLabel label) ≡ None → SetsTexts (asked.SetLabel label)
unfolding SetsTexts
label_text label o e =
    let p = no_fault (is_utf8 label) (is_long label) e in
    let utf8 = IsUtf8-from_is_utf8 label p.0 in
    let long = p.1 in
    let few : length label ≤ 64 = grind (arith, nat_tests, long) in
    (utf8, few_chars label utf8 few, few)

-- ---- what stays sound

abbrev KeepsSound : Request → Type 0
KeepsSound r = (o : Object) → IsSound o → IsSound (changed_by o front r)

pub label_sound : (label : List ℕ) → KeepsSound (asked.SetLabel label)
unfolding changed_by
label_sound label o s = record { value = s.value; lock = s.lock }

pub enabled_sound : (truth : Bool) → KeepsSound (asked.SetEnabled truth)
unfolding changed_by
enabled_sound truth o s = record { value = s.value; lock = s.lock }

pub unlock_sound : KeepsSound asked.Unlock
unfolding changed_by
unlock_sound o s = record { value = s.value; lock = tt }

-- ---- at the object that was found

-- the object at an index
abbrev pub object_there : List Object → ℕ → Object
object_there tree i = get_or tree i root

pub stands_there : (tree : List Object) (number i : ℕ) → Some i ≡ position (has_number number) tree → object_there tree i ≡ get_or tree i (object_there tree i)
stands_there tree number i place = same_element tree i root (object_there tree i) (place_found (has_number number) tree i place).0

module _ (tree : List Object) (number i : ℕ) (o : Object) (place : Some i ≡ position (has_number number) tree) (here : o ≡ get_or tree i o) (r : Request) where
  found : object_of tree number ≡ Some o
  found = found_at tree front (to number) i o place here

  pub fault_there : front_fault tree number r ≡ front_fault_in (Some o) r
  unfolding front_fault
  fault_there = ap (λ x. front_fault_in x r) found

  changed_there : front_fault_in (Some o) r ≡ None → after_request tree number r ≡ set tree i (changed_by o front r)
  unfolding after_request
  changed_there fine =
      ap (λ f. changed_where f tree (object_of tree number) r) (fault_there ∙ fine)
      ∙ ap (λ x. changed_where None tree x r) found
      ∙ placed tree front (to number) i o place here (changed_by o front r) (changed_ono o front r)

  pub changed_here : (new : List Object) → front_fault_in (Some o) r ≡ None → new ≡ set tree i (changed_by (get_or tree i o) front r) → new ≡ after_request tree number r
  changed_here new fine e = e ∙ ap (λ (x : Object). set tree i (changed_by x front r)) (sym here) ∙ sym (changed_there fine)

-- ---- whether its hardware refuses

abbrev pub told : Object → Bool → Object
told o truth = record o { failing = truth }

pub told_sound : (truth : Bool) (o : Object) → IsSound o → IsSound (told o truth)
told_sound truth o s = record { value = s.value; lock = s.lock }

pub not_told : (tree : List Object) (number : ℕ) (truth : Bool) → object_of tree number ≡ None → after_failing tree number truth ≡ tree
unfolding after_failing
not_told tree number truth e = ap (λ x. failing_where tree x truth) e

module _ (tree : List Object) (number i : ℕ) (o : Object) (place : Some i ≡ position (has_number number) tree) (here : o ≡ get_or tree i o) (truth : Bool) where
  pub told_there : after_failing tree number truth ≡ set tree i (told o truth)
  unfolding after_failing
  told_there =
      ap (λ x. failing_where tree x truth) (found_at tree front (to number) i o place here)
      ∙ placed tree front (to number) i o place here (told o truth) refl

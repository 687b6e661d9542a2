-- What a window retains judges each command as the whole list of accepted commands does, and stays that of the list as it grows.
use Rattle.std.proofs.Common.{◌≡◌, ℕ, ◌+◌, ◌-◌, ◌<◌, ◌≤◌, Bool, true, false, cond, List, [], ◌∷◌, ◌++◌, length, take, drop, Option, Some, None, refl, sym, ap, ◌∙◌, arith, append_assoc, length-append, length-drop, ◌⊎◌, inl, inr}
use Rattle.std.specs.Prelude.{is_some, nat_eq, nat_lt, max, not, ◌&&◌, ◌||◌}
use Rattle.std.specs.List.{list_any, list_all}
use Rattle.std.proofs.lemmas.List.{take-append-drop}
use Rattle.std.proofs.lemmas.List.Folds.{list_any-append}
use Rattle.std.proofs.lemmas.Bool.Decides.{nat_tests}
use Rattle.std.proofs.Math.Seq.{take-append-add, drop-append-add}
use Rattle.oca_types.specs.Peers.{CommandFields}
use Rattle.oca_session.specs.Accepted.{Entry, window, outside, has_handle, is_below, accepts, entry_under, Fresh, judge_unaccepted, judgement, higher_of, greatest, Retained, retained_of, AgreesWithAccepted}
use Rattle.oca_session.specs.Judging.{is_above, judge_entry, judgement_by_window, retained_after}

max_assoc : (a b c : ℕ) → max (max a b) c ≡ max a (max b c)
max_assoc a b c = omega arith

higher_of_assoc : (f g k : Option ℕ) → higher_of (higher_of f g) k ≡ higher_of f (higher_of g k)
higher_of_assoc None g k = refl
higher_of_assoc (Some a) None k = refl
higher_of_assoc (Some a) (Some b) None = refl
higher_of_assoc (Some a) (Some b) (Some c) = ap Some (max_assoc a b c)

greatest-append : (es fs : List Entry) → greatest (es ++ fs) ≡ higher_of (greatest es) (greatest fs)
greatest-append [] fs = refl
greatest-append (e ∷ es) fs =
    ap (higher_of (Some e.command.handle)) (greatest-append es fs)
    ∙ sym (higher_of_assoc (Some e.command.handle) (greatest es) (greatest fs))

-- h is above the greater of two numbers where it is above both
max_below : (f g h : ℕ) → nat_lt (max f g) h ≡ (nat_lt f h && nat_lt g h)
max_below f g h = grind (arith, nat_tests)

and_true : (a : Bool) → a ≡ (a && true)
and_true true = refl
and_true false = refl

is_above-higher_of : (f g : Option ℕ) (h : ℕ) → is_above (higher_of f g) h ≡ (is_above f h && is_above g h)
is_above-higher_of None g h = refl
is_above-higher_of (Some f) None h = and_true (nat_lt f h)
is_above-higher_of (Some f) (Some g) h = max_below f g h

-- a handle is above the greatest where it is above each
is_above-greatest : (es : List Entry) (h : ℕ) → is_above (greatest es) h ≡ list_all (is_below h) es
is_above-greatest [] h = refl
is_above-greatest (e ∷ es) h =
    is_above-higher_of (Some e.command.handle) (greatest es) h ∙ ap (λ b. nat_lt e.command.handle h && b) (is_above-greatest es h)

-- none of those below h has the handle h
none_has : (es : List Entry) (h : ℕ) → list_all (is_below h) es ≡ true → list_any (has_handle h) es ≡ false
none_has [] h p = refl
none_has (e ∷ es) h p =
    let parts = both (nat_lt e.command.handle h) (list_all (is_below h) es) p in
    neither (has_handle h e) (list_any (has_handle h) es) (other e.command.handle h parts.0) (none_has es h parts.1)
  where
    both : (a b : Bool) → (a && b) ≡ true → (a ≡ true) × (b ≡ true)
    both true b q = (refl, q)
    both false b q = cc

    neither : (a b : Bool) → a ≡ false → b ≡ false → (a || b) ≡ false
    neither a b q r = cc

    other : (n k : ℕ) → nat_lt n k ≡ true → nat_eq n k ≡ false
    other n k q = grind (arith, nat_tests)

-- x: outside has it; y: the window has it; z: all outside is below
split : (x y z : Bool) → (z ≡ true → x ≡ false) → (not y && z) ≡ (not (x || y) && z)
split true true true f = refl
split true true false f = refl
split true false true f = let wrong : true ≡ false = f refl in cc
split true false false f = refl
split false y z f = refl

-- the two parts are the list
parts : {X : Type 0} (w : ℕ) (A : List X) → outside w A ++ window w A ≡ A
parts w A = take-append-drop (length A - w) A

-- an entry is found exactly where one has the handle
any_is_found : (h : ℕ) (es : List Entry) → list_any (has_handle h) es ≡ is_some (entry_under h es)
any_is_found h [] = refl
any_is_found h (e ∷ es) = by_test (has_handle h e) (any_is_found h es)
  where
    by_test : (b : Bool) → list_any (has_handle h) es ≡ is_some (entry_under h es) →
        (b || list_any (has_handle h) es) ≡ is_some (cond b (Some e) (entry_under h es))
    by_test true found = refl
    by_test false found = found

judge_entry_cases : (found : Option Entry) (above : Bool) (c : CommandFields)
    → judge_entry found above c ≡ cond (not (is_some found) && above) Fresh (judge_unaccepted found c)
judge_entry_cases (Some e) above c = refl
judge_entry_cases None true c = refl
judge_entry_cases None false c = refl

-- From what is retained a command is judged as from the whole list.
pub judgement_by_window-retained_of : (w : ℕ) (A : List Entry) (c : CommandFields) → judgement_by_window (retained_of w A) c ≡ judgement w A c
judgement_by_window-retained_of w A c =
    let h = c.handle in
    let out = outside w A in
    let kept = window w A in
    let below = list_all (is_below h) out in
    let whole : list_any (has_handle h) A ≡ (list_any (has_handle h) out || list_any (has_handle h) kept)
    = sym (ap (list_any (has_handle h)) (parts w A)) ∙ list_any-append (has_handle h) out kept in
    let same : (not (is_some (entry_under h kept)) && is_above (greatest out) h) ≡ accepts w A h =
    ap (λ b. not b && is_above (greatest out) h) (sym (any_is_found h kept))
    ∙ ap (λ b. not (list_any (has_handle h) kept) && b) (is_above-greatest out h)
    ∙ split (list_any (has_handle h) out) (list_any (has_handle h) kept) below (none_has out h)
    ∙ ap (λ b. not b && below) (sym whole) in
    judge_entry_cases (entry_under h kept) (is_above (greatest out) h) c
    ∙ ap (λ b. cond b Fresh (judge_unaccepted (entry_under h kept) c)) same

-- where the window agrees with the accepted commands, it judges as they do
pub judgement_by_window_agreed : (w : ℕ) (A : List Entry) (k : Retained) (c : CommandFields) → AgreesWithAccepted w A k → judgement_by_window k c ≡ judgement w A c
judgement_by_window_agreed w A k c e = ap (λ x. judgement_by_window x c) e ∙ judgement_by_window-retained_of w A c

-- What was pushed out stays out as the rest grows, and the window looks at the rest alone.
window_rest : {X : Type 0} (w : ℕ) (out rest : List X) → w ≤ length rest → window w (out ++ rest) ≡ window w rest
window_rest w out rest h =
    let long : length (out ++ rest) - w ≡ length out + (length rest - w) = rw length-append (omega arith) in
    ap (λ n. drop n (out ++ rest)) long ∙ drop-append-add out rest (length rest - w)

outside_rest : {X : Type 0} (w : ℕ) (out rest : List X) → w ≤ length rest → outside w (out ++ rest) ≡ out ++ outside w rest
outside_rest w out rest h =
    let long : length (out ++ rest) - w ≡ length out + (length rest - w) = rw length-append (omega arith) in
    ap (λ n. take n (out ++ rest)) long ∙ take-append-add out rest (length rest - w)

-- the list with one more, as what was pushed out and the rest
regrouped : {X : Type 0} (w : ℕ) (A : List X) (e : X) → A ++ e ∷ [] ≡ outside w A ++ (window w A ++ e ∷ [])
regrouped w A e = ap (λ xs. xs ++ e ∷ []) (sym (parts w A)) ∙ append_assoc (outside w A) (window w A) (e ∷ [])

lt_or_le : (a b : ℕ) → (a < b) ⊎ (b ≤ a)
lt_or_le a b = grind arith

-- Either nothing was pushed out yet, or the window is full.
full_or_all : {X : Type 0} (w : ℕ) (A : List X) (e : X) →
    (outside w A ≡ []) ⊎ (w ≤ length (window w A ++ e ∷ []))
full_or_all w A e = elim (lt_or_le (length A) w) [
  | inl h ↦ let none : length A - w ≡ 0 = omega arith in inl (ap (λ n. take n A) none)
  | inr h ↦ inr (rw (length-append, length-drop) (omega arith))
]

-- with nothing pushed out before, the rest is all
from_rest : {X : Type 0} (w : ℕ) (out rest : List X) → (out ≡ []) ⊎ (w ≤ length rest) →
    (window w (out ++ rest) ≡ window w rest) × (outside w (out ++ rest) ≡ out ++ outside w rest)
from_rest w out rest h = elim h [
  | inl e ↦ (ap (λ xs. window w (xs ++ rest)) e, ap (λ xs. outside w (xs ++ rest)) e ∙ sym (ap (λ xs. xs ++ outside w rest) e))
  | inr l ↦ (window_rest w out rest l, outside_rest w out rest l)
]

-- What is retained of a list, with one more command, is what is retained of the longer list.
pub retained_after-retained_of : (w : ℕ) (A : List Entry) (e : Entry) → retained_after (retained_of w A) e ≡ retained_of w (A ++ e ∷ [])
retained_after-retained_of w A e =
    let rest = window w A ++ e ∷ [] in
    let split = from_rest w (outside w A) rest (full_or_all w A e) in
    let entries : window w rest ≡ window w (A ++ e ∷ []) =
    sym (ap (window w) (regrouped w A e) ∙ split.0) in
    let floor : higher_of (greatest (outside w A)) (greatest (outside w rest)) ≡ greatest (outside w (A ++ e ∷ [])) =
    sym (greatest-append (outside w A) (outside w rest))
    ∙ ap greatest (sym (ap (outside w) (regrouped w A e) ∙ split.1)) in
    ap (λ (p : List Entry × Option ℕ). record { size = w; entries = p.0; floor = p.1 }) (pair entries floor)
  where
    pair : {X Y : Type 0} {a b : X} {c d : Y} → a ≡ b → c ≡ d → let p : X × Y = (a, c) in let q : X × Y = (b, d) in p ≡ q
    pair {X} {Y} {a} {b} {c} {d} p q = ap (λ x. (x, c)) p ∙ ap (λ y. (b, y)) q

-- and it agrees after one more
pub retained_after_agreed : (w : ℕ) (A : List Entry) (k : Retained) (e : Entry) → AgreesWithAccepted w A k → AgreesWithAccepted w (A ++ e ∷ []) (retained_after k e)
retained_after_agreed w A k e h = ap (λ x. retained_after x e) h ∙ retained_after-retained_of w A e

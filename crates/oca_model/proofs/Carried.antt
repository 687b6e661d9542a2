-- The texts that a request carries are texts of at most 64 bytes.
use Rattle.oca_model.proofs.Terms.{◌≡◌, ℕ, zero, suc, ◌+◌, ◌<◌, ◌≤◌, ◌^◌, Bool, true, false, List, [], ◌∷◌, length, drop, refl, subst, arith, Ok, option_map, option_and_then, w16, Class, Method, bool_at, Request, Malformed, IsText, Each, list_of_most, whole, pair_at, as_request, or_fault}
use Rattle.std.proofs.Common.{◌==◌, cond, ◌&&◌, take, Option, Some, None}
use Rattle.std.specs.Prelude.{IsUtf8, nat_lt, Result, Err}
use Rattle.std.specs.List.{find, range_with_len}
use Rattle.std.specs.Str.{chars, is_utf8}
use Rattle.std.proofs.lemmas.Bool.{and_parts}
use Rattle.std.proofs.lemmas.Str.{IsUtf8-from_is_utf8, encodes-chars, length-le-encodes}
use Rattle.oca_types.specs.declared.class.Method.TheVariants as methods
use Rattle.oca_types.specs.Reading.{unsigned_at, is_text_of, text_front, text_at}
use Rattle.oca_model.specs.declared.request.Request.TheVariants as requests
use Rattle.oca_model.specs.declared.value.ValueFault.{ValueFault}
use Rattle.oca_model.specs.Parameters.{items_at}
use Rattle.oca_model.specs.Requests.{bare, counted, request_in}
use Rattle.oca_model.specs.Values.{all, value_in}

-- ---- a text that a command carries

-- what is found passes the test and is one of the list
found_below : (p : ℕ → Bool) (low n k : ℕ) → find p (range_with_len low n) ≡ Some k → (p k ≡ true) × (k < low + n)
found_below p low zero k e = absurd (cc)
found_below p low (suc n) k e = by (p low) refl (found_below p (low + 1) n k) e
  where
    by : (b : Bool) → p low ≡ b → (find p (range_with_len (low + 1) n) ≡ Some k → (p k ≡ true) × (k < low + 1 + n)) → cond b (Some low) (find p (range_with_len (low + 1) n)) ≡ Some k → (p k ≡ true) × (k < low + suc n)
    by true t next h = let same : low ≡ k = cc in (subst (λ (x : ℕ). p x ≡ true) same t, omega (arith, same))
    by false t next h = let r = next h in (r.0, omega (arith, r.1))

take_few : (k : ℕ) (bytes : List ℕ) → length (take k bytes) ≤ k
take_few zero bytes = omega arith
take_few (suc k) [] = omega arith
take_few (suc k) (b ∷ bs) = omega (arith, take_few k bs)

few_chars : (text : List ℕ) → IsUtf8 text → length text ≤ 64 → length (chars text) < 2 ^ 16
few_chars text u few = let least : length (chars text) ≤ length text = subst (λ l. length (chars text) ≤ length l) (encodes-chars text u) (length-le-encodes (chars text)) in omega (arith, few, least)

front_read : (n : ℕ) (bytes : List ℕ) (x : List ℕ × List ℕ) → text_front n bytes ≡ Some x → IsText x.0
unfolding text_front
front_read n bytes x e = by (find (λ k. is_text_of n (take k bytes)) (range_with_len 0 65)) refl e
  where
    by : (o : Option ℕ) → find (λ k. is_text_of n (take k bytes)) (range_with_len 0 65) ≡ o
        → option_map (λ k. (take k bytes, drop k bytes)) o ≡ Some x → IsText x.0
    by None q h = absurd (cc)
    by (Some k) q h =
        let r = found_below (λ k. is_text_of n (take k bytes)) 0 65 k q in
        let utf8 = IsUtf8-from_is_utf8 (take k bytes) (and_parts (is_utf8 (take k bytes)) (length (chars (take k bytes)) == n) r.0).0 in
        let few : length (take k bytes) ≤ 64 = omega (arith, take_few k bytes, r.1) in
        let same : (take k bytes, drop k bytes) ≡ x = cc in
        subst (λ (y : List ℕ × List ℕ). IsText y.0) same (utf8, few_chars (take k bytes) utf8 few, few)

text_read : (bytes : List ℕ) (x : List ℕ × List ℕ) → text_at bytes ≡ Some x → IsText x.0
unfolding text_at
text_read bytes x e = by (unsigned_at w16 bytes) e
  where
    by : (o : Option (ℕ × List ℕ)) → option_and_then (λ n. text_front n.0 n.1) o ≡ Some x → IsText x.0
    by None h = absurd (cc)
    by (Some n) h = front_read n.0 n.1 x h

whole_read : {X : Type 0} (P : X → Type 0) (o : Option (X × List ℕ)) (x : X) → ((y : X × List ℕ) → o ≡ Some y → P y.0) → whole o ≡ Some x → P x
whole_read P None x h e = absurd (cc)
whole_read P (Some (y, [])) x h e = let same : y ≡ x = cc in subst P same (h (y, []) refl)
whole_read P (Some (y, b ∷ rest)) x h e = absurd (cc)

with_read : {X : Type 0} (P : X → Type 0) (number count : ℕ) (read : List ℕ → Option (X × List ℕ)) (params : List ℕ) (x : X)
    → ((y : X × List ℕ) → read params ≡ Some y → P y.0) → counted number count (all read params) ≡ Ok x → P x
with_read {X = X} P number count read params x h e = by (count == number) (whole (read params)) (λ y q. whole_read P (read params) y h q) e
  where
    by : (b : Bool) (o : Option X) → ((y : X) → o ≡ Some y → P y) → cond b (or_fault Malformed o) (Err Malformed) ≡ Ok x → P x
    by true (Some y) is t = let same : y ≡ x = cc in subst P same (is y refl)
    by true None is t = let no : ⊥ = cc in absurd no
    by false o is t = let no : ⊥ = cc in absurd no

second_read : (params : List ℕ) (y : (ℕ × List ℕ) × List ℕ) → pair_at (unsigned_at w16) text_at params ≡ Some y → IsText y.0.1
second_read params y e = by (unsigned_at w16 params) e
  where
    pair_with : (n : ℕ) (o : Option (List ℕ × List ℕ)) → ((t : List ℕ × List ℕ) → o ≡ Some t → IsText t.0)
        → option_map (λ t. ((n, t.0), t.1)) o ≡ Some y → IsText y.0.1
    pair_with n None is h = absurd (cc)
    pair_with n (Some t) is h = let same : ((n, t.0), t.1) ≡ y = cc in subst (λ (z : (ℕ × List ℕ) × List ℕ). IsText z.0.1) same (is t refl)

    by : (o : Option (ℕ × List ℕ)) → option_and_then (λ x. option_map (λ t. ((x.0, t.0), t.1)) (text_at x.1)) o ≡ Some y → IsText y.0.1
    by None h = absurd (cc)
    by (Some x) h = pair_with x.0 (text_at x.1) (text_read x.1) h

items_read : (n : ℕ) (bytes : List ℕ) (y : List (List ℕ) × List ℕ) → items_at text_at n bytes ≡ Some y → Each IsText y.0
unfolding items_at
items_read zero bytes y e = let same : ([], bytes) ≡ y = cc in subst (λ (z : List (List ℕ) × List ℕ). Each IsText z.0) same tt
items_read (suc n) bytes y e = by (text_at bytes) (text_read bytes) (items_read n) e
  where
    pair_with : (t : List ℕ) (o : Option (List (List ℕ) × List ℕ)) → IsText t → ((z : List (List ℕ) × List ℕ) → o ≡ Some z → Each IsText z.0)
        → option_map (λ z. (t ∷ z.0, z.1)) o ≡ Some y → Each IsText y.0
    pair_with t None is more h = absurd (cc)
    pair_with t (Some z) is more h =
        let same : (t ∷ z.0, z.1) ≡ y = cc in
        subst (λ (x : List (List ℕ) × List ℕ). Each IsText x.0) same (is, more z refl)

    by : (o : Option (List ℕ × List ℕ)) → ((t : List ℕ × List ℕ) → o ≡ Some t → IsText t.0)
        → ((after : List ℕ) (z : List (List ℕ) × List ℕ) → items_at text_at n after ≡ Some z → Each IsText z.0)
        → option_and_then (λ x. option_map (λ z. (x.0 ∷ z.0, z.1)) (items_at text_at n x.1)) o ≡ Some y → Each IsText y.0
    by None is more h = absurd (cc)
    by (Some x) is more h = pair_with x.0 (items_at text_at n x.1) (is x refl) (more x.1) h

list_read : (bytes : List ℕ) (y : List (List ℕ) × List ℕ) → list_of_most 16 text_at bytes ≡ Some y → Each IsText y.0
list_read bytes y e = by (unsigned_at w16 bytes) e
  where
    test : (b : Bool) (n : ℕ) (after : List ℕ) → cond b None (items_at text_at n after) ≡ Some y → Each IsText y.0
    test false n after h = items_read n after y h
    test true n after h = absurd (cc)

    by : (o : Option (ℕ × List ℕ)) → option_and_then (λ n. cond (nat_lt 16 n.0) None (items_at text_at n.0 n.1)) o ≡ Some y → Each IsText y.0
    by None h = absurd (cc)
    by (Some x) h = test (nat_lt 16 x.0) x.0 x.1 h

-- ---- what is asked

-- the texts that a request sets are texts
unfoldable pub SetsTexts : Request → Type 0
SetsTexts (requests.SetLabel text) = IsText text
SetsTexts (requests.SetPositionName n text) = IsText text
SetsTexts (requests.SetPositionNames texts) = Each IsText texts.items
SetsTexts _ = Unit {0}

plainly : (q r : Request) (count : ℕ) (params : List ℕ) → SetsTexts q → bare q count params ≡ Ok r → SetsTexts r
plainly q r count params h e = by ((count == 0) && (length params == 0)) e
  where
    by : (b : Bool) → cond b (Ok q) (Err Malformed) ≡ Ok r → SetsTexts r
    by true t = let same : q ≡ r = cc in subst SetsTexts same h
    by false t = let no : ⊥ = cc in absurd no

asked : {X : Type 0} (f : X → Request) (read : Result X ValueFault) (r : Request) → ((x : X) → read ≡ Ok x → SetsTexts (f x)) → as_request f read ≡ Ok r → SetsTexts r
asked f (Err fault) r h e = let no : ⊥ = cc in absurd no
asked f (Ok x) r h e = let same : f x ≡ r = cc in subst SetsTexts same (h x refl)

pub asked_texts : (of : Class) (method : Method) (count : ℕ) (params : List ℕ) (r : Request) → request_in of method count params ≡ Ok r → SetsTexts r
unfolding request_in SetsTexts
asked_texts of methods.SetState count params r e = asked requests.Set (counted 1 count (value_in of params)) r (λ x q. tt) e
asked_texts of methods.SetPosition count params r e = asked requests.Set (counted 1 count (value_in of params)) r (λ x q. tt) e
asked_texts of methods.SetSetting count params r e = asked requests.Set (counted 1 count (value_in of params)) r (λ x q. tt) e
asked_texts of methods.SetEnabled count params r e = asked requests.SetEnabled (counted 1 count (all bool_at params)) r (λ x q. tt) e
asked_texts of methods.SetLabel count params r e =
    asked requests.SetLabel (counted 1 count (all text_at params)) r (λ x q. with_read IsText 1 count text_at params x (text_read params) q) e
asked_texts of methods.GetPositionName count params r e = asked requests.GetPositionName (counted 1 count (all (unsigned_at w16) params)) r (λ x q. tt) e
asked_texts of methods.SetPositionName count params r e =
    asked (λ x. requests.SetPositionName x.0 x.1) (counted 2 count (all (pair_at (unsigned_at w16) text_at) params)) r
    (λ x q. with_read (λ (y : ℕ × List ℕ). IsText y.1) 2 count (pair_at (unsigned_at w16) text_at) params x (second_read params) q) e
asked_texts of methods.SetPositionNames count params r e =
    asked (λ xs. requests.SetPositionNames (record { items = xs })) (counted 1 count (all (list_of_most 16 text_at) params)) r
    (λ x q. with_read (Each IsText) 1 count (list_of_most 16 text_at) params x (list_read params) q) e
asked_texts of methods.GetPositionEnabled count params r e = asked requests.GetPositionEnabled (counted 1 count (all (unsigned_at w16) params)) r (λ x q. tt) e
asked_texts of methods.SetPositionEnabled count params r e = asked (λ x. requests.SetPositionEnabled x.0 x.1) (counted 2 count (all (pair_at (unsigned_at w16) bool_at) params)) r (λ x q. tt) e
asked_texts of methods.SetPositionEnableds count params r e = asked (λ xs. requests.SetPositionEnableds (record { items = xs })) (counted 1 count (all (list_of_most 16 bool_at) params)) r (λ x q. tt) e
asked_texts of _ count params r e = plainly _ r count params tt e

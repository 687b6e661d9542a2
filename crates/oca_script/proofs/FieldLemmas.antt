-- Facts on numbers and fields.
use Rattle.std.proofs.Common.{◌≡◌, ℕ, suc, ◌+◌, ◌-◌, ◌*◌, ◌<◌, ◌≤◌, ◌==◌, true, false, ◌||◌, inl, inr, List, [], ◌∷◌, ◌++◌, length, drop, get_or, Option, Some, None, refl, sym, ap, ◌∙◌, arith, cond, ltb}
use Rattle.std.proofs.lemmas.Bool.{cases_lt}
use Rattle.std.proofs.lemmas.Bool.Decides.{nat_tests}
use Rattle.std.specs.Option.{option_map}
use Rattle.std.proofs.Math.Seq.{drop-cons}
use Rattle.oca_script.specs.Fields.{value_after, at_most, number_of, split_at, fields, onto_first}

-- a digit behind a number
pub value_after-digit : (n c : ℕ) (cs : List ℕ) → 48 ≤ c → c ≤ 57 → value_after n (c ∷ cs) ≡ value_after (n * 10 + (c - 48)) cs
value_after-digit n c cs low high = grind (arith, nat_tests)

-- a byte below the digits ends the value
pub value_after-low : (n c : ℕ) (cs : List ℕ) → c < 48 → value_after n (c ∷ cs) ≡ None
value_after-low n c cs low = grind (arith, nat_tests)

-- a byte above the digits ends the value
pub value_after-high : (n c : ℕ) (cs : List ℕ) → 57 < c → value_after n (c ∷ cs) ≡ None
value_after-high n c cs low = grind (arith, nat_tests)

-- the digits make the number no smaller
pub at_most-over : (largest n : ℕ) (ds : List ℕ) → largest < n → at_most largest (value_after n ds) ≡ None
unfolding at_most
at_most-over largest n [] over = grind (arith, nat_tests)
at_most-over largest n (c ∷ cs) over =
    elim (cases_lt c 48) [
      | inl low ↦ rw (value_after-low n c cs low) refl
      | inr above ↦ elim (cases_lt 57 c) [
        | inl high ↦ rw (value_after-high n c cs high) refl
        | inr digit ↦ rw (value_after-digit n c cs above digit) (at_most-over largest (n * 10 + (c - 48)) cs (omega arith))
      ]
    ]

pub ruleset number_rules = (value_after-digit, value_after-low, value_after-high, at_most-over)

-- the fields, by where the first space stands
abbrev cut_fields : List ℕ → Option (List ℕ × List ℕ) → List (List ℕ)
cut_fields s None = s ∷ []
cut_fields s (Some p) = p.0 ∷ fields p.1

fields-by : (s : List ℕ) → fields s ≡ cut_fields s (split_at 32 s)
fields-by [] = refl
fields-by (b ∷ bs) =
    elim (b == 32) as (λ v. cond v ([] ∷ fields bs) (onto_first b (fields bs))
    ≡ cut_fields (b ∷ bs) (cond v (Some ([], bs)) (option_map (λ p. (b ∷ p.0, p.1)) (split_at 32 bs)))) [
      | true ↦ refl
      | false ↦ ap (onto_first b) (fields-by bs) ∙ joined (split_at 32 bs)
    ]
  where
    joined : (r : Option (List ℕ × List ℕ)) → onto_first b (cut_fields bs r) ≡ cut_fields (b ∷ bs) (option_map (λ p. (b ∷ p.0, p.1)) r)
    joined None = refl
    joined (Some p) = refl

-- without a space there is one field
pub fields-one : (s : List ℕ) → split_at 32 s ≡ None → fields s ≡ s ∷ []
fields-one s e = fields-by s ∙ ap (cut_fields s) e

-- the first field, and those behind its space
pub fields-more : (s front rest : List ℕ) → split_at 32 s ≡ Some (front, rest) → fields s ≡ front ∷ fields rest
fields-more s front rest e = fields-by s ∙ ap (cut_fields s) e

pub ruleset field_rules = (fields-one, fields-more)

-- a number that is too large at one digit is too large with those behind it
pub number-too_large : (most largest v i : ℕ) (ds : List ℕ) → 0 < length ds → length ds ≤ most → i < length ds
    → 48 ≤ get_or ds i 0 → get_or ds i 0 ≤ 57 → largest < v * 10 + (get_or ds i 0 - 48)
    → at_most largest (value_after 0 ds) ≡ at_most largest (value_after v (drop i ds)) → None ≡ number_of most largest ds
unfolding number_of
number-too_large most largest v i ds some few within low high over so =
    let one : ((length ds == 0) || ltb most (length ds)) ≡ false = grind (arith, nat_tests) in
    rw one (sym (so ∙ ap (λ (r : List ℕ). at_most largest (value_after v r)) (drop-cons ds i 0 within)
    ∙ ap (at_most largest) (value_after-digit v (get_or ds i 0) (drop (suc i) ds) low high)
    ∙ at_most-over largest (v * 10 + (get_or ds i 0 - 48)) (drop (suc i) ds) over))

-- ---- how many fields there are

-- there is at least one field
pub record AtLeastOne (fs : List (List ℕ)) : Type 0 where
  pub first : List ℕ
  pub others : List (List ℕ)
  pub are : fs ≡ first ∷ others

onto_first-some : (b : ℕ) (fs : List (List ℕ)) → AtLeastOne (onto_first b fs)
onto_first-some b [] = record { first = b ∷ []; others = []; are = refl }
onto_first-some b (f ∷ fs) = record { first = b ∷ f; others = fs; are = refl }

pub fields-some : (s : List ℕ) → AtLeastOne (fields s)
fields-some [] = record { first = []; others = []; are = refl }
fields-some (b ∷ bs) =
    elim (b == 32) as (λ v. AtLeastOne (cond v ([] ∷ fields bs) (onto_first b (fields bs)))) [
      | true ↦ record { first = []; others = fields bs; are = refl }
      | false ↦ onto_first-some b (fields bs)
    ]

-- What is left to put, as a loop goes on.
use Rattle.oca_tree.proofs.Words.{◌≡◌, ℕ, ◌+◌, ◌<◌, Bool, true, false, cond, List, ◌∷◌, ◌++◌, length, drop, get_or, sym, ap, ◌∙◌, append_assoc, length-append, arith, flat_map, filter, Result, Ok, Err}
use Rattle.std.specs.Prelude.{is_err}
use Rattle.oca_types.specs.Putting.{Puts}
use Rattle.oca_model.proofs.Steps.{full_early, left}

module _ {X : Type 0} (f : X → List ℕ) (xs : List X) (i : ℕ) (x : X) (within : i < length xs) (here : x ≡ get_or xs i x) where
  module _ (p : X → Bool) where
    kept : p x ≡ true → filter p (drop i xs) ≡ x ∷ filter p (drop (i + 1) xs)
    kept t = ap (filter p) (left f xs i x within here) ∙ ap (λ b. cond b (x ∷ filter p (drop (i + 1) xs)) (filter p (drop (i + 1) xs))) t

    passed : p x ≡ false → filter p (drop i xs) ≡ filter p (drop (i + 1) xs)
    passed t = ap (filter p) (left f xs i x within here) ∙ ap (λ b. cond b (x ∷ filter p (drop (i + 1) xs)) (filter p (drop (i + 1) xs))) t

    pub put_step_kept : (out all : List ℕ) → p x ≡ true → out ++ flat_map f (filter p (drop i xs)) ≡ all → (out ++ f x) ++ flat_map f (filter p (drop (i + 1) xs)) ≡ all
    put_step_kept out all t e = append_assoc out (f x) (flat_map f (filter p (drop (i + 1) xs))) ∙ sym (ap (λ ys. out ++ flat_map f ys) (kept t)) ∙ e

    pub put_full_kept : (out old all : List ℕ) → p x ≡ true → out ++ flat_map f (filter p (drop i xs)) ≡ old ++ all → 1452 < length out + length (f x) → 1452 < length old + length all
    put_full_kept out old all t e h = full_early out (f x) (flat_map f (filter p (drop (i + 1) xs))) old all (sym (ap (λ ys. out ++ flat_map f ys) (kept t)) ∙ e) h

    pub put_step_passed : (out all : List ℕ) → p x ≡ false → out ++ flat_map f (filter p (drop i xs)) ≡ all → out ++ flat_map f (filter p (drop (i + 1) xs)) ≡ all
    put_step_passed out all t e = sym (ap (λ ys. out ++ flat_map f ys) (passed t)) ∙ e

    -- how many are left
    pub count_kept : (n m : ℕ) → p x ≡ true → n + length (filter p (drop i xs)) ≡ m → (n + 1) + length (filter p (drop (i + 1) xs)) ≡ m
    count_kept n m t e = omega (arith, e, ap length (kept t))

    pub count_passed : (n m : ℕ) → p x ≡ false → n + length (filter p (drop i xs)) ≡ m → n + length (filter p (drop (i + 1) xs)) ≡ m
    count_passed n m t e = omega (arith, e, ap length (passed t))

-- bytes that come after others
pub puts_after : {Y E : Type 0} (r : Result Y E) (old mid new a bytes : List ℕ) → mid ≡ old ++ a → Puts r mid new bytes → Puts r old new (a ++ bytes)
puts_after (Ok _) old mid new a bytes e h = h ∙ ap (λ xs. xs ++ bytes) e ∙ append_assoc old a bytes
puts_after (Err _) old mid new a bytes e h = omega (arith, ap length e, length-append old a, length-append a bytes)

pub puts_three : {Y E : Type 0} (r : Result Y E) (old one two new a b bytes : List ℕ) → one ≡ old ++ a → two ≡ one ++ b → Puts r two new bytes → Puts r old new (a ++ b ++ bytes)
puts_three r old one two new a b bytes e f h = puts_after r old two new (a ++ b) bytes (f ∙ ap (λ xs. xs ++ b) e ∙ append_assoc old a b) h

pub puts_err : {Y E : Type 0} (r : Result Y E) (old new bytes : List ℕ) → is_err r ≡ true → Puts r old new bytes → 1452 < length old + length bytes
puts_err (Ok _) old new bytes e h = absurd (cc)
puts_err (Err _) old new bytes e h = h

pub puts_ok : {Y E : Type 0} (r : Result Y E) (old new bytes : List ℕ) → is_err r ≡ false → Puts r old new bytes → new ≡ old ++ bytes
puts_ok (Ok _) old new bytes e h = h
puts_ok (Err _) old new bytes e h = absurd (cc)

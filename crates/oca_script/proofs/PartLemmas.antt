-- What stands before a separator.
use Rattle.std.proofs.Common.{◌≡◌, ◌⊎◌, ℕ, ◌==◌, true, false, List, [], ◌∷◌, ◌++◌, Option, Some, None, refl, ap, ◌∙◌, arith}
use Rattle.std.proofs.lemmas.Bool.Decides.{nat_tests}
use Rattle.std.specs.Option.{option_map}
use Rattle.oca_script.specs.Fields.{split_at, then_in, read_before}

-- ---- splitting

-- the byte does not stand in the text
abbrev pub Free : ℕ → List ℕ → Type 0
Free s [] = Unit {0}
Free s (b ∷ bs) = ((b == s) ≡ false) × Free s bs

-- a byte that stands in neither text stands nowhere in both
pub free-append : (s : ℕ) (xs ys : List ℕ) → Free s xs → Free s ys → Free s (xs ++ ys)
free-append s [] ys h k = k
free-append s (x ∷ xs) ys h k = (h.0, free-append s xs ys h.1 k)

-- the first separator stands behind a text that has none
pub free-after : (s : ℕ) (front rest : List ℕ) → Free s front → split_at s (front ++ s ∷ rest) ≡ Some (front, rest)
free-after s [] rest h = let same : (s == s) ≡ true = grind (arith, nat_tests) in rw same refl
free-after s (b ∷ bs) rest h = rw h.0 (ap (option_map (λ p. (b ∷ p.0, p.1))) (free-after s bs rest h.1))

-- a text without the separator is not split
pub free-nowhere : (s : ℕ) (text : List ℕ) → Free s text → split_at s text ≡ None
free-nowhere s [] h = refl
free-nowhere s (b ∷ bs) h = rw h.0 (ap (option_map (λ p. (b ∷ p.0, p.1))) (free-nowhere s bs h.1))

-- ---- reading

-- what is read of the text before the first separator
pub record Before {A : Type 0} (read : List ℕ → Option A) (s : ℕ) (text : List ℕ) (value : A) (rest : List ℕ) : Type 0 where
  pub front : List ℕ
  pub parted : split_at s text ≡ Some (front, rest)
  pub reads : read front ≡ Some value

pub before-value : {A : Type 0} (read : List ℕ → Option A) (s : ℕ) (text : List ℕ) (x : A) (rest : List ℕ)
    → read_before read s text ≡ Some (x, rest) → Before read s text x rest
before-value {A} read s text x rest e = by_split (split_at s text) refl e
  where
    by_reading : (front after : List ℕ) → split_at s text ≡ Some (front, after) → (o : Option A) → read front ≡ o
        → option_map {U = A × List ℕ} (λ y. (y, after)) o ≡ Some (x, rest) → Before read s text x rest
    by_reading front after q None r h = cc h
    by_reading front after q (Some y) r h =
        let pairs : (y, after) ≡ (x, rest) = cc h in
        record {
          front = front;
          parted = q ∙ ap (λ (l : List ℕ). Some (front, l)) (ap (λ (z : A × List ℕ). z.1) pairs);
          reads = r ∙ ap Some (ap (λ (z : A × List ℕ). z.0) pairs);
        }

    by_split : (o : Option (List ℕ × List ℕ)) → split_at s text ≡ o
        → then_in o (λ p. option_map {U = A × List ℕ} (λ y. (y, p.1)) (read p.0)) ≡ Some (x, rest) → Before read s text x rest
    by_split None q h = cc h
    by_split (Some (front, after)) q h = by_reading front after q (read front) refl h

-- A search for a byte cuts the text there.
use Rattle.std.proofs.Common.{◌≡◌, ℕ, suc, zero, ◌+◌, ◌<◌, ◌≤◌, ◌==◌, true, false, List, [], ◌∷◌, length, take, drop, Option, Some, None, refl, sym, ap, arith, cond, add-one}
use Rattle.std.specs.Option.{option_map}
use Rattle.std.specs.Prelude.{slice_index, nat_lt, ◌&&◌, Bool}
use Rattle.memchr.specs.Find.{Passes, Nowhere, is_byte}
use Rattle.std.specs.Bool.{MatchBool}
use Rattle.std.specs.Str.{IsAscii, IsNotAscii}
use Rattle.std.proofs.lemmas.Bool.{lt-ltb, le-ltb}
use Rattle.oca_script.specs.Script.{is_ascii}
use Rattle.oca_script.specs.Fields.{split_at}

-- no byte is the separator
pub split_at-nowhere : (sep : ℕ) (s : List ℕ) → Nowhere (Passes (is_byte sep) s) 0 (length s) → split_at sep s ≡ None
split_at-nowhere sep [] none = refl
split_at-nowhere sep (x ∷ xs) none =
    elim (x == sep) as (λ v. (x == sep ≡ v) → cond {A = Option (List ℕ × List ℕ)} v (Some ([], xs)) (option_map (λ p. (x ∷ p.0, p.1)) (split_at sep xs)) ≡ None) [
      | true ↦ λ e. absurd (none 0 (omega arith) (omega arith) e)
      | false ↦ λ e. ap (option_map (λ p. (x ∷ p.0, p.1))) (split_at-nowhere sep xs (λ k low high. none (suc k) (omega arith) (omega arith)))
    ] refl

-- the first is at k
first-cut : (sep : ℕ) (s : List ℕ) (k : ℕ) → k < length s → Nowhere (Passes (is_byte sep) s) 0 k → Passes (is_byte sep) s k
    → split_at sep s ≡ Some (take k s, drop (suc k) s)
first-cut sep [] k within before here = absurd (omega (arith, within))
first-cut sep (x ∷ xs) zero within before here = rw here refl
first-cut sep (x ∷ xs) (suc k) within before here =
    elim (x == sep) as (λ v. (x == sep ≡ v) → cond {A = Option (List ℕ × List ℕ)} v (Some ([], xs)) (option_map (λ p. (x ∷ p.0, p.1)) (split_at sep xs)) ≡ Some (x ∷ take k xs, drop (suc k) xs)) [
      | true ↦ λ e. absurd (before 0 (omega arith) (omega arith) e)
      | false ↦ λ e. ap (option_map (λ p. (x ∷ p.0, p.1))) (first-cut sep xs k (omega arith) (λ j low high. before (suc j) (omega arith) (omega arith)) here)
    ] refl

-- a text is split at the first separator
pub split_at-first : (sep : ℕ) (s : List ℕ) (k : ℕ) → k < length s → Nowhere (Passes (is_byte sep) s) 0 k → Passes (is_byte sep) s k
    → split_at sep s ≡ Some (take k s, drop (k + 1) s)
split_at-first sep s k within before here = rw add-one (first-cut sep s k within before here)

-- every byte is below 128, or one is not
pub ascii-all : (s : List ℕ) → IsAscii s → is_ascii s ≡ true
ascii-all [] all = refl
ascii-all (x ∷ xs) all =
    let low : nat_lt x 128 ≡ true = lt-ltb x 128 (all 0) in
    rw low (ascii-all xs (λ i. all (suc i)))

pub ascii-not : (s : List ℕ) (i : ℕ) → 128 ≤ slice_index s i → is_ascii s ≡ false
ascii-not [] i high = absurd (omega (arith, high))
ascii-not (x ∷ xs) zero high =
    let low : nat_lt x 128 ≡ false = le-ltb x 128 high in
    rw low refl
ascii-not (x ∷ xs) (suc i) high = elim (nat_lt x 128) as (λ v. (v && is_ascii xs) ≡ false) [
  | true ↦ ascii-not xs i high
  | false ↦ refl
]

-- the test of ASCII is that of the definition
pub ascii-told : (s : List ℕ) (r : Bool) → MatchBool r (IsAscii s) (IsNotAscii s) → r ≡ is_ascii s
ascii-told s true h = sym (ascii-all s h)
ascii-told s false h = sym (ascii-not s h.0 h.1)

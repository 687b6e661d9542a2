-- Hexadecimal digits are one field of a line.
use Rattle.std.proofs.Common.{◌≡◌, ℕ, ◌+◌, ◌*◌, ◌==◌, Bool, true, false, List, [], ◌∷◌, refl, sym, ap, ◌∙◌, arith}
use Rattle.std.specs.Prelude.{Result, Ok, Err}
use Rattle.std.proofs.lemmas.Bool.Decides.{nat_tests}
use Rattle.hex.specs.Hex.{value_at, pair_value, decode_pairs, ◌>>=◌}
use Rattle.hex.specs.declared.error.FromHexError.{FromHexError}
use Rattle.oca_script.specs.Fields.{fields}
use Rattle.oca_script.proofs.FieldLemmas.{fields-one}
use Rattle.oca_script.proofs.PartLemmas.{Free, free-nowhere}

-- a digit is no space
digit-free : (c i v : ℕ) → value_at c i ≡ Ok v → (c == 32) ≡ false
digit-free c i v e = by_test (c == 32) refl
  where
    by_test : (t : Bool) → (c == 32) ≡ t → t ≡ false
    by_test false h = refl
    by_test true h =
        let is : c ≡ 32 = grind (arith, nat_tests) in
        let no : value_at 32 i ≡ Ok v = sym (ap (λ (x : ℕ). value_at x i) is) ∙ e in
        cc no

-- a second step that gives a value follows a first that does
both : {A B : Type 0} (r : Result A FromHexError) (f : A → Result B FromHexError) (y : B) → (r >>= f) ≡ Ok y → (x : A) × (r ≡ Ok x) × (f x ≡ Ok y)
both (Ok x) f y e = (x, refl, e)
both (Err error) f y e = cc e

pairs-free : (i : ℕ) (t bytes : List ℕ) → decode_pairs i t ≡ Ok bytes → Free 32 t
unfolding decode_pairs
pairs-free i [] bytes e = tt
pairs-free i (d ∷ []) bytes e = cc e
pairs-free i (h ∷ l ∷ rest) bytes e =
    let p = both (pair_value h l i) (λ (byte : ℕ). decode_pairs (i + 2) rest >>= (λ (more : List ℕ). Ok (byte ∷ more))) bytes e in
    let q = both (value_at h i) (λ (high : ℕ). value_at l (i + 1) >>= (λ (low : ℕ). Ok (high * 16 + low))) p.0 p.1 in
    let r = both (value_at l (i + 1)) (λ (low : ℕ). Ok (q.0 * 16 + low)) p.0 q.2 in
    let s = both (decode_pairs (i + 2) rest) (λ (more : List ℕ). Ok (p.0 ∷ more)) bytes p.2 in
    (digit-free h i q.0 q.1, (digit-free l (i + 1) r.0 r.1, pairs-free (i + 2) rest s.0 s.1))

pub pairs-one_field : (t bytes : List ℕ) → decode_pairs 0 t ≡ Ok bytes → fields t ≡ t ∷ []
pairs-one_field t bytes e = fields-one t (free-nowhere 32 t (pairs-free 0 t bytes e))

pub ruleset hex_field_rules = (pairs-one_field)

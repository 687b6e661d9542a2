-- What the front of bytes is, where encodings have one length.
use Rattle.std.proofs.Common.{◌≡◌, ℕ, ◌-◌, ◌<◌, List, [], ◌∷◌, ◌++◌, length, Result, Ok, refl, sym, ap, ◌∙◌, arith, inl, inr}
use Rattle.std.specs.Prelude.{replicate}
use Rattle.std.proofs.lemmas.Bool.{cases_lt}
use Rattle.std.proofs.lemmas.List.{length-append, length-replicate, get_or_append_left, get_or-append_right, get_or-replicate, get_or_past}
use Rattle.oca_types.specs.declared.fault.ReadFault.{ReadFault}
use Rattle.oca_types.specs.Numbers.{IsBytes}
use Rattle.oca_types.specs.Fixed.{Codec, IsFixed}
use Rattle.oca_types.specs.Taking.{Takes, TakesEach, IsCutShort}
pub use Rattle.oca_types.specs.FixedNumbers.{unsigned_none, unsigned_some, signed_some, fixed_u8, fixed_u16, fixed_u32, fixed_u64, fixed_i8, fixed_i16, fixed_i32, fixed_i64, fixed_bool}

abbrev zeros : ℕ → List ℕ
zeros n = replicate n 0

-- equal lists split at one length have equal parts
pub split_same : (a b x y : List ℕ) → length a ≡ length b → a ++ x ≡ b ++ y → (a ≡ b) × (x ≡ y)
split_same [] [] x y l e = (refl, e)
split_same [] (b ∷ bs) x y l e = absurd (omega (arith, l))
split_same (a ∷ front) [] x y l e = absurd (omega (arith, l))
split_same (a ∷ front) (b ∷ bs) x y l e =
    let tails : front ++ x ≡ bs ++ y = cc in
    let heads : a ≡ b = cc in
    let r = split_same front bs x y (omega (arith, l)) tails in
    (rw (heads, r.0) refl, r.1)

-- what was read, with what is behind it
pub fixed_found : {V : Type 0} (codec : Codec V) (n : ℕ) → IsFixed codec n → (old front new : List ℕ) → length front ≡ n → IsBytes front → old ≡ front ++ new → Takes codec.IsEncoding (codec.value_in front) old new
fixed_found codec n fixed old front new l fits e = (front, fixed.whole front l fits, e)

-- what is read of a value of fixed size is the only value that the bytes encode
pub fixed_only : {V : Type 0} (codec : Codec V) (n : ℕ) → IsFixed codec n → (old front new : List ℕ) → length front ≡ n → old ≡ front ++ new → TakesEach codec.IsEncoding old (Ok (codec.value_in front)) new
fixed_only codec n fixed old front new l e = λ v other rest enc e2.
    let parts = split_same front other new rest (omega (arith, l, fixed.size v other enc)) (sym e ∙ e2) in
    let same : codec.value_in front ≡ v = ap codec.value_in parts.0 ∙ fixed.one v other enc in
    (ap (λ x. Ok x) same, parts.1)

pub fixed_none : {V : Type 0} (codec : Codec V) (n : ℕ) → IsFixed codec n → (old new : List ℕ) (r : Result V ReadFault) → length old < n → TakesEach codec.IsEncoding old r new
fixed_none codec n fixed old new r lt = λ v other rest enc e2.
    absurd (omega (arith, lt, fixed.size v other enc, ap length e2, length-append other rest))

IsBytes-append : (a b : List ℕ) → IsBytes a → IsBytes b → IsBytes (a ++ b)
IsBytes-append a b ha hb i = elim (cases_lt i (length a)) [
  | inl lt ↦ rw (get_or_append_left a b 0 i lt) (ha i)
  | inr le ↦ rw (get_or-append_right a b (length a) i 0 refl le) (hb (i - length a))
]

IsBytes-zeros : (n : ℕ) → IsBytes (zeros n)
IsBytes-zeros n i = elim (cases_lt i n) [
  | inl lt ↦ rw (get_or-replicate {A = ℕ} n i 0 0 lt) (omega arith)
  | inr le ↦ rw (get_or_past (zeros n) i 0 (omega (arith, le, length-replicate {A = ℕ} n 0))) (omega arith)
]

-- fewer bytes are cut short
pub fixed_short : {V : Type 0} (codec : Codec V) (n : ℕ) → IsFixed codec n → (old : List ℕ) → length old < n → IsBytes old → IsCutShort codec.IsEncoding old
fixed_short codec n fixed old lt fits =
    let more = zeros (n - length old) in
    let l : length more ≡ n - length old = length-replicate {A = ℕ} (n - length old) 0 in
    let whole : length (old ++ more) ≡ n = omega (arith, length-append old more, l, lt) in
    (codec.value_in (old ++ more), more, omega (arith, l, lt), fixed.whole (old ++ more) whole (IsBytes-append old more fits (IsBytes-zeros (n - length old))))

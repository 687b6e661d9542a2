-- The word for a value names that value again.
use Rattle.std.proofs.Common.{arith, ◌≡◌, ℕ, ◌<◌, ◌^◌, ◌*◌, true, false, List, ◌∷◌, Option, Some, None, refl, ap, subst, ◌∙◌, inl, inr}
use Rattle.std.specs.Prelude.{ℤ, pos, negsuc, suc, neg_ℤ, FitsSigned, decimal, Result, Ok, Err}
use Rattle.std.specs.Fmt.{signed_decimal}
use Rattle.std.specs.Int.{Width, w8, w16, w64, byte_len}
use Rattle.std.specs.Option.{SomeIff}
use Rattle.std.specs.Str.Parse.{IsNumeral, ParsesSigned, digits_value, without_leading_plus}
use Rattle.std.proofs.lemmas.Fmt.{parse-decimal, decimal_is_IsNumeral, parse-signed_decimal}
use Rattle.std.proofs.lemmas.Str.Parse.{numerals_by_value, tells_digits, parse_signed_minus}
use Rattle.std.proofs.lemmas.Result.{Ok-from_Ok_iff}
use Rattle.oca_model.specs.declared.value.MuteState.TheVariants.{Muted, Unmuted}
use Rattle.oca_model.specs.declared.value.PolarityState.TheVariants.{NonInverted, Inverted}
use Rattle.oca_model.specs.declared.value.Value.{Value}
use Rattle.oca_model.specs.declared.value.Value.TheVariants.{Mute, Polarity, Switch, Boolean}
use Rattle.oca_model.specs.Values.{IntegerType, Signed, Unsigned, class_of_value, integer_type, signed_number, unsigned_number}
use Rattle.oca_model.specs.Words.{IsNumberRead, IsRead, IsOneOf, IsSigned, IsUnsigned, word_of}
use Rattle.oca_calls.specs.CWords.{WordsAreReadBack}
use Rattle.oca_calls.proofs.Integers.{IsInteger, integer, signed_narrow, unsigned_narrow}

refused : {X E : Type 0} (e : E) (x : X) → Err e ≡ Ok x → ⊥
refused e x q = cc

both_ok : {X E : Type 0} (x y : X) → (p q : Result X E) → p ≡ Ok x → q ≡ Ok y → p ≡ q → x ≡ y
both_ok x y p q is js e = cc

below : (bits n : ℕ) (f : ℕ → Value) (found : Option Value) → n < 2 ^ bits → n < 2 ^ 64
    → SomeIff found (IsNumeral 10 (without_leading_plus (decimal n)) × (digits_value 10 (without_leading_plus (decimal n)) < 2 ^ bits)) (f (digits_value 10 (without_leading_plus (decimal n)))) → found ≡ Some (f n)
below bits n f None small few h = absurd (refused _ _ (parse-decimal {E = Unit {0}} bits n (decimal n) (Err tt) small few refl h))
below bits n f (Some y) small few h = ap Some (h.1 ∙ ap f (both_ok _ _ _ _ refl refl (parse-decimal {E = Unit {0}} bits n (decimal n) (Ok _) small few refl (h.0, refl))))

unsigned : (w : Width) (n : ℕ) (f : ℕ → Value) (found : Option Value) → n < 256 ^ byte_len w → n < 2 ^ 64 → IsUnsigned w f (decimal n) found → found ≡ Some (f n)
unsigned w8 n f found small few h = below 8 n f found small few h
unsigned w n f found small few h = below (8 * byte_len w) n f found small few h

-- the digits of a number have room in 64 bits
abbrev Small : ℤ → Type 0
Small (pos n) = n < 2 ^ 63
Small (negsuc n) = n < 2 ^ 63

parsed : (w : Width) (z : ℤ) (r : Result ℤ (Unit {0})) → FitsSigned w z → Small z → ParsesSigned w 10 (signed_decimal z) r → r ≡ Ok z
parsed w (pos n) r fits small h = parse-signed_decimal w (pos n) _ r fits small refl h
parsed w (negsuc n) r fits small h =
    let k = decimal_is_IsNumeral (suc n) (omega (arith, small)) in
    let read = parse_signed_minus (numerals_by_value _ tells_digits) w (45 ∷ decimal (suc n)) r h refl in
    Ok-from_Ok_iff r _ _ read (k.0.1, k.0.0, omega (arith, k.1, fits.sfits)) ∙ ap (λ m. Ok (neg_ℤ (pos m))) k.1

signed : (w : Width) (z : ℤ) (f : ℤ → Value) (found : Option Value) → FitsSigned w z → Small z → IsSigned w f (signed_decimal z) found → found ≡ Some (f z)
signed w z f None fits small h = absurd (refused _ _ (parsed w z (Err tt) fits small h))
signed w z f (Some y) fits small h = ap Some (h.1 ∙ ap f (both_ok _ _ _ _ refl refl (parsed w z (Ok _) fits small (h.0, refl))))

small : (z : ℤ) → FitsSigned w64 z → Small z
small (pos n) fits = omega (arith, fits.sfits)
small (negsuc n) fits = omega (arith, fits.sfits)

-- of two words that differ
first : (a b : Value) (found : Option Value) → (word_of a ≡ word_of b → ⊥) → IsOneOf a b (word_of a) found → found ≡ Some a
first a b None other h = absurd (h.0 refl)
first a b (Some v) other (inl h) = ap Some h.0
first a b (Some v) other (inr h) = absurd (other h.1)

second : (a b : Value) (found : Option Value) → (word_of b ≡ word_of a → ⊥) → IsOneOf a b (word_of b) found → found ≡ Some b
second a b None other h = absurd (h.1 refl)
second a b (Some v) other (inl h) = absurd (other h.1)
second a b (Some v) other (inr h) = ap Some h.0

number : (t : IntegerType) (v : Value) (found : Option Value) → integer_type (class_of_value v) ≡ Some t → IsInteger (Some t) v → IsNumberRead (Some t) (word_of v) found → found ≡ Some v
number (Signed w value r) v found of (is, narrow, fits, bits, word) h =
    signed w (signed_number v) value found fits (small (signed_number v) (signed_narrow w (signed_number v) narrow fits)) (subst (λ (x : List ℕ). IsSigned w value x found) word h) ∙ ap Some is
number (Unsigned w value r) v found of (is, narrow, fits, bits, word) h =
    unsigned w (unsigned_number v) value found fits (unsigned_narrow w (unsigned_number v) narrow fits) (subst (λ (x : List ℕ). IsUnsigned w value x found) word h) ∙ ap Some is

pub read_back : WordsAreReadBack
unfolding IsRead word_of
read_back (Mute Muted) found fits h = first (Mute Muted) (Mute Unmuted) found (λ q. cc) h
read_back (Mute Unmuted) found fits h = second (Mute Muted) (Mute Unmuted) found (λ q. cc) h
read_back (Polarity NonInverted) found fits h = first (Polarity NonInverted) (Polarity Inverted) found (λ q. cc) h
read_back (Polarity Inverted) found fits h = second (Polarity NonInverted) (Polarity Inverted) found (λ q. cc) h
read_back (Switch n) found fits h = unsigned w16 n Switch found fits (omega (arith, fits)) h
read_back (Boolean true) found fits h = first (Boolean true) (Boolean false) found (λ q. cc) h
read_back (Boolean false) found fits h = second (Boolean true) (Boolean false) found (λ q. cc) h
read_back v found fits h = number _ v found refl (integer v fits) h

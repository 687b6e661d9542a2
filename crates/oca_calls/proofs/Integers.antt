-- Integers of at most 64 bits, by their type.
use Rattle.std.proofs.Common.{arith, ◌≡◌, ℕ, ◌<◌, ◌^◌, Option, Some, None, refl}
use Rattle.std.specs.Prelude.{ℤ, FitsSigned, decimal}
use Rattle.std.specs.Fmt.{signed_decimal}
use Rattle.std.specs.Int.{Width, w64, w128, byte_len, cast_unsigned}
use Rattle.std.proofs.Math.Facts.{sfits_widen}
use Rattle.oca_model.specs.declared.value.Value.{Value}
use Rattle.oca_model.specs.declared.value.Value.TheVariants as values
use Rattle.oca_model.specs.Values.{IntegerType, Signed, Unsigned, IsOfItsType, class_of_value, integer_type, signed_number, unsigned_number}
use Rattle.oca_model.specs.Words.{word_of}
use Rattle.oca_calls.specs.CValues.{bits_of_value}

-- a width of at most 64 bits
abbrev pub Narrow : Width → Type 0
Narrow w128 = ⊥
Narrow _ = Unit {0}

pub signed_narrow : (w : Width) (z : ℤ) → Narrow w → FitsSigned w z → FitsSigned w64 z
signed_narrow w128 z none fits = absurd none
signed_narrow _ z narrow fits = sfits_widen tt fits

pub unsigned_narrow : (w : Width) (n : ℕ) → Narrow w → n < 256 ^ byte_len w → n < 2 ^ 64
unsigned_narrow w128 n none fits = absurd none
unsigned_narrow _ n narrow fits = omega (arith, fits)

-- what holds of a value of an integer type
abbrev pub IsInteger : Option IntegerType → Value → Type 0
IsInteger None v = Unit {0}
IsInteger (Some (Signed w value _)) v = (value (signed_number v) ≡ v) × Narrow w × FitsSigned w (signed_number v) × (bits_of_value v ≡ cast_unsigned w64 (signed_number v)) × (word_of v ≡ signed_decimal (signed_number v))
IsInteger (Some (Unsigned w value _)) v = (value (unsigned_number v) ≡ v) × Narrow w × (unsigned_number v < 256 ^ byte_len w) × (bits_of_value v ≡ unsigned_number v) × (word_of v ≡ decimal (unsigned_number v))

pub integer : (v : Value) → IsOfItsType v → IsInteger (integer_type (class_of_value v)) v
unfolding word_of
integer (values.Mute s) fits = tt
integer (values.Polarity s) fits = tt
integer (values.Switch n) fits = tt
integer (values.Boolean t) fits = tt
integer _ fits = (refl, tt, fits, refl, refl)

-- The words for values.
use Rattle.std.specs.Prelude.{◌≡◌, ◌≢◌, ◌⊎◌, ℕ, ◌<◌, ◌^◌, true, false, List, [], Option, Some, None, codes, ℤ}
use Rattle.std.specs.Prelude.{FitsSigned, decimal}
use Rattle.std.specs.Fmt.{signed_decimal}
use Rattle.std.specs.Int.{Width, w16, byte_len}
use Rattle.std.specs.Option.{SomeIff}
use Rattle.std.specs.Str.Parse.{IsNumeral, digits_value, signed_digits_value, without_leading_plus}
use Rattle.std.specs.Str.Parse.{without_leading_sign}
use Rattle.oca_types.specs.declared.class.Class.{Class}
use Rattle.oca_types.specs.declared.class.Class.TheVariants as class
use Rattle.oca_model.specs.declared.value.MuteState.TheVariants.{Muted, Unmuted}
use Rattle.oca_model.specs.declared.value.PolarityState.TheVariants.{NonInverted, Inverted}
use Rattle.oca_model.specs.declared.value.Value.{Value}
use Rattle.oca_model.specs.declared.value.Value.TheVariants.{Mute, Polarity, Switch, Boolean}
use Rattle.oca_model.specs.Values.{IntegerType, Signed, Unsigned, by_number, integer_type}

-- the word for a value: that of its state, or its number in decimal digits
unfoldable pub word_of : Value → List ℕ
word_of (Mute Muted) = codes "muted"
word_of (Mute Unmuted) = codes "unmuted"
word_of (Polarity NonInverted) = codes "non-inverted"
word_of (Polarity Inverted) = codes "inverted"
word_of (Switch position) = decimal position
word_of (Boolean true) = codes "on"
word_of (Boolean false) = codes "off"
word_of value = by_number (λ _ z. signed_decimal z) (λ _ n. decimal n) [] value

-- the word for a class
abbrev pub class_word : Class → List ℕ
class_word class.Block = codes "block"
class_word class.Mute = codes "mute"
class_word class.Polarity = codes "polarity"
class_word class.Switch = codes "switch"
class_word class.Boolean = codes "boolean"
class_word class.Int8 = codes "int8"
class_word class.Int16 = codes "int16"
class_word class.Int32 = codes "int32"
class_word class.Int64 = codes "int64"
class_word class.Uint8 = codes "uint8"
class_word class.Uint16 = codes "uint16"
class_word class.Uint32 = codes "uint32"
class_word class.Uint64 = codes "uint64"

-- The word is that of one of the two values, which is the one that is found; any other word finds nothing.
abbrev pub IsOneOf : Value → Value → List ℕ → Option Value → Type 0
IsOneOf a b word None = (word ≢ word_of a) × (word ≢ word_of b)
IsOneOf a b word (Some v) = ((v ≡ a) × (word ≡ word_of a)) ⊎ ((v ≡ b) × (word ≡ word_of b))

-- The word is a number of this width in decimal digits, with or without a plus; any other word finds nothing.
abbrev pub IsUnsigned : Width → (ℕ → Value) → List ℕ → Option Value → Type 0
IsUnsigned w value word found =
    let digits = without_leading_plus word in
    SomeIff found (IsNumeral 10 digits × (digits_value 10 digits < 256 ^ byte_len w)) (value (digits_value 10 digits))

-- The word is a signed number of this width, with or without a sign.
abbrev pub IsSigned : Width → (ℤ → Value) → List ℕ → Option Value → Type 0
IsSigned w value word found =
    SomeIff found (IsNumeral 10 (without_leading_sign word)
    × FitsSigned w (signed_digits_value 10 word)) (value (signed_digits_value 10 word))

-- The word is a number of an integer type; one of no such type finds nothing.
abbrev pub IsNumberRead : Option IntegerType → List ℕ → Option Value → Type 0
IsNumberRead None word found = found ≡ None
IsNumberRead (Some (Signed w value reading)) word found = IsSigned w value word found
IsNumberRead (Some (Unsigned w value reading)) word found = IsUnsigned w value word found

-- What is found is the value of an object of the class that the word names, or nothing where it names none.
unfoldable pub IsRead : Class → List ℕ → Option Value → Type 0
IsRead class.Mute word found = IsOneOf (Mute Muted) (Mute Unmuted) word found
IsRead class.Polarity word found = IsOneOf (Polarity NonInverted) (Polarity Inverted) word found
IsRead class.Boolean word found = IsOneOf (Boolean true) (Boolean false) word found
IsRead class.Switch word found = IsUnsigned w16 Switch word found
IsRead of word found = IsNumberRead (integer_type of) word found

-- Readings by class: a value, with the limits of a position and of a number (AES70-2, AES70-3).
use Rattle.std.specs.Prelude.{◌≡◌, ℕ, ◌<◌, ◌^◌, List, [], ◌++◌, Option, Some, None, FitsSigned, ℤ}
use Rattle.std.specs.Option.{option_map, option_and_then}
use Rattle.std.specs.Int.{Width, w8, w16, w32, w64, byte_len}
use Rattle.oca_types.specs.declared.class.Class.{Class}
use Rattle.oca_types.specs.declared.class.Class.TheVariants as class
use Rattle.oca_types.specs.Numbers.{unsigned_encoding, signed_encoding, bool_encoding}
use Rattle.oca_types.specs.Reading.{unsigned_at, signed_at, bool_at}
use Rattle.oca_model.specs.declared.reading.Ranged.{Ranged}
use Rattle.oca_model.specs.declared.reading.Reading.{Reading}
use Rattle.oca_model.specs.declared.reading.Reading.TheVariants.{Mute, Polarity, Switch, Boolean, Int8, Int16, Int32}
use Rattle.oca_model.specs.declared.reading.Reading.TheVariants.{Int64, Uint8, Uint16, Uint32, Uint64}
use Rattle.oca_model.specs.declared.value.Value.{Value}
use Rattle.oca_model.specs.declared.value.Value.TheVariants as value
use Rattle.oca_model.specs.Parameters.{whole, pair_at}
use Rattle.oca_model.specs.Values.{by_type, integer_type, class_of_value, mute_number}
use Rattle.oca_model.specs.Values.{polarity_number, mute_of, polarity_of}

-- what is said of the numbers of an integer actuator's reading, and of any other reading
abbrev pub by_range : {Y : Type 0} → (Width → (ℤ → Value) → (Ranged ℤ → Reading) → Ranged ℤ → Y)
    → (Width → (ℕ → Value) → (Ranged ℕ → Reading) → Ranged ℕ → Y) → Y → Reading → Y
by_range signed unsigned other (Int8 r) = signed w8 value.Int8 Int8 r
by_range signed unsigned other (Int16 r) = signed w16 value.Int16 Int16 r
by_range signed unsigned other (Int32 r) = signed w32 value.Int32 Int32 r
by_range signed unsigned other (Int64 r) = signed w64 value.Int64 Int64 r
by_range signed unsigned other (Uint8 r) = unsigned w8 value.Uint8 Uint8 r
by_range signed unsigned other (Uint16 r) = unsigned w16 value.Uint16 Uint16 r
by_range signed unsigned other (Uint32 r) = unsigned w32 value.Uint32 Uint32 r
by_range signed unsigned other (Uint64 r) = unsigned w64 value.Uint64 Uint64 r
by_range signed unsigned other _ = other

-- the value that was read, without its limits
abbrev pub value_without_limits : Reading → Value
value_without_limits (Mute state) = value.Mute state
value_without_limits (Polarity state) = value.Polarity state
value_without_limits (Switch r) = value.Switch r.setting
value_without_limits (Boolean truth) = value.Boolean truth
value_without_limits (Int8 r) = value.Int8 r.setting
value_without_limits (Int16 r) = value.Int16 r.setting
value_without_limits (Int32 r) = value.Int32 r.setting
value_without_limits (Int64 r) = value.Int64 r.setting
value_without_limits (Uint8 r) = value.Uint8 r.setting
value_without_limits (Uint16 r) = value.Uint16 r.setting
value_without_limits (Uint32 r) = value.Uint32 r.setting
value_without_limits (Uint64 r) = value.Uint64 r.setting

-- the setting, the least, the greatest
abbrev pub ranged_encoding : {X : Type 0} → (X → List ℕ) → Ranged X → List ℕ
ranged_encoding number r = number r.setting ++ number r.least ++ number r.greatest

-- the encoding of a reading: behind a position and an integer stand the least and the greatest
unfoldable pub reading_encoding : Reading → List ℕ
reading_encoding (Mute state) = unsigned_encoding w8 (mute_number state)
reading_encoding (Polarity state) = unsigned_encoding w8 (polarity_number state)
reading_encoding (Switch r) = ranged_encoding (unsigned_encoding w16) r
reading_encoding (Boolean truth) = bool_encoding truth
reading_encoding reading =
    by_range (λ w _ _ r. ranged_encoding (signed_encoding w) r) (λ w _ _ r. ranged_encoding (unsigned_encoding w) r)
    [] reading

-- how many parameters it is (ParamCount)
abbrev pub reading_count : Reading → ℕ
reading_count (Mute _) = 1
reading_count (Polarity _) = 1
reading_count (Boolean _) = 1
reading_count _ = 3

-- a setting and its limits, which are all of the bytes
abbrev pub ranged_in : {X : Type 0} → (List ℕ → Option (X × List ℕ)) → List ℕ → Option (Ranged X)
ranged_in number bytes =
    option_map (λ x. record {
      setting = x.0;
      least = x.1.0;
      greatest = x.1.1;
    }) (whole (pair_at number (pair_at number number) bytes))

-- WHAT AN ANSWER GIVES of an object of the class, where its parameters are such an answer; a block gives nothing.
unfoldable pub reading_in : Class → List ℕ → Option Reading
reading_in class.Mute bytes = option_map Mute (option_and_then mute_of (whole (unsigned_at w8 bytes)))
reading_in class.Polarity bytes = option_map Polarity (option_and_then polarity_of (whole (unsigned_at w8 bytes)))
reading_in class.Switch bytes = option_map Switch (ranged_in (unsigned_at w16) bytes)
reading_in class.Boolean bytes = option_map Boolean (whole (bool_at bytes))
reading_in of bytes =
    by_type (λ w _ reading. option_map reading (ranged_in (signed_at w) bytes))
    (λ w _ reading. option_map reading (ranged_in (unsigned_at w) bytes)) None (integer_type of)

-- the value that an answer gives, without its limits
abbrev pub value_read : Class → List ℕ → Option Value
value_read of bytes = option_map value_without_limits (reading_in of bytes)

-- The numbers are of this type, which a test of numbers says.
pub record All3 {X : Type 0} (Fits : X → Type 0) (r : Ranged X) : Type 0 where
  pub setting : Fits r.setting
  pub least : Fits r.least
  pub greatest : Fits r.greatest

-- The reading's numbers are of their types.
abbrev pub IsReading : Reading → Type 0
IsReading (Mute _) = Unit {0}
IsReading (Polarity _) = Unit {0}
IsReading (Switch r) = All3 (λ n. n < 256 ^ byte_len w16) r
IsReading (Boolean _) = Unit {0}
IsReading (Int8 r) = All3 (FitsSigned w8) r
IsReading (Int16 r) = All3 (FitsSigned w16) r
IsReading (Int32 r) = All3 (FitsSigned w32) r
IsReading (Int64 r) = All3 (FitsSigned w64) r
IsReading (Uint8 r) = All3 (λ n. n < 256 ^ byte_len w8) r
IsReading (Uint16 r) = All3 (λ n. n < 256 ^ byte_len w16) r
IsReading (Uint32 r) = All3 (λ n. n < 256 ^ byte_len w32) r
IsReading (Uint64 r) = All3 (λ n. n < 256 ^ byte_len w64) r

-- A reading that was encoded is read back by its value's class.
abbrev pub ReadingsAreReadBack : Type 0
ReadingsAreReadBack =
    (r : Reading) → IsReading r → reading_in (class_of_value (value_without_limits r)) (reading_encoding r) ≡ Some r

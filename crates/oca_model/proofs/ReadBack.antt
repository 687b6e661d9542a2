-- What was encoded is read back.
use Rattle.oca_model.proofs.Terms.{◌≡◌, ℕ, true, false, List, ◌++◌, refl, ap, ◌∙◌, append_assoc, Option, Some, option_map, w8, w16, w32, w64, unsigned_encoding, Malformed, Ranged, end_of, whole_of, u16_front, u32_front, or_fault, All3}
use Rattle.oca_types.specs.Numbers.{signed_encoding}
use Rattle.oca_types.specs.Reading.{unsigned_at, signed_at}
use Rattle.oca_model.specs.declared.value.MuteState.TheVariants.{Muted, Unmuted}
use Rattle.oca_model.specs.declared.value.PolarityState.TheVariants.{NonInverted, Inverted}
use Rattle.oca_model.specs.declared.value.Value.TheVariants as value
use Rattle.oca_model.specs.declared.reading.Reading.TheVariants as reading
use Rattle.oca_model.specs.Fronts.{u8_front, u64_front, i8_front, i16_front, i32_front, i64_front}
use Rattle.oca_model.specs.Values.{value_in, value_encoding, as_value, ValuesAreReadBack}
use Rattle.oca_model.specs.Readings.{ranged_in, ranged_encoding, reading_in, reading_encoding, ReadingsAreReadBack}

module _ {V : Type 0} (Fits : V → Type 0) (encoding : V → List ℕ) (read_at : List ℕ → Option (V × List ℕ))
    (back : (v : V) (rest : List ℕ) → Fits v → read_at (encoding v ++ rest) ≡ Some (v, rest)) where
  -- a setting and its limits
  ranged_of : (r : Ranged V) → All3 Fits r → ranged_in read_at (ranged_encoding encoding r) ≡ Some r
  ranged_of r is =
      let a = encoding r.setting in
      let b = encoding r.least in
      let c = encoding r.greatest in
      rw (ap read_at (append_assoc a b c) ∙ back r.setting (b ++ c) is.setting, back r.least c is.least, end_of Fits encoding read_at back r.greatest is.greatest) refl

pub values_back : ValuesAreReadBack
unfolding value_in value_encoding unsigned_at
values_back (value.Mute Muted) fits = refl
values_back (value.Mute Unmuted) fits = refl
values_back (value.Polarity NonInverted) fits = refl
values_back (value.Polarity Inverted) fits = refl
values_back (value.Boolean true) fits = refl
values_back (value.Boolean false) fits = refl
values_back (value.Switch x) fits = ap (λ o. as_value value.Switch (or_fault Malformed o)) (whole_of _ (unsigned_encoding w16) (unsigned_at w16) u16_front x fits)
values_back (value.Int8 x) fits = ap (λ o. as_value value.Int8 (or_fault Malformed o)) (whole_of _ (signed_encoding w8) (signed_at w8) i8_front x fits)
values_back (value.Int16 x) fits = ap (λ o. as_value value.Int16 (or_fault Malformed o)) (whole_of _ (signed_encoding w16) (signed_at w16) i16_front x fits)
values_back (value.Int32 x) fits = ap (λ o. as_value value.Int32 (or_fault Malformed o)) (whole_of _ (signed_encoding w32) (signed_at w32) i32_front x fits)
values_back (value.Int64 x) fits = ap (λ o. as_value value.Int64 (or_fault Malformed o)) (whole_of _ (signed_encoding w64) (signed_at w64) i64_front x fits)
values_back (value.Uint8 x) fits = ap (λ o. as_value value.Uint8 (or_fault Malformed o)) (whole_of _ (unsigned_encoding w8) (unsigned_at w8) u8_front x fits)
values_back (value.Uint16 x) fits = ap (λ o. as_value value.Uint16 (or_fault Malformed o)) (whole_of _ (unsigned_encoding w16) (unsigned_at w16) u16_front x fits)
values_back (value.Uint32 x) fits = ap (λ o. as_value value.Uint32 (or_fault Malformed o)) (whole_of _ (unsigned_encoding w32) (unsigned_at w32) u32_front x fits)
values_back (value.Uint64 x) fits = ap (λ o. as_value value.Uint64 (or_fault Malformed o)) (whole_of _ (unsigned_encoding w64) (unsigned_at w64) u64_front x fits)

pub readings_back : ReadingsAreReadBack
unfolding reading_in reading_encoding unsigned_at
readings_back (reading.Mute Muted) fits = refl
readings_back (reading.Mute Unmuted) fits = refl
readings_back (reading.Polarity NonInverted) fits = refl
readings_back (reading.Polarity Inverted) fits = refl
readings_back (reading.Boolean true) fits = refl
readings_back (reading.Boolean false) fits = refl
readings_back (reading.Switch r) fits = ap (option_map reading.Switch) (ranged_of _ (unsigned_encoding w16) (unsigned_at w16) u16_front r fits)
readings_back (reading.Int8 r) fits = ap (option_map reading.Int8) (ranged_of _ (signed_encoding w8) (signed_at w8) i8_front r fits)
readings_back (reading.Int16 r) fits = ap (option_map reading.Int16) (ranged_of _ (signed_encoding w16) (signed_at w16) i16_front r fits)
readings_back (reading.Int32 r) fits = ap (option_map reading.Int32) (ranged_of _ (signed_encoding w32) (signed_at w32) i32_front r fits)
readings_back (reading.Int64 r) fits = ap (option_map reading.Int64) (ranged_of _ (signed_encoding w64) (signed_at w64) i64_front r fits)
readings_back (reading.Uint8 r) fits = ap (option_map reading.Uint8) (ranged_of _ (unsigned_encoding w8) (unsigned_at w8) u8_front r fits)
readings_back (reading.Uint16 r) fits = ap (option_map reading.Uint16) (ranged_of _ (unsigned_encoding w16) (unsigned_at w16) u16_front r fits)
readings_back (reading.Uint32 r) fits = ap (option_map reading.Uint32) (ranged_of _ (unsigned_encoding w32) (unsigned_at w32) u32_front r fits)
readings_back (reading.Uint64 r) fits = ap (option_map reading.Uint64) (ranged_of _ (unsigned_encoding w64) (unsigned_at w64) u64_front r fits)

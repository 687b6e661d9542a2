-- What a reading is once it was set to a value.
use Rattle.oca_model.proofs.Terms.{◌≡◌, ℕ, ◌<◌, Bool, true, false, refl, arith, Option, Some, None, w8, w16, w32, w64, Ranged, Value, All3, class_of_value}
use Rattle.std.specs.Prelude.{FitsSigned, ℤ, ◌≤ℤ◌, not, nat_le, int_le}
use Rattle.std.proofs.lemmas.Int.{ints}
use Rattle.oca_model.specs.declared.reading.Reading.{Reading}
use Rattle.oca_model.specs.declared.reading.Reading.TheVariants as readings
use Rattle.oca_model.specs.declared.value.Value.TheVariants as set
use Rattle.oca_model.specs.Readings.{value_without_limits, IsReading}
use Rattle.oca_model.specs.Settings.{class_of_reading, lies, is_within, set_in_limits, with_value, made_or, reading_set_to, lies_beyond, is_beyond}

-- The value makes a reading, which is of that value.
pub record Makes (r : Reading) (v : Value) : Type 0 where
  pub new : Reading
  pub made : with_value r v ≡ Some new
  pub value : value_without_limits new ≡ v

-- a value of the reading's class does
pub makes : (r : Reading) (v : Value) → class_of_reading r ≡ class_of_value v → Makes r v
unfolding with_value
makes (readings.Mute a) (set.Mute x) e = record { new = readings.Mute x; made = refl; value = refl }
makes (readings.Polarity a) (set.Polarity x) e = record { new = readings.Polarity x; made = refl; value = refl }
makes (readings.Switch r) (set.Switch x) e = record { new = readings.Switch (set_in_limits r x); made = refl; value = refl }
makes (readings.Boolean a) (set.Boolean x) e = record { new = readings.Boolean x; made = refl; value = refl }
makes (readings.Int8 r) (set.Int8 x) e = record { new = readings.Int8 (set_in_limits r x); made = refl; value = refl }
makes (readings.Int16 r) (set.Int16 x) e = record { new = readings.Int16 (set_in_limits r x); made = refl; value = refl }
makes (readings.Int32 r) (set.Int32 x) e = record { new = readings.Int32 (set_in_limits r x); made = refl; value = refl }
makes (readings.Int64 r) (set.Int64 x) e = record { new = readings.Int64 (set_in_limits r x); made = refl; value = refl }
makes (readings.Uint8 r) (set.Uint8 x) e = record { new = readings.Uint8 (set_in_limits r x); made = refl; value = refl }
makes (readings.Uint16 r) (set.Uint16 x) e = record { new = readings.Uint16 (set_in_limits r x); made = refl; value = refl }
makes (readings.Uint32 r) (set.Uint32 x) e = record { new = readings.Uint32 (set_in_limits r x); made = refl; value = refl }
makes (readings.Uint64 r) (set.Uint64 x) e = record { new = readings.Uint64 (set_in_limits r x); made = refl; value = refl }
makes _ _ e = let no : ⊥ = cc in absurd no

-- it is of the class that it was of
pub same_class : (r : Reading) (v : Value) → class_of_reading (reading_set_to r v) ≡ class_of_reading r
unfolding with_value
same_class (readings.Mute a) (set.Mute x) = refl
same_class (readings.Polarity a) (set.Polarity x) = refl
same_class (readings.Switch r) (set.Switch x) = refl
same_class (readings.Boolean a) (set.Boolean x) = refl
same_class (readings.Int8 r) (set.Int8 x) = refl
same_class (readings.Int16 r) (set.Int16 x) = refl
same_class (readings.Int32 r) (set.Int32 x) = refl
same_class (readings.Int64 r) (set.Int64 x) = refl
same_class (readings.Uint8 r) (set.Uint8 x) = refl
same_class (readings.Uint16 r) (set.Uint16 x) = refl
same_class (readings.Uint32 r) (set.Uint32 x) = refl
same_class (readings.Uint64 r) (set.Uint64 x) = refl
same_class _ _ = refl

unless_not : (b : Bool) → not b ≡ false → b ≡ true
unless_not true e = refl
unless_not false e = cc

-- it lies within its limits, where the value does
pub stays_within : (r : Reading) (v : Value) → is_within r ≡ true → is_beyond r v ≡ false → is_within (reading_set_to r v) ≡ true
stays_within r v within e = by (with_value r v) e
  where
    by : (made : Option Reading) → lies_beyond made ≡ false → is_within (made_or r made) ≡ true
    by None h = within
    by (Some new) h = unless_not (is_within new) h

-- a number between two of a type is of the type
natural_typed : (most : ℕ) (r : Ranged ℕ) (n : ℕ) → All3 (λ m. m < most) r → not (lies nat_le (set_in_limits r n)) ≡ false → All3 (λ m. m < most) (set_in_limits r n)
natural_typed most r n is e =
    let high = is.greatest in
    let fits : n < most = grind (arith, high) in
    record { setting = fits; least = is.least; greatest = is.greatest }

above : (r : Ranged ℤ) (z : ℤ) → not (lies int_le (set_in_limits r z)) ≡ false → r.least ≤ℤ z
above r z e = grind (arith, ints)

below : (r : Ranged ℤ) (z : ℤ) → not (lies int_le (set_in_limits r z)) ≡ false → z ≤ℤ r.greatest
below r z e = grind (arith, ints)

signed_typed : (Fits : ℤ → Type 0) → ((low z high : ℤ) → Fits low → Fits high → low ≤ℤ z → z ≤ℤ high → Fits z) → (r : Ranged ℤ) (z : ℤ) → All3 Fits r → not (lies int_le (set_in_limits r z)) ≡ false
    → All3 Fits (set_in_limits r z)
signed_typed Fits between r z is e =
    record { setting = between r.least z r.greatest is.least is.greatest (above r z e) (below r z e); least = is.least; greatest = is.greatest }

-- its numbers are of their types
pub stays_typed : (r : Reading) (v : Value) → IsReading r → is_beyond r v ≡ false → IsReading (reading_set_to r v)
unfolding with_value is_within
stays_typed (readings.Switch r) (set.Switch n) is e = natural_typed _ r n is e
stays_typed (readings.Uint8 r) (set.Uint8 n) is e = natural_typed _ r n is e
stays_typed (readings.Uint16 r) (set.Uint16 n) is e = natural_typed _ r n is e
stays_typed (readings.Uint32 r) (set.Uint32 n) is e = natural_typed _ r n is e
stays_typed (readings.Uint64 r) (set.Uint64 n) is e = natural_typed _ r n is e
stays_typed (readings.Int8 r) (set.Int8 z) is e = signed_typed (FitsSigned w8) (λ l n h a b c d. omega (arith, ints, a, b, c, d)) r z is e
stays_typed (readings.Int16 r) (set.Int16 z) is e = signed_typed (FitsSigned w16) (λ l n h a b c d. omega (arith, ints, a, b, c, d)) r z is e
stays_typed (readings.Int32 r) (set.Int32 z) is e = signed_typed (FitsSigned w32) (λ l n h a b c d. omega (arith, ints, a, b, c, d)) r z is e
stays_typed (readings.Int64 r) (set.Int64 z) is e = signed_typed (FitsSigned w64) (λ l n h a b c d. omega (arith, ints, a, b, c, d)) r z is e
stays_typed (readings.Mute a) (set.Mute x) is e = tt
stays_typed (readings.Polarity a) (set.Polarity x) is e = tt
stays_typed (readings.Boolean a) (set.Boolean x) is e = tt
stays_typed _ _ is e = is

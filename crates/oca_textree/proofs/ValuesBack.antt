-- How an object is set is read back from its line.
use Rattle.std.proofs.Common.{◌≡◌, ℕ, ◌<◌, true, false, List, [], ◌∷◌, ◌++◌, length, map, Option, Some, None, Ok, refl, arith, append_assoc}
use Rattle.std.specs.Prelude.{decimal, ℤ, ◌≤ℤ◌, Result, nat_lt}
use Rattle.std.specs.Fmt.{signed_decimal}
use Rattle.std.specs.List.{list_any, All}
use Rattle.std.proofs.lemmas.Int.{ints}
use Rattle.std.proofs.lemmas.Bool.Decides.{nat_tests}
use Rattle.std.proofs.lemmas.Fmt.{length-decimal-le}
use Rattle.std.proofs.lemmas.List.Elements.{All-head, All-tail}
use Rattle.oca_model.specs.declared.value.MuteState.TheVariants.{Muted, Unmuted}
use Rattle.oca_model.specs.declared.value.PolarityState.TheVariants.{NonInverted, Inverted}
use Rattle.oca_model.specs.declared.reading.Reading.{Reading}
use Rattle.oca_model.specs.declared.reading.Reading.TheVariants as readings
use Rattle.oca_model.specs.Readings.{IsReading}
use Rattle.oca_model.specs.Settings.{class_of_reading}
use Rattle.oca_tree.specs.declared.object.Value.{Value}
use Rattle.oca_tree.specs.declared.object.Value.TheVariants as values
use Rattle.oca_tree.specs.declared.object.Switch.{Switch}
use Rattle.oca_tree.specs.declared.tree.Setting.{Setting}
use Rattle.oca_tree.specs.declared.tree.Setting.TheVariants.{Position, Number}
use Rattle.oca_tree.specs.Objects.{class_of}
use Rattle.oca_tree.specs.Readers.{reading_setting, value_setting}
use Rattle.oca_tree.specs.Copies.{names_in, flags_in}
use Rattle.oca_tree.specs.Trees.{IsSoundValue, IsSoundSwitch, is_position_reading}
use Rattle.oca_tree.specs.Building.{switch, is_long}
use Rattle.oca_tree.specs.Starts.{with_flags}
use Rattle.oca_script.specs.declared.object_fault.ObjectFault.{ObjectFault}
use Rattle.oca_script.specs.declared.object_fault.ObjectFault.TheVariants as fault
use Rattle.oca_textree.specs.Lines.{Limited, Valued, field_at, then_by, some_or_fault, class_of_word, limits_of, by_word, one_of, value_at, has_control}
use Rattle.oca_textree.specs.Stored.{Flagged, flagged_at, switch_at}
use Rattle.oca_textree.specs.Written.{class_before, set_fields, value_fields, range_fields, switch_fields, names_field, flag_digit, IsShortText}
use Rattle.oca_textree.proofs.FieldsBack.{IsInteger, field-word, word-decimal, number-decimal, word-signed, integer-back}
use Rattle.oca_textree.proofs.TextsBack.{flags-back, word-flags, names-back, names-shown, word-shown, shown-append}

-- ---- integers

abbrev IsWritten : Option Setting → Type 0
IsWritten (Some (Number setting least greatest)) = IsInteger setting × IsInteger least × IsInteger greatest
IsWritten _ = Unit {0}

-- the integers of a reading are of the types
written-reading : (r : Reading) → IsReading r → IsWritten (reading_setting r)
unfolding reading_setting
written-reading (readings.Mute state) h = tt
written-reading (readings.Polarity state) h = tt
written-reading (readings.Switch r) h = tt
written-reading (readings.Boolean truth) h = tt
written-reading _ h = (
  record { above = omega (arith, ints, h.setting); below = omega (arith, ints, h.setting) },
  record { above = omega (arith, ints, h.least); below = omega (arith, ints, h.least) },
  record { above = omega (arith, ints, h.greatest); below = omega (arith, ints, h.greatest) },
)

-- an integer of a type lies between its first and its last
pub record Lies (low high : ℤ) (z : ℤ) : Type 0 where
  pub above : low ≤ℤ z
  pub below : z ≤ℤ high

limits-back : (low high least greatest setting : ℤ) (rest : List ℕ) → IsWritten (Some (Number setting least greatest))
    → Lies low high least → Lies low high greatest → Lies low high setting
    → limits_of low high (Some (range_fields least greatest setting ++ 32 ∷ rest)) ≡ Ok (record { least = least; greatest = greatest; setting = setting; rest = Some rest })
unfolding limits_of
limits-back low high least greatest setting rest w a b c =
    let regroup : range_fields least greatest setting ++ 32 ∷ rest
    ≡ signed_decimal least ++ 32 ∷ (signed_decimal greatest ++ 32 ∷ (signed_decimal setting ++ 32 ∷ rest)) = regrouped (signed_decimal least) (signed_decimal greatest) (signed_decimal setting) in
    let f1 = field-word (signed_decimal least) (signed_decimal greatest ++ 32 ∷ (signed_decimal setting ++ 32 ∷ rest)) (word-signed least w.1) in
    let f2 = field-word (signed_decimal greatest) (signed_decimal setting ++ 32 ∷ rest) (word-signed greatest w.2) in
    let f3 = field-word (signed_decimal setting) rest (word-signed setting w.0) in
    let i1 = integer-back low high least w.1 a.above a.below in
    let i2 = integer-back low high greatest w.2 b.above b.below in
    let i3 = integer-back low high setting w.0 c.above c.below in
    rw (regroup, f1, i1, f2, i2, f3, i3) refl
  where
    regrouped : (x y z : List ℕ) → (((x ++ 32 ∷ []) ++ (y ++ 32 ∷ [])) ++ z) ++ 32 ∷ rest ≡ x ++ 32 ∷ (y ++ 32 ∷ (z ++ 32 ∷ rest))
    regrouped x y z = simp append_assoc

-- what is read of a value: as it is, but a switch has all its positions enabled, and the flags beside
unfoldable pub plain_value : Value → Value
plain_value (values.Switch s) = switch s.names.items s.position
plain_value v = v

-- what is read of a value, with the rest of the line
unfoldable pub reading_of : Value → List ℕ → Flagged
reading_of v rest = record { valued = record { bad_name = false; value = plain_value v; rest = Some rest }; flags = flags_in v }

-- the class, and then what stands behind it
unfoldable pub read_value : List ℕ → Result Flagged ObjectFault
read_value text = then_by (field_at (Some text)) (λ c. then_by (some_or_fault fault.Class (class_of_word c.0)) (λ k. flagged_at k c.1))

-- the same, of which a value is made, and of that what is read
number-back : (low high least greatest setting : ℤ) (rest : List ℕ) (value : Limited → Result Valued ObjectFault) (reading : Valued → Result Flagged ObjectFault)
    → IsWritten (Some (Number setting least greatest)) → Lies low high least → Lies low high greatest → Lies low high setting
    → then_by (then_by (limits_of low high (Some (range_fields least greatest setting ++ 32 ∷ rest))) value) reading
    ≡ then_by (value (record { least = least; greatest = greatest; setting = setting; rest = Some rest })) reading
number-back low high least greatest setting rest value reading w a b c = rw (limits-back low high least greatest setting rest w a b c) refl

abbrev Back : Reading → List ℕ → Type 0
Back r rest = read_value ((class_before (class_of_reading r) ++ set_fields (class_of_reading r) (reading_setting r) [] None) ++ 32 ∷ rest)
    ≡ Ok (record { valued = record { bad_name = false; value = values.Reads r; rest = Some rest }; flags = None })

reading-back : (r : Reading) (rest : List ℕ) → IsReading r → is_position_reading r ≡ false → IsWritten (reading_setting r) → Back r rest
unfolding read_value field_at class_of_word flagged_at value_at class_before set_fields reading_setting by_word one_of
reading-back (readings.Mute Muted) rest h o w = refl
reading-back (readings.Mute Unmuted) rest h o w = refl
reading-back (readings.Polarity NonInverted) rest h o w = refl
reading-back (readings.Polarity Inverted) rest h o w = refl
reading-back (readings.Boolean true) rest h o w = refl
reading-back (readings.Boolean false) rest h o w = refl
reading-back (readings.Switch r) rest h o w = cc
reading-back _ rest h o w =
    number-back _ _ _ _ _ rest _ _ w (record { above = omega (arith, ints, h.least); below = omega (arith, ints, h.least) })
    (record { above = omega (arith, ints, h.greatest); below = omega (arith, ints, h.greatest) })
    (record { above = omega (arith, ints, h.setting); below = omega (arith, ints, h.setting) })

-- ---- a switch

switch-back : (s : Switch) (rest : List ℕ) → IsSoundSwitch s → All IsShortText s.names.items
    → switch_at (Some (switch_fields (Some (Position s.position)) s.names.items (Some s.enableds.items) ++ 32 ∷ rest))
    ≡ Ok (record { flags = s.enableds.items; names = s.names.items; position = s.position; rest = Some rest })
unfolding switch_at
switch-back s rest h names =
    let some : 0 < length s.names.items = omega (arith, h.position) in
    let small : s.position < 65536 = omega (arith, h.position, h.few) in
    let regroup : switch_fields (Some (Position s.position)) s.names.items (Some s.enableds.items) ++ 32 ∷ rest
    ≡ map flag_digit s.enableds.items ++ 32 ∷ (names_field s.names.items ++ 32 ∷ (decimal s.position ++ 32 ∷ rest)) =
    regrouped (map flag_digit s.enableds.items) (names_field s.names.items) (decimal s.position) in
    let f1 = field-word (map flag_digit s.enableds.items) (names_field s.names.items ++ 32 ∷ (decimal s.position ++ 32 ∷ rest)) (word-flags s.enableds.items) in
    let i1 = flags-back [] s.enableds.items (omega (arith, h.both, h.few)) in
    let f2 = names-back s.names.items (decimal s.position ++ 32 ∷ rest) names some h.few in
    let f3 = field-word (decimal s.position) rest (word-decimal s.position (omega (arith, small))) in
    let i3 = number-decimal 5 65535 s.position (omega (arith, small)) (omega (arith, small)) (length-decimal-le 5 s.position (omega arith) (omega (arith, small)) (omega (arith, small))) in
    rw (regroup, f1, i1, f2, f3, i3) refl
  where
    regrouped : (x y z : List ℕ) → ((x ++ 32 ∷ y) ++ 32 ∷ z) ++ 32 ∷ rest ≡ x ++ 32 ∷ (y ++ 32 ∷ (z ++ 32 ∷ rest))
    regrouped x y z = simp append_assoc

no-long : (names : List (List ℕ)) → All IsShortText names → list_any is_long names ≡ false
no-long [] h = refl
no-long (n ∷ names) h =
    let short = (All-head IsShortText n names h).short in
    let test : nat_lt 64 (length n) ≡ false = grind (arith, nat_tests, short) in
    rw (test, no-long names (All-tail IsShortText n names h)) refl

-- ---- any value

-- the fields of a value
abbrev pub fields_of : Value → List ℕ
fields_of v = value_fields (class_of v) (value_setting v) (names_in v) (flags_in v)

-- a value is read back
pub value-back : (v : Value) (rest : List ℕ) → IsSoundValue v → All IsShortText (names_in v) → read_value (fields_of v ++ 32 ∷ rest) ≡ Ok (reading_of v rest)
unfolding read_value reading_of plain_value field_at class_of_word flagged_at value_at class_before set_fields class_of value_setting names_in flags_in IsSoundValue by_word one_of
value-back values.Block rest h names = refl
value-back (values.Reads r) rest h names = reading-back r rest h.typed h.other (written-reading r h.typed)
value-back (values.Switch s) rest h names =
    let e = switch-back s rest h names in
    let short = no-long s.names.items names in
    rw (e, short) refl

-- the flags make it as it is
pub flagged : (v : Value) → with_flags (flags_in v) (plain_value v) ≡ v
unfolding plain_value flags_in
flagged values.Block = refl
flagged _ = refl

-- ---- no control character stands in it

limit-shown : (z : ℤ) → IsInteger z → has_control (signed_decimal z ++ 32 ∷ []) ≡ false
limit-shown z h = shown-append (signed_decimal z) (32 ∷ []) (word-shown (signed_decimal z) (word-signed z h)) refl

range-shown : (least greatest setting : ℤ) → IsInteger least → IsInteger greatest → IsInteger setting → has_control (range_fields least greatest setting) ≡ false
range-shown least greatest setting a b c =
    shown-append ((signed_decimal least ++ 32 ∷ []) ++ (signed_decimal greatest ++ 32 ∷ [])) (signed_decimal setting)
    (shown-append (signed_decimal least ++ 32 ∷ []) (signed_decimal greatest ++ 32 ∷ []) (limit-shown least a) (limit-shown greatest b))
    (word-shown (signed_decimal setting) (word-signed setting c))

reading-shown : (r : Reading) → is_position_reading r ≡ false → IsWritten (reading_setting r)
    → has_control (class_before (class_of_reading r) ++ set_fields (class_of_reading r) (reading_setting r) [] None) ≡ false
unfolding class_before set_fields reading_setting
reading-shown (readings.Mute Muted) o w = refl
reading-shown (readings.Mute Unmuted) o w = refl
reading-shown (readings.Polarity NonInverted) o w = refl
reading-shown (readings.Polarity Inverted) o w = refl
reading-shown (readings.Boolean true) o w = refl
reading-shown (readings.Boolean false) o w = refl
reading-shown (readings.Switch r) o w = cc
reading-shown _ o w = range-shown _ _ _ w.1 w.2 w.0

-- a value is written without a control character
pub value-shown : (v : Value) → IsSoundValue v → All IsShortText (names_in v) → has_control (fields_of v) ≡ false
unfolding class_before set_fields class_of value_setting names_in flags_in IsSoundValue
value-shown values.Block h names = refl
value-shown (values.Reads r) h names = reading-shown r h.other (written-reading r h.typed)
value-shown (values.Switch s) h names =
    let few = h.few in
    let position = h.position in
    shown-append (map flag_digit s.enableds.items ++ 32 ∷ names_field s.names.items) (32 ∷ decimal s.position)
    (shown-append (map flag_digit s.enableds.items) (32 ∷ names_field s.names.items) (word-shown (map flag_digit s.enableds.items) (word-flags s.enableds.items)) (names-shown s.names.items names))
    (word-shown (decimal s.position) (word-decimal s.position (omega (arith, few, position))))

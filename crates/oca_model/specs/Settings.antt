-- Setting a reading to a value of its class: its limits stay (AES70-2, AES70-3).
use Rattle.std.specs.Prelude.{nat_le, int_le, ◌&&◌, not, Bool, true, false, if◌then◌else◌, Option, Some, None}
use Rattle.std.specs.Prelude.{Result, Ok, Err}
use Rattle.std.specs.Str.{bytes_eq}
use Rattle.oca_types.specs.declared.class.Class.{Class}
use Rattle.oca_types.specs.Classes.{class_fields_of}
use Rattle.oca_model.specs.declared.reading.Ranged.{Ranged}
use Rattle.oca_model.specs.declared.reading.Reading.{Reading}
use Rattle.oca_model.specs.declared.reading.Reading.TheVariants as readings
use Rattle.oca_model.specs.declared.setting.SettingFault.{SettingFault}
use Rattle.oca_model.specs.declared.setting.SettingFault.TheVariants.{OtherClass, OutOfRange}
use Rattle.oca_model.specs.declared.value.Value.{Value}
use Rattle.oca_model.specs.declared.value.Value.TheVariants as set
use Rattle.oca_model.specs.Readings.{by_range, value_without_limits}
use Rattle.oca_model.specs.Values.{class_of_value, signed_number, unsigned_number}

-- the class of the objects that read so
abbrev pub class_of_reading : Reading → Class
class_of_reading r = class_of_value (value_without_limits r)

-- the setting is not below the least and not above the greatest
abbrev pub lies : {X : Type 0} → (X → X → Bool) → Ranged X → Bool
lies le r = le r.least r.setting && le r.setting r.greatest

-- whether the setting lies within the reading's own limits, where it has some
unfoldable pub is_within : Reading → Bool
is_within (readings.Switch r) = lies nat_le r
is_within reading = by_range (λ _ _ _ r. lies int_le r) (λ _ _ _ r. lies nat_le r) true reading

-- the same limits with another setting
abbrev pub set_in_limits : {X : Type 0} → Ranged X → X → Ranged X
set_in_limits r setting = record r { setting = setting }

-- whether two classes are the same: their identifiers are (AES70-2)
abbrev pub is_same_class : Class → Class → Bool
is_same_class a b = bytes_eq (class_fields_of a) (class_fields_of b)

-- THE READING WITH ANOTHER VALUE of its class, and the limits that it had; a value of another class gives none.
unfoldable pub with_value : Reading → Value → Option Reading
with_value (readings.Mute _) (set.Mute state) = Some (readings.Mute state)
with_value (readings.Polarity _) (set.Polarity state) = Some (readings.Polarity state)
with_value (readings.Switch r) (set.Switch position) = Some (readings.Switch (set_in_limits r position))
with_value (readings.Boolean _) (set.Boolean truth) = Some (readings.Boolean truth)
with_value old value =
    if is_same_class (class_of_reading old) (class_of_value value)
    then by_range (λ _ _ reading r. Some (reading (set_in_limits r (signed_number value))))
    (λ _ _ reading r. Some (reading (set_in_limits r (unsigned_number value)))) None old
    else None

-- what was made of a reading, or the reading as it was
abbrev pub made_or : Reading → Option Reading → Reading
made_or r None = r
made_or r (Some new) = new

-- a reading that was set to a value of its class; a value of another class sets nothing
abbrev pub reading_set_to : Reading → Value → Reading
reading_set_to r value = made_or r (with_value r value)

-- whether what was made lies outside its limits
abbrev pub lies_beyond : Option Reading → Bool
lies_beyond None = false
lies_beyond (Some new) = not (is_within new)

-- whether the value is one of the reading's class that its limits do not allow
abbrev pub is_beyond : Reading → Value → Bool
is_beyond r value = lies_beyond (with_value r value)

-- what was made, where it lies within its limits
abbrev pub within_or_fault : Option Reading → Result Reading SettingFault
within_or_fault None = Err OtherClass
within_or_fault (Some new) = if is_within new then Ok new else Err OutOfRange

-- THE READING SET TO A VALUE, or why it cannot be: the value is of another class, or outside the limits.
abbrev pub set_to : Reading → Value → Result Reading SettingFault
set_to r value = within_or_fault (with_value r value)

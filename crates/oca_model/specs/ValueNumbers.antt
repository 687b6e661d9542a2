-- Values by a number alone: of a mute and of a polarity the number of a state, of an integer actuator the setting
-- (AES70-2).
use Rattle.std.specs.Prelude.{◌≡◌, ℕ, ℤ, pos, Option, Some, None}
use Rattle.oca_types.specs.declared.class.Class.{Class}
use Rattle.oca_model.specs.declared.value.Value.{Value}
use Rattle.oca_model.specs.declared.value.Value.TheVariants as values
use Rattle.oca_model.specs.Values.{by_number, class_of_value, mute_number, polarity_number, IsOfItsType}

-- the number of the state, of a mute and of a polarity
abbrev pub state_in : Value → Option ℕ
state_in (values.Mute state) = Some (mute_number state)
state_in (values.Polarity state) = Some (polarity_number state)
state_in _ = None

-- the setting, of an integer actuator
abbrev pub integer_in : Value → Option ℤ
integer_in value = by_number (λ w z. Some z) (λ w n. Some (pos n)) None value

-- The value of the class has this number; or no value of the class has it.
abbrev pub IsValueWith : {X : Type 0} → (Value → Option X) → Class → X → Option Value → Type 0
IsValueWith part of number (Some value) =
    (class_of_value value ≡ of) × IsOfItsType value × (part value ≡ Some number)
IsValueWith part of number None =
    (value : Value) → class_of_value value ≡ of → IsOfItsType value → part value ≡ Some number → ⊥

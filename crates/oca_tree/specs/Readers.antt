-- What is read of a tree.
use Rattle.std.specs.Prelude.{ℕ, ℤ, pos, Bool, map, List, Option, Some, None, slice_get}
use Rattle.std.specs.Option.{option_map, option_and_then}
use Rattle.oca_types.specs.declared.class.Class.{Class}
use Rattle.oca_tree.specs.declared.object.Object.{Object}
use Rattle.oca_tree.specs.declared.object.Lock.{Lock}
use Rattle.oca_tree.specs.declared.object.Value.{Value}
use Rattle.oca_tree.specs.declared.object.Value.TheVariants as values
use Rattle.oca_tree.specs.declared.infos.ObjectInfos.{ObjectInfos}
use Rattle.oca_tree.specs.declared.tree.ObjectInfo.{ObjectInfo}
use Rattle.oca_tree.specs.declared.tree.Setting.{Setting}
use Rattle.oca_tree.specs.declared.tree.Setting.TheVariants.{State, Position, Truth, Number}
use Rattle.oca_tree.specs.Objects.{class_of, object_of}
use Rattle.oca_model.specs.declared.reading.Ranged.{Ranged}
use Rattle.oca_model.specs.declared.reading.Reading.{Reading}
use Rattle.oca_model.specs.declared.reading.Reading.TheVariants as readings
use Rattle.oca_model.specs.Readings.{by_range}
use Rattle.oca_model.specs.Values.{mute_number, polarity_number}

abbrev pub info_of : Object → ObjectInfo
info_of o = record { ono = o.ono; class = class_of o.value; container = o.container; role = o.role }

-- the object at this place, counted from 0 in order of adding
abbrev pub info_at : List Object → ℕ → Option ObjectInfo
info_at tree n = option_map info_of (slice_get tree n)

-- the object with this number
abbrev pub info_of_ono : List Object → ℕ → Option ObjectInfo
info_of_ono tree number = option_map info_of (object_of tree number)

-- what the objects are that an iterator has left
abbrev pub infos_left : ObjectInfos → List ObjectInfo
infos_left infos = map info_of infos.rest.now

-- the class of the object with this number
abbrev pub class_of_ono : List Object → ℕ → Option Class
class_of_ono tree number = option_map (λ o. class_of o.value) (object_of tree number)

abbrev pub lock_at : List Object → ℕ → Option Lock
lock_at tree number = option_and_then (λ o. o.lock) (object_of tree number)

-- whether the hardware of the object with this number refuses to be changed
abbrev pub failing_at : List Object → ℕ → Option Bool
failing_at tree number = option_map (λ o. o.failing) (object_of tree number)

-- a number with its limits
abbrev pub number_setting : {X : Type 0} → (X → ℤ) → Ranged X → Setting
number_setting number r = Number (number r.setting) (number r.least) (number r.greatest)

-- how what reads so is set; a position, which a switch has with its names, is not set by a reading
unfoldable pub reading_setting : Reading → Option Setting
reading_setting (readings.Mute state) = Some (State (mute_number state))
reading_setting (readings.Polarity state) = Some (State (polarity_number state))
reading_setting (readings.Switch _) = None
reading_setting (readings.Boolean truth) = Some (Truth truth)
reading_setting reading = by_range (λ _ _ _ r. Some (number_setting (λ z. z) r))
    (λ _ _ _ r. Some (number_setting pos r)) None reading

unfoldable pub value_setting : Value → Option Setting
value_setting values.Block = None
value_setting (values.Switch switch) = Some (Position switch.position)
value_setting (values.Reads r) = reading_setting r

abbrev pub setting_at : List Object → ℕ → Option Setting
setting_at tree number = option_and_then (λ o. value_setting o.value) (object_of tree number)

-- What was set reads as it was set.
use Rattle.oca_tree.proofs.Words.{◌≡◌, refl, ap, ◌∙◌, Reading, class_of_reading, class_of_value, makes, Switch}
use Rattle.oca_model.specs.declared.value.Value.{Value}
use Rattle.oca_model.specs.declared.value.Value.TheVariants as set
use Rattle.oca_model.specs.Readings.{value_without_limits}
use Rattle.oca_model.specs.Settings.{made_or, with_value}
use Rattle.oca_tree.specs.declared.object.Value.{Value as Held}
use Rattle.oca_tree.specs.declared.object.Value.TheVariants as held
use Rattle.oca_tree.specs.Objects.{class_of}
use Rattle.oca_tree.specs.Typed.{reading_held, position_reading}
use Rattle.oca_tree.specs.TypedLaws.{SetsReading, SettingsAreRead}

read : (r : Reading) (value : Value) → class_of_reading r ≡ class_of_value value → SetsReading (held.Reads r) value r
unfolding reading_held
read r value e =
    let made = makes r value e in
    record { before = refl; after = refl; set = ap (λ new. value_without_limits (made_or r new)) made.made ∙ made.value }

pub settings_read : SettingsAreRead
unfolding class_of reading_held with_value
settings_read (held.Reads r) value e = (r, read r value e)
settings_read (held.Switch switch) (set.Switch n) e = (position_reading switch, record { before = refl; after = refl; set = refl })
settings_read _ (set.Mute s) e = let no : ⊥ = cc in absurd no
settings_read _ _ e = let no : ⊥ = cc in absurd no

-- What is stored of an object, brought into the struct that says what the object is to be.
use Rattle.std.specs.Prelude.{◌≡◌, ◌⊎◌, ℕ, ◌<◌, ◌≤◌, true, Option, Some, None}
use Rattle.std.specs.List.{AllByRecursion}
use Rattle.oca_model.specs.declared.reading.Reading.{Reading}
use Rattle.oca_model.specs.declared.reading.Reading.TheVariants as readings
use Rattle.oca_model.specs.Settings.{is_within}
use Rattle.oca_calls.specs.declared.value_words.ReadingWords.{ReadingWords}
use Rattle.oca_calls.specs.declared.value_words.ValueWords.{ValueWords}
use Rattle.oca_calls.specs.declared.spec_words.SpecWords.{SpecWords}
use Rattle.oca_calls.specs.Calls.{IsName}
use Rattle.oca_calls.specs.CSpecs.{AreReadingOf, IsOfThisVersion, names_of}

-- the same limits with another value
abbrev pub with_stored_value : ReadingWords → ValueWords → ReadingWords
with_stored_value r value = record r { value = value }

-- THE STRUCT WITH WHAT WAS STORED: the value, the label, whether the object is enabled, and the names of its positions
-- and which are enabled; its role, its limits and whether it can be locked stay.
abbrev pub with_stored : SpecWords → SpecWords → SpecWords
with_stored w stored = record w {
  enabled = stored.enabled;
  reading = with_stored_value w.reading stored.reading.value;
  label = stored.label;
  names = stored.names;
  enableds = stored.enableds;
}

-- both are of this version
abbrev pub AreOfThisVersion : SpecWords → SpecWords → Type 0
AreOfThisVersion w stored = IsOfThisVersion w × IsOfThisVersion stored

-- both are of one class, with as many positions
abbrev pub AreAlike : SpecWords → SpecWords → Type 0
AreAlike w stored =
    (stored.reading.value.class_number ≡ w.reading.value.class_number) × (stored.positions ≡ w.positions)

-- its label and the names of its positions are of at most 64 bytes, in UTF-8
abbrev pub HasSetTexts : SpecWords → Type 0
HasSetTexts w = IsName w.label × AllByRecursion IsName (names_of w)

-- A setting that an object with these limits, and so many positions, can have.
abbrev pub IsPossible : Reading → ℕ → Type 0
IsPossible (readings.Switch r) positions = r.setting < positions
IsPossible r positions = is_within r ≡ true

-- WHAT WAS STORED IS BROUGHT INTO A STRUCT, with this answer, the first that applies: bad size, where one of them is of
-- another version; other kind, where they are of two classes, or of two numbers of positions; bad range, where these
-- are more than 16; bad text, where the stored label or name is none; out of range, where the value cannot be the
-- object's; none of which changes anything; else done. A block has no value.
abbrev pub PossibleRestores : Option Reading → ℕ → SpecWords → SpecWords → SpecWords → Type 0
PossibleRestores None number old stored new = (number ≡ 19) × (new ≡ old)
PossibleRestores (Some reading) number old stored new =
    ((IsPossible reading old.positions → ⊥) × (number ≡ 19) × (new ≡ old))
    ⊎ (IsPossible reading old.positions × (number ≡ 0) × (new ≡ with_stored old stored))

abbrev pub ValueRestores : ℕ → SpecWords → SpecWords → SpecWords → Type 0
ValueRestores number old stored new =
    ((old.reading.value.class_number ≡ 1) × (number ≡ 0) × (new ≡ with_stored old stored))
    ⊎ ((old.reading.value.class_number ≡ 1 → ⊥) × (reading : Option Reading)
    × AreReadingOf (with_stored_value old.reading stored.reading.value) reading
    × PossibleRestores reading number old stored new)

abbrev pub AlikeRestore : ℕ → SpecWords → SpecWords → SpecWords → Type 0
AlikeRestore number old stored new =
    ((16 < old.positions) × (number ≡ 7) × (new ≡ old))
    ⊎ (((old.positions ≤ 16) × (HasSetTexts stored → ⊥) × (number ≡ 6) × (new ≡ old))
    ⊎ ((old.positions ≤ 16) × HasSetTexts stored × ValueRestores number old stored new))

abbrev pub RestoresSpec : ℕ → SpecWords → SpecWords → SpecWords → Type 0
RestoresSpec number old stored new =
    ((AreOfThisVersion old stored → ⊥) × (number ≡ 15) × (new ≡ old))
    ⊎ ((AreOfThisVersion old stored × (AreAlike old stored → ⊥) × (number ≡ 18) × (new ≡ old))
    ⊎ (AreOfThisVersion old stored × AreAlike old stored × AlikeRestore number old stored new))

-- What an object is to be, and what it is, as C has it: one struct.
use Rattle.std.specs.Prelude.{◌≡◌, ◌⊎◌, ℕ, ◌-◌, ◌==◌, ◌<◌, ◌≤◌, not, ℤ, pos, Bool, if◌then◌else◌, List, [], ◌∷◌, map}
use Rattle.std.specs.Prelude.{take, length, Option, Some, None, IfSome, IsSome, Result, Ok, Err, FitsSigned}
use Rattle.std.specs.Int.{w64, FitsUnsigned, cast_unsigned, from_bool}
use Rattle.std.specs.List.{AllByRecursion}
use Rattle.oca_types.specs.declared.class.Class.{Class}
use Rattle.oca_tree.specs.declared.object.Object.{Object}
use Rattle.oca_tree.specs.declared.object.Value.TheVariants as held
use Rattle.oca_tree.specs.declared.builder.Kind.{Kind}
use Rattle.oca_tree.specs.declared.builder.Kind.TheVariants as kinds
use Rattle.oca_tree.specs.declared.builder.Spec.{Spec}
use Rattle.oca_tree.specs.declared.start.Start.{Start}
use Rattle.oca_tree.specs.declared.start.StartFault.{StartFault}
use Rattle.oca_tree.specs.declared.tree.ObjectInfo.{ObjectInfo}
use Rattle.oca_tree.specs.declared.tree.Setting.{Setting}
use Rattle.oca_tree.specs.declared.tree.Setting.TheVariants as settings
use Rattle.oca_tree.specs.Objects.{Store}
use Rattle.oca_tree.specs.Building.{value_of}
use Rattle.oca_tree.specs.Starts.{AddsWith, BeginsWith, flags_of}
use Rattle.oca_tree.specs.Copies.{Stored, stored_at, names_of_ono, lockable_at}
use Rattle.oca_tree.specs.Readers.{setting_at}
use Rattle.oca_model.specs.declared.value.Value.{Value}
use Rattle.oca_model.specs.declared.value.Value.TheVariants as values
use Rattle.oca_model.specs.declared.reading.Ranged.{Ranged}
use Rattle.oca_model.specs.declared.reading.Reading.{Reading}
use Rattle.oca_model.specs.declared.reading.Reading.TheVariants as readings
use Rattle.oca_model.specs.Values.{IntegerType, Signed, Unsigned, class_of_value, integer_type, signed_number}
use Rattle.oca_model.specs.Values.{unsigned_number}
use Rattle.oca_calls.specs.declared.answer.Answer.{Answer}
use Rattle.oca_calls.specs.declared.answer.Answer.TheVariants as answers
use Rattle.oca_calls.specs.declared.device.DeviceBehind.{DeviceBehind}
use Rattle.oca_calls.specs.declared.name.Name.{Name}
use Rattle.oca_calls.specs.declared.value_words.ReadingWords.{ReadingWords}
use Rattle.oca_calls.specs.declared.value_words.ValueWords.{ValueWords}
use Rattle.oca_calls.specs.declared.spec_words.SpecWords.{SpecWords}
use Rattle.oca_calls.specs.Numbers.{answer_number, start_answer}
use Rattle.oca_calls.specs.Calls.{HandleBuilds, IsName, IsRoom, IsSwitch, name_bytes, name_sizes}
use Rattle.oca_calls.specs.CValues.{AreWordsOf}
use Rattle.oca_calls.specs.Outputs.{class_number}

-- how many bytes the struct has
abbrev pub spec_size : ℕ
spec_size = 1248

-- 0 is no, and any other byte is yes
abbrev pub is_yes : ℕ → Bool
is_yes byte = not (byte == 0)

-- the names of its positions, their texts, and which of them are enabled
abbrev pub names_of : SpecWords → List Name
names_of w = take w.positions w.names

abbrev pub texts_of : SpecWords → List (List ℕ)
texts_of w = map name_bytes (names_of w)

abbrev pub position_flags : SpecWords → List Bool
position_flags w = map is_yes (take w.positions w.enableds)

-- ---- readings

-- a setting within its limits
abbrev pub ranged : {X : Type 0} → X → X → X → Ranged X
ranged setting least greatest = record { setting = setting; least = least; greatest = greatest }

-- the value, where there is one of the class
abbrev pub of_class : Class → Option Value → Option Value
of_class class None = None
of_class class (Some value) = if class_number (class_of_value value) == class_number class then Some value else None

-- the reading of an integer of a type with its limits, where there are both
abbrev pub integer_reading : Option IntegerType → Value → Option Value → Option Value → Option Reading
integer_reading (Some (Signed _ _ reading)) v (Some l) (Some g) =
    Some (reading (ranged (signed_number v) (signed_number l) (signed_number g)))
integer_reading (Some (Unsigned _ _ reading)) v (Some l) (Some g) =
    Some (reading (ranged (unsigned_number v) (unsigned_number l) (unsigned_number g)))
integer_reading _ _ _ _ = None

-- the reading that three values make: the limits of an integer are of its class; those of others are not looked at
abbrev pub reading_of_values : Option Value → Option Value → Option Value → Option Reading
reading_of_values None l g = None
reading_of_values (Some (values.Mute state)) l g = Some (readings.Mute state)
reading_of_values (Some (values.Polarity state)) l g = Some (readings.Polarity state)
reading_of_values (Some (values.Switch n)) l g = Some (readings.Switch (ranged n n n))
reading_of_values (Some (values.Boolean truth)) l g = Some (readings.Boolean truth)
reading_of_values (Some v) l g =
    let class = class_of_value v in integer_reading (integer_type class) v (of_class class l) (of_class class g)

-- THE READING whose words these are, or none.
abbrev pub AreReadingOf : ReadingWords → Option Reading → Type 0
AreReadingOf w reading =
    (v : Option Value) × AreWordsOf w.value v × (l : Option Value) × AreWordsOf w.least l × (g : Option Value)
    × AreWordsOf w.greatest g × (reading ≡ reading_of_values v l g)

-- the kind of object that is read so, a switch with these names; a position's own limits are those of the names
abbrev pub IsKindOf : Kind → Reading → List (List ℕ) → Type 0
IsKindOf kind (readings.Switch r) texts = IsSwitch kind texts r.setting
IsKindOf kind reading texts = value_of kind ≡ held.Reads reading

-- THE KIND that the words of a reading and the texts of positions give: a block by its class alone; or none.
abbrev pub GivesKind : ReadingWords → List (List ℕ) → Option Kind → Type 0
GivesKind w texts (Some kind) =
    ((w.value.class_number ≡ 1) × (kind ≡ kinds.Block))
    ⊎ ((w.value.class_number ≡ 1 → ⊥) × (reading : Reading) × AreReadingOf w (Some reading)
    × IsKindOf kind reading texts)
GivesKind w texts None = (w.value.class_number ≡ 1 → ⊥) × AreReadingOf w None

-- ---- additions

-- the flags of a switch's positions; no other kind has any
abbrev pub flags_for : Kind → List Bool → Option (List Bool)
flags_for (kinds.Switch names position) flags = Some flags
flags_for _ flags = None

-- what the struct says of the object that is added, and what was stored of it
pub record GivesSpec (w : SpecWords) (spec : Spec) : Type 0 where
  pub role : spec.role.now ≡ name_bytes w.role
  pub lockable : spec.lockable ≡ is_yes w.lockable
  pub kind : GivesKind w.reading (texts_of w) (Some spec.kind)

pub record GivesStart (w : SpecWords) (kind : Kind) (start : Start) : Type 0 where
  pub label : start.label.now ≡ name_bytes w.label
  pub enabled : start.enabled ≡ is_yes w.enabled
  pub flags : flags_of start ≡ flags_for kind (position_flags w)

-- a struct is of this version: of its size, and the bytes that a later one may use are 0
pub record IsOfThisVersion (w : SpecWords) : Type 0 where
  pub size : w.size ≡ spec_size
  pub zeros : w.zeros ≡ 0 ∷ 0 ∷ 0 ∷ 0 ∷ 0 ∷ 0 ∷ []

-- the struct is of this version, and has at most 16 positions
pub record IsSized (w : SpecWords) : Type 0 where
  pub version : IsOfThisVersion w
  pub positions : w.positions ≤ 16

-- its role and its label are of at most 64 bytes, in UTF-8
abbrev pub HasOwnTexts : SpecWords → Type 0
HasOwnTexts w = IsName w.role × IsName w.label

-- what an addition with what was stored is answered with
abbrev pub start_answers : {X : Type 0} → Result X StartFault → Answer
start_answers (Ok _) = answers.Done
start_answers (Err fault) = start_answer fault

-- AN ADDITION BY A STRUCT answered this, the first that applies: bad size, where the struct is of another version; bad
-- range, where it has more than 16 positions; bad text, where a text is none; no value, where the reading is none; none
-- of which changes anything; else as the builder's own addition of what the struct says.
abbrev pub GivenAddedBy : Answer → Store → Store → ℕ → ℕ → SpecWords → Type 0
GivenAddedBy answer old new container ono w =
    (spec : Spec) × GivesSpec w spec × (start : Start) × GivesStart w spec.kind start
    × (r : Result (Unit {0}) StartFault) × (answer ≡ start_answers r) × AddsWith r old new container ono spec start

abbrev pub KindAddedBy : Answer → Store → Store → ℕ → ℕ → SpecWords → Type 0
KindAddedBy answer old new container ono w =
    (GivesKind w.reading (texts_of w) None × (answer ≡ answers.NoValue) × (new ≡ old))
    ⊎ GivenAddedBy answer old new container ono w

abbrev pub NamedAddedBy : Answer → Store → Store → ℕ → ℕ → SpecWords → Type 0
NamedAddedBy answer old new container ono w =
    ((HasOwnTexts w → ⊥) × (answer ≡ answers.BadText) × (new ≡ old))
    ⊎ (HasOwnTexts w × KindAddedBy answer old new container ono w)

abbrev pub SizedAddedBy : Answer → Store → Store → ℕ → ℕ → SpecWords → Type 0
SizedAddedBy answer old new container ono w =
    ((AllByRecursion IsName (names_of w) → ⊥) × (answer ≡ answers.BadText) × (new ≡ old))
    ⊎ (AllByRecursion IsName (names_of w) × NamedAddedBy answer old new container ono w)

abbrev pub SpecAddedBy : Answer → Store → Store → ℕ → ℕ → SpecWords → Type 0
SpecAddedBy answer old new container ono w =
    ((IsOfThisVersion w → ⊥) × (answer ≡ answers.BadSize) × (new ≡ old))
    ⊎ ((IsOfThisVersion w × (16 < w.positions) × (answer ≡ answers.BadRange) × (new ≡ old))
    ⊎ (IsSized w × SizedAddedBy answer old new container ono w))

-- the same behind an open handle
abbrev pub HandleAddsSpec : ℕ → Option DeviceBehind → Store → ℕ → ℕ → SpecWords → Type 0
HandleAddsSpec number behind built container ono w =
    (built' : Store) × HandleBuilds behind built' × (answer : Answer) × (number ≡ answer_number answer)
    × SpecAddedBy answer built built' container ono w

-- ---- a root

-- what was stored of a root; all that the struct says else is not looked at
pub record GivesRoot (w : SpecWords) (start : Start) : Type 0 where
  pub label : start.label.now ≡ name_bytes w.label
  pub enabled : start.enabled ≡ is_yes w.enabled
  pub flags : flags_of start ≡ None

-- A struct is opened with what was built, unless memory for its packets is refused.
abbrev pub OpensOver : ℕ → Option DeviceBehind → Store → Type 0
OpensOver number new built = ((number ≡ 0) × HandleBuilds new built) ⊎ ((number ≡ 8) × (new ≡ None))

abbrev pub OpensBy : ℕ → Option DeviceBehind → Result Store StartFault → Type 0
OpensBy number new (Ok built) = OpensOver number new built
OpensBy number new (Err fault) = (number ≡ answer_number (start_answer fault)) × (new ≡ None)

-- A closed struct is opened with the root that was stored, the first that applies: not, where that is no room or the
-- struct is of another version; nor where the label is none; else as the builder's own beginning with it.
abbrev pub OpensWith : ℕ → Option DeviceBehind → ℕ → SpecWords → Type 0
OpensWith number new room w =
    ((number ≡ 15) × (IsRoom room → IsOfThisVersion w → ⊥) × (new ≡ None))
    ⊎ (((number ≡ 6) × IsRoom room × IsOfThisVersion w × (IsName w.label → ⊥) × (new ≡ None))
    ⊎ (IsRoom room × IsOfThisVersion w × IsName w.label × (start : Start) × GivesRoot w start
    × (r : Result Store StartFault) × BeginsWith r room start × OpensBy number new r))

-- ---- what is written

-- a number in 64 bits, one below 0 in two's complement
abbrev pub HasBits : ℤ → ℕ → Type 0
HasBits z bits = (FitsSigned w64 z × (bits ≡ cast_unsigned w64 z)) ⊎ (z ≡ pos bits)

pub record IsNumberWords (class : ℕ) (z : ℤ) (w : ValueWords) : Type 0 where
  pub class_number : w.class_number ≡ class
  pub zero : w.zero ≡ 0
  pub bits : HasBits z w.bits

-- the same words three times
abbrev pub alone : ℕ → ℕ → ReadingWords
alone class bits =
    let words : ValueWords = record { class_number = class; zero = 0; bits = bits } in
    record { value = words; least = words; greatest = words }

-- the words of a position, from the first to the last of so many
abbrev pub position_words : ℕ → ℕ → ℕ → ReadingWords
position_words class positions position = record {
  value = record { class_number = class; zero = 0; bits = position };
  least = record { class_number = class; zero = 0; bits = 0 };
  greatest = record { class_number = class; zero = 0; bits = positions - 1 };
}

-- the words of how an object of a class with so many positions is set; of a block its class alone
abbrev pub AreSettingWords : ℕ → ℕ → Option Setting → ReadingWords → Type 0
AreSettingWords class positions None w = w ≡ alone class 0
AreSettingWords class positions (Some (settings.State state)) w = w ≡ alone class state
AreSettingWords class positions (Some (settings.Position position)) w = w ≡ position_words class positions position
AreSettingWords class positions (Some (settings.Truth truth)) w = w ≡ alone class (from_bool truth)
AreSettingWords class positions (Some (settings.Number setting least greatest)) w =
    IsNumberWords class setting w.value × IsNumberWords class least w.least × IsNumberWords class greatest w.greatest

-- WHAT IS WRITTEN of the object that this is: all that an addition of the struct makes of it.
pub record IsSpecOf (tree : List Object) (info : ObjectInfo) (w : SpecWords) : Type 0 where
  pub sized : IsSized w
  pub role : name_bytes w.role ≡ info.role
  pub role_size : w.role.size ≡ length info.role
  pub lockable : lockable_at tree info.ono.0 ≡ Some (is_yes w.lockable)
  pub reading : AreSettingWords (class_number info.class) (length (names_of_ono tree info.ono.0))
      (setting_at tree info.ono.0) w.reading
  pub names : texts_of w ≡ names_of_ono tree info.ono.0
  pub sizes : name_sizes (names_of w) ≡ map length (names_of_ono tree info.ono.0)
  pub stored : (flags : Option (List Bool))
      × (stored_at tree info.ono.0
      ≡ Some (record { label = name_bytes w.label; enabled = is_yes w.enabled; flags = flags }))
      × IfSome flags (λ them. them ≡ position_flags w)
  pub label_size : w.label.size ≡ length (name_bytes w.label)

-- a number of 64 bits, as each object has
abbrev pub FitsBits : ℤ → Type 0
FitsBits z = FitsSigned w64 z ⊎ FitsUnsigned w64 z

abbrev pub FitsSetting : Option Setting → Type 0
FitsSetting (Some (settings.Number setting least greatest)) = FitsBits setting × FitsBits least × FitsBits greatest
FitsSetting _ = Unit {0}

-- what was stored has room: a label of at most 64 bytes, and as many flags as positions
abbrev pub FitsStored : ℕ → Option Stored → Type 0
FitsStored positions None = ⊥
FitsStored positions (Some s) = (length s.label ≤ 64) × IfSome s.flags (λ flags. length flags ≡ positions)

-- what an object with this number has, has room in the struct: so it is of every tree
pub record FitsSpec (tree : List Object) (ono : ℕ) : Type 0 where
  pub setting : FitsSetting (setting_at tree ono)
  pub positions : length (names_of_ono tree ono) ≤ 16
  pub lockable : IsSome (lockable_at tree ono)
  pub stored : FitsStored (length (names_of_ono tree ono)) (stored_at tree ono)

-- An object is written; or that it has no room in the struct, or that there is none at this index, and then nothing is
-- written.
abbrev pub WritesFound : List Object → Option ObjectInfo → SpecWords → SpecWords → ℕ → Type 0
WritesFound tree None old new number = (number ≡ 13) × (new ≡ old)
WritesFound tree (Some info) old new number =
    ((number ≡ 0) × IsSpecOf tree info new) ⊎ ((number ≡ 14) × (new ≡ old) × (FitsSpec tree info.ono.0 → ⊥))

-- Before that, nothing is written to a struct that does not say this version's size.
abbrev pub WritesSpec : List Object → Option ObjectInfo → SpecWords → SpecWords → ℕ → Type 0
WritesSpec tree info old new number =
    ((old.size ≡ spec_size → ⊥) × (number ≡ 15) × (new ≡ old))
    ⊎ ((old.size ≡ spec_size) × WritesFound tree info old new number)

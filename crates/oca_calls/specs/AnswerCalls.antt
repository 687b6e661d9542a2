-- What C reads of answers: texts, names of positions, members of a block and classes.
use Rattle.std.specs.Prelude.{◌≡◌, ◌⊎◌, ℕ, List, take, map, length, Option, Some, None}
use Rattle.oca_types.specs.declared.class.Class.{Class}
use Rattle.oca_types.specs.Texts.{text_encoding}
use Rattle.oca_model.specs.Members.{class_with}
use Rattle.oca_calls.specs.declared.answer_words.ClassId.{ClassId}
use Rattle.oca_calls.specs.declared.answer_words.Members.{Members}
use Rattle.oca_calls.specs.declared.answer_words.Names.{Names}
use Rattle.oca_calls.specs.declared.name.Name.{Name}
use Rattle.oca_calls.specs.Calls.{IsName, name_bytes, name_sizes}
use Rattle.oca_calls.specs.Outputs.{WritesToBuffer, class_number}

-- A text is written; or that the parameters are none, and then nothing is written.
abbrev pub WritesText : Option (List ℕ) → Name → Name → ℕ → Type 0
WritesText None old new number = (number ≡ 24) × (new ≡ old)
WritesText (Some text) old new number = (number ≡ 0) × (new.size ≡ length text) × (name_bytes new ≡ text)

-- the names of positions, how many they are and they
abbrev pub WritesNames : Option (List (List ℕ)) → Names → Names → ℕ → Type 0
WritesNames None old new number = (number ≡ 24) × (new ≡ old)
WritesNames (Some texts) old new number =
    (number ≡ 0) × (new.count ≡ length texts) × (map name_bytes (take (length texts) new.names) ≡ texts)
    × (name_sizes (take (length texts) new.names) ≡ map length texts)

-- the numbers of members, how many they are and they
abbrev pub WritesMembers : Option (List ℕ) → Members → Members → ℕ → Type 0
WritesMembers None old new number = (number ≡ 24) × (new ≡ old)
WritesMembers (Some onos) old new number =
    (number ≡ 0) × (new.count ≡ length onos) × (take (length onos) new.onos ≡ onos)

-- the number of the class, and 0 of one that is not of this profile
abbrev pub number_of_class : Option Class → ℕ
number_of_class None = 0
number_of_class (Some class) = class_number class

-- the fields of a class's identifier, how many they are and they, and the number of the class
abbrev pub WritesClass : Option (List ℕ) → ClassId → ClassId → ℕ → Type 0
WritesClass None old new number = (number ≡ 24) × (new ≡ old)
WritesClass (Some fields) old new number =
    (number ≡ 0) × (new.count ≡ length fields) × (take (length fields) new.fields ≡ fields)
    × (new.class_number ≡ number_of_class (class_with fields))

-- The encoding of a text is written; or that the name is none, and then nothing is written.
abbrev pub WritesEncoding : Name → List ℕ → List ℕ → ℕ → ℕ → Type 0
WritesEncoding name old new size number =
    ((IsName name → ⊥) × (number ≡ 24) × (new ≡ old))
    ⊎ (IsName name × WritesToBuffer (text_encoding (name_bytes name)) old new size number)

-- The words for values, as C reads and writes them.
use Rattle.std.specs.Prelude.{◌≡◌, ◌⊎◌, ℕ, List, Option, Some, None}
use Rattle.std.specs.Str.{IsUtf8}
use Rattle.oca_types.specs.declared.class.Class.{Class}
use Rattle.oca_model.specs.declared.value.Value.{Value}
use Rattle.oca_model.specs.Values.{IsOfItsType, class_of_value}
use Rattle.oca_model.specs.Words.{IsRead, word_of}
use Rattle.oca_calls.specs.declared.value_words.ValueWords.{ValueWords}
use Rattle.oca_calls.specs.CValues.{AreWordsOf, HasClass, words_of}
use Rattle.oca_calls.specs.Outputs.{WritesToBuffer}

-- The word for a value is written; or that there is no such value.
abbrev pub WritesWord : Option Value → List ℕ → List ℕ → ℕ → ℕ → Type 0
WritesWord None old new size number = (number ≡ 24) × (new ≡ old)
WritesWord (Some value) old new size number = WritesToBuffer (word_of value) old new size number

abbrev pub WritesWordOf : ValueWords → List ℕ → List ℕ → ℕ → ℕ → Type 0
WritesWordOf words old new size number =
    (value : Option Value) × AreWordsOf words value × WritesWord value old new size number

-- The value of an object of the class that a word names is found, or none; no class, and no UTF-8, name one.
abbrev pub IsNamedBy : Option Class → List ℕ → Option Value → Type 0
IsNamedBy None word found = found ≡ None
IsNamedBy (Some class) word found = ((IsUtf8 word → ⊥) × (found ≡ None)) ⊎ (IsUtf8 word × IsRead class word found)

-- A value is written; or that there is none, and then nothing is written.
abbrev pub WritesValue : Option Value → ValueWords → ValueWords → ℕ → Type 0
WritesValue None old new number = (number ≡ 24) × (new ≡ old)
WritesValue (Some value) old new number = (number ≡ 0) × (new ≡ words_of value)

-- THE VALUE that a word names, of an object of the class with this number, is written.
abbrev pub WritesNamed : ℕ → List ℕ → ValueWords → ValueWords → ℕ → Type 0
WritesNamed of word old new number =
    (class : Option Class) × HasClass of class × (found : Option Value) × IsNamedBy class word found
    × WritesValue found old new number

-- THE WORD FOR A VALUE names that value again, and no other.
abbrev pub WordsAreReadBack : Type 0
WordsAreReadBack = (value : Value) (found : Option Value) → IsOfItsType value →
    IsRead (class_of_value value) (word_of value) found → found ≡ Some value

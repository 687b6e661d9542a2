-- Values, readings and requests, as C has them.
use Rattle.std.specs.Prelude.{◌≡◌, ℕ, List, [], Option, Some, None}
use Rattle.std.specs.Int.{w64, cast_unsigned, from_bool}
use Rattle.oca_types.specs.declared.class.Class.{Class}
use Rattle.oca_types.specs.declared.class.Method.{Method}
use Rattle.oca_model.specs.declared.value.Value.{Value}
use Rattle.oca_model.specs.declared.value.Value.TheVariants as values
use Rattle.oca_model.specs.declared.reading.Ranged.{Ranged}
use Rattle.oca_model.specs.declared.reading.Reading.{Reading}
use Rattle.oca_model.specs.declared.reading.Reading.TheVariants as readings
use Rattle.oca_model.specs.declared.value_request.ValueRequest.{ValueRequest}
use Rattle.oca_model.specs.Values.{IsOfItsType, by_number, class_of_value, mute_number, polarity_number, get_method}
use Rattle.oca_model.specs.Values.{set_method, value_encoding}
use Rattle.oca_model.specs.Readings.{by_range, reading_in, value_without_limits}
use Rattle.oca_model.specs.ValueRequests.{CallsMethod}
use Rattle.oca_calls.specs.declared.value_words.ValueWords.{ValueWords}
use Rattle.oca_calls.specs.declared.value_words.ReadingWords.{ReadingWords}
use Rattle.oca_calls.specs.declared.value_words.RequestWords.{RequestWords}
use Rattle.oca_calls.specs.LinkCalls.{LiesIn}
use Rattle.oca_calls.specs.Outputs.{WritesToBuffer, class_number}

-- ---- the words of a value

-- the number in 64 bits: of a state, a position, a truth or a setting, where a signed one is in two's complement
abbrev pub bits_of_value : Value → ℕ
bits_of_value (values.Mute state) = mute_number state
bits_of_value (values.Polarity state) = polarity_number state
bits_of_value (values.Switch position) = position
bits_of_value (values.Boolean truth) = from_bool truth
bits_of_value value = by_number (λ _ z. cast_unsigned w64 z) (λ _ n. n) 0 value

-- THE WORDS OF A VALUE: the number of its class, and its own number.
abbrev pub words_of : Value → ValueWords
words_of value = record { class_number = class_number (class_of_value value); zero = 0; bits = bits_of_value value }

-- These are the words of the value; what stands between its class and its number is not looked at.
abbrev pub IsWords : Value → ValueWords → Type 0
IsWords value words = (words.class_number ≡ (words_of value).class_number) × (words.bits ≡ (words_of value).bits)

-- These are the words of that value; or of none.
abbrev pub AreWordsOf : ValueWords → Option Value → Type 0
AreWordsOf words (Some value) = IsOfItsType value × IsWords value words
AreWordsOf words None = (value : Value) → IsOfItsType value → IsWords value words → ⊥

-- ---- the words of a reading

abbrev pub three : Value → Value → Value → ReadingWords
three value least greatest = record { value = words_of value; least = words_of least; greatest = words_of greatest }

-- a setting, its least and its greatest
abbrev pub ranged_words : {X : Type 0} → (X → Value) → Ranged X → ReadingWords
ranged_words value r = three (value r.setting) (value r.least) (value r.greatest)

-- THE WORDS OF A READING: the value, and the least and the greatest where its class has limits, else the value again.
abbrev pub reading_words : Reading → ReadingWords
reading_words (readings.Switch r) = ranged_words values.Switch r
reading_words reading =
    let value = value_without_limits reading in
    by_range (λ _ of _ r. ranged_words of r) (λ _ of _ r. ranged_words of r) (three value value value) reading

-- ---- what the calls write of values

-- the class with this number; or there is none
abbrev pub HasClass : ℕ → Option Class → Type 0
HasClass number (Some class) = class_number class ≡ number
HasClass number None = (class : Class) → class_number class ≡ number → ⊥

-- What a set method has of the value whose words these are is written; or that there is no such value.
abbrev pub PutsValue : Option Value → List ℕ → List ℕ → ℕ → ℕ → Type 0
PutsValue None old new size number = (number ≡ 24) × (new ≡ old)
PutsValue (Some value) old new size number = WritesToBuffer (value_encoding value) old new size number

abbrev pub PutsWords : ValueWords → List ℕ → List ℕ → ℕ → ℕ → Type 0
PutsWords words old new size number =
    (value : Option Value) × AreWordsOf words value × PutsValue value old new size number

-- A reading is written by its words; or that there is none.
abbrev pub WritesReading : Option Reading → ReadingWords → ℕ → Type 0
WritesReading None words number = number ≡ 24
WritesReading (Some reading) words number = (number ≡ 0) × (words ≡ reading_words reading)

-- what the answer gives of an object of the class; nothing where there is no such class
abbrev pub reading_by : Option Class → List ℕ → Option Reading
reading_by None bytes = None
reading_by (Some class) bytes = reading_in class bytes

-- What the parameters of an answer give of an object of the class with this number is written.
abbrev pub ReadsAnswer : ℕ → List ℕ → ReadingWords → ℕ → Type 0
ReadsAnswer of bytes words number =
    (class : Option Class) × HasClass of class × WritesReading (reading_by class bytes) words number

-- ---- requests

-- the words of a request
pub record HasRequestWords (request : ValueRequest) (words : RequestWords) : Type 0 where
  pub level : words.level ≡ request.method.level
  pub index : words.index ≡ request.method.index
  pub count : words.count ≡ request.count
  pub params : LiesIn request.params.items words.params words.size

-- The words call this method of the class, with so many parameters in these bytes.
abbrev pub CallsSo : Class → Method → RequestWords → ℕ → List ℕ → Type 0
CallsSo class method words count bytes =
    (request : ValueRequest) × CallsMethod class method request count bytes × HasRequestWords request words

-- What sets an object to the value is written; or that there is no such value.
abbrev pub WritesSet : Option Value → RequestWords → ℕ → Type 0
WritesSet None words number = number ≡ 24
WritesSet (Some value) words number =
    (number ≡ 0) × CallsSo (class_of_value value) (set_method value) words 1 (value_encoding value)

abbrev pub WritesSetOf : ValueWords → RequestWords → ℕ → Type 0
WritesSetOf of words number = (value : Option Value) × AreWordsOf of value × WritesSet value words number

-- What reads an object of the class is written; or that nothing does.
abbrev pub WritesGetBy : Option Method → Class → RequestWords → ℕ → Type 0
WritesGetBy None class words number = number ≡ 24
WritesGetBy (Some method) class words number = (number ≡ 0) × CallsSo class method words 0 []

abbrev pub WritesGet : Option Class → RequestWords → ℕ → Type 0
WritesGet None words number = number ≡ 24
WritesGet (Some class) words number = WritesGetBy (get_method class) class words number

abbrev pub WritesGetOf : ℕ → RequestWords → ℕ → Type 0
WritesGetOf of words number = (class : Option Class) × HasClass of class × WritesGet class words number

-- What is answered to a request that was carried out (AES70-2).
use Rattle.std.specs.Prelude.{◌≡◌, ℕ, ◌<◌, ◌≤◌, ◌^◌, ◌==◌, if◌then◌else◌, List, [], ◌∷◌, length, Option, Some, None}
use Rattle.std.specs.Option.{option_map, option_and_then}
use Rattle.std.specs.Int.{w32}
use Rattle.oca_types.specs.declared.class.Class.{Class}
use Rattle.oca_types.specs.declared.class.Method.{Method}
use Rattle.oca_types.specs.declared.class.Method.TheVariants as method
use Rattle.oca_types.specs.Numbers.{unsigned_encoding, bool_encoding}
use Rattle.oca_types.specs.Reading.{unsigned_at, bool_at, text_at}
use Rattle.oca_types.specs.Texts.{text_encoding}
use Rattle.oca_model.specs.declared.answer.Answer.{Answer}
use Rattle.oca_model.specs.declared.answer.Answer.TheVariants.{Done, Truth, Text, Owner, Reading, Names, Flags}
use Rattle.oca_model.specs.declared.answer.Answer.TheVariants.{Class as ItsClass, Members, Descendants}
use Rattle.oca_model.specs.declared.answer.Shape.{Shape}
use Rattle.oca_model.specs.declared.answer.Shape.TheVariants as shape
use Rattle.oca_model.specs.Parameters.{whole}
use Rattle.oca_model.specs.Values.{class_of_value}
use Rattle.oca_model.specs.Readings.{value_without_limits, reading_count, reading_encoding, reading_in, IsReading}
use Rattle.oca_types.specs.Classes.{class_identification_encoding}
use Rattle.oca_model.specs.Members.{class_in, member_at, member_encoding, IsMember, descendant_at, descendant_encoding}
use Rattle.oca_model.specs.Members.{IsDescendant}
use Rattle.oca_model.specs.Lists.{IsText, Each, list_encoding, list_of_most}

-- the kind of answer that a method has
abbrev pub shape_of : Method → Shape
shape_of method.GetLockable = shape.Truth
shape_of method.GetEnabled = shape.Truth
shape_of method.GetPositionEnabled = shape.Truth
shape_of method.GetRole = shape.Text
shape_of method.GetLabel = shape.Text
shape_of method.GetPositionName = shape.Text
shape_of method.GetOwner = shape.Owner
shape_of method.GetState = shape.Reading
shape_of method.GetPosition = shape.Reading
shape_of method.GetSetting = shape.Reading
shape_of method.GetClassIdentification = shape.Class
shape_of method.GetMembers = shape.Members
shape_of method.GetMembersRecursive = shape.Descendants
shape_of method.GetPositionNames = shape.Names
shape_of method.GetPositionEnableds = shape.Flags
shape_of _ = shape.Done

-- the kind that an answer is of
abbrev pub shape_of_answer : Answer → Shape
shape_of_answer Done = shape.Done
shape_of_answer (Truth _) = shape.Truth
shape_of_answer (Text _) = shape.Text
shape_of_answer (Owner _) = shape.Owner
shape_of_answer (Reading _) = shape.Reading
shape_of_answer (Names _) = shape.Names
shape_of_answer (Flags _) = shape.Flags
shape_of_answer (ItsClass _) = shape.Class
shape_of_answer (Members _) = shape.Members
shape_of_answer (Descendants _) = shape.Descendants

-- how many parameters it has (ParamCount)
abbrev pub answer_count : Answer → ℕ
answer_count Done = 0
answer_count (Truth _) = 1
answer_count (Text _) = 1
answer_count (Owner _) = 1
answer_count (Reading r) = reading_count r
answer_count (Names _) = 1
answer_count (Flags _) = 1
answer_count (ItsClass _) = 1
answer_count (Members _) = 1
answer_count (Descendants _) = 1

-- the bytes of its parameters
unfoldable pub answer_encoding : Answer → List ℕ
answer_encoding Done = []
answer_encoding (Truth truth) = bool_encoding truth
answer_encoding (Text text) = text_encoding text
answer_encoding (Owner ono) = unsigned_encoding w32 ono.0
answer_encoding (Reading r) = reading_encoding r
answer_encoding (Names names) = list_encoding text_encoding names.items
answer_encoding (Flags flags) = list_encoding bool_encoding flags.items
answer_encoding (ItsClass c) = class_identification_encoding c
answer_encoding (Members members) = list_encoding member_encoding members.items
answer_encoding (Descendants all) = list_encoding descendant_encoding all.items

-- the names that an answer to GetPositionNames gives, at most 16
abbrev pub switch_names_in : List ℕ → Option (List (List ℕ))
switch_names_in bytes = whole (list_of_most 16 text_at bytes)

-- nothing, in no bytes
abbrev pub done_in : List ℕ → Option Answer
done_in [] = Some Done
done_in (b ∷ bytes) = None

-- the answer of this kind
abbrev pub shaped_in : Shape → Class → List ℕ → Option Answer
shaped_in shape.Done of bytes = done_in bytes
shaped_in shape.Truth of bytes = option_map Truth (whole (bool_at bytes))
shaped_in shape.Text of bytes = option_map Text (whole (text_at bytes))
shaped_in shape.Owner of bytes = option_map (λ n. Owner (record { 0 = n })) (whole (unsigned_at w32 bytes))
shaped_in shape.Reading of bytes = option_map Reading (reading_in of bytes)
shaped_in shape.Names of bytes = option_map (λ xs. Names (record { items = xs })) (switch_names_in bytes)
shaped_in shape.Flags of bytes =
    option_map (λ xs. Flags (record { items = xs })) (whole (list_of_most 16 bool_at bytes))
shaped_in shape.Class of bytes = option_map ItsClass (class_in bytes)
shaped_in shape.Members of bytes =
    option_map (λ xs. Members (record { items = xs })) (whole (list_of_most 181 member_at bytes))
shaped_in shape.Descendants of bytes =
    option_map (λ xs. Descendants (record { items = xs })) (whole (list_of_most 120 descendant_at bytes))

-- WHAT PARAMETERS ANSWER to the method of an object of the class, and nothing where they are no such answer.
unfoldable pub answer_in : Class → Method → ℕ → List ℕ → Option Answer
answer_in of m count bytes =
    option_and_then (λ a. if count == answer_count a then Some a else None) (shaped_in (shape_of m) of bytes)

-- The answer is of an object of the class, and its numbers and texts are of their types.
abbrev pub IsAnswer : Class → Answer → Type 0
IsAnswer of Done = Unit {0}
IsAnswer of (Truth _) = Unit {0}
IsAnswer of (Text text) = IsText text
IsAnswer of (Owner ono) = ono.0 < 2 ^ 32
IsAnswer of (Reading r) = (class_of_value (value_without_limits r) ≡ of) × IsReading r
IsAnswer of (Names names) = Each IsText names.items × (length names.items ≤ 16)
IsAnswer of (Flags flags) = length flags.items ≤ 16
IsAnswer of (ItsClass _) = Unit {0}
IsAnswer of (Members members) = Each IsMember members.items × (length members.items ≤ 181)
IsAnswer of (Descendants all) = Each IsDescendant all.items × (length all.items ≤ 120)

-- WHAT A DEVICE ANSWERS is what the panel reads.
abbrev pub AnswersAreRead : Type 0
AnswersAreRead = (of : Class) (m : Method) (a : Answer) → IsAnswer of a → shape_of m ≡ shape_of_answer a →
    answer_in of m (answer_count a) (answer_encoding a) ≡ Some a

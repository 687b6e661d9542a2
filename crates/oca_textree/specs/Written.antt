-- How a tree is written as a text: a line an object, with everything of it but its lock.
use Rattle.std.specs.Prelude.{◌≡◌, ◌<◌, ◌≤◌, ◌^◌, length, IsUtf8, Ok, ℕ, ◌==◌, ◌&&◌, ◌||◌, not, nat_lt, Bool, true}
use Rattle.std.specs.Prelude.{false, if◌then◌else◌, List, [], ◌∷◌, ◌++◌, map, codes, decimal, Option, Some, None, ℤ}
use Rattle.std.specs.Fmt.{signed_decimal}
use Rattle.std.specs.List.{flat_map, list_any, All}
use Rattle.hex.specs.Hex.{IsBytes}
use Rattle.oca_types.specs.declared.class.Class.{Class}
use Rattle.oca_types.specs.declared.class.Class.TheVariants as class
use Rattle.oca_model.specs.Words.{class_word}
use Rattle.oca_script.specs.Escapes.{has_hidden}
use Rattle.oca_script.specs.Fields.{hex_text}
use Rattle.oca_tree.specs.declared.object.Object.{Object}
use Rattle.oca_tree.specs.declared.tree.Setting.{Setting}
use Rattle.oca_tree.specs.declared.tree.Setting.TheVariants.{State, Position, Truth, Number}
use Rattle.oca_tree.specs.Objects.{class_of}
use Rattle.oca_tree.specs.Readers.{value_setting}
use Rattle.oca_tree.specs.Building.{is_long}
use Rattle.oca_tree.specs.Copies.{names_in, flags_in, all_unlocked}
use Rattle.oca_textree.specs.Texts.{objects_of_text}

-- ---- texts

-- a control character or a quote stands in it
abbrev pub holds_mark : List ℕ → Bool
holds_mark text = list_any (λ b. nat_lt b 32 || (b == 34)) text

abbrev pub holds_comma : List ℕ → Bool
holds_comma text = list_any (λ b. b == 44) text

-- in quotes as it is: nothing of it is hidden, and it holds no control character and no quote
abbrev pub is_plain : List ℕ → Bool
is_plain text = not (has_hidden text) && not (holds_mark text)

abbrev pub in_quotes : List ℕ → List ℕ
in_quotes text = 34 ∷ text ++ 34 ∷ []

-- A TEXT: in quotes where it is plain, else its bytes in hexadecimal digits.
unfoldable pub text_field : List ℕ → List ℕ
text_field text = if is_plain text then in_quotes text else hex_text text

-- ---- an object's value

-- names between commas, each written so
abbrev pub joined_names : (List ℕ → List ℕ) → List (List ℕ) → List ℕ
joined_names writes [] = []
joined_names writes (n ∷ more) = writes n ++ flat_map (λ m. 44 ∷ writes m) more

-- a name as it is, or in hexadecimal digits
abbrev pub name_part : Bool → List ℕ → List ℕ
name_part true name = name
name_part false name = hex_text name

-- plain, and no comma stands in it
abbrev pub is_plain_name : List ℕ → Bool
is_plain_name name = is_plain name && not (holds_comma name)

-- names between commas: in quotes where each is plain and holds no comma, else each in hexadecimal digits
unfoldable pub names_field : List (List ℕ) → List ℕ
names_field names =
    if list_any (λ n. not (is_plain_name n)) names then joined_names (name_part false) names
    else in_quotes (joined_names (name_part true) names)

-- a digit a position
abbrev pub flag_digit : Bool → ℕ
flag_digit true = 49
flag_digit false = 48

abbrev pub state_word : List ℕ → List ℕ → Option Setting → List ℕ
state_word first second (Some (State state)) = if state == 1 then first else second
state_word first second _ = second

abbrev pub truth_word : Bool → List ℕ
truth_word true = codes "on"
truth_word false = codes "off"

abbrev pub truth_field : Option Setting → List ℕ
truth_field (Some (Truth truth)) = truth_word truth
truth_field _ = truth_word false

abbrev pub limit_field : ℤ → List ℕ
limit_field limit = signed_decimal limit ++ 32 ∷ []

-- the least, the greatest and the setting
abbrev pub range_fields : ℤ → ℤ → ℤ → List ℕ
range_fields least greatest setting = limit_field least ++ limit_field greatest ++ signed_decimal setting

abbrev pub number_fields : Option Setting → List ℕ
number_fields (Some (Number setting least greatest)) = range_fields least greatest setting
number_fields _ = []

abbrev pub position_field : Option Setting → List ℕ
position_field (Some (Position position)) = decimal position
position_field _ = []

abbrev pub flags_field : Option (List Bool) → List ℕ
flags_field None = []
flags_field (Some flags) = map flag_digit flags

-- a space where something stands behind the word of a class: not behind that of a block
abbrev pub space_behind : Class → List ℕ
space_behind class.Block = []
space_behind _ = 32 ∷ []

-- the word of a class, and a space where something stands behind it
unfoldable pub class_before : Class → List ℕ
class_before k = class_word k ++ space_behind k

-- a switch: a digit a position, the names, and the current position
abbrev pub switch_fields : Option Setting → List (List ℕ) → Option (List Bool) → List ℕ
switch_fields setting names flags = flags_field flags ++ 32 ∷ names_field names ++ 32 ∷ position_field setting

-- how an object of the class is set, by its setting, the names of its positions and their flags
unfoldable pub set_fields : Class → Option Setting → List (List ℕ) → Option (List Bool) → List ℕ
set_fields class.Block setting names flags = []
set_fields class.Mute setting names flags = state_word (codes "muted") (codes "unmuted") setting
set_fields class.Polarity setting names flags = state_word (codes "non-inverted") (codes "inverted") setting
set_fields class.Switch setting names flags = switch_fields setting names flags
set_fields class.Boolean setting names flags = truth_field setting
set_fields _ setting names flags = number_fields setting

-- THE CLASS AND WHAT STANDS BEHIND IT.
abbrev pub value_fields : Class → Option Setting → List (List ℕ) → Option (List Bool) → List ℕ
value_fields k setting names flags = class_before k ++ set_fields k setting names flags

-- ---- lines

abbrev pub lock_word : Bool → List ℕ
lock_word true = codes "lockable"
lock_word false = codes "no-lock"

-- a label has at most 64 bytes; a longer one, which no object has, would be written as none
abbrev pub kept_label : List ℕ → List ℕ
kept_label label = if is_long label then [] else label

-- whether it is enabled, and its label
abbrev pub start_fields : Bool → List ℕ → List ℕ
start_fields enabled label = truth_word enabled ++ 32 ∷ text_field (kept_label label)

abbrev pub place_fields : ℕ → ℕ → List ℕ
place_fields ono container = codes "object " ++ decimal ono ++ 32 ∷ decimal container ++ 32 ∷ []

abbrev pub end_fields : Bool → List ℕ → Bool → List ℕ → List ℕ
end_fields lockable role enabled label = 32 ∷ lock_word lockable ++ 32 ∷ text_field role ++ 32
    ∷ start_fields enabled label

-- THE LINE OF AN OBJECT: its number, its container, its class and its value, whether it can be locked, its role,
-- whether
-- it is enabled, and its label. Its lock is not written.
abbrev pub object_line : Object → List ℕ
object_line o =
    place_fields o.ono.0 o.container.0
    ++ value_fields (class_of o.value) (value_setting o.value) (names_in o.value) (flags_in o.value)
    ++ end_fields o.lockable o.role o.enabled o.label

-- the line of the root, which says what peers may set of it
abbrev pub root_line : Object → List ℕ
root_line o = codes "root " ++ start_fields o.enabled o.label

-- the root alone is in no container
abbrev pub line_of : Object → List ℕ
line_of o = (if o.container.0 == 0 then root_line o else object_line o) ++ 10 ∷ []

-- A TREE AS A TEXT: the line of each object, in order.
unfoldable pub text_of : List Object → List ℕ
text_of tree = flat_map line_of tree

-- ---- what a tree of a device is

-- a text of at most 64 bytes
pub record IsShortText (text : List ℕ) : Type 0 where
  pub utf8 : IsUtf8 text
  pub bytes : IsBytes text
  pub short : length text ≤ 64

-- What the types of an object's parts say of it, and that it has a role: its numbers are of 32 bits, its texts of at
-- most 64 bytes.
pub record IsNamed (o : Object) : Type 0 where
  pub ono : o.ono.0 < 2 ^ 32
  pub container : o.container.0 < 2 ^ 32
  pub role : IsShortText o.role
  pub some : 0 < length o.role
  pub label : IsShortText o.label
  pub names : All IsShortText (names_in o.value)

-- the root as a builder makes it, whatever is stored of it
abbrev pub IsRoot : List Object → Type 0
IsRoot [] = Unit {0}
IsRoot (o ∷ os) = (o.role ≡ codes "root") × (o.lockable ≡ true)

-- A TREE THAT IS WRITTEN AS A TEXT IS READ BACK: the same objects, but for their locks and what their hardware refuses.
abbrev pub IsReadBack : List Object → Type 0
IsReadBack tree = IsRoot tree → All IsNamed tree → objects_of_text (text_of tree) ≡ Ok (all_unlocked tree)

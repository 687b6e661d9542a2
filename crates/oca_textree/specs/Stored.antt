-- What a line says of an object with all that was stored of it: as another line, behind the word `object`, with texts
-- of any characters, the flags of a switch's positions, whether the object is enabled, and its label.
use Rattle.std.specs.Prelude.{ℕ, ◌==◌, nat_lt, nat_le, Bool, true, false, if◌then◌else◌, List, [], ◌∷◌, ◌++◌, length}
use Rattle.std.specs.Prelude.{codes, Option, Some, None, Result, Ok, Err}
use Rattle.std.specs.Option.{option_map, option_or}
use Rattle.std.specs.List.{list_any}
use Rattle.std.specs.Str.{bytes_eq, is_utf8}
use Rattle.oca_types.specs.declared.class.Class.{Class}
use Rattle.oca_types.specs.declared.class.Class.TheVariants as class
use Rattle.oca_script.specs.Fields.{split_at, split_on, number_of, hex_of, then_in}
use Rattle.oca_tree.specs.declared.object.Object.{Object}
use Rattle.oca_tree.specs.declared.object.Value.{Value}
use Rattle.oca_tree.specs.Building.{switch, is_long, root}
use Rattle.oca_tree.specs.Starts.{with_flags, has_other_flags}
use Rattle.oca_script.specs.declared.object_fault.ObjectFault.{ObjectFault}
use Rattle.oca_script.specs.declared.object_fault.ObjectFault.TheVariants as fault
use Rattle.oca_textree.specs.Faults.{object_fault_of}
use Rattle.oca_textree.specs.Lines.{then_by, some_or_fault, field_at, is_text, placed_at, one_of, Valued}
use Rattle.oca_textree.specs.Lines.{names_by, value_at, refusal, ended, added_by, is_skipped_line, has_control}

-- ---- texts

-- a text of at most 64 bytes
abbrev pub short : List ℕ → Option (List ℕ)
short text = if nat_lt 64 (length text) then None else Some text

abbrev pub short_utf8 : List ℕ → Option (List ℕ)
short_utf8 bytes = if is_utf8 bytes then short bytes else None

abbrev pub digits_text : List ℕ → Option (List ℕ)
digits_text digits = if nat_lt 128 (length digits) then None else then_in (hex_of digits) short_utf8

-- THE TEXT THAT A FIELD SAYS: in quotes it stands as it is, with nothing hidden; else its bytes stand in hexadecimal
-- digits, `-` for none.
abbrev pub field_text : Bool → List ℕ → Option (List ℕ)
field_text true field = if is_text field then short field else None
field_text false field = digits_text field

-- whether the next field stands in quotes
abbrev pub is_quoted : Option (List ℕ) → Bool
is_quoted None = false
is_quoted (Some []) = false
is_quoted (Some (b ∷ bs)) = b == 34

-- the next field as a text, and what is left
unfoldable pub text_in_field : Option (List ℕ) → Result (List ℕ × Option (List ℕ)) ObjectFault
text_in_field rest =
    then_by (field_at rest)
    (λ f. then_by (some_or_fault fault.Text (field_text (is_quoted rest) f.0)) (λ text. Ok (text, f.1)))

-- ---- the positions of a switch

-- whether each position is enabled: a digit a position
abbrev pub flags_after : List Bool → List ℕ → Option (List Bool)
flags_after flags [] = Some flags
flags_after flags (b ∷ bs) =
    if nat_le 16 (length flags) then None
    else if b == 49 then flags_after (flags ++ true ∷ []) bs
    else if b == 48 then flags_after (flags ++ false ∷ []) bs
    else None

-- the next field as names between commas, and what is left
unfoldable pub names_in_field : Option (List ℕ) → Result (List (List ℕ) × Option (List ℕ)) ObjectFault
names_in_field rest =
    then_by (field_at rest)
    (λ f. then_by (names_by (field_text (is_quoted rest)) [] (split_on 44 f.0)) (λ names. Ok (names, f.1)))

-- the flags of the positions, their names, the current position, and what is left
pub record Positions : Type 0 where
  pub flags : List Bool
  pub names : List (List ℕ)
  pub position : ℕ
  pub rest : Option (List ℕ)

unfoldable pub switch_at : Option (List ℕ) → Result Positions ObjectFault
switch_at rest =
    then_by (field_at rest) (λ a. then_by (some_or_fault fault.Value (flags_after [] a.0)) (λ flags.
    then_by (names_in_field a.1) (λ b.
    then_by (field_at b.1) (λ c. then_by (some_or_fault fault.Number (number_of 5 65535 c.0)) (λ position.
    Ok (record { flags = flags; names = b.0; position = position; rest = c.1 }))))))

-- ---- what an object of a class is set to

-- the same as of another line, and the flags of a switch's positions
pub record Flagged : Type 0 where
  pub valued : Valued
  pub flags : Option (List Bool)

abbrev pub switch_flagged : Positions → Flagged
switch_flagged p =
    record {
      valued = record { bad_name = list_any is_long p.names; value = switch p.names p.position; rest = p.rest };
      flags = Some p.flags;
    }

unfoldable pub flagged_at : Class → Option (List ℕ) → Result Flagged ObjectFault
flagged_at class.Switch rest = then_by (switch_at rest) (λ p. Ok (switch_flagged p))
flagged_at k rest = then_by (value_at k rest) (λ v. Ok (record { valued = v; flags = None }))

-- ---- the end of a line

-- whether it is enabled, and its label; nothing is left
unfoldable pub start_at : Option (List ℕ) → Result (Bool × List ℕ) ObjectFault
start_at rest =
    then_by (field_at rest)
    (λ word. then_by (some_or_fault fault.Value (one_of (codes "on") true (codes "off") false word.0)) (λ enabled.
    then_by (text_in_field word.1) (λ label. ended label.1 (enabled, label.0))))

pub record Ending : Type 0 where
  pub lockable : Bool
  pub role : List ℕ
  pub enabled : Bool
  pub label : List ℕ

-- whether the object can be locked, its role, whether it is enabled, and its label
unfoldable pub ending_at : Option (List ℕ) → Result Ending ObjectFault
ending_at rest =
    then_by (field_at rest)
    (λ word. then_by (some_or_fault fault.Lockable (one_of (codes "lockable") true (codes "no-lock") false word.0))
    (λ lockable.
    then_by (text_in_field word.1) (λ role.
    then_by (start_at role.1) (λ start.
    Ok (record { lockable = lockable; role = role.0; enabled = start.0; label = start.1 })))))

-- ---- the object

abbrev pub stored_object : ℕ → ℕ → Ending → Value → Option (List Bool) → Object
stored_object ono container ending v flags = record {
  ono = record { 0 = ono };
  container = record { 0 = container };
  lockable = ending.lockable;
  role = ending.role;
  label = ending.label;
  enabled = ending.enabled;
  value = with_flags flags v;
  lock = None;
  failing = false;
}

-- why a tree refuses what was stored: the label, or other than one flag a position
abbrev pub start_refusal : Value → List ℕ → Option (List Bool) → Option ObjectFault
start_refusal v label flags = if is_long label then Some fault.Text else if has_other_flags flags v
    then Some fault.Value else None

abbrev pub stored_refusal : List Object → ℕ → ℕ → Ending → Bool → Value → Option (List Bool) → Option ObjectFault
stored_refusal tree container ono ending bad_name v flags =
    option_or (option_map object_fault_of (refusal tree container ono ending.role bad_name v))
    (start_refusal v ending.label flags)

abbrev pub kept_unless : Option ObjectFault → List Object → Object → Result (List Object) ObjectFault
kept_unless None tree object = Ok (tree ++ object ∷ [])
kept_unless (Some f) tree object = Err f

-- the object with this value and this end of its line is added
abbrev pub kept_by : List Object → ℕ → ℕ → Ending → Bool → Value → Option (List Bool) → Result (List Object) ObjectFault
kept_by tree container ono ending bad_name v flags =
    kept_unless (stored_refusal tree container ono ending bad_name v flags) tree
    (stored_object ono container ending v flags)

-- the object with this value is added
unfoldable pub stored_with : List Object → ℕ → ℕ → Flagged → Result (List Object) ObjectFault
stored_with tree container ono reading =
    then_by (ending_at reading.valued.rest) (λ ending.
    kept_by tree container ono ending reading.valued.bad_name reading.valued.value reading.flags)

-- the same, of which the class was read last
abbrev pub stored_as : List Object → ℕ → ℕ → Class → Option (List ℕ) → Result (List Object) ObjectFault
stored_as tree container ono k rest = then_by (flagged_at k rest) (λ reading. stored_with tree container ono reading)

-- THE OBJECTS WITH THAT OF A LINE'S FIELDS BEHIND THEM, all that was stored of it included.
unfoldable pub stored_by : List Object → List ℕ → Result (List Object) ObjectFault
stored_by tree line =
    then_by (placed_at (Some line)) (λ p. stored_as tree p.container p.ono p.class_read p.rest)

-- ---- the root

-- the root with what was stored of it: whether it is enabled, and its label
unfoldable pub rooted : List ℕ → Result (List Object) ObjectFault
rooted text = then_by (start_at (Some text)) (λ start. Ok (record root { label = start.1; enabled = start.0 } ∷ []))

-- ---- which kind of line it is

-- what stands behind this word and a space
abbrev pub behind_found : List ℕ → Option (List ℕ × List ℕ) → Option (List ℕ)
behind_found word None = None
behind_found word (Some p) = if bytes_eq p.0 word then Some p.1 else None

abbrev pub after_word : List ℕ → List ℕ → Option (List ℕ)
after_word word line = behind_found word (split_at 32 line)

abbrev pub by_kind : Option (List ℕ) → List Object → List ℕ → Result (List Object) ObjectFault
by_kind None tree line = added_by tree line
by_kind (Some fields) tree line = stored_by tree fields

-- THE OBJECTS AFTER A LINE: those before it and its own, or its first fault.
unfoldable pub after_line : List Object → List ℕ → Result (List Object) ObjectFault
after_line tree line =
    if is_skipped_line line then Ok tree
    else if has_control line then Err fault.Form
    else by_kind (after_word (codes "object") line) tree line

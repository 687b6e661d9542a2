-- What a line of a text lists: an object, or a fault.
use Rattle.std.specs.Prelude.{ℕ, ◌+◌, ◌-◌, ◌*◌, ◌^◌, ◌==◌, ◌&&◌, ◌||◌, not, nat_lt, nat_le, Bool, true, false, List, []}
use Rattle.std.specs.Prelude.{◌∷◌, ◌++◌, length, codes, Option, Some, None, is_some, Result, Ok, Err, ℤ, pos}
use Rattle.std.specs.Prelude.{if◌then◌else◌, negsuc, neg_ℤ, nat_abs, int_le, find}
use Rattle.std.specs.Int.{byte_len}
use Rattle.std.specs.Option.{option_map}
use Rattle.std.specs.List.{list_any}
use Rattle.std.specs.Str.{bytes_eq, is_utf8}
use Rattle.oca_types.specs.declared.class.Class.{Class}
use Rattle.oca_types.specs.declared.class.Class.TheVariants as class
use Rattle.oca_script.specs.Escapes.{has_hidden}
use Rattle.oca_script.specs.Fields.{split_at, split_on, number_of}
use Rattle.oca_model.specs.declared.reading.Ranged.{Ranged}
use Rattle.oca_model.specs.declared.reading.Reading.{Reading}
use Rattle.oca_model.specs.declared.reading.Reading.TheVariants as readings
use Rattle.oca_model.specs.Values.{classes, by_type, integer_type}
use Rattle.oca_model.specs.Words.{class_word}
use Rattle.oca_model.specs.declared.value.MuteState.TheVariants.{Muted, Unmuted}
use Rattle.oca_model.specs.declared.value.PolarityState.TheVariants.{NonInverted, Inverted}
use Rattle.oca_tree.specs.declared.object.Object.{Object}
use Rattle.oca_tree.specs.declared.object.Value.{Value}
use Rattle.oca_tree.specs.declared.object.Value.TheVariants as value
use Rattle.oca_tree.specs.declared.builder.AddFault.{AddFault}
use Rattle.oca_tree.specs.declared.builder.AddFault.TheVariants as adds
use Rattle.oca_tree.specs.Objects.{object_of}
use Rattle.oca_tree.specs.Places.{places, is_block, depth}
use Rattle.oca_tree.specs.Building.{new_object, number, switch, is_long, is_bad_value, first_fault}
use Rattle.oca_script.specs.declared.object_fault.ObjectFault.{ObjectFault}
use Rattle.oca_script.specs.declared.object_fault.ObjectFault.TheVariants as fault
use Rattle.oca_textree.specs.Faults.{object_fault_of}

-- ---- one after another: the first fault ends it

abbrev pub then_by : {A B : Type 0} → Result A ObjectFault → (A → Result B ObjectFault) → Result B ObjectFault
then_by (Err f) next = Err f
then_by (Ok x) next = next x

-- a value, or this fault
abbrev pub some_or_fault : {A : Type 0} → ObjectFault → Option A → Result A ObjectFault
some_or_fault f None = Err f
some_or_fault f (Some x) = Ok x

-- ---- fields

-- a field and what is left behind it: nothing where the line ends, or what stands behind a space
abbrev pub Taken : Type 0
Taken = List ℕ × Option (List ℕ)

abbrev pub plain : Option (List ℕ × List ℕ) → List ℕ → Taken
plain None text = (text, None)
plain (Some p) text = (p.0, Some p.1)

-- behind the closing quote of a field there is a space or the end
abbrev pub behind_quote : List ℕ → List ℕ → Result Taken ObjectFault
behind_quote inside [] = Ok (inside, None)
behind_quote inside (b ∷ rest) = if b == 32 then Ok (inside, Some rest) else Err fault.Form

abbrev pub quoted : Option (List ℕ × List ℕ) → Result Taken ObjectFault
quoted None = Err fault.Form
quoted (Some p) = behind_quote p.0 p.1

-- The next field of what is left: one that begins with a quote goes up to the next quote, and any other up to the next
-- space.
unfoldable pub field_at : Option (List ℕ) → Result Taken ObjectFault
field_at None = Err fault.Form
field_at (Some []) = Ok ([], None)
field_at (Some (b ∷ bs)) = if b == 34 then quoted (split_at 34 bs) else Ok (plain (split_at 32 (b ∷ bs)) (b ∷ bs))

-- ---- words

-- an object's number, of at most 10 digits
abbrev pub ono_of : List ℕ → Option ℕ
ono_of text = number_of 10 4294967295 text

-- a class by its word
unfoldable pub class_of_word : List ℕ → Option Class
class_of_word word = find (λ k. bytes_eq word (class_word k)) classes

-- one of two words
unfoldable pub one_of : {A : Type 0} → List ℕ → A → List ℕ → A → List ℕ → Option A
one_of a x b y word = if bytes_eq word a then Some x else if bytes_eq word b then Some y else None

-- ---- integers

-- an integer: at most 20 digits, behind a minus where it is negative
abbrev pub signed_of : List ℕ → Option ℤ
signed_of [] = None
signed_of (b ∷ bs) =
    if b == 45 then option_map (λ n. neg_ℤ (pos n)) (number_of 20 (2 ^ 64 - 1) bs)
    else option_map pos (number_of 20 (2 ^ 64 - 1) (b ∷ bs))

abbrev pub within_limits : ℤ → ℤ → Option ℤ → Option ℤ
within_limits low high None = None
within_limits low high (Some z) = if int_le low z && int_le z high then Some z else None

-- an integer from the one to the other
unfoldable pub integer_of : ℤ → ℤ → List ℕ → Option ℤ
integer_of low high text = within_limits low high (signed_of text)

-- ---- what an object of a class is set to

-- what was read of it: whether a position has a name of more than 64 bytes, the value, and what is left of the line
pub record Valued : Type 0 where
  pub bad_name : Bool
  pub value : Value
  pub rest : Option (List ℕ)

abbrev pub valued : Value → Option (List ℕ) → Valued
valued v rest = record { bad_name = false; value = v; rest = rest }

-- by one word
unfoldable pub by_word : (List ℕ → Option Value) → Option (List ℕ) → Result Valued ObjectFault
by_word reads rest =
    then_by (field_at rest) (λ word.
    then_by (some_or_fault fault.Value (reads word.0)) (λ v. Ok (valued v word.1)))

-- an integer with its limits: the least, the greatest and the setting, each one of the type
pub record Limited : Type 0 where
  pub least : ℤ
  pub greatest : ℤ
  pub setting : ℤ
  pub rest : Option (List ℕ)

unfoldable pub limits_of : ℤ → ℤ → Option (List ℕ) → Result Limited ObjectFault
limits_of low high rest =
    then_by (field_at rest) (λ a. then_by (some_or_fault fault.Number (integer_of low high a.0)) (λ least.
    then_by (field_at a.1) (λ b. then_by (some_or_fault fault.Number (integer_of low high b.0)) (λ greatest.
    then_by (field_at b.1) (λ c. then_by (some_or_fault fault.Number (integer_of low high c.0)) (λ setting.
    Ok (record { least = least; greatest = greatest; setting = setting; rest = c.1 })))))))

-- as what reads so, by numbers of its type
abbrev pub by_limits : {X : Type 0} → (Ranged X → Reading) → (ℤ → X) → ℤ → ℤ → Option (List ℕ) →
    Result Valued ObjectFault
by_limits of typed low high rest =
    then_by (limits_of low high rest)
    (λ l. Ok (valued (number of (typed l.setting) (typed l.least) (typed l.greatest)) l.rest))

-- UTF-8 in which no character is printed as an escape, a backslash left aside
abbrev pub is_text : List ℕ → Bool
is_text bytes = is_utf8 bytes && not (has_hidden bytes)

abbrev pub checked : List ℕ → Option (List ℕ)
checked text = if is_text text then Some text else None

-- the names of positions, in order: each is read so, and there are at most 16
abbrev pub names_by : (List ℕ → Option (List ℕ)) → List (List ℕ) → List (List ℕ) → Result (List (List ℕ)) ObjectFault
names_by reads names [] = Ok names
names_by reads names (n ∷ more) =
    then_by (some_or_fault fault.Text (reads n)) (λ text.
    if nat_le 16 (length names) then Err fault.Range else names_by reads (names ++ text ∷ []) more)

-- where a name stands first
abbrev pub position_named : List ℕ → List (List ℕ) → Option ℕ
position_named name [] = None
position_named name (n ∷ names) = if bytes_eq n name then Some 0
    else option_map (λ n. 1 + n) (position_named name names)

-- the names of a switch's positions between commas, and that of the current one: its number, the names, and what is
-- left
unfoldable pub positions_of : Option (List ℕ) → Result (ℕ × List (List ℕ) × Option (List ℕ)) ObjectFault
positions_of rest =
    then_by (field_at rest) (λ a. then_by (names_by checked [] (split_on 44 a.0)) (λ names.
    then_by (field_at a.1) (λ b. then_by (some_or_fault fault.Value (position_named b.0 names)) (λ position.
    Ok (position, names, b.1)))))

abbrev pub by_positions : Option (List ℕ) → Result Valued ObjectFault
by_positions rest =
    then_by (positions_of rest)
    (λ p. Ok (record { bad_name = list_any is_long p.1; value = switch p.1 p.0; rest = p.2 }))

-- What an object of the class is set to: an integer is one of its type, from the first to the last (negsuc n is
-- -(n + 1)); a block has no value.
unfoldable pub value_at : Class → Option (List ℕ) → Result Valued ObjectFault
value_at class.Mute rest = by_word
    (one_of (codes "muted") (value.Reads (readings.Mute Muted)) (codes "unmuted")
    (value.Reads (readings.Mute Unmuted))) rest
value_at class.Polarity rest =
    by_word (one_of (codes "non-inverted") (value.Reads (readings.Polarity NonInverted)) (codes "inverted")
    (value.Reads (readings.Polarity Inverted))) rest
value_at class.Boolean rest = by_word
    (one_of (codes "on") (value.Reads (readings.Boolean true))
    (codes "off") (value.Reads (readings.Boolean false))) rest
value_at class.Switch rest = by_positions rest
value_at k rest =
    by_type (λ w _ reading.
    by_limits reading (λ z. z) (negsuc (2 ^ (8 * byte_len w - 1) - 1)) (pos (2 ^ (8 * byte_len w - 1) - 1)) rest)
    (λ w _ reading. by_limits reading nat_abs (pos 0) (pos (256 ^ byte_len w - 1)) rest)
    (Ok (valued value.Block rest)) (integer_type k)

-- ---- the object

-- Why the tree refuses it: as `add_fault` of a builder with room for 4,096 objects.
unfoldable pub refusal : List Object → ℕ → ℕ → List ℕ → Bool → Value → Option AddFault
refusal tree container ono role bad_name v = first_fault (
    (nat_le 4096 (length tree), adds.Full)
    ∷ (nat_lt ono 4096, adds.Reserved)
    ∷ (is_some (object_of tree ono), adds.Taken)
    ∷ (not (is_block (places tree) container), adds.NoSuchBlock)
    ∷ (nat_lt 8 (depth (places tree) container + 1), adds.TooDeep)
    ∷ ((length role == 0) || is_long role || bad_name, adds.BadText)
    ∷ (is_bad_value v, adds.BadRange)
    ∷ [])

abbrev pub added_unless : Option AddFault → List Object → Object → Result (List Object) ObjectFault
added_unless None tree object = Ok (tree ++ object ∷ [])
added_unless (Some f) tree object = Err (object_fault_of f)

abbrev pub ended : {A : Type 0} → Option (List ℕ) → A → Result A ObjectFault
ended None x = Ok x
ended (Some rest) x = Err fault.Form

-- the end of the line: whether the object can be locked, and its role
unfoldable pub last_of : Option (List ℕ) → Result (Bool × List ℕ) ObjectFault
last_of rest =
    then_by (field_at rest)
    (λ word. then_by (some_or_fault fault.Lockable (one_of (codes "lockable") true (codes "no-lock") false word.0))
    (λ lockable.
    then_by (field_at word.1) (λ role. then_by (ended role.1 role.0) (λ text.
    then_by (some_or_fault fault.Text (checked text)) (λ t. Ok (lockable, t))))))

-- the object with this value is added
unfoldable pub added_with : List Object → ℕ → ℕ → Valued → Result (List Object) ObjectFault
added_with tree container ono v =
    then_by (last_of v.rest) (λ last.
    added_unless (refusal tree container ono last.1 v.bad_name v.value) tree
    (new_object ono container last.0 last.1 v.value))

-- the same, of which the class was read last
abbrev pub added_as : List Object → ℕ → ℕ → Class → Option (List ℕ) → Result (List Object) ObjectFault
added_as tree container ono k rest = then_by (value_at k rest) (λ v. added_with tree container ono v)

-- the next field as the number of an object, and what is left
unfoldable pub ono_at : Option (List ℕ) → Result (ℕ × Option (List ℕ)) ObjectFault
ono_at rest =
    then_by (field_at rest) (λ f. then_by (some_or_fault fault.Number (ono_of f.0)) (λ ono. Ok (ono, f.1)))

-- the number, the container and the class of an object, and what is left
pub record Placed : Type 0 where
  pub ono : ℕ
  pub container : ℕ
  pub class_read : Class
  pub rest : Option (List ℕ)

unfoldable pub placed_at : Option (List ℕ) → Result Placed ObjectFault
placed_at rest =
    then_by (ono_at rest) (λ a. then_by (ono_at a.1) (λ b.
    then_by (field_at b.1) (λ c. then_by (some_or_fault fault.Class (class_of_word c.0)) (λ k.
    Ok (record { ono = a.0; container = b.0; class_read = k; rest = c.1 })))))

-- the objects with that of a line's fields behind them
unfoldable pub added_by : List Object → List ℕ → Result (List Object) ObjectFault
added_by tree line =
    then_by (placed_at (Some line)) (λ p. added_as tree p.container p.ono p.class_read p.rest)

-- a line with a control character
abbrev pub has_control : List ℕ → Bool
has_control line = list_any (λ b. nat_lt b 32) line

-- empty, or a comment
abbrev pub is_skipped_line : List ℕ → Bool
is_skipped_line [] = true
is_skipped_line (b ∷ bs) = b == 35

-- How a text of a peer is printed, so that no character of it ends a line, moves a cursor or changes the direction of
-- what stands beside it.
use Rattle.std.specs.Prelude.{◌≡◌, ℕ, ◌+◌, ◌*◌, ◌/◌, ◌%◌, ◌==◌, ◌&&◌, ◌||◌, nat_le, nat_lt, Bool, if◌then◌else◌, List}
use Rattle.std.specs.Prelude.{[], ◌∷◌, ◌++◌, codes, Option, Some, None, encode_utf8_all, IsUtf8}
use Rattle.std.specs.List.{flat_map, list_any}
use Rattle.std.specs.Str.{chars}
use Rattle.std.specs.Char.{digit_char, digit_value}

abbrev pub is_between : ℕ → ℕ → ℕ → Bool
is_between low high c = nat_le low c && nat_le c high

-- the control characters, and those of Unicode that end a line (U+2028, U+2029) or set a direction
abbrev pub is_hidden : ℕ → Bool
is_hidden c =
    nat_lt c 0x20 || is_between 0x7f 0x9f c || (c == 0x61c) || is_between 0x200e 0x200f c || is_between 0x2028 0x202e c
    || is_between 0x2066 0x2069 c

-- what stands behind a backslash for a line feed, a carriage return, a tab and a backslash
abbrev pub letter_for : ℕ → Option ℕ
letter_for c = if c == 10 then Some 110 else if c == 13 then Some 114 else if c == 9 then Some 116
    else if c == 92 then Some 92 else None

-- a byte in two hexadecimal digits of lower case
abbrev pub two_digits : ℕ → List ℕ
two_digits b = digit_char (b / 16) ∷ digit_char (b % 16) ∷ []

-- the number of a character below 65,536: two digits below 256, else four
abbrev pub digits_of : ℕ → List ℕ
digits_of c = if nat_lt c 256 then two_digits c else two_digits (c / 256) ++ two_digits (c % 256)

abbrev pub escape_by : Option ℕ → ℕ → List ℕ
escape_by (Some letter) c = 92 ∷ letter ∷ []
escape_by None c = if is_hidden c then codes "\\u{" ++ digits_of c ++ codes "}" else c ∷ []

-- The characters that are printed for a character: \n, \r, \t, \\, of another hidden one \u{..}, and of any other
-- itself.
unfoldable pub escape : ℕ → List ℕ
escape c = escape_by (letter_for c) c

-- A TEXT AS IT IS PRINTED.
unfoldable pub escaped : List ℕ → List ℕ
escaped text = encode_utf8_all (flat_map escape (chars text))

-- a text in which nothing is hidden
unfoldable pub has_hidden : List ℕ → Bool
has_hidden text = list_any is_hidden (chars text)

-- ---- reading it back

-- where a reader stands: before a character, behind a backslash, or in digits that say a number so far
pub data Reading : Type 0 where
  Before : Reading
  Behind : Reading
  Within : ℕ → Reading

-- the character that a letter behind a backslash stands for
abbrev pub character_for : ℕ → ℕ
character_for c = if c == 110 then 10 else if c == 114 then 13 else if c == 116 then 9 else c

-- the characters that printed ones say
abbrev pub unescape : Reading → List ℕ → List ℕ
unescape r [] = []
unescape Before (c ∷ cs) = if c == 92 then unescape Behind cs else c ∷ unescape Before cs
unescape Behind (c ∷ cs) = if c == 117 then unescape (Within 0) cs else character_for c ∷ unescape Before cs
unescape (Within n) (c ∷ cs) =
    if c == 123 then unescape (Within 0) cs
    else if c == 125 then n ∷ unescape Before cs
    else unescape (Within (n * 16 + digit_value c)) cs

-- THE TEXT THAT A PRINTED ONE SAYS.
unfoldable pub unescaped : List ℕ → List ℕ
unescaped text = encode_utf8_all (unescape Before (chars text))

-- Each text is read back from what is printed of it.
abbrev pub LawOfEscapes : Type 0
LawOfEscapes = (text : List ℕ) → IsUtf8 text → unescaped (escaped text) ≡ text

-- Facts on texts as they are printed.
use Rattle.std.proofs.Common.{◌≡◌, subst, ◌&&◌, if◌then◌else◌, nat_lt, ℕ, ◌<◌, ◌≤◌, ◌+◌, ◌*◌, ◌/◌, ◌%◌, ◌==◌, Bool, true, false, List, [], ◌∷◌, ◌++◌, length, codes, Option, Some, None, refl, ap, ◌∙◌, arith, append_assoc, append-nil, encode_utf8_all, encode_utf8, chars, IsUtf8}
use Rattle.std.specs.List.{flat_map}
use Rattle.std.specs.Char.{digit_char}
use Rattle.std.proofs.lemmas.Bool.Decides.{nat_tests}
use Rattle.std.proofs.lemmas.Grind.{flat_map-append}
use Rattle.std.proofs.lemmas.Str.{encodes-chars, encodes-append, length-le-encodes, chars-encodes, scalars-chars, encode_ascii, digit_value-digit_char}
use Rattle.std.proofs.Math.Utf8.{scalars, scalar, low_scalar}
use Rattle.oca_script.specs.Escapes.{is_hidden, letter_for, two_digits, digits_of, escape_by, escape, escaped, character_for, unescape, unescaped}
use Rattle.oca_script.specs.Escapes.Reading.{Before, Within}

-- ---- what is read back

letter_ok : (c l : ℕ) → letter_for c ≡ Some l → ((l == 117) ≡ false) × (character_for l ≡ c)
letter_ok c l e = grind (arith, nat_tests)

digit_apart : (d : ℕ) → d < 16 → ((digit_char d == 123) ≡ false) × ((digit_char d == 125) ≡ false)
digit_apart d lt = grind (arith, nat_tests)

digit_back : (n d : ℕ) (rest : List ℕ) → d < 16 → unescape (Within n) (digit_char d ∷ rest) ≡ unescape (Within (n * 16 + d)) rest
digit_back n d rest lt =
    let apart = digit_apart d lt in
    rw (apart.0, apart.1, digit_value-digit_char d (omega (arith, lt))) refl

two_back : (n b : ℕ) (rest : List ℕ) → b < 256 → unescape (Within n) (two_digits b ++ rest) ≡ unescape (Within (n * 256 + b)) rest
two_back n b rest lt =
    digit_back n (b / 16) (digit_char (b % 16) ∷ rest) (omega (arith, lt))
    ∙ digit_back (n * 16 + b / 16) (b % 16) rest (omega (arith, lt))
    ∙ ap (λ m. unescape (Within m) rest) (omega arith)

hidden_low : (c : ℕ) → is_hidden c ≡ true → c < 65536
hidden_low c h = grind (arith, nat_tests)

number_by : (t : Bool) (c : ℕ) (rest : List ℕ) → c < 65536 → nat_lt c 256 ≡ t
    → unescape (Within 0) ((if t then two_digits c else two_digits (c / 256) ++ two_digits (c % 256)) ++ rest) ≡ unescape (Within c) rest
number_by true c rest lt t =
    let below : c < 256 = grind (arith, nat_tests) in
    two_back 0 c rest below ∙ ap (λ m. unescape (Within m) rest) (omega arith)
number_by false c rest lt t =
    two_back 0 (c / 256) (two_digits (c % 256) ++ rest) (omega (arith, lt))
    ∙ ap (λ m. unescape (Within m) (two_digits (c % 256) ++ rest)) (omega arith)
    ∙ two_back (c / 256) (c % 256) rest (omega (arith, lt))
    ∙ ap (λ m. unescape (Within m) rest) (omega arith)

number_back : (c : ℕ) (rest : List ℕ) → c < 65536 → unescape (Within 0) (digits_of c ++ 125 ∷ rest) ≡ c ∷ unescape Before rest
number_back c rest lt = number_by (nat_lt c 256) c (125 ∷ rest) lt refl

plain_back : (c : ℕ) (rest : List ℕ) → letter_for c ≡ None → unescape Before (c ∷ rest) ≡ c ∷ unescape Before rest
plain_back c rest e = let apart : (c == 92) ≡ false = grind (arith, nat_tests) in rw apart refl

by_hidden : (t : Bool) (c : ℕ) (rest : List ℕ) → letter_for c ≡ None → is_hidden c ≡ t
    → unescape Before ((if t then codes "\\u{" ++ digits_of c ++ codes "}" else c ∷ []) ++ rest) ≡ c ∷ unescape Before rest
by_hidden true c rest e h = ap (unescape (Within 0)) (append_assoc (digits_of c) (codes "}") rest) ∙ number_back c rest (hidden_low c h)
by_hidden false c rest e h = plain_back c rest e

by_letter : (o : Option ℕ) (c : ℕ) (rest : List ℕ) → letter_for c ≡ o → unescape Before (escape_by o c ++ rest) ≡ c ∷ unescape Before rest
by_letter (Some l) c rest e = let ok = letter_ok c l e in rw (ok.0, ok.1) refl
by_letter None c rest e = by_hidden (is_hidden c) c rest e refl

back : (c : ℕ) (rest : List ℕ) → unescape Before (escape c ++ rest) ≡ c ∷ unescape Before rest
unfolding escape
back c rest = by_letter (letter_for c) c rest refl

all_back : (cs : List ℕ) → unescape Before (flat_map escape cs) ≡ cs
all_back [] = refl
all_back (c ∷ cs) = back c (flat_map escape cs) ∙ ap (λ l. c ∷ l) (all_back cs)

-- ---- what is printed is text

both : (a b : Bool) → (a && b) ≡ true → (a ≡ true) × (b ≡ true)
both a b h = grind (arith, nat_tests)

scalars-append : (xs ys : List ℕ) → scalars xs ≡ true → scalars ys ≡ true → scalars (xs ++ ys) ≡ true
scalars-append [] ys h k = k
scalars-append (x ∷ xs) ys h k = let p = both (scalar x) (scalars xs) h in rw p.0 (scalars-append xs ys p.1 k)

digit_scalar : (d : ℕ) → d < 16 → scalar (digit_char d) ≡ true
digit_scalar d lt = low_scalar (digit_char d) (let low : digit_char d < 128 = grind (arith, nat_tests) in omega (arith, low))

two_scalars : (b : ℕ) (rest : List ℕ) → b < 256 → scalars rest ≡ true → scalars (two_digits b ++ rest) ≡ true
two_scalars b rest lt h = rw (digit_scalar (b / 16) (omega (arith, lt)), digit_scalar (b % 16) (omega (arith, lt))) h

digits_scalars : (t : Bool) (c : ℕ) → c < 65536 → nat_lt c 256 ≡ t
    → scalars ((if t then two_digits c else two_digits (c / 256) ++ two_digits (c % 256)) ++ codes "}") ≡ true
digits_scalars true c lt t = let below : c < 256 = grind (arith, nat_tests) in two_scalars c (codes "}") below refl
digits_scalars false c lt t =
    two_scalars (c / 256) (two_digits (c % 256) ++ codes "}") (omega (arith, lt)) (two_scalars (c % 256) (codes "}") (omega (arith, lt)) refl)

letter_low : (c l : ℕ) → letter_for c ≡ Some l → l < 128
letter_low c l e = grind (arith, nat_tests)

hidden_scalars : (t : Bool) (c : ℕ) → is_hidden c ≡ t → scalar c ≡ true
    → scalars (if t then codes "\\u{" ++ digits_of c ++ codes "}" else c ∷ []) ≡ true
hidden_scalars true c h s = digits_scalars (nat_lt c 256) c (hidden_low c h) refl
hidden_scalars false c h s = rw s refl

by_scalars : (o : Option ℕ) (c : ℕ) → letter_for c ≡ o → scalar c ≡ true → scalars (escape_by o c) ≡ true
by_scalars (Some l) c e s = rw (low_scalar l (let low = letter_low c l e in omega (arith, low))) refl
by_scalars None c e s = hidden_scalars (is_hidden c) c refl s

escape_scalars : (c : ℕ) → scalar c ≡ true → scalars (escape c) ≡ true
unfolding escape
escape_scalars c s = by_scalars (letter_for c) c refl s

all_scalars : (cs : List ℕ) → scalars cs ≡ true → scalars (flat_map escape cs) ≡ true
all_scalars [] h = refl
all_scalars (c ∷ cs) h =
    let p = both (scalar c) (scalars cs) h in
    scalars-append (escape c) (flat_map escape cs) (escape_scalars c p.0) (all_scalars cs p.1)

-- EACH TEXT IS READ BACK.
pub read_back : (text : List ℕ) → IsUtf8 text → unescaped (escaped text) ≡ text
unfolding escaped unescaped
read_back text u =
    let printed = flat_map escape (chars text) in
    ap (λ cs. encode_utf8_all (unescape Before cs)) (chars-encodes printed (all_scalars (chars text) (scalars-chars text u)))
    ∙ ap encode_utf8_all (all_back (chars text))
    ∙ encodes-chars text u

-- ---- what is printed of a character

-- a character with a letter is printed as a backslash and that letter
pub letter_printed : (c l : ℕ) → letter_for c ≡ Some l → encode_utf8_all (escape c) ≡ 92 ∷ l ∷ []
unfolding escape
letter_printed c l e = rw (e, encode_ascii l (letter_low c l e), encode_ascii 92 (omega arith)) refl

-- bytes below 128 encode themselves
digit_encoded : (d : ℕ) → d < 16 → encode_utf8 (digit_char d) ≡ digit_char d ∷ []
digit_encoded d lt = encode_ascii (digit_char d) (grind (arith, nat_tests))

two_encoded : (b : ℕ) (rest : List ℕ) → b < 256 → encode_utf8_all (two_digits b ++ rest) ≡ two_digits b ++ encode_utf8_all rest
two_encoded b rest lt = rw (digit_encoded (b / 16) (omega (arith, lt)), digit_encoded (b % 16) (omega (arith, lt))) refl

brace : encode_utf8_all (codes "}") ≡ codes "}"
brace = rw (encode_ascii 125 (omega arith)) refl

digits_encoded : (t : Bool) (c : ℕ) → c < 65536 → nat_lt c 256 ≡ t
    → encode_utf8_all ((if t then two_digits c else two_digits (c / 256) ++ two_digits (c % 256)) ++ codes "}")
    ≡ (if t then two_digits c else two_digits (c / 256) ++ two_digits (c % 256)) ++ codes "}"
digits_encoded true c lt t =
    let below : c < 256 = grind (arith, nat_tests) in
    two_encoded c (codes "}") below ∙ ap (λ l. two_digits c ++ l) brace
digits_encoded false c lt t =
    two_encoded (c / 256) (two_digits (c % 256) ++ codes "}") (omega (arith, lt))
    ∙ ap (λ l. two_digits (c / 256) ++ l) (two_encoded (c % 256) (codes "}") (omega (arith, lt)) ∙ ap (λ l. two_digits (c % 256) ++ l) brace)

-- any other hidden one is printed by its number
pub hidden_printed : (c : ℕ) → letter_for c ≡ None → is_hidden c ≡ true → encode_utf8_all (escape c) ≡ codes "\\u{" ++ digits_of c ++ codes "}"
unfolding escape
hidden_printed c e h =
    rw (e, h, encode_ascii 92 (omega arith), encode_ascii 117 (omega arith), encode_ascii 123 (omega arith), digits_encoded (nat_lt c 256) c (hidden_low c h) refl) refl

-- any other character is printed as it is
pub plain_printed : (c : ℕ) → letter_for c ≡ None → is_hidden c ≡ false → encode_utf8_all (escape c) ≡ encode_utf8 c
unfolding escape
plain_printed c e h = rw (e, h) (append-nil (encode_utf8 c))

-- one more character
pub one_more : (cs : List ℕ) (c : ℕ) → encode_utf8_all (flat_map escape (cs ++ c ∷ [])) ≡ encode_utf8_all (flat_map escape cs) ++ encode_utf8_all (escape c)
one_more cs c =
    rw (flat_map-append escape cs (c ∷ []), encodes-append (flat_map escape cs) (escape c ++ [])) (ap (λ l. encode_utf8_all (flat_map escape cs) ++ encode_utf8_all l) (append-nil (escape c)))

-- a text has no more characters than bytes
pub few_chars : (text : List ℕ) → IsUtf8 text → length (chars text) ≤ length text
few_chars text u = subst (λ l. length (chars text) ≤ length l) (encodes-chars text u) (length-le-encodes (chars text))

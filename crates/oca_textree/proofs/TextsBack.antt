-- Texts, names and flags as they are written are read back.
use Rattle.std.proofs.Common.{◌≡◌, ℕ, ◌+◌, ◌<◌, ◌≤◌, ◌==◌, Bool, true, false, cond, ◌&&◌, ◌||◌, not, ◌⊎◌, inl, inr, List, [], ◌∷◌, ◌++◌, length, map, Option, Some, None, Ok, refl, sym, ap, ◌∙◌, arith, append_assoc, append-nil, length-append}
use Rattle.std.specs.Prelude.{nat_lt, nat_le, Result}
use Rattle.std.specs.List.{list_any, flat_map, All}
use Rattle.std.specs.Str.{is_utf8}
use Rattle.std.proofs.lemmas.Bool.Decides.{nat_tests}
use Rattle.std.proofs.lemmas.Str.{is_utf8-from_IsUtf8}
use Rattle.std.proofs.lemmas.List.Elements.{All-head, All-tail}
use Rattle.std.proofs.lemmas.List.Folds.{list_any-append}
use Rattle.hex.specs.Hex.{IsBytes}
use Rattle.oca_script.specs.Escapes.{has_hidden}
use Rattle.oca_script.specs.Fields.{split_on, hex_text}
use Rattle.oca_script.proofs.PartLemmas.{Free, free-append, free-after, free-nowhere}
use Rattle.oca_script.specs.declared.object_fault.ObjectFault.{ObjectFault}
use Rattle.oca_script.specs.declared.object_fault.ObjectFault.TheVariants as fault
use Rattle.oca_textree.specs.Lines.{field_at, then_by, some_or_fault, names_by, has_control}
use Rattle.oca_textree.specs.Stored.{short, field_text, is_quoted, text_in_field, flags_after, names_in_field}
use Rattle.oca_textree.specs.Written.{holds_mark, holds_comma, is_plain, is_plain_name, in_quotes, text_field, joined_names, name_part, names_field, flag_digit, IsShortText}
use Rattle.oca_textree.proofs.SplitLemmas.{split-one, split-more}
use Rattle.oca_textree.proofs.FieldsBack.{digits-free, digits-hex_text, Word, word-append, field-word, field-last, field-quoted, field-quoted-last, word-hex_text, hex-back, length-hex}

-- ---- tests

pub or-false : (a b : Bool) → a || b ≡ false → (a ≡ false) × (b ≡ false)
or-false true b e = absurd (cc)
or-false false b e = (refl, e)

-- a word has no control character
pub word-shown : (w : List ℕ) → Word w → has_control w ≡ false
word-shown [] h = refl
word-shown (b ∷ bs) h =
    let big = h.0 in
    let test : nat_lt b 32 ≡ false = grind (arith, nat_tests, big) in
    rw (test, word-shown bs h.1) refl

-- nor have two texts in a row of which neither has one
pub shown-append : (xs ys : List ℕ) → has_control xs ≡ false → has_control ys ≡ false → has_control (xs ++ ys) ≡ false
shown-append xs ys h k = list_any-append (λ b. nat_lt b 32) xs ys ∙ (rw (h, k) refl)

-- what is shown has no line feed
pub shown-free : (xs : List ℕ) → has_control xs ≡ false → Free 10 xs
shown-free [] h = tt
shown-free (b ∷ bs) h =
    let p = or-false (nat_lt b 32) (has_control bs) h in
    let test = p.0 in
    let other : (b == 10) ≡ false = grind (arith, nat_tests, test) in
    (other, shown-free bs p.1)

mark-free : (t : List ℕ) → holds_mark t ≡ false → Free 34 t
mark-free [] e = tt
mark-free (b ∷ bs) e =
    let p = or-false (nat_lt b 32 || (b == 34)) (holds_mark bs) e in
    let q = or-false (nat_lt b 32) (b == 34) p.0 in
    (q.1, mark-free bs p.1)

mark-shown : (t : List ℕ) → holds_mark t ≡ false → has_control t ≡ false
mark-shown [] e = refl
mark-shown (b ∷ bs) e =
    let p = or-false (nat_lt b 32 || (b == 34)) (holds_mark bs) e in
    let q = or-false (nat_lt b 32) (b == 34) p.0 in
    rw (q.0, mark-shown bs p.1) refl

comma-free : (t : List ℕ) → holds_comma t ≡ false → Free 44 t
comma-free [] e = tt
comma-free (b ∷ bs) e = let p = or-false (b == 44) (holds_comma bs) e in (p.0, comma-free bs p.1)

-- ---- a text

pub record Plain (t : List ℕ) : Type 0 where
  shown : has_hidden t ≡ false
  unmarked : holds_mark t ≡ false

plain-text : (a b : Bool) → not a && not b ≡ true → (a ≡ false) × (b ≡ false)
plain-text true b e = absurd (cc)
plain-text false true e = absurd (cc)
plain-text false false e = (refl, refl)

plain-from : (t : List ℕ) → is_plain t ≡ true → Plain t
plain-from t e = let p = plain-text (has_hidden t) (holds_mark t) e in record { shown = p.0; unmarked = p.1 }

short-back : (t : List ℕ) → length t ≤ 64 → short t ≡ Some t
short-back t h = let few : nat_lt 64 (length t) ≡ false = grind (arith, nat_tests) in rw few refl

reading-plain : (t : List ℕ) → IsShortText t → Plain t → field_text true t ≡ Some t
reading-plain t h p =
    let utf8 : is_utf8 t ≡ true = is_utf8-from_IsUtf8 t h.utf8 in
    let shown = p.shown in
    rw (utf8, shown) (short-back t h.short)

reading-hex : (t : List ℕ) → IsShortText t → field_text false (hex_text t) ≡ Some t
reading-hex t h =
    let few = length-hex t h.short in
    let test : nat_lt 128 (length (hex_text t)) ≡ false = grind (arith, nat_tests, few) in
    let utf8 : is_utf8 t ≡ true = is_utf8-from_IsUtf8 t h.utf8 in
    rw (test, hex-back t h.bytes, utf8) (short-back t h.short)

-- how a text stands
abbrev Written : List ℕ → Type 0
Written t = ((text_field t ≡ in_quotes t) × Plain t) ⊎ (text_field t ≡ hex_text t)

written-by : (t : List ℕ) (b : Bool) → is_plain t ≡ b → Written t
unfolding text_field
written-by t true e = inl (ap (λ (x : Bool). cond x (in_quotes t) (hex_text t)) e, plain-from t e)
written-by t false e = inr (ap (λ (x : Bool). cond x (in_quotes t) (hex_text t)) e)

-- it is not quoted where a word stands
word-unquoted : (w rest : List ℕ) → Word w → is_quoted (Some (w ++ 32 ∷ rest)) ≡ false
word-unquoted [] rest h = refl
word-unquoted (b ∷ bs) rest h = let big = h.0 in grind (arith, nat_tests, big)

word-unquoted-last : (w : List ℕ) → Word w → is_quoted (Some w) ≡ false
word-unquoted-last [] h = refl
word-unquoted-last (b ∷ bs) h = let big = h.0 in grind (arith, nat_tests, big)

abbrev at : Bool → Result (List ℕ × Option (List ℕ)) ObjectFault → Result (List ℕ × Option (List ℕ)) ObjectFault
at quoted f = then_by f (λ f. then_by (some_or_fault fault.Text (field_text quoted f.0)) (λ text. Ok (text, f.1)))

at-back : (field : Option (List ℕ)) (quoted : Bool) (w t : List ℕ) (rest : Option (List ℕ)) → is_quoted field ≡ quoted → field_at field ≡ Ok (w, rest)
    → field_text quoted w ≡ Some t → text_in_field field ≡ Ok (t, rest)
unfolding text_in_field
at-back field quoted w t rest q f s =
    ap (λ (b : Bool). at b (field_at field)) q ∙ ap (at quoted) f ∙ ap (λ (o : Option (List ℕ)). then_by (some_or_fault fault.Text o) (λ text. Ok (text, rest))) s

-- a text is read back, with a field behind it
pub text-back : (t rest : List ℕ) → IsShortText t → text_in_field (Some (text_field t ++ 32 ∷ rest)) ≡ Ok (t, Some rest)
text-back t rest h = by (written-by t (is_plain t) refl)
  where
    by : Written t → text_in_field (Some (text_field t ++ 32 ∷ rest)) ≡ Ok (t, Some rest)
    by (inl w) =
        ap (λ (l : List ℕ). text_in_field (Some (l ++ 32 ∷ rest))) w.0
        ∙ at-back (Some (in_quotes t ++ 32 ∷ rest)) true t t (Some rest) refl (field-quoted t rest (mark-free t w.1.unmarked)) (reading-plain t h w.1)
    by (inr w) =
        let digits = word-hex_text t h.bytes in
        ap (λ (l : List ℕ). text_in_field (Some (l ++ 32 ∷ rest))) w
        ∙ at-back (Some (hex_text t ++ 32 ∷ rest)) false (hex_text t) t (Some rest) (word-unquoted (hex_text t) rest digits) (field-word (hex_text t) rest digits) (reading-hex t h)

-- a text is read back at the end of a line
pub text-last : (t : List ℕ) → IsShortText t → text_in_field (Some (text_field t)) ≡ Ok (t, None)
text-last t h = by (written-by t (is_plain t) refl)
  where
    by : Written t → text_in_field (Some (text_field t)) ≡ Ok (t, None)
    by (inl w) =
        ap (λ (l : List ℕ). text_in_field (Some l)) w.0
        ∙ at-back (Some (in_quotes t)) true t t None refl (field-quoted-last t (mark-free t w.1.unmarked)) (reading-plain t h w.1)
    by (inr w) =
        let digits = word-hex_text t h.bytes in
        ap (λ (l : List ℕ). text_in_field (Some l)) w
        ∙ at-back (Some (hex_text t)) false (hex_text t) t None (word-unquoted-last (hex_text t) digits) (field-last (hex_text t) digits) (reading-hex t h)

quotes-shown : (t : List ℕ) → has_control t ≡ false → has_control (in_quotes t) ≡ false
quotes-shown t h = shown-append t (34 ∷ []) h refl

-- a text is written without a control character
pub text-shown : (t : List ℕ) → IsShortText t → has_control (text_field t) ≡ false
text-shown t h = by (written-by t (is_plain t) refl)
  where
    by : Written t → has_control (text_field t) ≡ false
    by (inl w) = ap has_control w.0 ∙ quotes-shown t (mark-shown t w.1.unmarked)
    by (inr w) = ap has_control w ∙ word-shown (hex_text t) (word-hex_text t h.bytes)

-- ---- flags

-- flags are read back from their digits
pub flags-back : (before flags : List Bool) → length before + length flags ≤ 16 → flags_after before (map flag_digit flags) ≡ Some (before ++ flags)
flags-back before [] few = ap Some (sym (append-nil before))
flags-back before (true ∷ flags) few =
    let room : nat_le 16 (length before) ≡ false = grind (arith, nat_tests) in
    rw room (flags-back (before ++ true ∷ []) flags (omega (arith, length-append before (true ∷ []))) ∙ ap Some (append_assoc before (true ∷ []) flags))
flags-back before (false ∷ flags) few =
    let room : nat_le 16 (length before) ≡ false = grind (arith, nat_tests) in
    rw room (flags-back (before ++ false ∷ []) flags (omega (arith, length-append before (false ∷ []))) ∙ ap Some (append_assoc before (false ∷ []) flags))

-- the digits of flags are a word
pub word-flags : (flags : List Bool) → Word (map flag_digit flags)
word-flags [] = tt
word-flags (true ∷ flags) = (omega arith, word-flags flags)
word-flags (false ∷ flags) = (omega arith, word-flags flags)

-- ---- names

abbrev pub Flagged : Bool → (List ℕ → List ℕ) → List (List ℕ) → Type 0
Flagged quoted writes [] = Unit {0}
Flagged quoted writes (n ∷ names) = (field_text quoted (writes n) ≡ Some n) × Flagged quoted writes names

abbrev pub AllFree : ℕ → (List ℕ → List ℕ) → List (List ℕ) → Type 0
AllFree s writes [] = Unit {0}
AllFree s writes (n ∷ names) = Free s (writes n) × AllFree s writes names

named-back : (quoted : Bool) (writes : List ℕ → List ℕ) (before names : List (List ℕ)) → Flagged quoted writes names → length before + length names ≤ 16
    → names_by (field_text quoted) before (map writes names) ≡ Ok (before ++ names)
named-back quoted writes before [] h few = ap Ok (sym (append-nil before))
named-back quoted writes before (n ∷ names) h few =
    let room : nat_le 16 (length before) ≡ false = grind (arith, nat_tests) in
    let is = h.0 in
    rw (is, room) (named-back quoted writes (before ++ n ∷ []) names h.1 (omega (arith, length-append before (n ∷ []))) ∙ ap Ok (append_assoc before (n ∷ []) names))

split-parts : (writes : List ℕ → List ℕ) (first : List ℕ) (names : List (List ℕ)) → Free 44 first → AllFree 44 writes names
    → split_on 44 (first ++ flat_map (λ m. 44 ∷ writes m) names) ≡ first ∷ map writes names
split-parts writes first [] free all = ap (split_on 44) (append-nil first) ∙ split-one 44 first (free-nowhere 44 first free)
split-parts writes first (m ∷ names) free all =
    let rest : List ℕ = writes m ++ flat_map (λ m. 44 ∷ writes m) names in
    split-more 44 (first ++ 44 ∷ rest) first rest (free-after 44 first rest free)
    ∙ ap (λ (l : List (List ℕ)). first ∷ l) (split-parts writes (writes m) names all.0 all.1)

joined-free : (s : ℕ) (writes : List ℕ → List ℕ) (names : List (List ℕ)) → (44 == s) ≡ false → AllFree s writes names → Free s (joined_names writes names)
joined-free s writes [] other all = tt
joined-free s writes (n ∷ names) other all = free-append s (writes n) (flat_map (λ m. 44 ∷ writes m) names) all.0 (behind names all.1)
  where
    behind : (ms : List (List ℕ)) → AllFree s writes ms → Free s (flat_map (λ m. 44 ∷ writes m) ms)
    behind [] all = tt
    behind (m ∷ ms) all = (other, free-append s (writes m) (flat_map (λ m. 44 ∷ writes m) ms) all.0 (behind ms all.1))

-- names that stand as they are
pub record PlainNames (names : List (List ℕ)) : Type 0 where
  reading : Flagged true (name_part true) names
  commas : AllFree 44 (name_part true) names
  quotes : AllFree 34 (name_part true) names
  shown : has_control (flat_map (λ m. 44 ∷ name_part true m) names) ≡ false

and-true : (a b : Bool) → not (a && not b) ≡ false → (a ≡ true) × (b ≡ false)
and-true true true e = absurd (cc)
and-true true false e = (refl, refl)
and-true false b e = absurd (cc)

pub plain-names : (names : List (List ℕ)) → All IsShortText names → list_any (λ n. not (is_plain_name n)) names ≡ false → PlainNames names
plain-names [] h e = record { reading = tt; commas = tt; quotes = tt; shown = refl }
plain-names (n ∷ names) h e =
    let p = or-false (not (is_plain_name n)) (list_any (λ n. not (is_plain_name n)) names) e in
    let q = and-true (is_plain n) (holds_comma n) p.0 in
    let plain = plain-from n q.0 in
    let rest = plain-names names (All-tail IsShortText n names h) p.1 in
    record {
      reading = (reading-plain n (All-head IsShortText n names h) plain, rest.reading);
      commas = (comma-free n q.1, rest.commas);
      quotes = (mark-free n plain.unmarked, rest.quotes);
      shown = shown-append n (flat_map (λ m. 44 ∷ name_part true m) names) (mark-shown n plain.unmarked) rest.shown;
    }

-- names in hexadecimal digits
pub record HexNames (names : List (List ℕ)) : Type 0 where
  reading : Flagged false (name_part false) names
  commas : AllFree 44 (name_part false) names
  word : Word (flat_map (λ m. 44 ∷ name_part false m) names)

hex-commas : (bs : List ℕ) → IsBytes bs → Free 44 (hex_text bs)
hex-commas bs h = digits-free 44 (hex_text bs) (omega arith) (digits-hex_text bs h)

pub hex-names : (names : List (List ℕ)) → All IsShortText names → HexNames names
hex-names [] h = record { reading = tt; commas = tt; word = tt }
hex-names (n ∷ names) h =
    let is = All-head IsShortText n names h in
    let rest = hex-names names (All-tail IsShortText n names h) in
    record {
      reading = (reading-hex n is, rest.reading);
      commas = (hex-commas n is.bytes, rest.commas);
      word = (omega arith, word-append (hex_text n) (flat_map (λ m. 44 ∷ name_part false m) names) (word-hex_text n is.bytes) rest.word);
    }

names-at : (field : Option (List ℕ)) (quoted : Bool) (w : List ℕ) (names : List (List ℕ)) (rest : Option (List ℕ)) → is_quoted field ≡ quoted
    → field_at field ≡ Ok (w, rest) → names_by (field_text quoted) [] (split_on 44 w) ≡ Ok names → names_in_field field ≡ Ok (names, rest)
unfolding names_in_field
names-at field quoted w names rest q f s =
    ap (λ (b : Bool). then_by (field_at field) (λ f. then_by (names_by (field_text b) [] (split_on 44 f.0)) (λ names. Ok (names, f.1)))) q
    ∙ ap (λ (r : Result (List ℕ × Option (List ℕ)) ObjectFault). then_by r (λ f. then_by (names_by (field_text quoted) [] (split_on 44 f.0)) (λ names. Ok (names, f.1)))) f
    ∙ ap (λ (r : Result (List (List ℕ)) ObjectFault). then_by r (λ names. Ok (names, rest))) s

names-parts : (quoted : Bool) (writes : List ℕ → List ℕ) (names : List (List ℕ)) → 0 < length names → length names ≤ 16 → Flagged quoted writes names → AllFree 44 writes names
    → names_by (field_text quoted) [] (split_on 44 (joined_names writes names)) ≡ Ok names
names-parts quoted writes [] some few reading free = absurd (omega arith)
names-parts quoted writes (n ∷ names) some few reading free =
    ap (names_by (field_text quoted) []) (split-parts writes (writes n) names free.0 free.1) ∙ named-back quoted writes [] (n ∷ names) reading (omega (arith, few))

joined-word : (names : List (List ℕ)) → All IsShortText names → Word (joined_names (name_part false) names)
joined-word [] h = tt
joined-word (n ∷ names) h =
    word-append (hex_text n) (flat_map (λ m. 44 ∷ name_part false m) names) (word-hex_text n (All-head IsShortText n names h).bytes) (hex-names names (All-tail IsShortText n names h)).word

joined-shown : (names : List (List ℕ)) → PlainNames names → has_control (joined_names (name_part true) names) ≡ false
joined-shown [] h = refl
joined-shown (n ∷ names) h = h.shown

-- how names stand
abbrev WrittenNames : List (List ℕ) → Type 0
WrittenNames names = ((names_field names ≡ in_quotes (joined_names (name_part true) names)) × PlainNames names) ⊎ (names_field names ≡ joined_names (name_part false) names)

names-by : (names : List (List ℕ)) → All IsShortText names → (b : Bool) → list_any (λ n. not (is_plain_name n)) names ≡ b → WrittenNames names
unfolding names_field
names-by names h true e = inr (ap (λ (x : Bool). cond x (joined_names (name_part false) names) (in_quotes (joined_names (name_part true) names))) e)
names-by names h false e = inl (ap (λ (x : Bool). cond x (joined_names (name_part false) names) (in_quotes (joined_names (name_part true) names))) e, plain-names names h e)

-- names are read back
pub names-back : (names : List (List ℕ)) (rest : List ℕ) → All IsShortText names → 0 < length names → length names ≤ 16
    → names_in_field (Some (names_field names ++ 32 ∷ rest)) ≡ Ok (names, Some rest)
names-back names rest h some few = by (names-by names h (list_any (λ n. not (is_plain_name n)) names) refl)
  where
    by : WrittenNames names → names_in_field (Some (names_field names ++ 32 ∷ rest)) ≡ Ok (names, Some rest)
    by (inl w) =
        let inside = joined_names (name_part true) names in
        ap (λ (l : List ℕ). names_in_field (Some (l ++ 32 ∷ rest))) w.0
        ∙ names-at (Some (in_quotes inside ++ 32 ∷ rest)) true inside names (Some rest) refl (field-quoted inside rest (joined-free 34 (name_part true) names refl w.1.quotes))
        (names-parts true (name_part true) names some few w.1.reading w.1.commas)
    by (inr w) =
        let inside = joined_names (name_part false) names in
        let hex = hex-names names h in
        let word = joined-word names h in
        ap (λ (l : List ℕ). names_in_field (Some (l ++ 32 ∷ rest))) w
        ∙ names-at (Some (inside ++ 32 ∷ rest)) false inside names (Some rest) (word-unquoted inside rest word) (field-word inside rest word)
        (names-parts false (name_part false) names some few hex.reading hex.commas)

-- names are written without a control character
pub names-shown : (names : List (List ℕ)) → All IsShortText names → has_control (names_field names) ≡ false
names-shown names h = by (names-by names h (list_any (λ n. not (is_plain_name n)) names) refl)
  where
    by : WrittenNames names → has_control (names_field names) ≡ false
    by (inl w) = ap has_control w.0 ∙ quotes-shown (joined_names (name_part true) names) (joined-shown names w.1)
    by (inr w) = ap has_control w ∙ word-shown (joined_names (name_part false) names) (joined-word names h)

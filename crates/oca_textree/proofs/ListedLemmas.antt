-- What a text lists: each object has a role, texts in UTF-8 of at most 64 bytes and numbers of 32 bits, and no lock.
use Rattle.std.proofs.Common.{◌≡◌, ℕ, zero, suc, ◌+◌, ◌<◌, ◌≤◌, ◌^◌, ◌==◌, Bool, true, false, cond, ◌||◌, not, ◌⊎◌, inl, inr, List, [], ◌∷◌, ◌++◌, length, Option, Some, None, Ok, Err, refl, sym, ap, ◌∙◌, subst, arith, IsUtf8}
use Rattle.std.specs.Prelude.{codes, Result, nat_lt, nat_le, is_some}
use Rattle.std.specs.List.{list_any, All}
use Rattle.std.specs.Option.{option_map, option_or}
use Rattle.std.specs.Str.{is_utf8, bytes_eq}
use Rattle.std.proofs.lemmas.Bool.{and_parts, or_parts, cases_lt, ltb-true, ltb-false, leb-true, lt-ltb, le-ltb}
use Rattle.std.proofs.lemmas.List.Elements.{All-nil, All-cons, All-head, All-tail, All-push, All-weaker}
use Rattle.std.proofs.lemmas.Str.{IsUtf8-from_is_utf8, IsUtf8-nil}
use Rattle.hex.specs.Hex.{IsBytes}
use Rattle.oca_types.specs.declared.class.Class.{Class}
use Rattle.oca_types.specs.declared.class.Class.TheVariants as class
use Rattle.oca_model.specs.declared.value.MuteState.TheVariants.{Muted, Unmuted}
use Rattle.oca_model.specs.declared.value.PolarityState.TheVariants.{NonInverted, Inverted}
use Rattle.oca_script.specs.Escapes.{has_hidden}
use Rattle.oca_script.specs.Fields.{split_at, split_on, value_after, at_most, number_of, then_in, hex_of}
use Rattle.oca_tree.specs.declared.builder.AddFault.{AddFault}
use Rattle.oca_tree.specs.declared.builder.AddFault.TheVariants as adds
use Rattle.oca_tree.specs.Objects.{object_of}
use Rattle.oca_tree.specs.Places.{places, is_block, depth}
use Rattle.oca_tree.specs.declared.object.Lock.{Lock}
use Rattle.oca_model.specs.declared.reading.Reading.TheVariants as readings
use Rattle.oca_tree.specs.declared.object.Object.{Object}
use Rattle.oca_tree.specs.declared.object.Value.{Value}
use Rattle.oca_tree.specs.declared.object.Value.TheVariants as values
use Rattle.oca_tree.specs.Building.{root, is_long, is_bad_value, first_fault, new_object, switch}
use Rattle.oca_tree.specs.Copies.{names_in, unlocked, all_unlocked}
use Rattle.oca_tree.specs.Starts.{with_flags}
use Rattle.oca_script.specs.declared.object_fault.ObjectFault.{ObjectFault}
use Rattle.oca_script.specs.declared.object_fault.ObjectFault.TheVariants as fault
use Rattle.oca_textree.specs.declared.fault.TreeFault.{TreeFault}
use Rattle.oca_textree.specs.Faults.{object_fault_of}
use Rattle.oca_textree.specs.Texts.{after_lines, go_on, line_before, lines_behind, rooted_by, from_root, objects_of_text}
use Rattle.oca_textree.specs.Lines.{then_by, some_or_fault, field_at, ono_of, ono_at, Placed, placed_at, class_of_word, one_of, Valued, Limited, valued, by_word, names_by, position_named, positions_of, by_positions, value_at, is_text, refusal, added_unless, ended, checked, last_of, added_with, added_by, is_skipped_line, has_control}
use Rattle.oca_textree.specs.Stored.{after_line, after_word, by_kind, short, short_utf8, field_text, is_quoted, text_in_field, flags_after, names_in_field, Positions, switch_at, Flagged, switch_flagged, flagged_at, start_at, Ending, ending_at, stored_object, start_refusal, kept_unless, stored_with, stored_by, rooted}
use Rattle.oca_textree.specs.Written.{IsShortText, IsNamed, IsRoot}
use lib.Utf8.{scalar, scalars, encode, encodes, scalar_cases}

-- ---- the bytes of UTF-8

abbrev pub Each : List ℕ → Type 0
Each [] = Unit {0}
Each (b ∷ bs) = (b < 256) × Each bs

each-append : (xs ys : List ℕ) → Each xs → Each ys → Each (xs ++ ys)
each-append [] ys h k = k
each-append (x ∷ xs) ys h k = (h.0, each-append xs ys h.1 k)

each-bytes : (xs : List ℕ) → Each xs → IsBytes xs
each-bytes [] h zero = omega arith
each-bytes [] h (suc i) = omega arith
each-bytes (x ∷ xs) h zero = h.0
each-bytes (x ∷ xs) h (suc i) = each-bytes xs h.1 i

small : (c : ℕ) → scalar c ≡ true → c < 1114112
small c ok = elim (scalar_cases c ok) [ inl h ↦ omega arith | inr h ↦ h.1 ]

encoded-bytes : (c : ℕ) → c < 1114112 → Each (encode c)
unfolding encode
encoded-bytes c fits = elim (cases_lt c 128) [
  | inl one ↦ let test = lt-ltb c 128 one in rw test (omega arith, tt)
  | inr more ↦ elim (cases_lt c 2048) [
    | inl two ↦ let a = le-ltb c 128 more in let b = lt-ltb c 2048 two in rw (a, b) (omega arith, (omega arith, tt))
    | inr yet ↦ elim (cases_lt c 65536) [
      | inl three ↦ let a = le-ltb c 128 more in let b = le-ltb c 2048 yet in let d = lt-ltb c 65536 three in rw (a, b, d) (omega arith, (omega arith, (omega arith, tt)))
      | inr four ↦ let a = le-ltb c 128 more in let b = le-ltb c 2048 yet in let d = le-ltb c 65536 four in rw (a, b, d) (omega arith, (omega arith, (omega arith, (omega arith, tt))))
    ]
  ]
]

each-encoded : (cs : List ℕ) → scalars cs ≡ true → Each (encodes cs)
each-encoded [] ok = tt
each-encoded (c ∷ cs) ok =
    let p = and_parts (scalar c) (scalars cs) ok in
    each-append (encode c) (encodes cs) (encoded-bytes c (small c p.0)) (each-encoded cs p.1)

-- a text in UTF-8 is a list of bytes
pub utf8-bytes : (t : List ℕ) → IsUtf8 t → IsBytes t
utf8-bytes t h = each-bytes t (subst Each h.1.1 (each-encoded h.0 h.1.0))

-- UTF-8 of at most 64 bytes is a short text
pub short-text : (t : List ℕ) → IsUtf8 t → length t ≤ 64 → IsShortText t
short-text t utf8 few = record { utf8 = utf8; bytes = utf8-bytes t utf8; short = few }

-- what is not long has at most 64 bytes
pub not-long-short : (t : List ℕ) → is_long t ≡ false → length t ≤ 64
not-long-short t e = ltb-false 64 (length t) e

-- texts in UTF-8 of which none is long are short
pub all-short : (names : List (List ℕ)) → All IsUtf8 names → list_any is_long names ≡ false → All IsShortText names
all-short [] h e = All-nil IsShortText
all-short (n ∷ names) h e =
    let p = or_parts (is_long n) (list_any is_long names) e in
    All-cons IsShortText n names (short-text n (All-head IsUtf8 n names h) (not-long-short n p.0)) (all-short names (All-tail IsUtf8 n names h) p.1)

-- no names are short
pub no-names : All IsShortText []
no-names = All-nil IsShortText

-- ---- one after another

then-ok : {A B : Type 0} (r : Result A ObjectFault) (next : A → Result B ObjectFault) (y : B) → then_by r next ≡ Ok y → (x : A) × (r ≡ Ok x) × (next x ≡ Ok y)
then-ok (Err f) next y e = absurd (cc)
then-ok (Ok x) next y e = (x, refl, e)

or-ok : {A B : Type 0} (f : ObjectFault) (o : Option A) (next : A → Result B ObjectFault) (y : B) → then_by (some_or_fault f o) next ≡ Ok y → (x : A) × (o ≡ Some x) × (next x ≡ Ok y)
or-ok f None next y e = absurd (cc)
or-ok f (Some x) next y e = (x, refl, e)

-- ---- numbers

most : (largest n : ℕ) (o : Option ℕ) → at_most largest o ≡ Some n → n ≤ largest
unfolding at_most
most largest n None e = absurd (cc)
most largest n (Some m) e = by (nat_le m largest) refl e
  where
    by : (b : Bool) → nat_le m largest ≡ b → cond b (Some m) None ≡ Some n → n ≤ largest
    by true t h = let same : m ≡ n = cc in subst (λ (x : ℕ). x ≤ largest) same (leb-true m largest t)
    by false t h = absurd (cc)

number-most : (digits largest n : ℕ) (text : List ℕ) → number_of digits largest text ≡ Some n → n ≤ largest
unfolding number_of
number-most digits largest n text e = by ((length text == 0) || nat_lt digits (length text)) e
  where
    by : (b : Bool) → cond b None (at_most largest (value_after 0 text)) ≡ Some n → n ≤ largest
    by true h = absurd (cc)
    by false h = most largest n (value_after 0 text) h

ono-fits : (text : List ℕ) (n : ℕ) → ono_of text ≡ Some n → n < 2 ^ 32
ono-fits text n e = omega (arith, number-most 10 4294967295 n text e)

-- ---- texts

is-text : (t : List ℕ) → is_text t ≡ true → IsUtf8 t
is-text t e = IsUtf8-from_is_utf8 t (and_parts (is_utf8 t) (not (has_hidden t)) e).0

short-reading : (text t : List ℕ) → short text ≡ Some t → (text ≡ t) × (length t ≤ 64)
short-reading text t e = by (nat_lt 64 (length text)) refl e
  where
    by : (b : Bool) → nat_lt 64 (length text) ≡ b → cond b None (Some text) ≡ Some t → (text ≡ t) × (length t ≤ 64)
    by true q h = absurd (cc)
    by false q h = let same : text ≡ t = cc in (same, subst (λ (x : List ℕ). length x ≤ 64) same (ltb-false 64 (length text) q))

reading-short : (text t : List ℕ) → IsUtf8 text → short text ≡ Some t → IsShortText t
reading-short text t utf8 e = let p = short-reading text t e in short-text t (subst IsUtf8 p.0 utf8) p.1

quoted-reading : (text t : List ℕ) (b : Bool) → is_text text ≡ b → cond b (short text) None ≡ Some t → IsShortText t
quoted-reading text t true q e = reading-short text t (is-text text q) e
quoted-reading text t false q e = absurd (cc)

utf8-reading : (text t : List ℕ) (b : Bool) → is_utf8 text ≡ b → cond b (short text) None ≡ Some t → IsShortText t
utf8-reading text t true q e = reading-short text t (IsUtf8-from_is_utf8 text q) e
utf8-reading text t false q e = absurd (cc)

hex-reading : (o : Option (List ℕ)) (t : List ℕ) → then_in o short_utf8 ≡ Some t → IsShortText t
hex-reading None t e = absurd (cc)
hex-reading (Some text) t e = utf8-reading text t (is_utf8 text) refl e

digits-short : (digits t : List ℕ) (b : Bool) → cond b None (then_in (hex_of digits) short_utf8) ≡ Some t → IsShortText t
digits-short digits t true e = absurd (cc)
digits-short digits t false e = hex-reading (hex_of digits) t e

text-short : (quoted : Bool) (field t : List ℕ) → field_text quoted field ≡ Some t → IsShortText t
text-short true field t e = quoted-reading field t (is_text field) refl e
text-short false field t e = digits-short field t (nat_lt 128 (length field)) e

abbrev value_or : {A : Type 0} → A → Result A ObjectFault → A
value_or d (Ok x) = x
value_or d (Err f) = d

abbrev as_ok : {A : Type 0} → A → Result A ObjectFault
as_ok x = Ok x

ok-same : {A : Type 0} (x y : A) → as_ok x ≡ as_ok y → x ≡ y
ok-same x y e = ap (value_or x) e

pub text-at-short : (rest : Option (List ℕ)) (p : List ℕ × Option (List ℕ)) → text_in_field rest ≡ Ok p → IsShortText p.0
unfolding text_in_field
text-at-short rest p e =
    let f = then-ok (field_at rest) _ p e in
    let t = or-ok fault.Text (field_text (is_quoted rest) f.0.0) _ p f.2 in
    let same : t.0 ≡ p.0 = ap (λ (x : List ℕ × Option (List ℕ)). x.0) (ok-same _ _ t.2) in
    subst IsShortText same (text-short (is_quoted rest) f.0.0 t.0 t.1)

-- ---- the place of an object

number-fits : (rest : Option (List ℕ)) (p : ℕ × Option (List ℕ)) → ono_at rest ≡ Ok p → p.0 < 2 ^ 32
unfolding ono_at
number-fits rest p e =
    let f = then-ok (field_at rest) _ p e in
    let n = or-ok fault.Number (ono_of f.0.0) _ p f.2 in
    let same : n.0 ≡ p.0 = ap (λ (x : ℕ × Option (List ℕ)). x.0) (ok-same _ _ n.2) in
    subst (λ (m : ℕ). m < 2 ^ 32) same (ono-fits f.0.0 n.0 n.1)

placed-fits : (rest : Option (List ℕ)) (p : Placed) → placed_at rest ≡ Ok p → (p.container < 2 ^ 32) × (p.ono < 2 ^ 32)
unfolding placed_at
placed-fits rest p e =
    let a = then-ok (ono_at rest) _ p e in
    let b = then-ok (ono_at a.0.1) _ p a.2 in
    let c = then-ok (field_at b.0.1) _ p b.2 in
    let k = or-ok fault.Class (class_of_word c.0.0) _ p c.2 in
    subst (λ (x : Placed). (x.container < 2 ^ 32) × (x.ono < 2 ^ 32)) (ok-same _ _ k.2) (number-fits a.0.1 b.0 b.1, number-fits rest a.0 a.1)

-- ---- names of positions

checked-utf8 : (text t : List ℕ) → checked text ≡ Some t → IsUtf8 t
checked-utf8 text t e = by (is_text text) refl e
  where
    by : (b : Bool) → is_text text ≡ b → cond b (Some text) None ≡ Some t → IsUtf8 t
    by true q h = let same : text ≡ t = cc in subst IsUtf8 same (is-text text q)
    by false q h = absurd (cc)

-- what holds of each text that is read holds of each name
names-all : (P : List ℕ → Type 0) (reads : List ℕ → Option (List ℕ)) → ((text t : List ℕ) → reads text ≡ Some t → P t) → (before more all : List (List ℕ)) → All P before
    → names_by reads before more ≡ Ok all → All P all
names-all P reads each before [] all h e = subst (All P) (ok-same before all e) h
names-all P reads each before (n ∷ more) all h e =
    let t = or-ok fault.Text (reads n) _ all e in
    by t.0 (nat_le 16 (length before)) (names-all P reads each (before ++ t.0 ∷ []) more all (All-push P before t.0 h (each n t.0 t.1))) t.2
  where
    by : (t : List ℕ) (b : Bool) → (names_by reads (before ++ t ∷ []) more ≡ Ok all → All P all)
        → cond b (Err fault.Range) (names_by reads (before ++ t ∷ []) more) ≡ Ok all → All P all
    by t true next k = absurd (cc)
    by t false next k = next k

names-at-short : (rest : Option (List ℕ)) (p : List (List ℕ) × Option (List ℕ)) → names_in_field rest ≡ Ok p → All IsShortText p.0
unfolding names_in_field
names-at-short rest p e =
    let f = then-ok (field_at rest) _ p e in
    let t = then-ok (names_by (field_text (is_quoted rest)) [] (split_on 44 f.0.0)) _ p f.2 in
    let same : t.0 ≡ p.0 = ap (λ (x : List (List ℕ) × Option (List ℕ)). x.0) (ok-same _ _ t.2) in
    subst (All IsShortText) same (names-all IsShortText (field_text (is_quoted rest)) (text-short (is_quoted rest)) [] (split_on 44 f.0.0) t.0 no-names t.1)

-- ---- values

-- the names of a value are UTF-8, and the flag says whether one is long
record AreTexts (v : Valued) : Type 0 where
  names : All IsUtf8 (names_in v.value)
  flag : v.bad_name ≡ list_any is_long (names_in v.value)

-- a value with no names
nameless : (v : Value) (rest : Option (List ℕ)) → names_in v ≡ [] → AreTexts (valued v rest)
nameless v rest e = record { names = subst (All IsUtf8) (sym e) (All-nil IsUtf8); flag = ap (list_any is_long) (sym e) }

texts-of : (v w : Valued) → v ≡ w → AreTexts v → AreTexts w
texts-of v w e h = subst AreTexts e h

by-word : (reads : List ℕ → Option Value) → ((word : List ℕ) (x : Value) → reads word ≡ Some x → names_in x ≡ []) → (rest : Option (List ℕ)) (v : Valued)
    → by_word reads rest ≡ Ok v → AreTexts v
unfolding by_word
by-word reads none rest v e =
    let w = then-ok (field_at rest) _ v e in
    let x = or-ok fault.Value (reads w.0.0) _ v w.2 in
    texts-of (valued x.0 w.0.1) v (ok-same _ _ x.2) (nameless x.0 w.0.1 (none w.0.0 x.0 x.1))

one-of-two : (a : List ℕ) (x : Value) (b : List ℕ) (y : Value) → names_in x ≡ [] → names_in y ≡ [] → (word : List ℕ) (z : Value) → one_of a x b y word ≡ Some z → names_in z ≡ []
unfolding one_of
one-of-two a x b y h k word z e = by (bytes_eq word a) (bytes_eq word b) e
  where
    by : (p q : Bool) → cond p (Some x) (cond q (Some y) None) ≡ Some z → names_in z ≡ []
    by true q t = let same : x ≡ z = cc in subst (λ (v : Value). names_in v ≡ []) same h
    by false true t = let same : y ≡ z = cc in subst (λ (v : Value). names_in v ≡ []) same k
    by false false t = absurd (cc)

by-limits : (read : Result Limited ObjectFault) (made : Limited → Value) (v : Valued) → then_by read (λ l. Ok (valued (made l) l.rest)) ≡ Ok v → ((l : Limited) → names_in (made l) ≡ []) → AreTexts v
by-limits read made v e none =
    let l = then-ok read _ v e in
    texts-of (valued (made l.0) l.0.rest) v (ok-same _ _ l.2) (nameless (made l.0) l.0.rest (none l.0))

-- the names of a switch are those that it was made with
pub switch-names : (names : List (List ℕ)) (position : ℕ) → names_in (switch names position) ≡ names
unfolding names_in
switch-names names position = refl

abbrev listed_switch : ℕ × List (List ℕ) × Option (List ℕ) → Valued
listed_switch p = record { bad_name = list_any is_long p.1; value = switch p.1 p.0; rest = p.2 }

switch-texts : (p : ℕ × List (List ℕ) × Option (List ℕ)) → All IsUtf8 p.1 → AreTexts (listed_switch p)
switch-texts p h = record {
  names = subst (All IsUtf8) (sym (switch-names p.1 p.0)) h;
  flag = ap (list_any is_long) (sym (switch-names p.1 p.0));
}

positions-utf8 : (rest : Option (List ℕ)) (p : ℕ × List (List ℕ) × Option (List ℕ)) → positions_of rest ≡ Ok p → All IsUtf8 p.1
unfolding positions_of
positions-utf8 rest p e =
    let a = then-ok (field_at rest) _ p e in
    let names = then-ok (names_by checked [] (split_on 44 a.0.0)) _ p a.2 in
    let b = then-ok (field_at a.0.1) _ p names.2 in
    let at = or-ok fault.Value (position_named b.0.0 names.0) _ p b.2 in
    let same : names.0 ≡ p.1 = ap (λ (x : ℕ × List (List ℕ) × Option (List ℕ)). x.1) (ok-same _ _ at.2) in
    subst (All IsUtf8) same (names-all IsUtf8 checked checked-utf8 [] (split_on 44 a.0.0) names.0 (All-nil IsUtf8) names.1)

by-positions : (rest : Option (List ℕ)) (v : Valued) → by_positions rest ≡ Ok v → AreTexts v
by-positions rest v e =
    let p = then-ok (positions_of rest) _ v e in
    texts-of (listed_switch p.0) v (ok-same _ _ p.2) (switch-texts p.0 (positions-utf8 rest p.0 p.1))

value-texts : (k : Class) (rest : Option (List ℕ)) (v : Valued) → value_at k rest ≡ Ok v → AreTexts v
unfolding value_at names_in
value-texts class.Block rest v e = texts-of (valued values.Block rest) v (ok-same _ _ e) (nameless values.Block rest refl)
value-texts class.Mute rest v e =
    by-word (one_of (codes "muted") (values.Reads (readings.Mute Muted)) (codes "unmuted") (values.Reads (readings.Mute Unmuted)))
    (one-of-two (codes "muted") (values.Reads (readings.Mute Muted)) (codes "unmuted") (values.Reads (readings.Mute Unmuted)) refl refl) rest v e
value-texts class.Polarity rest v e =
    by-word (one_of (codes "non-inverted") (values.Reads (readings.Polarity NonInverted)) (codes "inverted") (values.Reads (readings.Polarity Inverted)))
    (one-of-two (codes "non-inverted") (values.Reads (readings.Polarity NonInverted)) (codes "inverted") (values.Reads (readings.Polarity Inverted)) refl refl) rest v e
value-texts class.Boolean rest v e =
    by-word (one_of (codes "on") (values.Reads (readings.Boolean true)) (codes "off") (values.Reads (readings.Boolean false)))
    (one-of-two (codes "on") (values.Reads (readings.Boolean true)) (codes "off") (values.Reads (readings.Boolean false)) refl refl) rest v e
value-texts class.Switch rest v e = by-positions rest v e
value-texts _ rest v e = by-limits _ _ v e (λ l. refl)

-- ---- what the tree does not refuse

-- where no line of the list of faults applies, its sixth does not
pub sixth-none : (a b c d e f g : Bool) → first_fault ((a, adds.Full) ∷ (b, adds.Reserved) ∷ (c, adds.Taken) ∷ (d, adds.NoSuchBlock) ∷ (e, adds.TooDeep) ∷ (f, adds.BadText) ∷ (g, adds.BadRange) ∷ []) ≡ None
    → f ≡ false
sixth-none true b c d e f g h = absurd (cc)
sixth-none false true c d e f g h = absurd (cc)
sixth-none false false true d e f g h = absurd (cc)
sixth-none false false false true e f g h = absurd (cc)
sixth-none false false false false true f g h = absurd (cc)
sixth-none false false false false false true g h = absurd (cc)
sixth-none false false false false false false g h = refl

-- the role has 1 to 64 bytes, and no name is long
pub record HasShortTexts (role : List ℕ) (bad_name : Bool) : Type 0 where
  pub some : 0 < length role
  pub few : length role ≤ 64
  pub names : bad_name ≡ false

not-empty : (t : List ℕ) → (length t == 0) ≡ false → 0 < length t
not-empty [] e = absurd (cc)
not-empty (b ∷ bs) e = omega arith

-- what the builder's test of texts lets through
pub texts-tested : (role : List ℕ) (bad_name : Bool) → (length role == 0) || is_long role || bad_name ≡ false → HasShortTexts role bad_name
texts-tested role bad_name e =
    let p = or_parts ((length role == 0) || is_long role) bad_name e in
    let q = or_parts (length role == 0) (is_long role) p.0 in
    record { some = not-empty role q.0; few = not-long-short role q.1; names = p.1 }

refused-not : (tree : List Object) (container ono : ℕ) (role : List ℕ) (bad_name : Bool) (v : Value) → refusal tree container ono role bad_name v ≡ None → HasShortTexts role bad_name
unfolding refusal
refused-not tree container ono role bad_name v e =
    texts-tested role bad_name (sixth-none (nat_le 4096 (length tree)) (nat_lt ono 4096) (is_some (object_of tree ono)) (not (is_block (places tree) container))
    (nat_lt 8 (depth (places tree) container + 1)) ((length role == 0) || is_long role || bad_name) (is_bad_value v) e)

-- ---- an object that is added

-- an object that fits a line of a text, and has no lock
pub record IsFresh (o : Object) : Type 0 where
  pub named : IsNamed o
  pub no_lock : o.lock ≡ None
  pub works : o.failing ≡ false

-- the objects with a fresh one behind them, or as they were
abbrev pub Grew : List Object → List Object → Type 0
Grew tree new = (new ≡ tree) ⊎ ((o : Object) × IsFresh o × (new ≡ tree ++ o ∷ []))

last-utf8 : (rest : Option (List ℕ)) (p : Bool × List ℕ) → last_of rest ≡ Ok p → IsUtf8 p.1
unfolding last_of
last-utf8 rest p e =
    let word = then-ok (field_at rest) _ p e in
    let lockable = or-ok fault.Lockable (one_of (codes "lockable") true (codes "no-lock") false word.0.0) _ p word.2 in
    let role = then-ok (field_at word.0.1) _ p lockable.2 in
    let text = then-ok (ended role.0.1 role.0.0) _ p role.2 in
    let t = or-ok fault.Text (checked text.0) _ p text.2 in
    let same : t.0 ≡ p.1 = ap (λ (x : Bool × List ℕ). x.1) (ok-same _ _ t.2) in
    subst IsUtf8 same (checked-utf8 text.0 t.0 t.1)

new-fresh : (container ono : ℕ) (lockable : Bool) (role : List ℕ) (v : Valued) → container < 2 ^ 32 → ono < 2 ^ 32 → IsUtf8 role → HasShortTexts role v.bad_name → AreTexts v
    → IsFresh (new_object ono container lockable role v.value)
new-fresh container ono lockable role v c n utf8 tested texts = record {
  named = record {
    ono = n;
    container = c;
    role = short-text role utf8 tested.few;
    some = tested.some;
    label = short-text [] IsUtf8-nil (omega arith);
    names = all-short (names_in v.value) texts.names (sym texts.flag ∙ tested.names);
  };
  no_lock = refl;
  works = refl;
}

unless-added : (f : Option AddFault) (tree new : List Object) (o : Object) → (f ≡ None → IsFresh o) → added_unless f tree o ≡ Ok new → Grew tree new
unless-added None tree new o fresh e = inr (o, fresh refl, sym (ok-same _ _ e))
unless-added (Some f) tree new o fresh e = absurd (cc)

with-added : (tree new : List Object) (container ono : ℕ) (v : Valued) → container < 2 ^ 32 → ono < 2 ^ 32 → AreTexts v → added_with tree container ono v ≡ Ok new → Grew tree new
unfolding added_with
with-added tree new container ono v c n texts e =
    let last = then-ok (last_of v.rest) _ new e in
    unless-added (refusal tree container ono last.0.1 v.bad_name v.value) tree new (new_object ono container last.0.0 last.0.1 v.value)
    (λ none. new-fresh container ono last.0.0 last.0.1 v c n (last-utf8 v.rest last.0 last.1) (refused-not tree container ono last.0.1 v.bad_name v.value none) texts)
    last.2

line-added : (tree : List Object) (line : List ℕ) (new : List Object) → added_by tree line ≡ Ok new → Grew tree new
unfolding added_by
line-added tree line new e =
    let p = then-ok (placed_at (Some line)) _ new e in
    let fit = placed-fits (Some line) p.0 p.1 in
    let v = then-ok (value_at p.0.class_read p.0.rest) _ new p.2 in
    with-added tree new p.0.container p.0.ono v.0 fit.0 fit.1 (value-texts p.0.class_read p.0.rest v.0 v.1) v.2

-- ---- an object with what was stored of it

positions-short : (rest : Option (List ℕ)) (p : Positions) → switch_at rest ≡ Ok p → All IsShortText p.names
unfolding switch_at
positions-short rest p e =
    let a = then-ok (field_at rest) _ p e in
    let flags = or-ok fault.Value (flags_after [] a.0.0) _ p a.2 in
    let b = then-ok (names_in_field a.0.1) _ p flags.2 in
    let c = then-ok (field_at b.0.1) _ p b.2 in
    let at = or-ok fault.Number (number_of 5 65535 c.0.0) _ p c.2 in
    let same : b.0.0 ≡ p.names = ap (λ (x : Positions). x.names) (ok-same _ _ at.2) in
    subst (All IsShortText) same (names-at-short a.0.1 b.0 b.1)

utf8-only : (names : List (List ℕ)) → All IsShortText names → All IsUtf8 names
utf8-only names h = All-weaker IsShortText IsUtf8 (λ n is. is.utf8) names h

reading-switch : (rest : Option (List ℕ)) (reading : Flagged) → then_by (switch_at rest) (λ p. as_ok (switch_flagged p)) ≡ Ok reading → AreTexts reading.valued
reading-switch rest reading e =
    let p = then-ok (switch_at rest) _ reading e in
    subst (λ (s : Flagged). AreTexts s.valued) (ok-same _ _ p.2) (switch-texts (p.0.position, p.0.names, p.0.rest) (utf8-only p.0.names (positions-short rest p.0 p.1)))

reading-other : (k : Class) (rest : Option (List ℕ)) (reading : Flagged)
    → then_by (value_at k rest) (λ v. let s : Flagged = record { valued = v; flags = None } in as_ok s) ≡ Ok reading → AreTexts reading.valued
reading-other k rest reading e =
    let v = then-ok (value_at k rest) _ reading e in
    subst (λ (s : Flagged). AreTexts s.valued) (ok-same _ _ v.2) (value-texts k rest v.0 v.1)

reading-texts : (k : Class) (rest : Option (List ℕ)) (reading : Flagged) → flagged_at k rest ≡ Ok reading → AreTexts reading.valued
unfolding flagged_at
reading-texts class.Switch rest reading e = reading-switch rest reading e
reading-texts k rest reading e = reading-other k rest reading e

label-short : (rest : Option (List ℕ)) (p : Bool × List ℕ) → start_at rest ≡ Ok p → IsShortText p.1
unfolding start_at
label-short rest p e =
    let word = then-ok (field_at rest) _ p e in
    let enabled = or-ok fault.Value (one_of (codes "on") true (codes "off") false word.0.0) _ p word.2 in
    let label = then-ok (text_in_field word.0.1) _ p enabled.2 in
    subst IsShortText (ends label.0.1 (enabled.0, label.0.0) p label.2) (text-at-short word.0.1 label.0 label.1)
  where
    ends : (rest : Option (List ℕ)) (x y : Bool × List ℕ) → ended rest x ≡ Ok y → x.1 ≡ y.1
    ends None x y h = ap (λ (p : Bool × List ℕ). p.1) (ok-same x y h)
    ends (Some rest) x y h = absurd (cc)

-- the role and the label at the end of a line
record EndTexts (ending : Ending) : Type 0 where
  role : IsShortText ending.role
  label : IsShortText ending.label

ending-short : (rest : Option (List ℕ)) (ending : Ending) → ending_at rest ≡ Ok ending → EndTexts ending
unfolding ending_at
ending-short rest ending e =
    let word = then-ok (field_at rest) _ ending e in
    let lockable = or-ok fault.Lockable (one_of (codes "lockable") true (codes "no-lock") false word.0.0) _ ending word.2 in
    let role = then-ok (text_in_field word.0.1) _ ending lockable.2 in
    let start = then-ok (start_at role.0.1) _ ending role.2 in
    subst EndTexts (ok-same _ _ start.2) (record { role = text-at-short word.0.1 role.0 role.1; label = label-short role.0.1 start.0 start.1 })

-- flags leave the names as they are
pub flags-names : (flags : Option (List Bool)) (v : Value) → names_in (with_flags flags v) ≡ names_in v
unfolding names_in
flags-names None v = refl
flags-names (Some flags) values.Block = refl
flags-names (Some flags) _ = refl

stored-fresh : (container ono : ℕ) (ending : Ending) (v : Valued) (flags : Option (List Bool)) → container < 2 ^ 32 → ono < 2 ^ 32 → EndTexts ending → HasShortTexts ending.role v.bad_name
    → AreTexts v → IsFresh (stored_object ono container ending v.value flags)
stored-fresh container ono ending v flags c n ends tested texts = record {
  named = record {
    ono = n;
    container = c;
    role = ends.role;
    some = tested.some;
    label = ends.label;
    names = subst (All IsShortText) (sym (flags-names flags v.value)) (all-short (names_in v.value) texts.names (sym texts.flag ∙ tested.names));
  };
  no_lock = refl;
  works = refl;
}

no-fault : (o : Option AddFault) (r : Option ObjectFault) → option_or (option_map object_fault_of o) r ≡ None → o ≡ None
no-fault None r e = refl
no-fault (Some f) r e = absurd (cc)

unless-kept : (f : Option ObjectFault) (tree new : List Object) (o : Object) → (f ≡ None → IsFresh o) → kept_unless f tree o ≡ Ok new → Grew tree new
unless-kept None tree new o fresh e = inr (o, fresh refl, sym (ok-same _ _ e))
unless-kept (Some f) tree new o fresh e = absurd (cc)

with-stored : (tree new : List Object) (container ono : ℕ) (reading : Flagged) → container < 2 ^ 32 → ono < 2 ^ 32 → AreTexts reading.valued → stored_with tree container ono reading ≡ Ok new → Grew tree new
unfolding stored_with
with-stored tree new container ono reading c n texts e =
    let ending = then-ok (ending_at reading.valued.rest) _ new e in
    let refused = refusal tree container ono ending.0.role reading.valued.bad_name reading.valued.value in
    let start = start_refusal reading.valued.value ending.0.label reading.flags in
    unless-kept (option_or (option_map object_fault_of refused) start) tree new (stored_object ono container ending.0 reading.valued.value reading.flags)
    (λ none. stored-fresh container ono ending.0 reading.valued reading.flags c n (ending-short reading.valued.rest ending.0 ending.1)
    (refused-not tree container ono ending.0.role reading.valued.bad_name reading.valued.value (no-fault refused start none)) texts)
    ending.2

line-stored : (tree : List Object) (line : List ℕ) (new : List Object) → stored_by tree line ≡ Ok new → Grew tree new
unfolding stored_by
line-stored tree line new e =
    let p = then-ok (placed_at (Some line)) _ new e in
    let fit = placed-fits (Some line) p.0 p.1 in
    let reading = then-ok (flagged_at p.0.class_read p.0.rest) _ new p.2 in
    with-stored tree new p.0.container p.0.ono reading.0 fit.0 fit.1 (reading-texts p.0.class_read p.0.rest reading.0 reading.1) reading.2

-- ---- lines

by-kind : (fields : Option (List ℕ)) (tree : List Object) (line : List ℕ) (new : List Object) → by_kind fields tree line ≡ Ok new → Grew tree new
by-kind None tree line new e = line-added tree line new e
by-kind (Some fields) tree line new e = line-stored tree fields new e

line-grew : (tree : List Object) (line : List ℕ) (new : List Object) → after_line tree line ≡ Ok new → Grew tree new
unfolding after_line
line-grew tree line new e = by (is_skipped_line line) (has_control line) e
  where
    by : (a b : Bool) → cond a (Ok tree) (cond b (Err fault.Form) (by_kind (after_word (codes "object") line) tree line)) ≡ Ok new → Grew tree new
    by true b h = inl (sym (ok-same tree new h))
    by false true h = absurd (cc)
    by false false h = by-kind (after_word (codes "object") line) tree line new h

-- there is a root, as a builder makes it
abbrev pub Rooted : List Object → Type 0
Rooted [] = ⊥
Rooted (o ∷ os) = (o.role ≡ codes "root") × (o.lockable ≡ true)

-- where there is a root as a builder makes it, the root is so
pub rooted-root : (tree : List Object) → Rooted tree → IsRoot tree
rooted-root [] h = tt
rooted-root (o ∷ os) h = h

-- objects of which the first is the root, as a builder makes it, and each is fresh
pub record AreListed (tree : List Object) : Type 0 where
  pub root_first : Rooted tree
  pub fresh : All IsFresh tree

-- the root stays the first
pub root-stays : (tree : List Object) (o : Object) → Rooted tree → Rooted (tree ++ o ∷ [])
root-stays [] o h = absurd h
root-stays (x ∷ xs) o h = h

grown : (tree new : List Object) → AreListed tree → Grew tree new → AreListed new
grown tree new h (inl same) = subst AreListed (sym same) h
grown tree new h (inr more) =
    subst AreListed (sym more.2) (record {
      root_first = root-stays tree more.0 h.root_first;
      fresh = All-push IsFresh tree more.0 h.fresh more.1;
    })

-- a line, and then those behind it
gone-on : (r : Result (List Object) ObjectFault) (n : ℕ) (next : List Object → Result (List Object) TreeFault) (new : List Object) → go_on r n next ≡ Ok new
    → (t : List Object) × (r ≡ Ok t) × (next t ≡ Ok new)
gone-on (Err f) n next new e = absurd (cc)
gone-on (Ok t) n next new e = (t, refl, e)

lines-listed : (n : ℕ) (tree : List Object) (lines : List (List ℕ)) (new : List Object) → AreListed tree → after_lines n tree lines ≡ Ok new → AreListed new
lines-listed n tree [] new h e = let same : tree ≡ new = cc in subst AreListed same h
lines-listed n tree (line ∷ more) new h e =
    let t = gone-on (after_line tree line) n _ new e in
    lines-listed (n + 1) t.0 more new (grown tree t.0 h (line-grew tree line t.0 t.1)) t.2

-- ---- the root

root-utf8 : IsUtf8 (codes "root")
unfolding encode
root-utf8 = (codes "root", (refl, refl))

-- the root alone, with what was stored of it
pub root-fresh : (label : List ℕ) (enabled : Bool) → IsShortText label → AreListed (record root { label = label; enabled = enabled } ∷ [])
unfolding names_in
root-fresh label enabled h = record {
  root_first = (refl, refl);
  fresh = All-cons IsFresh _ [] (record {
    named = record {
      ono = ltb-true 100 (2 ^ 32) refl;
      container = ltb-true 0 (2 ^ 32) refl;
      role = short-text (codes "root") root-utf8 (ltb-false 64 (length (codes "root")) refl);
      some = ltb-true 0 (length (codes "root")) refl;
      label = h;
      names = no-names;
    };
    no_lock = refl;
    works = refl;
  }) (All-nil IsFresh);
}

-- the root with nothing stored of it
pub plain-root : AreListed (root ∷ [])
plain-root = root-fresh [] true (short-text [] IsUtf8-nil (omega arith))

rooted-listed : (fields : List ℕ) (new : List Object) → rooted_by fields ≡ Ok new → AreListed new
unfolding rooted_by rooted
rooted-listed fields new e = by (has_control fields) e
  where
    by : (b : Bool) → cond b (Err fault.Form) (then_by (start_at (Some fields)) (λ start. Ok (record root { label = start.1; enabled = start.0 } ∷ []))) ≡ Ok new → AreListed new
    by true h = absurd (cc)
    by false h =
        let start = then-ok (start_at (Some fields)) _ new h in
        subst AreListed (ok-same _ _ start.2) (root-fresh start.0.1 start.0.0 (label-short (Some fields) start.0 start.1))

from-root : (fields : Option (List ℕ)) (text : List ℕ) (new : List Object) → from_root fields text ≡ Ok new → AreListed new
from-root None text new e = lines-listed 1 (root ∷ []) (split_on 10 text) new plain-root e
from-root (Some fields) text new e =
    let t = gone-on (rooted_by fields) 1 _ new e in
    lines-listed 2 t.0 (lines_behind (split_at 10 text)) new (rooted-listed fields t.0 t.1) t.2

-- WHAT A TEXT LISTS is the root as a builder makes it, and behind it objects that fit a line and have no lock.
pub text-listed : (text : List ℕ) (tree : List Object) → objects_of_text text ≡ Ok tree → AreListed tree
unfolding objects_of_text
text-listed text tree e = from-root (after_word (codes "root") (line_before (split_at 10 text) text)) text tree e

unlocked-same : (o : Object) → o.lock ≡ None → o.failing ≡ false → unlocked o ≡ o
unlocked-same o e f =
    ap (λ (l : Option Lock). let x : Object = record o { lock = l; failing = false } in x) (sym e)
    ∙ ap (λ (b : Bool). let x : Object = record o { failing = b } in x) (sym f)

-- fresh objects have no lock to be left aside, and their hardware refuses nothing
pub all-unlocked : (tree : List Object) → All IsFresh tree → all_unlocked tree ≡ tree
all-unlocked [] h = refl
all-unlocked (o ∷ os) h =
    ap (λ (x : Object). x ∷ all_unlocked os) (unlocked-same o (All-head IsFresh o os h).no_lock (All-head IsFresh o os h).works)
    ∙ ap (λ (xs : List Object). o ∷ xs) (all-unlocked os (All-tail IsFresh o os h))

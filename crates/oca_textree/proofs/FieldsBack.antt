-- Fields as they are written are read back.
use Rattle.std.proofs.Common.{◌≡◌, ℕ, suc, ◌+◌, ◌-◌, ◌*◌, ◌/◌, ◌%◌, ◌^◌, ◌<◌, ◌≤◌, ◌==◌, Bool, true, false, cond, ◌&&◌, ◌||◌, List, [], ◌∷◌, ◌++◌, length, Some, None, Ok, Err, refl, ap, ◌∙◌, arith, inl, inr, append_assoc, leb}
use Rattle.std.specs.Prelude.{codes, decimal, ℤ, pos, negsuc, neg_ℤ, int_le, ◌≤ℤ◌, nat_lt, nat_le, slice_index, Result}
use Rattle.std.specs.Fmt.{signed_decimal}
use Rattle.std.specs.Str.{bytes_eq}
use Rattle.std.proofs.lemmas.Bool.Decides.{nat_tests}
use Rattle.std.proofs.lemmas.Fmt.{decimal_by_steps, length-decimal-le, decimal_nonempty}
use Rattle.std.specs.Result.{result_ok}
use Rattle.std.proofs.lemmas.Bool.{cases_lt}
use Rattle.hex.specs.Hex.{IsBytes, encode_with, encode_lower, lower_digits, decode_of, value_at, pair_value, decode_pairs, ◌>>=◌}
use Rattle.hex.specs.declared.error.FromHexError.{FromHexError}
use Rattle.hex.proofs.HexLemmas.{decode_pairs-encode_with, decode_of-encode_lower, IsDigits-lower_digits}
use Rattle.oca_script.proofs.TextLemmas.{length-encode_lower}
use Rattle.oca_script.specs.Fields.{split_at, value_after, number_of, at_most, hex_of, hex_text}
use Rattle.oca_script.proofs.PartLemmas.{Free, free-after, free-nowhere}
use Rattle.oca_script.proofs.FieldLemmas.{value_after-digit}
use Rattle.oca_textree.specs.Lines.{field_at, ono_of, signed_of, integer_of}
use Rattle.std.proofs.lemmas.Int.{ints}
use Rattle.std.specs.Option.{option_map}

-- ---- words: no space, no quote and no control character

-- no space, no quote and no control character: a field as it stands
abbrev pub Word : List ℕ → Type 0
Word [] = Unit {0}
Word (b ∷ bs) = (35 ≤ b) × Word bs

-- two words in a row are a word
pub word-append : (xs ys : List ℕ) → Word xs → Word ys → Word (xs ++ ys)
word-append [] ys h k = k
word-append (x ∷ xs) ys h k = (h.0, word-append xs ys h.1 k)

pub word-free : (s : ℕ) (w : List ℕ) → s < 35 → Word w → Free s w
word-free s [] low h = tt
word-free s (b ∷ bs) low h =
    let big = h.0 in
    let other : (b == s) ≡ false = grind (arith, nat_tests, big) in
    (other, word-free s bs low h.1)

-- a word that a space ends
pub field-word : (w rest : List ℕ) → Word w → field_at (Some (w ++ 32 ∷ rest)) ≡ Ok (w, Some rest)
unfolding field_at
field-word [] rest h = refl
field-word (b ∷ bs) rest h =
    let big = h.0 in
    let other : (b == 34) ≡ false = grind (arith, nat_tests, big) in
    let found : split_at 32 ((b ∷ bs) ++ 32 ∷ rest) ≡ Some (b ∷ bs, rest) = free-after 32 (b ∷ bs) rest (word-free 32 (b ∷ bs) (omega arith) h) in
    rw (other, found) refl

-- a word at the end
pub field-last : (w : List ℕ) → Word w → field_at (Some w) ≡ Ok (w, None)
unfolding field_at
field-last [] h = refl
field-last (b ∷ bs) h =
    let big = h.0 in
    let other : (b == 34) ≡ false = grind (arith, nat_tests, big) in
    let found : split_at 32 (b ∷ bs) ≡ None = free-nowhere 32 (b ∷ bs) (word-free 32 (b ∷ bs) (omega arith) h) in
    rw (other, found) refl

-- ---- numbers

value_after-then : (n v : ℕ) (xs ys : List ℕ) → value_after n xs ≡ Some v → value_after n (xs ++ ys) ≡ value_after v ys
value_after-then n v [] ys e = let same : n ≡ v = cc in rw same refl
value_after-then n v (c ∷ cs) ys e = by_test (leb 48 c && leb c 57) e (value_after-then (n * 10 + (c - 48)) v cs ys)
  where
    by_test : (t : Bool) → cond t (value_after (n * 10 + (c - 48)) cs) None ≡ Some v
        → (value_after (n * 10 + (c - 48)) cs ≡ Some v → value_after (n * 10 + (c - 48)) (cs ++ ys) ≡ value_after v ys)
        → cond t (value_after (n * 10 + (c - 48)) (cs ++ ys)) None ≡ value_after v ys
    by_test true e more = more e
    by_test false e more = absurd (cc)

-- digits, and no sign
abbrev Numeric : List ℕ → Type 0
Numeric [] = Unit {0}
Numeric (b ∷ bs) = (48 ≤ b) × Numeric bs

numeric-append : (xs ys : List ℕ) → Numeric xs → Numeric ys → Numeric (xs ++ ys)
numeric-append [] ys h k = k
numeric-append (x ∷ xs) ys h k = (h.0, numeric-append xs ys h.1 k)

numeric-word : (ds : List ℕ) → Numeric ds → Word ds
numeric-word [] h = tt
numeric-word (d ∷ ds) h = let big = h.0 in (omega (arith, big), numeric-word ds h.1)

record Digits (n : ℕ) (ds : List ℕ) : Type 0 where
  value : value_after 0 ds ≡ Some n
  digits : Numeric ds

digit-one : (n : ℕ) → n < 10 → Digits n ((48 + n) ∷ [])
digit-one n h =
    let is : 0 * 10 + ((48 + n) - 48) ≡ n = omega arith in
    record { value = value_after-digit 0 (48 + n) [] (omega arith) (omega arith) ∙ rw is refl; digits = (omega arith, tt) }

digit-more : (n : ℕ) (ds : List ℕ) → 10 ≤ n → Digits (n / 10) ds → Digits n (ds ++ ((48 + n % 10) ∷ []))
digit-more n ds h d =
    let is : n / 10 * 10 + ((48 + n % 10) - 48) ≡ n = omega arith in
    record {
      value = value_after-then 0 (n / 10) ds ((48 + n % 10) ∷ []) d.value ∙ value_after-digit (n / 10) (48 + n % 10) [] (omega arith) (omega arith) ∙ rw is refl;
      digits = numeric-append ds ((48 + n % 10) ∷ []) d.digits (omega arith, tt);
    }

digits-of : (n : ℕ) → n < 2 ^ 64 → Digits n (decimal n)
digits-of n h = decimal_by_steps Digits digit-one digit-more n h

-- a decimal number is a word
pub word-decimal : (n : ℕ) → n < 2 ^ 64 → Word (decimal n)
word-decimal n h = numeric-word (decimal n) (digits-of n h).digits

-- a decimal number that is small enough is read back
pub number-decimal : (most largest n : ℕ) → n < 2 ^ 64 → n ≤ largest → length (decimal n) ≤ most → number_of most largest (decimal n) ≡ Some n
unfolding number_of at_most
number-decimal most largest n h small few =
    let some = decimal_nonempty n h in
    let counted : ((length (decimal n) == 0) || nat_lt most (length (decimal n))) ≡ false = grind (arith, nat_tests, some, few) in
    let value = (digits-of n h).value in
    let bounded : nat_le n largest ≡ true = grind (arith, nat_tests, small) in
    rw (counted, value, bounded) refl

-- an object's number is read back
pub ono-decimal : (n : ℕ) → n < 2 ^ 32 → ono_of (decimal n) ≡ Some n
ono-decimal n h = number-decimal 10 4294967295 n (omega arith) (omega arith) (length-decimal-le 10 n (omega arith) (omega arith) (omega arith))

-- ---- integers

-- an integer of one of the types
pub record IsInteger (z : ℤ) : Type 0 where
  pub above : negsuc 9223372036854775807 ≤ℤ z
  pub below : z ≤ℤ pos (2 ^ 64 - 1)

signed-digits : (ds : List ℕ) (n : ℕ) → Numeric ds → number_of 20 (2 ^ 64 - 1) ds ≡ Some n → signed_of ds ≡ Some (pos n)
unfolding number_of
signed-digits [] n h e = absurd (cc)
signed-digits (b ∷ bs) n h e =
    let big = h.0 in
    let other : (b == 45) ≡ false = grind (arith, nat_tests, big) in
    rw other (ap (option_map pos) e)

number-64 : (n : ℕ) → n < 2 ^ 64 → number_of 20 (2 ^ 64 - 1) (decimal n) ≡ Some n
number-64 n h = number-decimal 20 (2 ^ 64 - 1) n h (omega arith) (length-decimal-le 20 n (omega arith) (omega arith) h)

signed-back : (z : ℤ) → IsInteger z → signed_of (signed_decimal z) ≡ Some z
signed-back (pos n) h =
    let below = h.below in
    let small : n < 2 ^ 64 = omega (arith, ints, below) in
    signed-digits (decimal n) n (digits-of n small).digits (number-64 n small)
signed-back (negsuc k) h =
    let above = h.above in
    let small : suc k < 2 ^ 64 = omega (arith, ints, above) in
    ap (option_map (λ n. neg_ℤ (pos n))) (number-64 (suc k) small)

-- an integer is a word
pub word-signed : (z : ℤ) → IsInteger z → Word (signed_decimal z)
word-signed (pos n) h = let below = h.below in word-decimal n (omega (arith, ints, below))
word-signed (negsuc k) h = let above = h.above in (omega arith, word-decimal (suc k) (omega (arith, ints, above)))

-- an integer within its limits is read back
pub integer-back : (low high z : ℤ) → IsInteger z → low ≤ℤ z → z ≤ℤ high → integer_of low high (signed_decimal z) ≡ Some z
unfolding integer_of
integer-back low high z h a b =
    let is = signed-back z h in
    let l : int_le low z ≡ true = grind (arith, ints) in
    let r : int_le z high ≡ true = grind (arith, ints) in
    rw (is, l, r) refl

-- ---- texts in quotes

-- a text in quotes is the next field
pub field-quoted : (t rest : List ℕ) → Free 34 t → field_at (Some ((34 ∷ t ++ 34 ∷ []) ++ 32 ∷ rest)) ≡ Ok (t, Some rest)
unfolding field_at
field-quoted t rest free =
    let found : split_at 34 ((t ++ 34 ∷ []) ++ 32 ∷ rest) ≡ Some (t, 32 ∷ rest) = ap (split_at 34) (append_assoc t (34 ∷ []) (32 ∷ rest)) ∙ free-after 34 t (32 ∷ rest) free in
    rw found refl

-- a text in quotes is the last field
pub field-quoted-last : (t : List ℕ) → Free 34 t → field_at (Some (34 ∷ t ++ 34 ∷ [])) ≡ Ok (t, None)
unfolding field_at
field-quoted-last t free =
    let found : split_at 34 (t ++ 34 ∷ []) ≡ Some (t, []) = free-after 34 t [] free in
    rw found refl

-- ---- hexadecimal digits

-- digits and the dash, and no comma
abbrev pub Digits16 : List ℕ → Type 0
Digits16 [] = Unit {0}
Digits16 (b ∷ bs) = (45 ≤ b) × Digits16 bs

pub digits-word : (ds : List ℕ) → Digits16 ds → Word ds
digits-word [] h = tt
digits-word (d ∷ ds) h = let big = h.0 in (omega (arith, big), digits-word ds h.1)

-- no byte below the digits stands in hexadecimal digits
pub digits-free : (s : ℕ) (ds : List ℕ) → s < 45 → Digits16 ds → Free s ds
digits-free s [] low h = tt
digits-free s (b ∷ bs) low h =
    let big = h.0 in
    let other : (b == s) ≡ false = grind (arith, nat_tests, big) in
    (other, digits-free s bs low h.1)

digit-big : (c i v : ℕ) → value_at c i ≡ Ok v → 45 ≤ c
digit-big c i v e = elim (cases_lt c 45) [
  | inl low ↦
      let a : (leb 65 c && leb c 70) ≡ false = grind (arith, nat_tests) in
      let b : (leb 97 c && leb c 102) ≡ false = grind (arith, nat_tests) in
      let d : (leb 48 c && leb c 57) ≡ false = grind (arith, nat_tests) in
      let no = rw (a, b, d) at e in
      absurd (cc)
  | inr above ↦ above
]

-- a second step that gives a value follows a first that does
both : {A B : Type 0} (r : Result A FromHexError) (f : A → Result B FromHexError) (y : B) → (r >>= f) ≡ Ok y → (x : A) × (r ≡ Ok x) × (f x ≡ Ok y)
both (Ok x) f y e = (x, refl, e)
both (Err error) f y e = absurd (cc)

pairs-digits : (i : ℕ) (t bytes : List ℕ) → decode_pairs i t ≡ Ok bytes → Digits16 t
unfolding decode_pairs
pairs-digits i [] bytes e = tt
pairs-digits i (d ∷ []) bytes e = absurd (cc)
pairs-digits i (h ∷ l ∷ rest) bytes e =
    let p = both (pair_value h l i) (λ (byte : ℕ). decode_pairs (i + 2) rest >>= (λ (more : List ℕ). Ok (byte ∷ more))) bytes e in
    let q = both (value_at h i) (λ (high : ℕ). value_at l (i + 1) >>= (λ (low : ℕ). Ok (high * 16 + low))) p.0 p.1 in
    let r = both (value_at l (i + 1)) (λ (low : ℕ). Ok (q.0 * 16 + low)) p.0 q.2 in
    let s = both (decode_pairs (i + 2) rest) (λ (more : List ℕ). Ok (p.0 ∷ more)) bytes p.2 in
    (digit-big h i q.0 q.1, (digit-big l (i + 1) r.0 r.1, pairs-digits (i + 2) rest s.0 s.1))

-- bytes are written in hexadecimal digits
pub digits-hex_text : (bs : List ℕ) → IsBytes bs → Digits16 (hex_text bs)
digits-hex_text [] h = (omega arith, tt)
digits-hex_text (b ∷ bs) h = pairs-digits 0 (encode_lower (b ∷ bs)) (b ∷ bs) (decode_pairs-encode_with lower_digits IsDigits-lower_digits 0 (b ∷ bs) h)

-- hexadecimal digits are a word
pub word-hex_text : (bs : List ℕ) → IsBytes bs → Word (hex_text bs)
word-hex_text bs h = digits-word (hex_text bs) (digits-hex_text bs h)

dash : (x y : ℕ) (more : List ℕ) → bytes_eq (x ∷ y ∷ more) (codes "-") ≡ false
dash x y more = by_test (x == 45)
  where
    by_test : (t : Bool) → t && false ≡ false
    by_test true = refl
    by_test false = refl

starts : (b : ℕ) (bs : List ℕ) → bytes_eq (encode_lower (b ∷ bs)) (codes "-") ≡ false
unfolding encode_with
starts b bs = dash (slice_index lower_digits (b / 16)) (slice_index lower_digits (b % 16)) (encode_with lower_digits bs)

-- bytes are read back from their hexadecimal digits
pub hex-back : (bs : List ℕ) → IsBytes bs → hex_of (hex_text bs) ≡ Some bs
unfolding hex_of
hex-back [] h = refl
hex-back (b ∷ bs) h =
    let other : bytes_eq (encode_lower (b ∷ bs)) (codes "-") ≡ false = starts b bs in
    let some : (length (encode_lower (b ∷ bs)) == 0) ≡ false = grind (arith, nat_tests, length-encode_lower (b ∷ bs)) in
    let value : decode_of (encode_lower (b ∷ bs)) ≡ Ok (b ∷ bs) = decode_of-encode_lower (b ∷ bs) h in
    rw (other, some) (ap result_ok value)

-- 64 bytes have at most 128 hexadecimal digits
pub length-hex : (bs : List ℕ) → length bs ≤ 64 → length (hex_text bs) ≤ 128
length-hex [] h = omega arith
length-hex (b ∷ bs) h = omega (arith, length-encode_lower (b ∷ bs))

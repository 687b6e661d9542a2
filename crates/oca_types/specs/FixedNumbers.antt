-- The integers and the Boolean have encodings of one length.
use Rattle.std.proofs.Common.{◌≡◌, ℕ, zero, suc, ◌%◌, ◌^◌, ◌<◌, Bool, true, false, ltb, List, [], ◌∷◌, ◌++◌, length}
use Rattle.std.proofs.Common.{get_or, take, drop, refl, sym, subst, ap, ◌∙◌, arith}
use Rattle.std.specs.Prelude.{◌==◌, not, Some, None}
use Rattle.std.specs.Int.{Width, w8, w16, w32, w64, byte_len, to_be_bytes, cast_signed, cast_unsigned, from_be_bytes}
use mir.Val.{bits}
use Rattle.std.proofs.lemmas.Bool.{lt-ltb, le-ltb}
use Rattle.std.proofs.lemmas.Bool.Decides.{nat_tests}
use Rattle.std.proofs.lemmas.List.{take_at, drop_at, length-append}
use Rattle.std.proofs.lemmas.Nat.{be_bytes_2, be_bytes_4, be_bytes_8, from_be_bytes-to_be_bytes_2}
use Rattle.std.proofs.lemmas.Nat.{from_be_bytes-to_be_bytes_4, from_be_bytes-to_be_bytes_8}
use Rattle.std.proofs.lemmas.Int.{of_z-to_z, to_z-of_z}
use Rattle.std.proofs.Math.Nat.{mod-eq_of_lt}
use Rattle.std.proofs.Math.Facts.{sfits_to_z, Fits-of_z, Fits-of_lt, Fits-lt-pow}
use Rattle.oca_types.specs.Numbers.{IsBytes, IsBoolEncoding, bool_in}
use Rattle.oca_types.specs.Reading.{unsigned_at, signed_at, bool_at}
use Rattle.oca_types.specs.Fixed.{IsFixed, unsigned, signed, boolean}

-- ---- unsigned numbers

pub unsigned_none : (w : Width) (bytes : List ℕ) → length bytes < byte_len w → unsigned_at w bytes ≡ None
unfolding unsigned_at
unsigned_none w bytes lt = rw (lt-ltb _ _ lt) refl

pub unsigned_some : (w : Width) (bytes front rest : List ℕ) → length front ≡ byte_len w → bytes ≡ front ++ rest →
    unsigned_at w bytes ≡ Some (from_be_bytes w front, rest)
unfolding unsigned_at
unsigned_some w bytes front rest l e =
    let enough : ltb (length bytes) (byte_len w) ≡ false =
    le-ltb _ _ (omega (arith, l, ap length e, length-append front rest)) in
    let head : take (byte_len w) bytes ≡ front = ap (take (byte_len w)) e ∙ take_at front rest (byte_len w) l in
    let tail : drop (byte_len w) bytes ≡ rest = ap (drop (byte_len w)) e ∙ drop_at front rest (byte_len w) l in
    rw (enough, head, tail) refl

-- A width at which bytes are a number and a number is its bytes.
record IsWhole (w : Width) : Type 0 where
  fits : (bytes : List ℕ) → length bytes ≡ byte_len w → IsBytes bytes → from_be_bytes w bytes < 256 ^ byte_len w
  back : (bytes : List ℕ) (n : ℕ) → length bytes ≡ byte_len w → IsBytes bytes → n ≡ from_be_bytes w bytes →
      to_be_bytes w n ≡ bytes
  same : (n : ℕ) → n < 256 ^ byte_len w → from_be_bytes w (to_be_bytes w n) ≡ n
  size : (n : ℕ) → length (to_be_bytes w n) ≡ byte_len w

one_byte : (bytes : List ℕ) (n : ℕ) → length bytes ≡ 1 → IsBytes bytes → n ≡ get_or bytes 0 0 → n % 256 ∷ [] ≡ bytes
one_byte [] n l fits e = absurd (omega (arith, l))
one_byte (b ∷ []) n l fits e = rw e (ap (λ (x : ℕ). x ∷ []) (mod-eq_of_lt (fits 0)))
one_byte (b ∷ c ∷ bs) n l fits e = absurd (omega (arith, l))

whole_8 : IsWhole w8
whole_8 = record { fits = λ b l f. f 0; back = one_byte; same = λ n lt. mod-eq_of_lt lt; size = λ n. refl }

whole_16 : IsWhole w16
whole_16 = record {
  fits = λ b l f. omega (arith, f 0, f 1);
  back = be_bytes_2;
  same = from_be_bytes-to_be_bytes_2;
  size = λ n. refl;
}

whole_32 : IsWhole w32
whole_32 = record {
  fits = λ b l f. omega (arith, f 0, f 1, f 2, f 3);
  back = be_bytes_4;
  same = from_be_bytes-to_be_bytes_4;
  size = λ n. refl;
}

whole_64 : IsWhole w64
whole_64 = record {
  fits = λ b l f. omega (arith, f 0, f 1, f 2, f 3, f 4, f 5, f 6, f 7);
  back = be_bytes_8;
  same = from_be_bytes-to_be_bytes_8;
  size = λ n. refl;
}

fixed_unsigned : (w : Width) → IsWhole w → IsFixed (unsigned w) (byte_len w)
fixed_unsigned w h = record {
  size = λ v bytes s. ap length s.1 ∙ h.size v;
  whole = λ bytes l f. (h.fits bytes l f, sym (h.back bytes _ l f refl));
  one = λ v bytes s. ap (from_be_bytes w) s.1 ∙ h.same v s.0;
  few = unsigned_none w;
  enough = unsigned_some w;
}

pub fixed_u8 : IsFixed (unsigned w8) 1
fixed_u8 = fixed_unsigned w8 whole_8

pub fixed_u16 : IsFixed (unsigned w16) 2
fixed_u16 = fixed_unsigned w16 whole_16

pub fixed_u32 : IsFixed (unsigned w32) 4
fixed_u32 = fixed_unsigned w32 whole_32

pub fixed_u64 : IsFixed (unsigned w64) 8
fixed_u64 = fixed_unsigned w64 whole_64

-- ---- signed numbers

pub signed_some : (w : Width) (bytes front rest : List ℕ) → length front ≡ byte_len w → bytes ≡ front ++ rest →
    signed_at w bytes ≡ Some (cast_signed w (from_be_bytes w front), rest)
unfolding signed_at
signed_some w bytes front rest l e = rw (unsigned_some w bytes front rest l e) refl

fixed_signed : (w : Width) → IsWhole w → 256 ^ byte_len w ≡ 2 ^ bits w → IsFixed (signed w) (byte_len w)
unfolding signed_at
fixed_signed w h pow = record {
  size = λ v bytes s. ap length s.1 ∙ h.size (cast_unsigned w v);
  whole = λ bytes l f.
      let n = from_be_bytes w bytes in
      let lt : n < 2 ^ bits w = rw (sym pow) (h.fits bytes l f) in
      (sfits_to_z (Fits-of_lt lt), sym (h.back bytes (cast_unsigned w (cast_signed w n)) l f (of_z-to_z w n lt)));
  one = λ v bytes s.
      let lt : cast_unsigned w v < 256 ^ byte_len w = rw pow (Fits-lt-pow (Fits-of_z s.0)) in
      let e : from_be_bytes w bytes ≡ cast_unsigned w v = ap (from_be_bytes w) s.1 ∙ h.same (cast_unsigned w v) lt in
      ap (cast_signed w) e ∙ to_z-of_z w v s.0;
  few = λ bytes lt. rw (unsigned_none w bytes lt) refl;
  enough = signed_some w;
}

pub fixed_i8 : IsFixed (signed w8) 1
fixed_i8 = fixed_signed w8 whole_8 refl

pub fixed_i16 : IsFixed (signed w16) 2
fixed_i16 = fixed_signed w16 whole_16 refl

pub fixed_i32 : IsFixed (signed w32) 4
fixed_i32 = fixed_signed w32 whole_32 refl

pub fixed_i64 : IsFixed (signed w64) 8
fixed_i64 = fixed_signed w64 whole_64 refl

-- ---- Booleans

bool_size : (v : Bool) (bytes : List ℕ) → IsBoolEncoding v bytes → length bytes ≡ 1
bool_size false bytes s = ap length s
bool_size true bytes s = ap length s.3

more_than_none : (n : ℕ) → 0 < n → not (n == 0) ≡ true
more_than_none n lt = grind (arith, nat_tests)

bool_whole : (bytes : List ℕ) → length bytes ≡ 1 → IsBytes bytes → IsBoolEncoding (bool_in bytes) bytes
bool_whole [] l fits = absurd (omega (arith, l))
bool_whole (zero ∷ []) l fits = refl
bool_whole (suc b ∷ []) l fits =
    let P : Bool → Type 0 = λ v. IsBoolEncoding v (suc b ∷ []) in
    subst P (sym (more_than_none (suc b) (omega arith))) (suc b, omega arith, fits 0, refl)
bool_whole (b ∷ c ∷ bs) l fits = absurd (omega (arith, l))

bool_one : (v : Bool) (bytes : List ℕ) → IsBoolEncoding v bytes → bool_in bytes ≡ v
bool_one false bytes s = rw s refl
bool_one true bytes s = rw s.3 (more_than_none s.0 s.1)

bool_few : (bytes : List ℕ) → length bytes < 1 → bool_at bytes ≡ None
bool_few [] lt = refl
bool_few (b ∷ bytes) lt = absurd (omega (arith, lt))

bool_enough : (bytes front rest : List ℕ) → length front ≡ 1 → bytes ≡ front ++ rest →
    bool_at bytes ≡ Some (bool_in front, rest)
bool_enough bytes [] rest l e = absurd (omega (arith, l))
bool_enough bytes (b ∷ []) rest l e = ap bool_at e
bool_enough bytes (b ∷ c ∷ bs) rest l e = absurd (omega (arith, l))

pub fixed_bool : IsFixed boolean 1
fixed_bool = record { size = bool_size; whole = bool_whole; one = bool_one; few = bool_few; enough = bool_enough }

-- What is read where an encoding stands at the front.
use Rattle.std.proofs.Common.{◌≡◌, ℕ, ◌<◌, ◌^◌, true, false, Bool, List, [], ◌++◌, length, refl, sym, ap}
use Rattle.std.proofs.Common.{◌∙◌, append_assoc, append-nil}
use Rattle.std.specs.Prelude.{Option, Some, FitsSigned}
use Rattle.std.specs.Str.{chars}
use Rattle.std.specs.Int.{w8, w16, w32, w64, byte_len}
use Rattle.oca_types.specs.Fixed.{Codec, IsFixed, unsigned, signed}
use Rattle.oca_types.specs.Numbers.{unsigned_encoding, bool_encoding}
use Rattle.oca_types.specs.Reading.{unsigned_at, bool_at, text_at}
use Rattle.oca_types.specs.Texts.{text_encoding}
use Rattle.oca_types.proofs.Fixed.{fixed_u8, fixed_u16, fixed_u32, fixed_u64, fixed_i8, fixed_i16, fixed_i32, fixed_i64}
use Rattle.oca_types.proofs.Texts.{chars_of}
use Rattle.oca_types.proofs.TextAt.{at_count, front_some}
use Rattle.oca_model.specs.Parameters.{whole}
use Rattle.oca_model.specs.Lists.{IsText}

module _ {V : Type 0} (Fits : V → Type 0) (encoding : V → List ℕ) (read_at : List ℕ → Option (V × List ℕ))
    (back : (v : V) (rest : List ℕ) → Fits v → read_at (encoding v ++ rest) ≡ Some (v, rest)) where
  -- an encoding, and nothing behind it
  pub end_of : (v : V) → Fits v → read_at (encoding v) ≡ Some (v, [])
  end_of v is = ap read_at (sym (append-nil (encoding v))) ∙ back v [] is

  -- the value that is all of the bytes
  pub whole_of : (v : V) → Fits v → whole (read_at (encoding v)) ≡ Some v
  whole_of v is = ap whole (end_of v is)

-- ---- numbers

-- A value that fits is read where its encoding stands at the front.
abbrev pub ReadsFront : {V : Type 0} → (V → Type 0) → Codec V → Type 0
ReadsFront {V} Fits codec = (v : V) (rest : List ℕ) → Fits v → codec.read_at (codec.encoding v ++ rest) ≡ Some (v, rest)

front_of : {V : Type 0} (codec : Codec V) (n : ℕ) → IsFixed codec n → (v : V) (rest : List ℕ) →
    codec.IsEncoding v (codec.encoding v) → codec.read_at (codec.encoding v ++ rest) ≡ Some (v, rest)
front_of codec n fixed v rest is =
    let bytes = codec.encoding v in
    fixed.enough (bytes ++ rest) bytes rest (fixed.size v bytes is) refl
    ∙ ap (λ x. Some (x, rest)) (fixed.one v bytes is)

pub u8_front : ReadsFront (λ n. n < 256 ^ byte_len w8) (unsigned w8)
u8_front n rest fits = front_of (unsigned w8) 1 fixed_u8 n rest (fits, refl)

pub u16_front : ReadsFront (λ n. n < 256 ^ byte_len w16) (unsigned w16)
u16_front n rest fits = front_of (unsigned w16) 2 fixed_u16 n rest (fits, refl)

pub u32_front : ReadsFront (λ n. n < 256 ^ byte_len w32) (unsigned w32)
u32_front n rest fits = front_of (unsigned w32) 4 fixed_u32 n rest (fits, refl)

pub u64_front : ReadsFront (λ n. n < 256 ^ byte_len w64) (unsigned w64)
u64_front n rest fits = front_of (unsigned w64) 8 fixed_u64 n rest (fits, refl)

pub i8_front : ReadsFront (FitsSigned w8) (signed w8)
i8_front n rest fits = front_of (signed w8) 1 fixed_i8 n rest (fits, refl)

pub i16_front : ReadsFront (FitsSigned w16) (signed w16)
i16_front n rest fits = front_of (signed w16) 2 fixed_i16 n rest (fits, refl)

pub i32_front : ReadsFront (FitsSigned w32) (signed w32)
i32_front n rest fits = front_of (signed w32) 4 fixed_i32 n rest (fits, refl)

pub i64_front : ReadsFront (FitsSigned w64) (signed w64)
i64_front n rest fits = front_of (signed w64) 8 fixed_i64 n rest (fits, refl)

-- ---- Booleans and texts

pub bool_front : (b : Bool) (rest : List ℕ) → Unit {0} → bool_at (bool_encoding b ++ rest) ≡ Some (b, rest)
bool_front false rest is = refl
bool_front true rest is = refl

pub front_of_text : (text rest : List ℕ) → IsText text → text_at (text_encoding text ++ rest) ≡ Some (text, rest)
front_of_text text rest is =
    let n = length (chars text) in
    let bytes = text_encoding text ++ rest in
    let parts : bytes ≡ unsigned_encoding w16 n ++ (text ++ rest) = append_assoc (unsigned_encoding w16 n) text rest in
    let count : unsigned_at w16 bytes ≡ Some (n, text ++ rest) =
    ap (unsigned_at w16) parts ∙ u16_front n (text ++ rest) is.1 in
    at_count n bytes (text ++ rest) count ∙ front_some n (text ++ rest) text rest (chars_of text is.0) refl is.2

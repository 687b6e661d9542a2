-- Facts on printed numbers and bytes.
use Rattle.std.proofs.Common.{◌≡◌, ℕ, ◌<◌, ◌*◌, List, [], ◌∷◌, length, refl, arith}
use Rattle.std.specs.Prelude.{codes}
use Rattle.std.proofs.lemmas.Fmt.{length-decimal-le, decimal_digit}
use Rattle.hex.specs.Hex.{encode_lower, lower_digits}
use Rattle.hex.proofs.HexLemmas.{length-encode_with}
use Rattle.oca_script.specs.Fields.{hex_text}

pub ruleset digit_rules = (length-decimal-le, decimal_digit)

pub hex_text-some : (bs : List ℕ) → 0 < length bs → hex_text bs ≡ encode_lower bs
hex_text-some [] h = absurd (omega arith)
hex_text-some (b ∷ bs) h = refl

pub hex_text-none : (bs : List ℕ) → length bs ≡ 0 → hex_text bs ≡ codes "-"
hex_text-none [] h = refl
hex_text-none (b ∷ bs) h = absurd (omega arith)

-- each byte has two digits
pub length-encode_lower : (a : List ℕ) → length (encode_lower a) ≡ 2 * length a
length-encode_lower a = length-encode_with lower_digits a

pub ruleset hex_rules = (hex_text-some, hex_text-none)

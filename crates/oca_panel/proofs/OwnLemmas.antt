-- The port's turns.
use Rattle.std.proofs.Common.{◌≡◌, ℕ, zero, suc, ◌<◌, ◌/◌, ◌%◌, refl, arith}
use Rattle.oca_panel.specs.OwnPorts.{HandlesRiseOrRest, handles_a_turn, even_or_odd}

same-remainder : (x y : ℕ) → x < 2 → y < 2 → even_or_odd x ≡ even_or_odd y → x ≡ y
same-remainder zero zero h k e = refl
same-remainder zero (suc zero) h k e = let apart : 65001 ≡ 65002 = e in absurd (omega (arith, apart))
same-remainder zero (suc (suc y)) h k e = absurd (omega (arith, k))
same-remainder (suc zero) zero h k e = let apart : 65002 ≡ 65001 = e in absurd (omega (arith, apart))
same-remainder (suc zero) (suc y) h k e = omega (arith, k)
same-remainder (suc (suc x)) y h k e = absurd (omega (arith, h))

-- first handles rise, or a port rests
pub rise-or-rest : HandlesRiseOrRest
rise-or-rest a b less same low =
    let even : (a / handles_a_turn) % 2 ≡ (b / handles_a_turn) % 2 =
    same-remainder ((a / handles_a_turn) % 2) ((b / handles_a_turn) % 2) (omega arith) (omega arith) same in
    omega (arith, less, even, low)

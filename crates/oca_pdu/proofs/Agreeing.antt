-- Checks of parts, one behind the other.
use Rattle.oca_pdu.proofs.Words.{◌≡◌, ℕ, true, List, Result, Ok, Err, refl, is_ok, PduFault, ◌>>=◌, behind}

-- a check that passed lets what is behind it through
pub passes_on : {A : Type 0} (read : Result A PduFault) (rest : List ℕ) → is_ok read ≡ true → behind (read >>= λ x. Ok (x, rest)) ≡ Ok rest
passes_on (Ok x) rest e = refl
passes_on (Err f) rest e = absurd cc

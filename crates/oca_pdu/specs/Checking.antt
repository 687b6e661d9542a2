-- What a function that checks a part of a datagram returns, beside what reading gives.
use Rattle.std.specs.Prelude.{◌≡◌, ℕ, true, List, Result, Ok, Err, is_ok}
use Rattle.oca_pdu.specs.declared.fault.PduFault.{PduFault}
use Rattle.oca_pdu.specs.Reading.{◌>>=◌}

-- The check passes where reading gives something, and else its fault is that of reading.
abbrev pub Agrees : {X Y : Type 0} → Result X PduFault → Result Y PduFault → Type 0
Agrees (Ok x) read = is_ok read ≡ true
Agrees (Err f) read = read ≡ Err f

-- what is after what was read
abbrev pub behind : {A : Type 0} → Result (A × List ℕ) PduFault → Result (List ℕ) PduFault
behind read = read >>= λ x. Ok x.1

-- The check passes with what is after, where reading gives something, and else its fault is that of reading.
abbrev pub Leaves : {X A : Type 0} → (X → List ℕ) → Result X PduFault → Result (A × List ℕ) PduFault → Type 0
Leaves view (Ok x) read = behind read ≡ Ok (view x)
Leaves view (Err f) read = read ≡ Err f

-- The fields that a line must have, or the fault that the line has.
use Rattle.std.specs.Prelude.{ℕ, List, Option, Some, None, Result, Err}
use Rattle.oca_script.specs.Fields.{number_of}
use Rattle.oca_script.specs.declared.fault.LineFault.{LineFault}

-- a value, or that fault
abbrev pub needs : {A B : Type 0} → LineFault → Option A → (A → Result B LineFault) → Result B LineFault
needs f None next = Err f
needs f (Some x) next = next x

-- a number of at most ten digits in 32 bits, of five in 16, of three in 8
abbrev pub u32_of : List ℕ → Option ℕ
u32_of text = number_of 10 4294967295 text

abbrev pub u16_of : List ℕ → Option ℕ
u16_of text = number_of 5 65535 text

abbrev pub u8_of : List ℕ → Option ℕ
u8_of text = number_of 3 255 text

-- What is left of a script that is read in pieces.
use Rattle.std.specs.Prelude.{ℕ, if◌then◌else◌, nat_le, List, [], ◌∷◌, ◌++◌, length, take, Result, Ok, Err}
use Rattle.oca_script.specs.declared.fault.LineFault.{LineFault}
use Rattle.oca_script.specs.declared.fault.ReplayFault.TheVariants.{TooMuch}
use Rattle.oca_script.specs.Script.{Script, lines, counted_lines, script_of}

-- bytes in front of the first line
abbrev pub onto_line : List ℕ → List (List ℕ) → List (List ℕ)
onto_line front [] = front ∷ []
onto_line front (line ∷ more) = (front ++ line) ∷ more

-- what `bytes` ask for where `line` stands before them in the line of that number, and `left` of them count
unfoldable pub script_from : {R : Type 0} → (List (List ℕ) → Result R LineFault) → ℕ → List ℕ → ℕ → List ℕ → Script R
script_from asked number line left bytes =
    if nat_le (length bytes) left then script_of asked number (onto_line line (lines bytes)) (Ok tt)
    else script_of asked number (counted_lines (onto_line line (lines (take left bytes)))) (Err TooMuch)

-- What the readers of fields return, without where it lies in memory.
use Rattle.std.specs.Prelude.{ℕ, List, Option}
use Rattle.std.specs.Option.{option_map}
use denote.Ref.{Bor}

-- two parts of a text
abbrev pub split_view : Option (Bor (List ℕ) × Bor (List ℕ)) → Option (List ℕ × List ℕ)
split_view r = option_map (λ p. (p.0.now, p.1.now)) r

-- a value and the text behind it
abbrev pub read_view : {A : Type 0} → Option (A × Bor (List ℕ)) → Option (A × List ℕ)
read_view r = option_map (λ p. (p.0, p.1.now)) r

-- bytes
abbrev pub given_bytes : Option (Bor (List ℕ)) → Option (List ℕ)
given_bytes r = option_map (λ bytes. bytes.now) r

-- What is read from and written to.
use Rattle.std.specs.Prelude.{◌≡◌, Bool, true, Result, Ok, Err, ℕ, List, Option}

-- a failure is remembered
abbrev pub Remembers : {A E : Type 0} → Result A E → Bool → Bool → Type 0
Remembers (Ok x) before after = after ≡ before
Remembers (Err e) before after = after ≡ true

-- what a source still has, where that is known, and whether a read of it has failed
pub record Input : Type 0 where
  pub remaining : Option (List ℕ)
  pub failed : Bool

abbrev pub input : Option (List ℕ) → Bool → Input
input remaining failed = record { remaining = remaining; failed = failed }

-- what a sink has taken, where that is known; what is held for it; and whether a write to it has failed
pub record Output : Type 0 where
  pub contents : Option (List ℕ)
  pub held : List ℕ
  pub failed : Bool

abbrev pub output : Option (List ℕ) → List ℕ → Bool → Output
output contents held failed = record { contents = contents; held = held; failed = failed }

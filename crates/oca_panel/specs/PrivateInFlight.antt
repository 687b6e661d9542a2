-- For private contracts: the first of a queue.
use Rattle.std.specs.Prelude.{[], ◌∷◌, ◌≡◌, List, None, Option, Some, ℕ}
use Rattle.oca_panel.specs.Words.{Handle}

-- the first was taken off, where there is one
abbrev pub TakesOff : {T : Type 0} → Option (Handle × T) → (queue rest : List (ℕ × T)) → Type 0
TakesOff (Some first) queue rest = queue ≡ (first.0.0, first.1) ∷ rest
TakesOff None queue rest = (queue ≡ []) × (rest ≡ [])

-- the first, where there is one
abbrev pub IsFirst : {T : Type 0} → Option (Handle × T) → List (ℕ × T) → Type 0
IsFirst {T} (Some first) queue = (rest : List (ℕ × T)) × (queue ≡ (first.0.0, first.1) ∷ rest)
IsFirst {T} None queue = queue ≡ []

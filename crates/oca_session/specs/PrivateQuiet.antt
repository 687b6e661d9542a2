-- Up to when no session lapses (private contracts alone cite it).
use Rattle.std.specs.Prelude.{ℕ, ◌+◌, ◌*◌, ◌≤◌, min, List, [], ◌∷◌, All}
use Rattle.oca_session.specs.Table.{Session}

-- No session lapses at this moment or before it, and so none is forgotten.
abbrev pub IsQuietUntil : ℕ → List Session → Type 0
IsQuietUntil moment ss = All (λ s. moment ≤ s.heard + 3 * s.heartbeat) ss

-- the latest moment of 64 bits up to which a session does not lapse
abbrev pub latest_of : Session → ℕ
latest_of s = min (s.heard + 3 * s.heartbeat) 18446744073709551615

-- THE LATEST MOMENT of 64 bits up to which none of the sessions lapses
unfoldable pub latest_quiet : List Session → ℕ
latest_quiet [] = 18446744073709551615
latest_quiet (s ∷ ss) = min (latest_of s) (latest_quiet ss)

-- For private contracts: what a look at the clock gives, and how long a wait is that is asked of the system.
use Rattle.std.specs.Prelude.{◌≡◌, ℕ, max, Bool, if◌then◌else◌}

-- how long a receive of a socket waits: as long as its timeout, and in a mode that does not block not at all
abbrev pub wait_of : (is_blocking : Bool) (timeout : ℕ) → ℕ
wait_of is_blocking timeout = if is_blocking then timeout else 0

-- The last of so many calls of the system was a look at the clock, and this moment is what it gave, or the latest that
-- was told where that is later.
pub record IsFresh (moment latest reading looked calls : ℕ) : Type 0 where
  pub last : looked ≡ calls
  pub is : moment ≡ max latest reading

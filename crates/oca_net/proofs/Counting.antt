-- Counts that stay at their last value.
use Rattle.std.proofs.Common.{◌≡◌, ℕ, ◌+◌, ◌-◌, ◌≤◌, min, arith}
use Rattle.std.proofs.Math.Nat.{min-le_left, min-le_right, le-min, le_trans}
use Rattle.oca_net.specs.Ends.{last_u64, one_more}

-- a count that stays is no less than it was
pub kept : (n : ℕ) → min n last_u64 ≤ n
kept n = min-le_left n last_u64

-- and one that grows by one
pub kept_or_more : (n : ℕ) → min n last_u64 ≤ one_more n
kept_or_more n = le-min (le_trans (min-le_left n last_u64) (omega arith)) (min-le_right n last_u64)

-- at most one call more, where there was none, and where there was one
pub once_none : (n : ℕ) → n ≤ n + 1
once_none n = omega arith

pub once_one : (n : ℕ) → one_more n ≤ n + 1
once_one n = min-le_left (n + 1) last_u64

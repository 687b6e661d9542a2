-- Until when receives wait that begin later.
use Rattle.std.proofs.Common.{ℕ, ◌+◌, ◌≤◌, min, arith}
use Rattle.std.proofs.Math.Nat.{min-le_left, min-le_right, le-min, le_trans}
use Rattle.oca_net.specs.Ends.{last_u64}
use Rattle.oca_net.specs.Moments.{until_at_most}

-- what is added to an earlier moment ends no later
pub sum_later : (n : ℕ) {a b : ℕ} → a ≤ b → min (a + n) last_u64 ≤ min (b + n) last_u64
sum_later n {a} {b} h = le-min (le_trans (min-le_left (a + n) last_u64) (omega (arith, h))) (min-le_right (a + n) last_u64)

-- no later than asked
pub until_most : (now moment : ℕ) → until_at_most now moment ≤ moment
until_most now moment = min-le_left moment (min (now + 3_600_000) last_u64)

-- and no earlier than from an earlier moment
pub until_later : {a b : ℕ} (moment : ℕ) → a ≤ b → until_at_most a moment ≤ until_at_most b moment
until_later {a} {b} moment h =
    le-min (min-le_left moment (min (a + 3_600_000) last_u64))
    (le_trans (min-le_right moment (min (a + 3_600_000) last_u64)) (sum_later 3_600_000 h))

-- the same for a receive that is told nothing
pub pause_later : {a b : ℕ} → a ≤ b → min (a + 50) last_u64 ≤ min (b + 50) last_u64
pause_later h = sum_later 50 h

-- Moments of an end that keeps time, and until when a receive waits.
use Rattle.std.specs.Prelude.{ℕ, ◌+◌, ◌/◌, min}
use Rattle.std.specs.Duration.{as_nanos}
use Rattle.std.specs.declared.time.Duration.{Duration}
use Rattle.oca_net.specs.Ends.{last_u64}

-- whole milliseconds, in a 64-bit number that stays at its last value
abbrev pub milliseconds_of : Duration → ℕ
milliseconds_of d = min (as_nanos d / 1_000_000) last_u64

-- until when a receive waits that begins at this moment and is to wait until that one: an hour at most
abbrev pub until_at_most : (now moment : ℕ) → ℕ
until_at_most now moment = min moment (min (now + 3_600_000) last_u64)

-- The limits of sessions (*profile*). Times are in milliseconds.
use Rattle.std.specs.Prelude.{ℕ, max, min}

-- a session is forgotten once its silence passes this
abbrev pub longest_silence : ℕ
longest_silence = 120000

-- the heartbeat of a session is the first one until a keep-alive sets another, which lies between the least and the
-- greatest
abbrev pub first_heartbeat : ℕ
first_heartbeat = 5000

abbrev pub least_heartbeat : ℕ
least_heartbeat = 250

abbrev pub greatest_heartbeat : ℕ
greatest_heartbeat = 30000

-- a time as a heartbeat
abbrev pub within_heartbeats : ℕ → ℕ
within_heartbeats ms = max least_heartbeat (min ms greatest_heartbeat)

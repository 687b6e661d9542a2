-- The limits of a link (*profile*). Times are in milliseconds.
use Rattle.std.specs.Prelude.{ℕ}

-- a command is sent again after so long without an answer
abbrev pub repeat_time : ℕ
repeat_time = 250

-- and at most so often
abbrev pub most_sendings : ℕ
most_sendings = 20

-- a keep-alive is sent so long after anything was
abbrev pub keep_alive_time : ℕ
keep_alive_time = 2500

-- A command leaves at most so long after its submit. A link that is asked in time has its answer by then, or is lost. A
-- device forgets what it executed of a controller after 120 seconds of silence: so a copy that the network holds for no
-- more than 100 seconds comes before that.
abbrev pub longest_life : ℕ
longest_life = 15000

-- the last handle (AES70-3)
abbrev pub last_handle : ℕ
last_handle = 4294967295

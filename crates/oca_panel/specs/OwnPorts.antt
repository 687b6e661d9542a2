-- A port of one's own and a first handle, by the time of day.
use Rattle.std.specs.Prelude.{◌%◌, ◌*◌, ◌+◌, ◌/◌, ◌<◌, ◌==◌, ◌≡◌, ◌≤◌, if◌then◌else◌, ℕ}
use Rattle.std.specs.Time.{FitsClock}
use Rattle.oca_panel.specs.declared.own_port.OwnPort.{OwnPort}

-- Handles by the clock rise by 100,000 a second, and begin again at 2^31, each 21,474.83648 seconds: a turn.
abbrev pub handles_since : (seconds microseconds : ℕ) → ℕ
handles_since seconds microseconds = seconds * 100000 + microseconds / 10

abbrev pub handles_a_turn : ℕ
handles_a_turn = 2147483648

-- the first handle of a run that begins so long after the beginning of 1970
abbrev pub first_handle_at : (seconds microseconds : ℕ) → ℕ
first_handle_at seconds microseconds = handles_since seconds microseconds % handles_a_turn

-- Two ports take turns: each is silent for a whole turn of the other before its handles begin again.
abbrev pub even_or_odd : ℕ → ℕ
even_or_odd rest = if rest == 0 then 65001 else 65002

abbrev pub port_of_turn : ℕ → ℕ
port_of_turn turn = even_or_odd (turn % 2)

abbrev pub port_at : (seconds microseconds : ℕ) → ℕ
port_at seconds microseconds = port_of_turn (handles_since seconds microseconds / handles_a_turn)

-- the port whose turn it is not
abbrev pub other_port : ℕ → ℕ
other_port port = if port == 65001 then 65002 else 65001

-- THE PORT OF A MOMENT, so many nanoseconds after the beginning of 1970: the port whose turn it is, the other one, and
-- the first handle there, by the whole seconds and the whole microseconds beyond them.
pub record IsPortAt (nanoseconds : ℕ) (own : OwnPort) : Type 0 where
  pub port : own.port ≡ port_at (nanoseconds / 1000000000) (nanoseconds % 1000000000 / 1000)
  pub other : own.other ≡ other_port own.port
  pub handle : own.first_handle.0 ≡ first_handle_at (nanoseconds / 1000000000) (nanoseconds % 1000000000 / 1000)

-- the port of a moment that a clock can read
pub record IsPortByClock (own : OwnPort) : Type 0 where
  pub nanoseconds : ℕ
  pub fits : FitsClock nanoseconds
  pub at : IsPortAt nanoseconds own

-- A PORT'S HANDLES RISE, OR IT RESTED. Of two runs that begin one behind the other in turns of one port, the later
-- one's first handle is above the earlier's, or more than a turn lies between them: 21,474 seconds, where a device
-- forgets a session after 120.
abbrev pub HandlesRiseOrRest : Type 0
HandlesRiseOrRest =
    (a b : ℕ) → a < b → port_of_turn (a / handles_a_turn) ≡ port_of_turn (b / handles_a_turn)
    → b % handles_a_turn ≤ a % handles_a_turn → a + handles_a_turn < b

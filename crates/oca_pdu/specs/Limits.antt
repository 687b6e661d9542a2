-- How many messages a datagram has: at least one, since each PDU has one; and at most so many as 1,472 bytes have room
-- for (*profile*).
use Rattle.std.specs.Prelude.{ℕ, ◌<◌, ◌≤◌, Bool, true, false, not, List, length, count_by}
use Rattle.oca_pdu.specs.Messages.{Msg, Command, Response, KeepAlive}

abbrev pub is_command : Msg → Bool
is_command (Command respond fields) = true
is_command (Response fields) = false
is_command (KeepAlive form) = false

abbrev pub is_response : Msg → Bool
is_response (Command respond fields) = false
is_response (Response fields) = true
is_response (KeepAlive form) = false

-- a datagram has at most so many messages: responses of 10 bytes in one PDU
abbrev pub most_messages : ℕ
most_messages = 146

-- of which at most so many are commands: of 17 bytes in one PDU
abbrev pub most_commands : ℕ
most_commands = 86

-- and at most so many are commands or keep-alives, which may be answered: keep-alives of 12 bytes
abbrev pub most_answered : ℕ
most_answered = 122

-- At least one, and no more than these.
pub record IsWithinLimits (ms : List Msg) : Type 0 where
  pub some : 0 < length ms
  pub messages : length ms ≤ most_messages
  pub commands : count_by is_command ms ≤ most_commands
  -- commands and keep-alives
  pub no_responses : count_by (λ m. not (is_response m)) ms ≤ most_answered

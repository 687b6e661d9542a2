-- What bytes hold (AES70-3): messages where they are a datagram, and else nothing.
use Rattle.std.specs.Prelude.{◌≡◌, List, None, Option, Some, ℕ}
use Rattle.std.specs.List.{flat_map}
use Rattle.oca_control.specs.Words.{IsDatagram, Msg, Pdu, messages_of}

-- The bytes are a datagram of PDUs with these messages; or no list of PDUs makes them a datagram.
abbrev pub IsContent : Option (List Msg) → List ℕ → Type 0
IsContent (Some messages) bytes = (pdus : List Pdu) × IsDatagram pdus bytes × (flat_map messages_of pdus ≡ messages)
IsContent None bytes = (pdus : List Pdu) → IsDatagram pdus bytes → ⊥

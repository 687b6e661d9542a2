-- What serving a datagram, its messages or one message makes of a device and its outbox.
use Rattle.std.specs.Prelude.{[], ⊤, ◌++◌, ◌+◌, ◌∷◌, ◌≡◌, ◌≤◌, Bool, List, false, length, true, ℕ}
use Rattle.oca_device.specs.Words.{DeviceSizes, Peer, pdu_encoding}
pub use Rattle.std.specs.List.{AllByRecursion}
pub use Rattle.oca_types.specs.Peers.{fields_of}
pub use Rattle.oca_pdu.specs.Messages.{Msg, Command, Response, KeepAlive, Pdu, msg_of}
pub use Rattle.oca_pdu.specs.Datagrams.{messages_left}
pub use Rattle.oca_pdu.specs.Reading.{read_datagram}
pub use Rattle.oca_tree.specs.Execution.{execution}
pub use Rattle.oca_session.specs.Table.{session_of}
use Rattle.oca_device.specs.declared.counts.Counts.{Counts}
use Rattle.oca_device.specs.declared.verdict.Verdict.{Verdict}
use Rattle.oca_device.specs.Groups.{pdu_of, last_with, with_answer, with_answers, encodings}
pub use Rattle.oca_device.specs.Notes.{Admitted, run, last_noted}
pub use Rattle.oca_device.specs.States.{State, noted, moved_to, admits, released_all, reply_of, time_of}
use Rattle.oca_device.specs.States.{after_message, after_messages, after_reading}
pub use Rattle.oca_device.specs.Answers.{answer_to, answers_to_messages, answers_to_reading, packets_of, plus}
use Rattle.oca_device.specs.Answers.{count_of_message, counts_of_messages, verdict_of_reading}
pub use Rattle.oca_device.specs.Outboxes.{KeptPackets, first_packets}
pub use Rattle.oca_device.specs.PrivateMade.{reply_made}
pub use Rattle.oca_device.specs.Written.{numbers_of, written_by_execution}
use Rattle.oca_device.specs.Written.{written_by_message, written_by_messages, written_by_reading}
pub use Rattle.oca_device.specs.Effects.{effect_with, effects_of_message, effects_of_messages, effects_of_reading}
pub use Rattle.oca_device.specs.Rooms.{is_short_enough, shortened_answers}
use Rattle.oca_device.specs.Devices.{DeviceState, IsIn}

-- the packets are those of some groups
abbrev pub AreEncodings : List (List ℕ) → Type 0
AreEncodings packets = (groups : List Pdu) × (packets ≡ encodings groups)

-- the packets that are kept are the first ones of some groups
abbrev pub AreGrouped : KeptPackets → Type 0
AreGrouped kept = (groups : List Pdu) × (kept ≡ first_packets kept.room (encodings groups))

-- What was kept of the packets of groups became what is kept of those of the groups with one more answer.
pub record IsGrouped (m : Msg) (before after : KeptPackets) : Type 0 where
  pub groups : (room : ℕ) (groups : List Pdu) → before ≡ first_packets room (encodings groups) →
      after ≡ first_packets room (encodings (with_answer groups m))
  pub still : AreGrouped after
  pub room : after.room ≡ before.room

-- An answer joined a packet's PDU, or it begins a packet of its own and that one is as before.
abbrev pub Joins : Bool → Pdu → Msg → List ℕ → List ℕ → Type 0
Joins true p m before after = (q : Pdu) × (last_with p m ≡ q ∷ []) × (after ≡ pdu_encoding q)
Joins false p m before after = (last_with p m ≡ p ∷ pdu_of m ∷ []) × (after ≡ before)

-- An answer joined the last of the packets of groups, or it begins a packet of its own and they are as before.
abbrev pub JoinsLast : Bool → Msg → List (List ℕ) → List (List ℕ) → Type 0
JoinsLast true m before after = (length after ≡ length before)
    × ((groups : List Pdu) → before ≡ encodings groups → after ≡ encodings (with_answer groups m))
JoinsLast false m before after = (after ≡ before)
    × ((groups : List Pdu) → before ≡ encodings groups → with_answer groups m ≡ groups ++ pdu_of m ∷ [])

-- a command has at most so many bytes of parameters
abbrev pub IsShort : ℕ → Msg → Type 0
IsShort room (Command respond c) = length c.params ≤ room
IsShort room _ = ⊤

-- how many commands a message is
abbrev pub commands_of : Msg → ℕ
commands_of (Command respond c) = 1
commands_of _ = 0

abbrev pub all_commands : List Msg → ℕ
all_commands [] = 0
all_commands (m ∷ messages) = commands_of m + all_commands messages

-- how many commands were counted
abbrev pub commands_in : Counts → ℕ
commands_in n = n.executed + n.kept + n.old + n.reused

-- one message, where so many commands were counted before
pub record ServesMessage (room_for : ℕ) (w : DeviceSizes) (old new : DeviceState) (p : Peer) (m : Msg) (s : State)
    (before after : KeptPackets) (so_far n : Counts) : Type 0 where
  pub device : IsIn room_for w new (after_message w p m s)
  pub written : new.written ≡ old.written ++ written_by_message w p m s
  pub effects : new.effects ≡ old.effects ++ effects_of_message w p m s
  pub packets : (room : ℕ) (groups : List Pdu) → before ≡ first_packets room (encodings groups) →
      after ≡ first_packets room (encodings (with_answers groups (shortened_answers room_for (answer_to w p m s))))
  pub counts : n ≡ plus so_far (count_of_message w p m s)

-- several messages, where nothing was written and no command was served before
pub record ServesMessages (room_for : ℕ) (w : DeviceSizes) (new : DeviceState) (p : Peer) (ms : List Msg) (s : State)
    (before after : KeptPackets) (n : Counts) : Type 0 where
  pub device : IsIn room_for w new (after_messages w p ms s)
  pub written : new.written ≡ written_by_messages w p ms s
  pub effects : new.effects ≡ effects_of_messages w p ms s
  pub packets : (room : ℕ) (groups : List Pdu) → before ≡ first_packets room (encodings groups) →
      after ≡ first_packets room
      (encodings (with_answers groups (shortened_answers room_for (answers_to_messages w p ms s))))
  pub counts : n ≡ counts_of_messages w p ms s

-- a datagram, when the clock has moved, nothing is written, no command is served and there is room for so many packets
pub record TakesDatagram (room_for : ℕ) (w : DeviceSizes) (new : DeviceState) (p : Peer) (bytes : List ℕ) (s : State)
    (room : ℕ) (after : KeptPackets) (verdict : Verdict) : Type 0 where
  pub device : IsIn room_for w new (after_reading w p (read_datagram bytes) s)
  pub written : new.written ≡ written_by_reading w p (read_datagram bytes) s
  pub effects : new.effects ≡ effects_of_reading w p (read_datagram bytes) s
  pub packets : after ≡ first_packets room
      (packets_of (shortened_answers room_for (answers_to_reading w p (read_datagram bytes) s)))
  pub verdict_is : verdict ≡ verdict_of_reading w p (read_datagram bytes) s

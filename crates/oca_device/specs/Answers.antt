-- What a device answers to a datagram, and how it counts the datagram's commands (AES70-3; the profile's window
-- decides).
use Rattle.std.specs.Prelude.{[], ◌++◌, ◌+◌, ◌∷◌, Err, List, Ok, Result, if◌then◌else◌, max, ℕ}
use Rattle.oca_device.specs.Words.{Command, CommandFields, DeviceSizes, Duplicate, Fresh, Judgement, KeepAlive, Msg}
use Rattle.oca_device.specs.Words.{Object, Old, PduFault, Peer, Reply, Response, Reused, read_datagram, status_number}
use Rattle.oca_device.specs.declared.counts.Counts.{Counts}
use Rattle.oca_device.specs.declared.verdict.Verdict.{Verdict}
use Rattle.oca_device.specs.declared.verdict.Verdict.TheVariants as verdicts
use Rattle.oca_device.specs.Events.{Event, Datagram, Tick, Local}
use Rattle.oca_device.specs.Notes.{Admitted}
use Rattle.oca_device.specs.Groups.{groups_of, encodings}
use Rattle.oca_device.specs.States.{State, noted, moved_to, admits, judged_in, reply_of, after_message, state_after}

-- ---- answers

-- the response with a command's handle and a reply
abbrev pub response : ℕ → Reply → Msg
response handle reply =
    Response (record {
      handle = handle;
      status = status_number reply.status;
      count = reply.count;
      params = reply.params.items;
    })

-- A fresh command is answered with the reply of its execution, a duplicate with the reply that is retained, and a
-- command that reuses a handle or is old not at all.
abbrev pub answer_to_command : Judgement → Peer → CommandFields → State → List Msg
answer_to_command Fresh p c s = response c.handle (reply_of s.tree p c) ∷ []
answer_to_command (Duplicate reply) p c s = response c.handle reply ∷ []
answer_to_command _ p c s = []

-- A command that asks for no response gets none. A keep-alive is answered with a keep-alive of the same form and the
-- same time, as it was sent. A response is not answered.
abbrev pub answer_to : DeviceSizes → Peer → Msg → State → List Msg
answer_to w p (Command respond c) s = if respond then answer_to_command (judged_in w s p c) p c s else []
answer_to w p (KeepAlive form) s = KeepAlive form ∷ []
answer_to w p (Response r) s = []

-- the answers to messages, in order
abbrev pub answers_to_messages : DeviceSizes → Peer → List Msg → State → List Msg
answers_to_messages w p [] s = []
answers_to_messages w p (m ∷ messages) s = answer_to w p m s ++ answers_to_messages w p messages (after_message w p m s)

-- the answers to what was read of a datagram
abbrev pub answers_to_reading : DeviceSizes → Peer → Result (List Msg) PduFault → State → List Msg
answers_to_reading w p (Err fault) s = []
answers_to_reading w p (Ok messages) s =
    if admits w s p then answers_to_messages w p messages (noted p (Admitted messages) s) else []

-- the answers to an event in a state
abbrev pub answers_in : DeviceSizes → Event → State → List Msg
answers_in w (Datagram from bytes now) s =
    answers_to_reading w from (read_datagram bytes) (moved_to (max s.moment now) s)
answers_in w _ s = []

-- THE ANSWERS to an event after events.
abbrev pub answers : DeviceSizes → List Object → List Event → Event → List Msg
answers w tree events e = answers_in w e (state_after w tree events)

-- Neighbouring responses leave in one PDU while it has at most 1,472 bytes, and each keep-alive in one of its own. Each
-- PDU is one datagram.
abbrev pub packets_of : List Msg → List (List ℕ)
packets_of messages = encodings (groups_of messages)

-- THE PACKETS of an event after events, all for the event's peer.
abbrev pub packets : DeviceSizes → List Object → List Event → Event → List (List ℕ)
packets w tree events e = packets_of (answers w tree events e)

-- ---- the verdict

-- numbers of executed commands, of duplicates, of old commands and of those that reuse a handle
abbrev pub counts : ℕ → ℕ → ℕ → ℕ → Counts
counts executed kept old reused = record { executed = executed; kept = kept; old = old; reused = reused }

-- both together
abbrev pub plus : Counts → Counts → Counts
plus a b = counts (a.executed + b.executed) (a.kept + b.kept) (a.old + b.old) (a.reused + b.reused)

-- one command
abbrev pub count_of_command : Judgement → Counts
count_of_command Fresh = counts 1 0 0 0
count_of_command (Duplicate reply) = counts 0 1 0 0
count_of_command Old = counts 0 0 1 0
count_of_command Reused = counts 0 0 0 1

-- commands with and without response are both counted
abbrev pub count_of_message : DeviceSizes → Peer → Msg → State → Counts
count_of_message w p (Command respond c) s = count_of_command (judged_in w s p c)
count_of_message w p _ s = counts 0 0 0 0

-- all commands of messages
abbrev pub counts_of_messages : DeviceSizes → Peer → List Msg → State → Counts
counts_of_messages w p [] s = counts 0 0 0 0
counts_of_messages w p (m ∷ messages) s =
    plus (count_of_message w p m s) (counts_of_messages w p messages (after_message w p m s))

-- the verdict with these numbers
abbrev pub served : Counts → Verdict
served n = verdicts.Served n.executed n.kept n.old n.reused

-- malformed with the first fault, or else without room, or else served
abbrev pub verdict_of_reading : DeviceSizes → Peer → Result (List Msg) PduFault → State → Verdict
verdict_of_reading w p (Err fault) s = verdicts.Malformed fault
verdict_of_reading w p (Ok messages) s =
    if admits w s p then served (counts_of_messages w p messages (noted p (Admitted messages) s)) else verdicts.NoRoom

-- THE VERDICT on a datagram after events.
abbrev pub verdict : DeviceSizes → List Object → List Event → Peer → List ℕ → ℕ → Verdict
verdict w tree events from bytes now =
    let s = state_after w tree events in
    verdict_of_reading w from (read_datagram bytes) (moved_to (max s.moment now) s)

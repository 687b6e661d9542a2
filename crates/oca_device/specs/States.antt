-- The state after events: the objects, the clock, and the notes (profile; execution is AES70-2's).
use Rattle.std.specs.Prelude.{[], ◌*◌, ◌||◌, ◌∷◌, Bool, Err, List, Ok, Result, filter, if◌then◌else◌, length, max}
use Rattle.std.specs.Prelude.{nat_lt, ℕ}
use Rattle.oca_device.specs.Words.{Command, CommandFields, DeviceSizes, Duplicate, Fresh, Judgement, KeepAlive}
use Rattle.oca_device.specs.Words.{LocalChange, Millis, Msg, Object, Old, PduFault, Peer, Reply, Response, Reused}
use Rattle.oca_device.specs.Words.{Seconds, after_change, execution, judgement, read_datagram, released}
use Rattle.oca_pdu.specs.declared.message.Form.{Form}
use Rattle.oca_device.specs.Events.{Event, Datagram, Tick, Local}
use Rattle.oca_device.specs.Notes.{Noted, Admitted, Heartbeat, Executed, Note, run, is_noted, noted_peers, accepted}
use Rattle.oca_device.specs.Notes.{has_lapsed}

pub record State : Type 0 where
  pub tree : List Object
  pub moment : ℕ
  pub notes : List Note

abbrev pub noted : Peer → Noted → State → State
noted p what s =
    record { tree = s.tree; moment = s.moment; notes = (record { peer = p; at = s.moment; what = what }) ∷ s.notes }

-- ---- the clock moves

abbrev pub released_all : List Peer → List Object → List Object
released_all [] tree = tree
released_all (p ∷ peers) tree = released_all peers (released tree p)

-- the peers known in the state whose silence at t passes three of their heartbeats
abbrev pub lapsed_at : ℕ → State → List Peer
lapsed_at t s = filter (has_lapsed t s.notes) (noted_peers s.moment s.notes)

-- The clock moves to t, and the locks of lapsed peers are taken off. (Who is known at t, and so which sessions are
-- forgotten, follows from the notes.)
abbrev pub moved_to : ℕ → State → State
moved_to t s = record { tree = released_all (lapsed_at t s) s.tree; moment = t; notes = s.notes }

-- ---- a datagram is admitted, and its messages are served in order

-- A datagram is admitted where its peer is known, or there is room for one more session.
abbrev pub admits : DeviceSizes → State → Peer → Bool
admits w s p = is_noted s.moment s.notes p || nat_lt (length (noted_peers s.moment s.notes)) w.peers

-- what the accepted commands of the peer's session say of a command
abbrev pub judged_in : DeviceSizes → State → Peer → CommandFields → Judgement
judged_in w s p c = judgement w.window (accepted (run p s.notes)) c

-- the reply that executing a command gives
abbrev pub reply_of : List Object → Peer → CommandFields → Reply
reply_of tree p c =
    record {
      status = (execution tree p c).status;
      count = (execution tree p c).count;
      params = record { items = (execution tree p c).parameters };
    }

-- A command that is fresh is executed, and its reply noted. A duplicate, a command that reuses a handle and an old
-- command change nothing.
abbrev pub after_command : Judgement → Peer → CommandFields → State → State
after_command Fresh p c s =
    noted p (Executed s.tree c (reply_of s.tree p c))
    (record { tree = (execution s.tree p c).tree; moment = s.moment; notes = s.notes })
after_command _ p c s = s

-- the time of a keep-alive, in milliseconds
abbrev pub time_of : Form → ℕ
time_of (Seconds n) = 1000 * n
time_of (Millis n) = n

-- Commands with and without response are served alike; responses are ignored.
abbrev pub after_message : DeviceSizes → Peer → Msg → State → State
after_message w p (Command respond c) s = after_command (judged_in w s p c) p c s
after_message w p (KeepAlive form) s = noted p (Heartbeat (time_of form)) s
after_message w p (Response r) s = s

abbrev pub after_messages : DeviceSizes → Peer → List Msg → State → State
after_messages w p [] s = s
after_messages w p (m ∷ messages) s = after_messages w p messages (after_message w p m s)

-- A malformed datagram, and one for which there is no room, change nothing.
abbrev pub after_reading : DeviceSizes → Peer → Result (List Msg) PduFault → State → State
after_reading w p (Err fault) s = s
after_reading w p (Ok messages) s =
    if admits w s p then after_messages w p messages (noted p (Admitted messages) s) else s

-- ---- a change at the front

-- The object is changed. Nobody was heard, so the clock and the notes stay.
abbrev pub after_local : ℕ → LocalChange → State → State
after_local ono change s = record { tree = after_change s.tree ono change; moment = s.moment; notes = s.notes }

-- ---- events

abbrev pub after_event : DeviceSizes → Event → State → State
after_event w (Datagram from bytes now) s = after_reading w from (read_datagram bytes) (moved_to (max s.moment now) s)
after_event w (Tick now) s = moved_to (max s.moment now) s
after_event w (Local ono change) s = after_local ono change s

-- the peers known in a state, in order of opening
abbrev pub known_after : State → List Peer
known_after s = noted_peers s.moment s.notes

-- THE STATE AFTER EVENTS, from the opening tree on, with sizes w.
abbrev pub state_after : DeviceSizes → List Object → List Event → State
state_after w tree [] = record { tree = tree; moment = 0; notes = [] }
state_after w tree (e ∷ events) = after_event w e (state_after w tree events)

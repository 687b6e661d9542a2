-- Everything that is noted of the peers of a device. Nothing is ever taken away from the notes; a session is what the
-- notes of its peer say. In a list of notes the latest stands first, and in a list of peers or commands last.
use Rattle.std.specs.Prelude.{[], ◌*◌, ◌++◌, ◌-◌, ◌∷◌, Bool, List, false, filter, if◌then◌else◌, nat_le, nat_lt, not, ℕ}
use Rattle.oca_device.specs.Words.{CommandFields, Entry, Msg, Object, Peer, Reply, first_heartbeat, longest_silence}
use Rattle.oca_device.specs.Words.{same_peer, within_heartbeats}

-- What is noted of a peer: a datagram of these messages was admitted, a keep-alive set the heartbeat, or a command was
-- executed on a tree and gave a reply.
pub data Noted : Type 0 where
  Admitted : (messages : List Msg) → Noted
  Heartbeat : (ms : ℕ) → Noted
  Executed : (tree : List Object) (request : CommandFields) (reply : Reply) → Noted

-- A note: of which peer, at which moment, and what.
pub record Note : Type 0 where
  pub peer : Peer
  pub at : ℕ
  pub what : Noted

abbrev pub notes_of : Peer → List Note → List Note
notes_of p notes = filter (λ n. same_peer n.peer p) notes

-- the latest of these notes lies at most the longest silence before the moment
abbrev pub is_recent : ℕ → List Note → Bool
is_recent t [] = false
is_recent t (n ∷ notes) = nat_le (t - n.at) longest_silence

-- the longest run of notes, from the latest back, in which neighbours lie at most the longest silence apart
abbrev pub unbroken : List Note → List Note
unbroken [] = []
unbroken (n ∷ notes) = n ∷ (if is_recent n.at notes then unbroken notes else [])

-- THE RUN OF A SESSION: the notes of its peer since the session was opened.
abbrev pub run : Peer → List Note → List Note
run p notes = unbroken (notes_of p notes)

-- A peer is known at a moment where its silence then is at most the longest.
abbrev pub is_noted : ℕ → List Note → Peer → Bool
is_noted t notes p = is_recent t (notes_of p notes)

-- the peers but for one
abbrev pub peers_except : Peer → List Peer → List Peer
peers_except p peers = filter (λ q. not (same_peer q p)) peers

-- Every peer that was ever noted, in the order in which their latest sessions were opened: a note whose peer was not
-- known opens a session, and moves that peer to the end.
abbrev pub noted_order : List Note → List Peer
noted_order [] = []
noted_order (n ∷ notes) =
    if is_noted n.at notes n.peer then noted_order notes else peers_except n.peer (noted_order notes) ++ n.peer ∷ []

-- the peers known at a moment, in order of opening
abbrev pub noted_peers : ℕ → List Note → List Peer
noted_peers t notes = filter (is_noted t notes) (noted_order notes)

-- ---- of a session's run

-- the moment of its last datagram (each later note of that datagram has the same moment)
abbrev pub last_noted : List Note → ℕ
last_noted [] = 0
last_noted (n ∷ notes) = n.at

abbrev pub heartbeat_after : Noted → ℕ → ℕ
heartbeat_after (Admitted messages) heartbeat = heartbeat
heartbeat_after (Heartbeat ms) heartbeat = within_heartbeats ms
heartbeat_after (Executed tree request reply) heartbeat = heartbeat

-- The heartbeat is the time of the last keep-alive, raised to 250 or lowered to 30,000 ms where it is outside them, and
-- 5,000 ms where there was none.
abbrev pub heartbeat_noted : List Note → ℕ
heartbeat_noted [] = first_heartbeat
heartbeat_noted (n ∷ notes) = heartbeat_after n.what (heartbeat_noted notes)

abbrev pub accepted_after : Noted → List Entry → List Entry
accepted_after (Admitted messages) A = A
accepted_after (Heartbeat ms) A = A
accepted_after (Executed tree request reply) A = A ++ (record { command = request; reply = reply }) ∷ []

-- The accepted commands with their replies, in order of arrival. They are never cut.
abbrev pub accepted : List Note → List Entry
accepted [] = []
accepted (n ∷ notes) = accepted_after n.what (accepted notes)

-- silence of more than three heartbeats, in a run
abbrev pub has_lapsed_in : ℕ → List Note → Bool
has_lapsed_in t own = nat_lt (3 * heartbeat_noted own) (t - last_noted own)

abbrev pub has_lapsed : ℕ → List Note → Peer → Bool
has_lapsed t notes p = has_lapsed_in t (run p notes)

-- The sessions in order of opening, the latest last, and what each call makes of them. Moments and times are in
-- milliseconds.
use Rattle.std.specs.Prelude.{◌≡◌, ℕ, ◌*◌, ◌-◌, ◌<◌, ◌≤◌, nat_lt, nat_le, max, Bool, not, if◌then◌else◌, List, [], ◌∷◌}
use Rattle.std.specs.Prelude.{◌++◌, map, filter, length, Option, None, IfSome, IsSome}
use Rattle.std.specs.List.{find}
use Rattle.oca_types.specs.declared.words.Peer.{Peer}
use Rattle.oca_types.specs.Peers.{same_peer}
use Rattle.oca_types.specs.Sizes.{DeviceSizes}
use Rattle.oca_session.specs.declared.sessions.Admission.{Admission}
use Rattle.oca_session.specs.declared.sessions.Admission.TheVariants as admissions
use Rattle.oca_session.specs.Accepted.{Entry, Retained, retained_of, AgreesWithAccepted}
use Rattle.oca_session.specs.Judging.{retained_after}
use Rattle.oca_session.specs.Limits.{longest_silence, first_heartbeat, within_heartbeats}

-- A session: whose it is, when its last datagram was heard, its heartbeat, and what its reply window retains.
pub record Session : Type 0 where
  pub peer : Peer
  pub heard : ℕ
  pub heartbeat : ℕ
  pub retained : Retained

-- The chosen sizes, the present moment, and the sessions in order of opening, the latest last.
pub record Table : Type 0 where
  pub sizes : DeviceSizes
  pub moment : ℕ
  pub sessions : List Session

-- the same sizes, with another moment and other sessions
abbrev pub with_moment_and_sessions : Table → ℕ → List Session → Table
with_moment_and_sessions t moment ss = record { sizes = t.sizes; moment = moment; sessions = ss }

-- the same sizes and moment, with other sessions
abbrev pub with_sessions : Table → List Session → Table
with_sessions t ss = with_moment_and_sessions t t.moment ss

-- A moment earlier than one already seen counts as the one already seen.
abbrev pub present : Table → ℕ → ℕ
present t now = max t.moment now

-- the session is that of this peer
abbrev pub is_of : Peer → Session → Bool
is_of p s = same_peer s.peer p

-- the session of a peer
abbrev pub session_of : Peer → List Session → Option Session
session_of p ss = find (is_of p) ss

-- the peers of the sessions, in their order
abbrev pub peers_of : List Session → List Peer
peers_of ss = map (λ s. s.peer) ss

-- the sessions where that of the peer is changed by f, and all others are as before
abbrev pub with_changed : Peer → (Session → Session) → List Session → List Session
with_changed p f ss = map (λ s. if is_of p s then f s else s) ss

-- an opened session: the heartbeat 5,000, an empty window and no floor (*profile*)
abbrev pub opened_session : ℕ → Peer → ℕ → Session
opened_session w p moment = record {
  peer = p;
  heard = moment;
  heartbeat = first_heartbeat;
  retained = retained_of w [];
}

-- the session where its peer was last heard at this moment
abbrev pub heard_at : ℕ → Session → Session
heard_at moment s = record s { heard = moment }

-- a heartbeat below 250 is raised to it, and one above 30,000 lowered (*profile*)
abbrev pub with_heartbeat : ℕ → Session → Session
with_heartbeat ms s = record s { heartbeat = within_heartbeats ms }

-- the session where one more command is accepted
abbrev pub with_entry : Entry → Session → Session
with_entry e s = record s { retained = retained_after s.retained e }

-- the session where the accepted commands are A
abbrev pub with_accepted : ℕ → List Entry → Session → Session
with_accepted w A s = record s { retained = retained_of w A }

-- how long the peer of the session has been silent
abbrev pub silence : ℕ → Session → ℕ
silence moment s = moment - s.heard

-- A session is lapsed where its silence passes three of its heartbeats.
abbrev pub is_lapsed : ℕ → Session → Bool
is_lapsed moment s = nat_lt (3 * s.heartbeat) (silence moment s)

-- A session stays where its silence doesn't pass 120,000 ms (*profile*).
abbrev pub stays : ℕ → Session → Bool
stays moment s = nat_le (silence moment s) longest_silence

-- the peers whose sessions are lapsed
abbrev pub lapsed : ℕ → List Session → List Peer
lapsed moment ss = peers_of (filter (is_lapsed moment) ss)

-- the sessions that stay, and those that are forgotten, each in their order
abbrev pub staying : ℕ → List Session → List Session
staying moment ss = filter (stays moment) ss

abbrev pub forgotten : ℕ → List Session → List Session
forgotten moment ss = filter (λ s. not (stays moment s)) ss

-- What hearing a peer at the present moment returns, and what it makes of the table; each of the three results keeps
-- that moment.
abbrev pub Hears : Peer → ℕ → Table → Admission → Table → Type 0
Hears p moment old admissions.Known new =
    IsSome (session_of p old.sessions)
    × (new ≡ with_moment_and_sessions old moment (with_changed p (heard_at moment) old.sessions))
Hears p moment old admissions.Opened new =
    (session_of p old.sessions ≡ None) × (length old.sessions < old.sizes.peers)
    × (new ≡ with_moment_and_sessions old moment (old.sessions ++ opened_session old.sizes.window p moment ∷ []))
Hears p moment old admissions.NoRoom new =
    (session_of p old.sessions ≡ None) × (old.sizes.peers ≤ length old.sessions)
    × (new ≡ with_moment_and_sessions old moment old.sessions)

-- who has a session after it
abbrev pub IsKnownAfter : Admission → Peer → List Session → Type 0
IsKnownAfter admissions.Known p ss = IsSome (session_of p ss)
IsKnownAfter admissions.Opened p ss = IsSome (session_of p ss)
IsKnownAfter admissions.NoRoom p ss = session_of p ss ≡ None

-- the session of the peer retains what is that of the accepted commands A
abbrev pub AgreesAt : Peer → ℕ → List Entry → List Session → Type 0
AgreesAt p w A ss = IfSome (session_of p ss) (λ s. AgreesWithAccepted w A s.retained)

-- WHAT THE LAWS ASK of a schedule, by the steps and by the datagrams that came to the device.
use Rattle.std.specs.Prelude.{[], ◌&&◌, ◌*◌, ◌+◌, ◌-◌, ◌<◌, ◌^◌, ◌∷◌, ◌≡◌, ◌≤◌, Bool, List, filter, length, not, true}
use Rattle.std.specs.Prelude.{ℕ}
use Rattle.std.specs.List.{AllByRecursion, list_all, list_any}
use Rattle.oca_pair.specs.Words.{Arrival, DeviceSizes, Happening, Passes, Peer, Request, Says, Sets, admitted, clock}
use Rattle.oca_pair.specs.Words.{has_room, last_moment, same_peer, session}
use Rattle.oca_session.specs.Limits.{longest_silence}
use Rattle.oca_pair.specs.declared.start.Start.{Start}
use Rattle.oca_pair.specs.Networks.{Network, PeerLink, left_behind}
use Rattle.oca_pair.specs.Steps.{Step, Submit, Renew}
use Rattle.oca_pair.specs.Happenings.{happenings}

-- ---- of starts: no two have one peer, and none has the device's address
abbrev pub is_of_another_peer : Peer → Start → Bool
is_of_another_peer p x = not (same_peer x.peer p)

abbrev pub are_apart : Peer → List Start → Bool
are_apart address [] = true
are_apart address (x ∷ starts) =
    is_of_another_peer address x && list_all (is_of_another_peer x.peer) starts && are_apart address starts

-- ---- of numbers: each fits its width (AES70-3), as every number of a program does
pub record RequestFits (r : Request) : Type 0 where
  pub target : r.target < 2 ^ 32
  pub level : r.level < 2 ^ 16
  pub index : r.index < 2 ^ 16
  pub count : r.count < 2 ^ 8

abbrev pub StepFits : Step → Type 0
StepFits (Submit link request now) = RequestFits request
StepFits (Renew link first span now origin) = first < 2 ^ 32
StepFits _ = Unit {0}

abbrev pub StartFits : Start → Type 0
StartFits x = x.first_handle.0 < 2 ^ 32

abbrev pub Fit : List Start → List Step → Type 0
Fit starts steps = AllByRecursion StartFits starts × AllByRecursion StepFits steps

-- ---- a peer has one session
-- the admitted datagrams of a peer
abbrev pub arrivals_of : Peer → List Arrival → List Arrival
arrivals_of p arrivals = filter (λ a. same_peer a.from p) arrivals

-- THE PEER KEEPS ITS SESSION: the session to which its last admitted datagram belongs has all its admitted datagrams.
-- So each of them came at most 120,000 ms after the one before it. (A datagram that found no room was not admitted, and
-- is not counted.)
abbrev pub KeepsItsSession : Peer → Network → Type 0
KeepsItsSession p n =
    let arrivals = admitted n.sizes (happenings n.events) in
    session (last_moment (arrivals_of p arrivals)) p arrivals ≡ arrivals_of p arrivals

-- ---- the window is wide enough THE SPAN OF THE LINK FITS THE WINDOW: it is at least 1, and the reply window has room
-- for twice the span less one, and for one more command for each that earlier links of the peer left behind.
pub record SpanFits (w : DeviceSizes) (l : PeerLink) (n : Network) : Type 0 where
  pub some : 0 < l.link.span
  pub wide : 2 * l.link.span + left_behind l.peer n ≤ w.window + 1

-- ---- there is room
-- A DELIVERY FINDS ROOM: when a datagram of this peer comes at this moment, the peer is known, or fewer peers are than
-- there is room for. A peer is known where its last admitted datagram came at most 120,000 ms before.
abbrev pub FindsRoom : Peer → ℕ → Network → Type 0
FindsRoom p now n =
    let came = Passes now ∷ happenings n.events in
    has_room n.sizes (clock came) p (admitted n.sizes came) ≡ true

-- ---- few peers speak
abbrev pub is_among_peers : List Peer → Peer → Bool
is_among_peers peers p = list_any (λ q. same_peer q p) peers

-- Each well-formed datagram of the 120,000 ms before t came from one of these peers.
abbrev pub SpeakLately : List Peer → ℕ → List Happening → Type 0
SpeakLately peers t [] = Unit {0}
SpeakLately peers t (Says p messages ∷ before) =
    (t - clock before ≤ longest_silence → is_among_peers peers p ≡ true) × SpeakLately peers t before
SpeakLately peers t (Passes now ∷ before) = SpeakLately peers t before
SpeakLately peers t (Sets ono change ∷ before) = SpeakLately peers t before

-- WHERE FEW SPEAK THERE IS ROOM: no more peers spoke in the last 120,000 ms than there is room for, and each of them
-- finds room.
abbrev pub FewFindRoom : Type 0
FewFindRoom =
    (w : DeviceSizes) (H : List Happening) (peers : List Peer) (p : Peer) →
    length peers ≤ w.peers → SpeakLately peers (clock H) H → is_among_peers peers p ≡ true →
    has_room w (clock H) p (admitted w H) ≡ true

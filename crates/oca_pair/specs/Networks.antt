-- Both ends over a network: a device, links to it, each of a peer of its own, and every datagram that was sent between
-- them. No list of a network ever loses a member, so a datagram can be delivered late, again, in any order, or never.
-- Of events the latest stands first; of datagrams, submitted commands and taken answers the latest stands last.
use Rattle.std.specs.Prelude.{[], ◌++◌, ◌+◌, ◌∷◌, Bool, List, filter, if◌then◌else◌, length, map, ℕ}
use Rattle.std.specs.List.{list_any}
use Rattle.oca_pair.specs.Words.{AnswerFields, CommandFields, DeviceSizes, Event, LinkState, Object, Peer, new_link}
use Rattle.oca_pair.specs.Words.{same_peer}
use Rattle.oca_pair.specs.declared.start.Start.{Start}

-- HOW A NETWORK IS SET UP: the device's address; and for the first link of each peer its span, and the moment at which
-- it was made, in ms by the link's clock. The clocks of the links run alike: `zero` is the moment of one common clock
-- at which a link's clock showed 0, and `device_zero` that of the device's clock. The device's clock is never faster,
-- and may fall behind: before its event of this number, counted from 0, it leaves out so much time (`left_out`).
pub record Setup : Type 0 where
  pub address : Peer
  pub span : Peer → ℕ
  pub made : Peer → ℕ
  pub device_zero : ℕ
  pub left_out : ℕ → ℕ
  pub zero : Peer → ℕ

-- a link, and the peer whose it is
pub record PeerLink : Type 0 where
  pub peer : Peer
  pub link : LinkState

-- a datagram between the device and the link of a peer
pub record SentDatagram : Type 0 where
  pub peer : Peer
  pub bytes : List ℕ

-- a command that the link of a peer gave a handle
pub record SubmittedCommand : Type 0 where
  pub peer : Peer
  pub command : CommandFields

-- an answer that was taken from the link of a peer, and the handle under which it was asked for
pub record TakenAnswer : Type 0 where
  pub peer : Peer
  pub handle : ℕ
  pub answer : AnswerFields

-- a new link in the place of another one: its peer, the moment of the common clock at which its clock showed 0; the
-- handles of the commands that the other one left behind, which had no answer; and what the other one's clock showed
-- last
pub record Renewal : Type 0 where
  pub peer : Peer
  pub zero : ℕ
  pub left : List ℕ
  pub till : ℕ

-- The device's address, its sizes, its objects at first and what happened to it; the links; the datagrams that were
-- sent to the device and to links; what was submitted and taken; and the renewals of links, the latest first.
pub record Network : Type 0 where
  pub address : Peer
  pub sizes : DeviceSizes
  pub tree : List Object
  pub events : List Event
  pub links : List PeerLink
  pub to_device : List SentDatagram
  pub to_links : List SentDatagram
  pub submitted : List SubmittedCommand
  pub taken : List TakenAnswer
  pub renewed : List Renewal

-- the link of this peer was renewed
abbrev pub is_renewed : Peer → Network → Bool
is_renewed p n = list_any (λ x. same_peer x.peer p) n.renewed

-- how often the link of this peer was renewed
abbrev pub times_renewed : Peer → Network → ℕ
times_renewed p n = length (filter (λ x. same_peer x.peer p) n.renewed)

-- the commands that all earlier links of this peer left behind, by their handles; and how many they are
abbrev pub left_by : List Renewal → Peer → List ℕ
left_by [] p = []
left_by (x ∷ more) p = if same_peer x.peer p then x.left ++ left_by more p else left_by more p

abbrev pub left_behind : Peer → Network → ℕ
left_behind p n = length (left_by n.renewed p)

-- when the clock of the peer's link showed 0, by the common clock: as in the latest renewal of the link, or as set up
abbrev pub zero_after : List Renewal → Peer → ℕ → ℕ
zero_after [] p first = first
zero_after (x ∷ more) p first = if same_peer x.peer p then x.zero else zero_after more p first

abbrev pub zero_of : Setup → Peer → Network → ℕ
zero_of s p n = zero_after n.renewed p (s.zero p)

-- a new link to the device, with the span and the moment of its peer
abbrev pub started : Setup → Start → PeerLink
started s x = record { peer = x.peer; link = new_link s.address x.first_handle.0 (s.made x.peer) (s.span x.peer) }

-- THE NETWORK AT FIRST: a device to which nothing happened, and a new link for each start.
abbrev pub opening : DeviceSizes → Setup → List Object → List Start → Network
opening sizes s tree starts =
    record {
      address = s.address;
      sizes = sizes;
      tree = tree;
      events = [];
      links = map (started s) starts;
      to_device = [];
      to_links = [];
      submitted = [];
      taken = [];
      renewed = [];
    }

-- how much time the device's clock has left out when the event behind these comes
abbrev pub all_left_out : (ℕ → ℕ) → List Event → ℕ
all_left_out left_out [] = left_out 0
all_left_out left_out (e ∷ events) = all_left_out left_out events + left_out (length (e ∷ events))

-- the moment of the common clock at which the device's clock showed 0, had it left that time out before
abbrev pub device_zero_of : Setup → Network → ℕ
device_zero_of s n = s.device_zero + all_left_out s.left_out n.events

-- ---- the setup of `run_pair`: its device is at 127.0.0.1:65000, each link has this span and is made at moment 0, and
-- all clocks show one time
abbrev pub device_address : Peer
device_address = record { ip = 0x7F000001; port = 65000 }

abbrev pub run_setup : ℕ → Setup
run_setup span =
    record {
      address = device_address;
      span = λ p. span;
      made = λ p. 0;
      device_zero = 0;
      left_out = λ k. 0;
      zero
          = λ p. 0;
    }

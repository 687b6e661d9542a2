-- What a network that runs shows of the network that a schedule speaks of.
use Rattle.std.specs.Prelude.{[], ◌∷◌, ◌≡◌, Bool, Err, List, None, Ok, Option, Result, Some, false, if◌then◌else◌, true}
use Rattle.std.specs.Prelude.{ℕ}
use Rattle.std.specs.List.{AllByRecursion}
use Rattle.oca_pair.specs.Words.{Decision, GivesNothing, IsLost, Peer, Represents, reception, same_peer}
use Rattle.std.specs.Option.{option_or}
use Rattle.oca_pair.specs.declared.outcome.Outcome.{Outcome}
use Rattle.oca_control.specs.declared.reception.Reception.{Reception}
use Rattle.oca_pair.specs.declared.start.Start.{Start}
use Rattle.oca_pair.specs.declared.given.Given.{Given}
use Rattle.oca_pair.specs.declared.given.Given.TheVariants as gives
use Rattle.oca_pair.specs.declared.running.Running.{Running}
use Rattle.oca_pair.specs.declared.running.StepFault.{StepFault}
use Rattle.oca_pair.specs.declared.running.StepFault.TheVariants as faults
use Rattle.oca_pair.specs.Networks.{Network, PeerLink, SentDatagram, device_address}
use Rattle.oca_pair.specs.Steps.{Step, has_link, is_there, after_step, outcome_of_step, given_by}
use Rattle.oca_pair.specs.Steps.{content_read, is_no_lower, renewed_link}

-- each datagram is of the peer of a link
abbrev pub AreOfLinks : List PeerLink → List SentDatagram → Type 0
AreOfLinks links sent = AllByRecursion (λ d. has_link d.peer links ≡ true) sent

-- it represents the device of the network, which is where `run_pair` has it, and has its links and datagrams, each of
-- the peer of a link
pub record Shows (r : Running) (n : Network) : Type 0 where
  pub address : n.address ≡ device_address
  pub device : Represents n.sizes r.device n.tree n.events
  pub links : r.links.items ≡ n.links
  pub to_device : r.to_device.items ≡ n.to_device
  pub to_links : r.to_links.items ≡ n.to_links
  pub sent : AreOfLinks n.links n.to_device
  pub answered : AreOfLinks n.links n.to_links

-- what a step led to: its outcome and the network after it, or that what it names is not there
abbrev pub Took : Result Outcome StepFault → Step → Network → Running → Type 0
Took (Ok outcome) step n new =
    (is_there step n ≡ true) × (outcome_of_step step n ≡ outcome ∷ []) × Shows new (after_step step n)
Took (Err faults.Missing) step n new = is_there step n ≡ false
Took (Err faults.NoMemory) step n new = Unit {0}

-- what a link sends is what it decided
abbrev pub GivesBy : Given → Decision → Type 0
GivesBy (gives.Datagram packet) d = given_by d ≡ packet.items ∷ []
GivesBy gives.Nothing d = d ≡ GivesNothing
GivesBy gives.Lost d = d ≡ IsLost

-- the start is of this peer
abbrev pub is_of_peer : Peer → Start → Bool
is_of_peer p x = same_peer x.peer p

-- what stands in the place of a link after a step `Renew`: a new link, where the first handle is no lower than its next
-- one
abbrev pub in_its_place : ℕ → ℕ → ℕ → PeerLink → PeerLink
in_its_place first span now l =
    if is_no_lower first l.link.next then record { peer = l.peer; link = renewed_link first span now l.link } else l

-- what a link answers to a datagram, where it is for the link's peer
abbrev pub heard : SentDatagram → PeerLink → Option Reception
heard d l = if same_peer l.peer d.peer then Some (reception device_address (content_read d.bytes) l.link) else None

-- the answer of the first link of the datagram's peer
abbrev pub first_heard : SentDatagram → List PeerLink → Option Reception
first_heard d [] = None
first_heard d (l ∷ links) = option_or (heard d l) (first_heard d links)

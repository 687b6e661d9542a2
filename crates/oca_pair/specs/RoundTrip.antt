-- THE LAW OF THE ROUND TRIP, over every schedule: a command that a link holds untaken comes to the device, what the
-- device sends comes to the link, and the link has the command's answer, whatever happens in between but a renewal of
-- the link.
use Rattle.std.specs.Prelude.{[], ◌++◌, ◌∷◌, ◌≡◌, ◌⊎◌, List, Some, length, true, ℕ}
use Rattle.std.specs.List.{AllByRecursion, Contains, slice_get}
use Rattle.oca_pair.specs.Words.{AnswerFields, CommandFields, DeviceSizes, Object, Peer, Reply, Untaken, answer_under}
use Rattle.oca_pair.specs.Words.{pdu_encoding, pdu_of, response}
use Rattle.oca_pair.specs.declared.start.Start.{Start}
use Rattle.oca_pair.specs.Networks.{Network, PeerLink, SentDatagram, Setup, opening, times_renewed}
use Rattle.oca_pair.specs.Steps.{Step, ToDevice, ToLink, after_step, after_steps}
use Rattle.oca_pair.specs.Premises.{are_apart, StepFits, Fit, KeepsItsSession, FindsRoom, SpanFits}
use Rattle.oca_pair.specs.Laws.{answer_of, IsAnswerOfItsCommand, WasTaken, CarriesUntaken}

-- The link of this number holds the command untaken.
pub record HoldsUntaken (i : ℕ) (c : CommandFields) (n : Network) : Type 0 where
  pub link : PeerLink
  pub there : slice_get n.links i ≡ Some link
  pub untaken : Untaken
  pub held : Contains link.link.untaken untaken
  pub command : untaken.command ≡ c

-- The answer is the reply that an execution of this very command gave, for the peer.
pub record IsAnswerTo (c : CommandFields) (p : Peer) (answer : AnswerFields) (n : Network) : Type 0 where
  pub of_its_command : IsAnswerOfItsCommand p c.handle answer n
  pub command : of_its_command.execution.command ≡ c

-- The link of this number, which is the peer's, holds the answer to the command.
pub record HoldsItsAnswer (i : ℕ) (c : CommandFields) (p : Peer) (n : Network) : Type 0 where
  pub link : PeerLink
  pub there : slice_get n.links i ≡ Some link
  pub peer : link.peer ≡ p
  pub answer : AnswerFields
  pub held : answer_under c.handle link.link.untaken ≡ Some answer
  pub is_its : IsAnswerTo c p answer n

-- It holds the answer to the command, or the answer was taken from it.
pub record GotItsAnswer (i : ℕ) (c : CommandFields) (p : Peer) (n : Network) : Type 0 where
  pub link : PeerLink
  pub there : slice_get n.links i ≡ Some link
  pub peer : link.peer ≡ p
  pub answer : AnswerFields
  pub got : (answer_under c.handle link.link.untaken ≡ Some answer) ⊎ WasTaken p c.handle answer n.taken
  pub is_its : IsAnswerTo c p answer n

-- A round trip starts from a network. The network after the step ToDevice, after the steps between, and after the step
-- ToLink:
abbrev pub asked : ℕ → ℕ → Network → Network
asked k now n = after_step (ToDevice k now) n

abbrev pub meanwhile : ℕ → ℕ → List Step → Network → Network
meanwhile k now between n = after_steps between (asked k now n)

abbrev pub come_back : ℕ → ℕ → List Step → ℕ → Network → Network
come_back k now between later n = after_step (ToLink (length n.to_links) later) (meanwhile k now between n)

-- With the step ToDevice the device sends one datagram, to the peer: the response to the command with a reply. That
-- very datagram is the one that the step ToLink delivers.
pub record IsSentBack (k now : ℕ) (between : List Step) (n : Network) (c : CommandFields) (p : Peer) : Type 0 where
  pub datagram : SentDatagram
  pub peer : datagram.peer ≡ p
  pub reply : Reply
  pub bytes : datagram.bytes ≡ pdu_encoding (pdu_of (response c.handle reply))
  pub sent : (asked k now n).to_links ≡ n.to_links ++ datagram ∷ []
  pub delivered : slice_get (meanwhile k now between n).to_links (length n.to_links) ≡ Some datagram

-- What comes of it, whatever the steps between are that renew no link of the peer.
pub record ComesBack (k now : ℕ) (between : List Step) (later i : ℕ) (c : CommandFields) (p : Peer) (n : Network) : Type
    0 where
  pub sent_back : IsSentBack k now between n c p
  -- where the link still holds the command before the step ToLink, it holds the command's answer after it
  pub held : HoldsUntaken i c (meanwhile k now between n) → HoldsItsAnswer i c p (come_back k now between later n)
  -- and in any case it holds the answer then, or the answer was taken from it
  pub got : GotItsAnswer i c p (come_back k now between later n)
  -- where the peer kept its session till then, the answer is the reply that the datagram carried: there is no other
  pub carried : KeepsItsSession p (come_back k now between later n) → (answer : AnswerFields) →
      IsAnswerTo c p answer (come_back k now between later n) →
      answer ≡ answer_of sent_back.reply

-- The link of this peer is not renewed from the one network to the other.
abbrev pub RenewsNothing : Peer → Network → Network → Type 0
RenewsNothing p n later = times_renewed p later ≡ times_renewed p n

-- Each delivery of a datagram that carries an untaken command of the link of this number comes back, under the premises
-- of `AnswersUntaken`. Of what happens after that delivery nothing is asked, but that the link is not renewed then.
abbrev pub RoundTrips : ℕ → PeerLink → Network → Type 0
RoundTrips i l n = (k now : ℕ) (d : SentDatagram) (c : CommandFields) (between : List Step) (later : ℕ) →
    slice_get n.to_device k ≡ Some d → CarriesUntaken d l c →
    FindsRoom d.peer now n → KeepsItsSession d.peer (asked k now n) → AllByRecursion StepFits between →
    RenewsNothing l.peer n (meanwhile k now between n) →
    ComesBack k now between later i c l.peer n

-- Over every schedule, for all sizes and each link whose span fits the window:
abbrev pub EveryRoundTripBringsTheAnswer : Type 0
EveryRoundTripBringsTheAnswer =
    (w : DeviceSizes) (s : Setup) (tree : List Object) (starts : List Start) (steps : List Step) (i : ℕ)
    (l : PeerLink) →
    let n : Network = after_steps steps (opening w s tree starts) in
    slice_get n.links i ≡ Some l → SpanFits w l n → are_apart s.address starts ≡ true → Fit starts steps →
    RoundTrips i l n

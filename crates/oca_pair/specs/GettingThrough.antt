-- THE LAW OF GETTING THROUGH, over every schedule: a link that is asked often enough gives each command out to the
-- device until it has the command's answer or is lost; and one copy that arrives, and the one response that comes back,
-- are enough.
use Rattle.std.specs.Prelude.{[], ◌++◌, ◌==◌, ◌∷◌, ◌≡◌, ◌⊎◌, List, None, Option, Some, if◌then◌else◌, true, ℕ}
use Rattle.std.specs.List.{AllByRecursion, Contains, slice_get}
use Rattle.oca_pair.specs.Words.{CommandFields, Commands, DeviceSizes, Handle, IsAskedEvery, IsSentInTime, LinkState}
use Rattle.oca_pair.specs.Words.{Msg, Object, Peer, Request, answer_under, command_under, decision, due_answer}
use Rattle.oca_pair.specs.Words.{due_bytes, pdu_encoding, present_moment, reception, same_peer, submission}
use Rattle.oca_control.specs.Histories.{Call, Submits, SendsDue, Receives, TakesAnswer, clock_of_calls, sendings}
use Rattle.oca_pair.specs.declared.outcome.Outcome.TheVariants as outcomes
use Rattle.oca_pair.specs.declared.start.Start.{Start}
use Rattle.oca_pair.specs.Networks.{Network, PeerLink, SentDatagram, Setup, opening}
use Rattle.oca_pair.specs.Steps.{Step, Submit, Due, ToDevice, ToLink, Other, Tick, Local, Take, Renew, Beside}
use Rattle.oca_pair.specs.Steps.{content_read, after_step, after_steps, outcome_of_step}
use Rattle.oca_pair.specs.Premises.{are_apart, StepFits, Fit, KeepsItsSession, FindsRoom, SpanFits}
use Rattle.oca_pair.specs.RoundTrip.{GotItsAnswer, asked, meanwhile, RenewsNothing, ComesBack}

-- ---- THE CALLS OF A LINK in a schedule: what its steps make of the link of a number. As in a history the latest
-- stands first.

-- the call of the link, where there is one
abbrev pub called : (LinkState → Call) → Option PeerLink → List Call
called call (Some l) = call l.link ∷ []
called call None = []

-- the link receives a datagram that is for its peer
abbrev pub received_from : Peer → ℕ → SentDatagram → PeerLink → List Call
received_from address now d l =
    let content : Option (List Msg) = content_read d.bytes in
    if same_peer l.peer d.peer
    then Receives address d.bytes content now (reception address content l.link) ∷ []
    else []

abbrev pub receiving : Peer → ℕ → Option SentDatagram → Option PeerLink → List Call
receiving address now (Some d) (Some l) = received_from address now d l
receiving address now (Some d) None = []
receiving address now None l = []

-- the call that a step makes of it, or none
abbrev pub call_in : ℕ → Step → Network → List Call
call_in i (Submit link request now) n =
    if link == i then called (λ l. Submits request now (submission request l)) (slice_get n.links i) else []
call_in i (Due link now) n =
    if link == i
    then called (λ l. SendsDue now (due_answer (decision now l)) (due_bytes (decision now l))) (slice_get n.links i)
    else []
call_in i (ToLink k now) n = receiving n.address now (slice_get n.to_links k) (slice_get n.links i)
call_in i (Take link handle) n =
    if link == i then called (λ l. TakesAnswer handle (answer_under handle l.untaken)) (slice_get n.links i) else []
call_in i _ n = []

abbrev pub calls_in : ℕ → List Step → Network → List Call
calls_in i [] n = []
calls_in i (step ∷ steps) n = calls_in i steps (after_step step n) ++ call_in i step n

-- ---- what becomes of a command

-- the link of this number is lost
pub record IsLost (i : ℕ) (n : Network) : Type 0 where
  pub link : PeerLink
  pub there : slice_get n.links i ≡ Some link
  pub lost : link.link.lost ≡ true

-- A COPY: the datagram of a peer that holds the command alone.
abbrev pub copy_of : Peer → CommandFields → SentDatagram
copy_of p c = record { peer = p; bytes = pdu_encoding (Commands true (c ∷ [])) }

-- what was sent was a copy, and was sent to the device
pub record WasSent (p : Peer) (c : CommandFields) (bytes : List ℕ) (n : Network) : Type 0 where
  pub bytes_are : bytes ≡ (copy_of p c).bytes
  pub sent : Contains n.to_device (copy_of p c)

-- The command waits for its answer. By the calls since its submit it was sent in time, each time as a copy. `Comes k
-- now` is what is asked of a delivery of datagram k at this moment.
pub record WaitsInTime (Comes : ℕ → ℕ → Type 0) (ms since i : ℕ) (c : CommandFields) (p : Peer) (calls : List Call)
    (n : Network) : Type 0 where
  pub in_time : IsSentInTime ms since (clock_of_calls since calls) (sendings since c.handle calls)
  pub copies : AllByRecursion (λ x. WasSent p c x.bytes n) (sendings since c.handle calls)
  -- One copy that is delivered now and so comes, and the one datagram that the device then sends, whenever that is
  -- delivered, are enough where the link is not renewed till then: the round trip of `ComesBack`.
  pub enough : (k now : ℕ) (between : List Step) (later : ℕ) →
      slice_get n.to_device k ≡ Some (copy_of p c) → Comes k now → AllByRecursion StepFits between →
      RenewsNothing p n (meanwhile k now between n) → ComesBack k now between later i c p n

-- The link got the command's answer, or is lost, or the command is waiting, and was sent in time.
abbrev pub GetsThrough : (ℕ → ℕ → Type 0) → ℕ → ℕ → ℕ → CommandFields → Peer → List Call → Network → Type 0
GetsThrough Comes ms since i c p calls n =
    GotItsAnswer i c p n ⊎ (IsLost i n ⊎ WaitsInTime Comes ms since i c p calls n)

-- A delivery of this datagram now finds room, and the peer kept its session, this delivery counted: the premises of the
-- law of untaken commands.
abbrev pub ComesInSession : Peer → Network → ℕ → ℕ → Type 0
ComesInSession p n k now = FindsRoom p now n × KeepsItsSession p (asked k now n)

-- Over every schedule, for all sizes and each link whose span fits the window: so it is of each command that the link
-- submitted in a step, where from this step on the link is asked every so many ms, and is not renewed.
abbrev pub EveryCommandGetsThrough : Type 0
EveryCommandGetsThrough =
    (w : DeviceSizes) (s : Setup) (tree : List Object) (starts : List Start) (before later : List Step) (i : ℕ)
    (l : PeerLink) (request : Request) (now ms : ℕ) (h : Handle) →
    let old : Network = after_steps before (opening w s tree starts) in
    let new : Network = after_step (Submit i request now) old in
    let since : ℕ = present_moment now l.link in
    slice_get old.links i ≡ Some l → SpanFits w l old → are_apart s.address starts ≡ true →
    Fit starts (before ++ Submit i request now ∷ later) →
    outcome_of_step (Submit i request now) old ≡ outcomes.Submitted h ∷ [] →
    RenewsNothing l.peer old (after_steps later new) → IsAskedEvery ms since (calls_in i later new) →
    let end : Network = after_steps later new in
    GetsThrough (ComesInSession l.peer end) ms since i (command_under h.0 request) l.peer (calls_in i later new) end

-- THE STEPS OF A NETWORK. A schedule is any list of steps, of which the first comes first.
use Rattle.std.specs.Prelude.{[], ◌++◌, ◌+◌, ◌∷◌, Bool, Err, List, None, Ok, Option, Result, Some, false, filter}
use Rattle.std.specs.Prelude.{if◌then◌else◌, is_none, is_some, length, map, nat_le, not, true, ℕ}
use Rattle.std.specs.List.{list_any, slice_get, slice_set}
use Rattle.oca_pair.specs.Words.{AnswerFields, ControlFault, Datagram, Decision, FrontFault, GivesCommand}
use Rattle.oca_pair.specs.Words.{GivesKeepAlive, GivesNothing, Handle, IsLost, LinkState, LocalChange, Msg, Object}
use Rattle.oca_pair.specs.Words.{PduFault, Peer, Request, SetFault, ToEnabled, ToFailing, ToLabel, ToUnlocked, ToValue}
use Rattle.oca_pair.specs.Words.{Untaken, after_submission, answer_under, command_under, decision, due_bytes}
use Rattle.oca_pair.specs.Words.{front_fault, gone_on, new_link, packets, read_datagram, received, reception, same_peer}
use Rattle.oca_pair.specs.Words.{set_fault, state_after, submission, taken, verdict}
use Rattle.oca_device.specs.Events as event
use Rattle.oca_model.specs.declared.request.Request.TheVariants as asked
use Rattle.oca_pair.specs.declared.outcome.Outcome.{Outcome}
use Rattle.oca_pair.specs.declared.outcome.Outcome.TheVariants as outcomes
use Rattle.oca_pair.specs.Networks.{Network, PeerLink, SentDatagram, SubmittedCommand, TakenAnswer, Renewal}

-- Links and datagrams are named by their number in their list, from 0. Moments are in milliseconds.
pub data Step : Type 0 where
  -- a command is submitted to a link
  Submit : (link : ℕ) (request : Request) (now : ℕ) → Step
  -- a link is asked what is due
  Due : (link : ℕ) (now : ℕ) → Step
  -- a datagram that was sent to the device is delivered to it
  ToDevice : (k : ℕ) (now : ℕ) → Step
  -- a datagram that was sent to a link is delivered to it
  ToLink : (k : ℕ) (now : ℕ) → Step
  -- any bytes from a peer that is no link's come to the device
  Other : (from : Peer) (bytes : List ℕ) (now : ℕ) → Step
  -- the device reads its clock
  Tick : (now : ℕ) → Step
  -- an object is changed at the device's own front
  Local : (ono : ℕ) (change : LocalChange) → Step
  -- the answer to a command is asked of a link
  Take : (link : ℕ) (handle : ℕ) → Step
  -- a link is replaced by a new one of the same peer: with this first handle and span, made at this moment of its own
  -- clock, which showed 0 at the moment `origin` of the common clock
  Renew : (link first span now origin : ℕ) → Step
  -- a keep-alive is sent beside a link: from its address and port at this moment of its clock, and without the link
  Beside : (link now : ℕ) → Step

-- the peer is that of a link
abbrev pub has_link : Peer → List PeerLink → Bool
has_link p links = list_any (λ l. same_peer l.peer p) links

-- What the step names is there: the link or the datagram; and a step Other is of no link's peer.
abbrev pub is_there : Step → Network → Bool
is_there (Submit link request now) n = is_some (slice_get n.links link)
is_there (Due link now) n = is_some (slice_get n.links link)
is_there (ToDevice k now) n = is_some (slice_get n.to_device k)
is_there (ToLink k now) n = is_some (slice_get n.to_links k)
is_there (Other from bytes now) n = not (has_link from n.links)
is_there (Tick now) n = true
is_there (Local ono change) n = true
is_there (Take link handle) n = is_some (slice_get n.links link)
is_there (Renew link first span now origin) n = is_some (slice_get n.links link)
is_there (Beside link now) n = is_some (slice_get n.links link)

-- the datagrams of a peer with these bytes
abbrev pub sendings_in : Peer → List (List ℕ) → List SentDatagram
sendings_in p packets = map (λ bytes. record { peer = p; bytes = bytes }) packets

-- the links where the one of this number is in this state
abbrev pub with_link : ℕ → PeerLink → LinkState → List PeerLink → List PeerLink
with_link i l state links = slice_set links i (record { peer = l.peer; link = state })

-- ---- SUBMIT: an accepted command joins the submitted ones
abbrev pub submitted_by : Peer → Request → Result Handle ControlFault → List SubmittedCommand
submitted_by p r (Ok h) = (record { peer = p; command = command_under h.0 r }) ∷ []
submitted_by p r (Err fault) = []

abbrev pub after_submit : ℕ → Request → ℕ → Option PeerLink → Network → Network
after_submit i r now None n = n
after_submit i r now (Some l) n = record n {
  links = with_link i l (after_submission (submission r l.link) r now l.link) n.links;
  submitted = n.submitted ++ submitted_by l.peer r (submission r l.link);
}

abbrev pub submit_outcome : Result Handle ControlFault → Outcome
submit_outcome (Ok h) = outcomes.Submitted h
submit_outcome (Err fault) = outcomes.Refused fault

-- ---- DUE: what the link sends is sent to the device
abbrev pub given_by : Decision → List (List ℕ)
given_by (GivesCommand c) = due_bytes (GivesCommand c) ∷ []
given_by GivesKeepAlive = due_bytes GivesKeepAlive ∷ []
given_by _ = []

abbrev pub after_due_step : ℕ → ℕ → Option PeerLink → Network → Network
after_due_step i now None n = n
after_due_step i now (Some l) n = record n {
  links = with_link i l (gone_on now l.link) n.links;
  to_device = n.to_device ++ sendings_in l.peer (given_by (decision now l.link));
}

abbrev pub due_outcome : ℕ → Decision → Outcome
due_outcome number (GivesCommand c) = outcomes.Sent number
due_outcome number GivesKeepAlive = outcomes.Sent number
due_outcome number GivesNothing = outcomes.Nothing
due_outcome number IsLost = outcomes.Lost

-- ---- BESIDE: what is sent beside the link is sent to the device, and the link knows nothing of it
abbrev pub after_beside : Option PeerLink → Network → Network
after_beside None n = n
after_beside (Some l) n = record n { to_device = n.to_device ++ sendings_in l.peer (given_by GivesKeepAlive) }

-- ---- TO DEVICE: the datagram comes to the device from the link's peer, and the device's packets are sent to that link
abbrev pub after_delivery : ℕ → Option SentDatagram → Network → Network
after_delivery now None n = n
after_delivery now (Some d) n = record n {
  events = Datagram d.peer d.bytes now ∷ n.events;
  to_links = n.to_links ++ sendings_in d.peer (packets n.sizes n.tree n.events (Datagram d.peer d.bytes now));
}

-- ---- TO LINK: the datagram comes to the link that its peer names, from the device's address
-- the messages of the bytes, where they are a datagram
abbrev pub messages_read : Result (List Msg) PduFault → Option (List Msg)
messages_read (Ok messages) = Some messages
messages_read (Err fault) = None

abbrev pub content_read : List ℕ → Option (List Msg)
content_read bytes = messages_read (read_datagram bytes)

abbrev pub hears_datagram : Peer → SentDatagram → ℕ → PeerLink → PeerLink
hears_datagram address d now l =
    if same_peer l.peer d.peer then record {
      peer = l.peer;
      link = received address (content_read d.bytes) now l.link;
    } else l

abbrev pub after_reception : ℕ → Option SentDatagram → Network → Network
after_reception now None n = n
after_reception now (Some d) n = record n { links = map (hears_datagram n.address d now) n.links }

abbrev pub reception_outcomes : Peer → SentDatagram → List PeerLink → List Outcome
reception_outcomes address d [] = []
reception_outcomes address d (l ∷ links) =
    if same_peer l.peer d.peer then outcomes.Link (reception address (content_read d.bytes) l.link) ∷ []
    else reception_outcomes address d links

-- ---- TAKE: the answer is taken from the link, where it has one
abbrev pub taken_by : Peer → ℕ → Option AnswerFields → List TakenAnswer
taken_by p h (Some answer) = (record { peer = p; handle = h; answer = answer }) ∷ []
taken_by p h None = []

abbrev pub after_take : ℕ → ℕ → Option PeerLink → Network → Network
after_take i h None n = n
after_take i h (Some l) n = record n {
  links = with_link i l (taken h l.link) n.links;
  taken = n.taken ++ taken_by l.peer h (answer_under h l.link.untaken);
}

abbrev pub take_outcome : Option AnswerFields → Outcome
take_outcome (Some answer) =
    outcomes.Answer (record { status = answer.status; count = answer.count; params = record { items = answer.params } })
take_outcome None = outcomes.NoAnswer

-- ---- RENEW: where the first handle is no lower than the one that the link's next command would get, there is a new
-- link in its place, which holds nothing; what was sent for the old one may still arrive. Else nothing is done.
abbrev pub is_no_lower : ℕ → Option ℕ → Bool
is_no_lower first None = false
is_no_lower first (Some next) = nat_le next first

abbrev pub renewed_link : ℕ → ℕ → ℕ → LinkState → LinkState
renewed_link first span now l = new_link l.device first now span

-- the handles of the commands without an answer
abbrev pub unanswered : List Untaken → List ℕ
unanswered us = map (λ u. u.command.handle) (filter (λ u. is_none u.answer) us)

-- what is noted of a link that is renewed, by when the new link's clock showed 0
abbrev pub renewal_of : PeerLink → ℕ → Renewal
renewal_of l origin =
    record { peer = l.peer; zero = origin; left = unanswered l.link.untaken; till = l.link.moment }

abbrev pub after_renewal : ℕ → ℕ → ℕ → ℕ → ℕ → Option PeerLink → Network → Network
after_renewal i first span now origin None n = n
after_renewal i first span now origin (Some l) n =
    if is_no_lower first l.link.next then record n {
      links = with_link i l (renewed_link first span now l.link) n.links;
      renewed = renewal_of l origin ∷ n.renewed;
    } else n

-- whether the link was renewed
abbrev pub renewal_outcome : Bool → Outcome
renewal_outcome true = outcomes.Renewed
renewal_outcome false = outcomes.NotRenewed

-- ---- LOCAL: what the device says of a change at its own front
abbrev pub set_outcome : Option SetFault → Outcome
set_outcome None = outcomes.Set
set_outcome (Some fault) = outcomes.NotSet fault

-- what is answered to a change at the front that is no setting: that it was made, or why not
abbrev pub front_outcome : Option FrontFault → Outcome
front_outcome None = outcomes.Changed
front_outcome (Some fault) = outcomes.NotChanged fault

-- What is answered to a change at the front. Whether its hardware refuses can be said of each object that can be
-- enabled and disabled there: of each that is there.
abbrev pub local_outcome : List Object → ℕ → LocalChange → Outcome
local_outcome tree ono (ToValue value) = set_outcome (set_fault tree ono value)
local_outcome tree ono (ToLabel label) = front_outcome (front_fault tree ono (asked.SetLabel label))
local_outcome tree ono (ToEnabled truth) = front_outcome (front_fault tree ono (asked.SetEnabled truth))
local_outcome tree ono ToUnlocked = front_outcome (front_fault tree ono asked.Unlock)
local_outcome tree ono (ToFailing truth) = front_outcome (front_fault tree ono (asked.SetEnabled truth))

-- ---- THE NETWORK AFTER A STEP. A step that names what is not there does nothing.
abbrev pub after_step : Step → Network → Network
after_step (Submit link request now) n = after_submit link request now (slice_get n.links link) n
after_step (Due link now) n = after_due_step link now (slice_get n.links link) n
after_step (ToDevice k now) n = after_delivery now (slice_get n.to_device k) n
after_step (ToLink k now) n = after_reception now (slice_get n.to_links k) n
after_step (Other from bytes now) n =
    if has_link from n.links then n else record n { events = Datagram from bytes now ∷ n.events }
after_step (Tick now) n = record n { events = event.Tick now ∷ n.events }
after_step (Local ono change) n = record n { events = event.Local ono change ∷ n.events }
after_step (Take link handle) n = after_take link handle (slice_get n.links link) n
after_step (Renew link first span now origin) n = after_renewal link first span now origin (slice_get n.links link) n
after_step (Beside link now) n = after_beside (slice_get n.links link) n

-- THE NETWORK AFTER A SCHEDULE.
abbrev pub after_steps : List Step → Network → Network
after_steps [] n = n
after_steps (step ∷ steps) n = after_steps steps (after_step step n)

-- ---- THE OUTCOME OF A STEP: one where what it names is there, and else none
abbrev pub on_link : (PeerLink → Outcome) → Option PeerLink → List Outcome
on_link outcome (Some l) = outcome l ∷ []
on_link outcome None = []

abbrev pub delivery_outcome : ℕ → Option SentDatagram → Network → List Outcome
delivery_outcome now (Some d) n = outcomes.Device (verdict n.sizes n.tree n.events d.peer d.bytes now) ∷ []
delivery_outcome now None n = []

abbrev pub reception_outcome : Option SentDatagram → Network → List Outcome
reception_outcome (Some d) n = reception_outcomes n.address d n.links
reception_outcome None n = []

abbrev pub outcome_of_step : Step → Network → List Outcome
outcome_of_step (Submit link request now) n =
    on_link (λ l. submit_outcome (submission request l.link)) (slice_get n.links link)
outcome_of_step (Due link now) n =
    on_link (λ l. due_outcome (length n.to_device) (decision now l.link)) (slice_get n.links link)
outcome_of_step (ToDevice k now) n = delivery_outcome now (slice_get n.to_device k) n
outcome_of_step (ToLink k now) n = reception_outcome (slice_get n.to_links k) n
outcome_of_step (Other from bytes now) n =
    if has_link from n.links then [] else outcomes.Device (verdict n.sizes n.tree n.events from bytes now) ∷ []
outcome_of_step (Tick now) n = outcomes.Ticked ∷ []
outcome_of_step (Local ono change) n = local_outcome (state_after n.sizes n.tree n.events).tree ono change ∷ []
outcome_of_step (Take link handle) n =
    on_link (λ l. take_outcome (answer_under handle l.link.untaken)) (slice_get n.links link)
outcome_of_step (Renew link first span now origin) n =
    on_link (λ l. renewal_outcome (is_no_lower first l.link.next)) (slice_get n.links link)
outcome_of_step (Beside link now) n = on_link (λ l. outcomes.Sent (length n.to_device)) (slice_get n.links link)

-- THE OUTCOMES OF A SCHEDULE, in order.
abbrev pub outcomes_of : List Step → Network → List Outcome
outcomes_of [] n = []
outcomes_of (step ∷ steps) n = outcome_of_step step n ++ outcomes_of steps (after_step step n)

-- THE FIRST STEP THAT NAMES WHAT IS NOT THERE, by its number, from 0.
abbrev pub one_later : Option ℕ → Option ℕ
one_later (Some k) = Some (k + 1)
one_later None = None

abbrev pub first_missing : List Step → Network → Option ℕ
first_missing [] n = None
first_missing (step ∷ steps) n = if is_there step n then one_later (first_missing steps (after_step step n)) else Some 0

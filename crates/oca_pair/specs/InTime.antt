-- THE LAW OF COPIES IN TIME, over every schedule: where a link is not asked what is due while it is late, and none of
-- its datagrams is on its way for longer than 100,000 ms, each of its commands is executed at most once, whatever the
-- device forgets meanwhile.
use Rattle.std.specs.Prelude.{[], ◌++◌, ◌+◌, ◌==◌, ◌∷◌, ◌≡◌, ◌≤◌, ◌⊎◌, List, None, Option, Some, false, map, true, ℕ}
use Rattle.std.specs.List.{IsDistinct, list_any, slice_get}
use Rattle.oca_pair.specs.Words.{AnswerFields, CommandFields, DeviceSizes, GivesKeepAlive, Object, Passes, Peer}
use Rattle.oca_pair.specs.Words.{accepted_by, admitted, answer_under, clock, decision, late_at, present_moment}
use Rattle.oca_pair.specs.declared.start.Start.{Start}
use Rattle.oca_pair.specs.Networks.{Network, PeerLink, SentDatagram, Setup, device_zero_of, opening, zero_of}
use Rattle.oca_pair.specs.Steps.{Step, Submit, Due, ToDevice, ToLink, Other, Tick, Local, Take, Renew, Beside}
use Rattle.oca_pair.specs.Steps.{given_by, after_step, after_steps}
use Rattle.oca_pair.specs.Happenings.{happenings}
use Rattle.oca_pair.specs.Premises.{are_apart, StepFits, Fit}
use Rattle.oca_pair.specs.Laws.{Execution, executions_for, executions_under, answer_of, WasSubmitted, WasTaken}
use Rattle.oca_pair.specs.GettingThrough.{copy_of}

-- ---- when datagrams leave, and when they arrive

-- A departure: a datagram that left for the device, and when, by the common clock, in ms. Departures stand in the order
-- of `to_device`.
pub record Departure : Type 0 where
  pub datagram : SentDatagram
  pub at : ℕ

-- what leaves a link that is asked at this moment what is due
abbrev pub leaving : Setup → Network → ℕ → Option PeerLink → List Departure
leaving s n now None = []
leaving s n now (Some l) =
    let at : ℕ = zero_of s l.peer n + present_moment now l.link in
    map (λ bytes. record { datagram = record { peer = l.peer; bytes = bytes }; at = at })
    (given_by (decision now l.link))

-- what leaves beside a link at this moment of its clock
abbrev pub leaving_beside : Setup → Network → ℕ → Option PeerLink → List Departure
leaving_beside s n now None = []
leaving_beside s n now (Some l) =
    let at : ℕ = zero_of s l.peer n + now in
    map (λ bytes. record { datagram = record { peer = l.peer; bytes = bytes }; at = at }) (given_by GivesKeepAlive)

-- what leaves with a step
abbrev pub departures_in : Setup → Step → Network → List Departure
departures_in s (Due link now) n = leaving s n now (slice_get n.links link)
departures_in s (Submit link request now) n = []
departures_in s (ToDevice k now) n = []
departures_in s (ToLink k now) n = []
departures_in s (Other from bytes now) n = []
departures_in s (Tick now) n = []
departures_in s (Local ono change) n = []
departures_in s (Take link handle) n = []
departures_in s (Renew link first span now origin) n = []
departures_in s (Beside link now) n = leaving_beside s n now (slice_get n.links link)

-- the device's clock when something comes to it at this moment
abbrev pub clock_at : ℕ → Network → ℕ
clock_at now n = clock (Passes now ∷ happenings n.events)

-- the network holds no datagram for longer
abbrev pub longest_delay : ℕ
longest_delay = 100000

-- By one clock it arrives no earlier than it left, and at most 100,000 ms later.
pub record ArrivesInTime (left came : ℕ) : Type 0 where
  pub not_before : left ≤ came
  pub not_late : came ≤ left + longest_delay

-- ---- the premises, of the link of this number

-- The link is not asked what is due while it is late, and each delivery of a datagram of its peer to the device is in
-- time, by the common clock. These datagrams left before.
abbrev pub StepIsInTime : Setup → ℕ → List Departure → Step → Network → Type 0
StepIsInTime s i left (Due link now) n =
    (l : PeerLink) → link ≡ i → slice_get n.links i ≡ Some l → late_at now l.link ≡ false
StepIsInTime s i left (ToDevice k now) n =
    (l : PeerLink) (x : Departure) → slice_get n.links i ≡ Some l → slice_get left k ≡ Some x →
    x.datagram.peer ≡ l.peer →
    ArrivesInTime x.at (device_zero_of s n + clock_at now n)
StepIsInTime s i left _ n = Unit {0}

-- Renewing a link is always in time.
abbrev pub EveryRenewalIsInTime : Type 0
EveryRenewalIsInTime =
    (s : Setup) (i k first span now origin : ℕ) (left : List Departure) (n : Network) →
    StepIsInTime s i left (Renew k first span now origin) n

-- Sending a keep-alive beside a link is always in time, and its numbers always fit. What is asked of the keep-alive is
-- asked where it comes to the device.
abbrev pub EverySendingBesideIsInTime : Type 0
EverySendingBesideIsInTime =
    (s : Setup) (i k now : ℕ) (left : List Departure) (n : Network) →
    StepIsInTime s i left (Beside k now) n × StepFits (Beside k now)

-- all steps from a network on
abbrev pub AreInTime : Setup → ℕ → List Departure → List Step → Network → Type 0
AreInTime s i left [] n = Unit {0}
AreInTime s i left (step ∷ steps) n =
    StepIsInTime s i left step n × AreInTime s i (left ++ departures_in s step n) steps (after_step step n)

-- ---- the law

-- Over every schedule, for all sizes: no two executions for the link's peer are of one handle.
abbrev pub EveryCommandInTimeIsExecutedOnce : Type 0
EveryCommandInTimeIsExecutedOnce =
    (w : DeviceSizes) (s : Setup) (tree : List Object) (starts : List Start) (steps : List Step) (i : ℕ)
    (l : PeerLink) →
    let start : Network = opening w s tree starts in
    let n : Network = after_steps steps start in
    are_apart s.address starts ≡ true → Fit starts steps → AreInTime s i [] steps start → slice_get n.links i ≡ Some l →
    IsDistinct (λ (x y : ℕ). x == y) (map (λ x. x.command.handle) (executions_for l.peer n))

-- ---- of answers

-- The answer is what the only execution for the peer under the handle gave, of the very command that the peer's link
-- submitted under it.
pub record IsAnswerOfOneExecution (p : Peer) (h : ℕ) (answer : AnswerFields) (n : Network) : Type 0 where
  pub execution : Execution
  pub only : executions_under h (executions_for p n) ≡ execution ∷ []
  pub submitted : WasSubmitted p execution.command n.submitted
  pub answer_is : answer ≡ answer_of execution.reply

-- Over every schedule, for all sizes: so is each answer that the link holds, and each that was taken from it.
abbrev pub EveryAnswerInTimeIsOfOneExecution : Type 0
EveryAnswerInTimeIsOfOneExecution =
    (w : DeviceSizes) (s : Setup) (tree : List Object) (starts : List Start) (steps : List Step) (i : ℕ) (l : PeerLink)
    (h : ℕ) (answer : AnswerFields) →
    let start : Network = opening w s tree starts in
    let n : Network = after_steps steps start in
    are_apart s.address starts ≡ true → Fit starts steps → AreInTime s i [] steps start → slice_get n.links i ≡ Some l →
    (answer_under h l.link.untaken ≡ Some answer) ⊎ WasTaken l.peer h answer n.taken →
    IsAnswerOfOneExecution l.peer h answer n

-- ---- of sessions

-- the commands that were accepted in the session that the peer has at this moment
abbrev pub accepted_in_session : Peer → ℕ → Network → List CommandFields
accepted_in_session p now n = accepted_by n.sizes (clock_at now n) p (admitted n.sizes (happenings n.events))

-- Over every schedule, for all sizes: a copy of a command comes to the device now. Where it was executed before, the
-- session in which it was is still that of the peer: what is accepted in it has the command's handle.
abbrev pub NoCopyInTimeFindsItsSessionForgotten : Type 0
NoCopyInTimeFindsItsSessionForgotten =
    (w : DeviceSizes) (s : Setup) (tree : List Object) (starts : List Start) (steps : List Step) (i k now : ℕ)
    (l : PeerLink) (c : CommandFields) →
    let start : Network = opening w s tree starts in
    let n : Network = after_steps steps start in
    are_apart s.address starts ≡ true → Fit starts steps → AreInTime s i [] (steps ++ ToDevice k now ∷ []) start →
    slice_get n.links i ≡ Some l → WasSubmitted l.peer c n.submitted →
    slice_get n.to_device k ≡ Some (copy_of l.peer c) →
    list_any (λ x. x.command.handle == c.handle) (executions_for l.peer n) ≡ true →
    list_any (λ x. x.handle == c.handle) (accepted_in_session l.peer now n) ≡ true

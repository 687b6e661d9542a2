-- THE LAWS OF A NETWORK, over every schedule.
use Rattle.std.specs.Prelude.{[], ◌++◌, ◌+◌, ◌<◌, ◌==◌, ◌∷◌, ◌≡◌, ◌⊎◌, List, Some, false, filter, if◌then◌else◌, map}
use Rattle.std.specs.Prelude.{true, ℕ}
use Rattle.std.specs.List.{AllByRecursion, Contains, IsDistinct, slice_get}
use Rattle.oca_pair.specs.Words.{AnswerFields, Change, CommandFields, Commands, Datagram, DeviceSizes, Event, Executes}
use Rattle.oca_pair.specs.Words.{Object, Peer, Releases, Reply, Sets, Tick, Untaken, after_change, answer_under}
use Rattle.oca_pair.specs.Words.{changes, execution, pdu_encoding, pdu_of, released, reply_of, response, same_peer}
use Rattle.oca_pair.specs.Words.{status_number}
use Rattle.oca_device.specs.declared.verdict.Verdict.TheVariants as verdicts
use Rattle.oca_device.specs.LawByEvents as law
use Rattle.oca_pair.specs.declared.outcome.Outcome.TheVariants as outcomes
use Rattle.oca_pair.specs.declared.start.Start.{Start}
use Rattle.oca_pair.specs.Networks.{Network, PeerLink, SentDatagram, SubmittedCommand, TakenAnswer, Setup}
use Rattle.oca_pair.specs.Networks.{opening, is_renewed, left_behind}
use Rattle.oca_pair.specs.Steps.{Step, ToDevice, Renew, after_step, after_steps, outcome_of_step}
use Rattle.oca_pair.specs.Happenings.{happenings}
use Rattle.oca_pair.specs.Premises.{are_apart, Fit, KeepsItsSession, FindsRoom, SpanFits}

-- ---- what the device executed

-- An execution: the objects that it found, the command, and the reply that it gave.
pub record Execution : Type 0 where
  pub objects : List Object
  pub command : CommandFields
  pub reply : Reply

-- of a peer's command on these objects
abbrev pub execution_of : List Object → Peer → CommandFields → Execution
execution_of tree p c = record { objects = tree; command = c; reply = reply_of tree p c }

-- the executions for a peer among changes of these objects, the latest first
abbrev pub executions_in : Peer → List Object → List Change → List Execution
executions_in p tree [] = []
executions_in p tree (Releases q ∷ more) = executions_in p (released tree q) more
executions_in p tree (Sets ono change ∷ more) = executions_in p (after_change tree ono change) more
executions_in p tree (Executes q c ∷ more) =
    executions_in p (execution tree q c).tree more
    ++ (if same_peer q p then execution_of tree q c ∷ [] else [])

-- THE EXECUTIONS for a peer by what happened to the device, the latest first.
abbrev pub executions_for : Peer → Network → List Execution
executions_for p n = executions_in p n.tree (changes n.sizes (happenings n.events))

-- those of the commands under a handle
abbrev pub executions_under : ℕ → List Execution → List Execution
executions_under h xs = filter (λ x. x.command.handle == h) xs

-- the answer that carries a reply
abbrev pub answer_of : Reply → AnswerFields
answer_of reply = record { status = status_number reply.status; count = reply.count; params = reply.params.items }

-- ---- THE LAW OF ANSWERS

-- the link of this peer submitted the command
abbrev pub WasSubmitted : Peer → CommandFields → List SubmittedCommand → Type 0
WasSubmitted p c submitted = let it : SubmittedCommand = record { peer = p; command = c } in Contains submitted it

-- this answer was taken from the link of this peer, under the handle
abbrev pub WasTaken : Peer → ℕ → AnswerFields → List TakenAnswer → Type 0
WasTaken p h answer taken = let it : TakenAnswer = record { peer = p; handle = h; answer = answer } in Contains taken it

-- The execution was of a datagram of the peer that held its command alone, on the objects as the clock left them when
-- it came.
pub record CameWithADatagram (p : Peer) (x : Execution) (n : Network) : Type 0 where
  pub later : List Event
  pub before : List Event
  pub now : ℕ
  pub events : n.events ≡ later ++ Datagram p (pdu_encoding (Commands true (x.command ∷ []))) now ∷ before
  pub objects : x.objects ≡ law.objects n.tree (changes n.sizes (happenings (Tick now ∷ before)))

-- The answer is what an execution gave, of the very command that the peer's link submitted under the handle, for that
-- peer. Where the peer kept its session, it is the only execution for the peer under that handle.
pub record IsAnswerOfItsCommand (p : Peer) (h : ℕ) (answer : AnswerFields) (n : Network) : Type 0 where
  pub execution : Execution
  pub executed : Contains (executions_for p n) execution
  pub came : CameWithADatagram p execution n
  pub submitted : WasSubmitted p execution.command n.submitted
  pub handle : execution.command.handle ≡ h
  pub reply : execution.reply ≡ reply_of execution.objects p execution.command
  pub answer_is : answer ≡ answer_of execution.reply
  pub only : KeepsItsSession p n → executions_under h (executions_for p n) ≡ execution ∷ []

-- the handles of the commands that the link of this peer submitted, in order
abbrev pub handles_of : Peer → List SubmittedCommand → List ℕ
handles_of p submitted = map (λ x. x.command.handle) (filter (λ x. same_peer x.peer p) submitted)

-- so is each number to the next one
abbrev pub EachToNext : (ℕ → ℕ → Type 0) → List ℕ → Type 0
EachToNext Is [] = Unit {0}
EachToNext Is (h ∷ []) = Unit {0}
EachToNext Is (h ∷ k ∷ more) = Is h k × EachToNext Is (k ∷ more)

-- each is above the one before it, so that no two are equal
abbrev pub AreIncreasing : List ℕ → Type 0
AreIncreasing handles = EachToNext (λ h k. h < k) handles

-- each is the one before it plus one
abbrev pub AreConsecutive : List ℕ → Type 0
AreConsecutive handles = EachToNext (λ h k. k ≡ h + 1) handles

-- Of each answer that a link holds, and of each that was taken from it; and each command that it submitted has a handle
-- of its own, above the one before it: where the link was never renewed, the one before it plus one.
pub record AnswersItsCommands (n : Network) : Type 0 where
  pub held : (i : ℕ) (l : PeerLink) (h : ℕ) (answer : AnswerFields) → slice_get n.links i ≡ Some l →
      answer_under h l.link.untaken ≡ Some answer →
      IsAnswerOfItsCommand l.peer h answer n
  pub was_taken : (i : ℕ) (l : PeerLink) (h : ℕ) (answer : AnswerFields) → slice_get n.links i ≡ Some l →
      WasTaken l.peer h answer n.taken →
      IsAnswerOfItsCommand l.peer h answer n
  pub rising : (i : ℕ) (l : PeerLink) → slice_get n.links i ≡ Some l → AreIncreasing (handles_of l.peer n.submitted)
  pub handles : (i : ℕ) (l : PeerLink) → slice_get n.links i ≡ Some l → is_renewed l.peer n ≡ false →
      AreConsecutive (handles_of l.peer n.submitted)

-- Over every schedule, for all sizes:
abbrev pub EveryScheduleAnswersItsCommands : Type 0
EveryScheduleAnswersItsCommands =
    (w : DeviceSizes) (s : Setup) (tree : List Object) (starts : List Start) (steps : List Step) →
    are_apart s.address starts ≡ true → Fit starts steps →
    AnswersItsCommands (after_steps steps (opening w s tree starts))

-- ---- THE LAW OF UNTAKEN COMMANDS

-- A datagram of the link of this peer carries a command that the link holds untaken: its bytes are those that the link
-- sends for it, whether for the first time or again.
pub record CarriesUntaken (d : SentDatagram) (l : PeerLink) (c : CommandFields) : Type 0 where
  pub peer : l.peer ≡ d.peer
  pub untaken : Untaken
  pub held : Contains l.link.untaken untaken
  pub command : untaken.command ≡ c
  pub bytes : d.bytes ≡ pdu_encoding (Commands true (c ∷ []))

-- With the delivery the device executes a command, and nothing else.
abbrev pub IsExecutedNow : ℕ → ℕ → Peer → Execution → Network → Type 0
IsExecutedNow k now p x n =
    (outcome_of_step (ToDevice k now) n ≡ outcomes.Device (verdicts.Served 1 0 0 0) ∷ [])
    × (executions_for p (after_step (ToDevice k now) n) ≡ x ∷ executions_for p n)

-- With the delivery the device executes nothing: it finds in its window what it executed before.
abbrev pub WasExecuted : ℕ → ℕ → Peer → Execution → Network → Type 0
WasExecuted k now p x n =
    (outcome_of_step (ToDevice k now) n ≡ outcomes.Device (verdicts.Served 0 1 0 0) ∷ [])
    × (executions_for p (after_step (ToDevice k now) n) ≡ executions_for p n)
    × Contains (executions_for p n) x

-- The delivery is answered: the device executes the command now, or did before; and it sends the link one datagram, the
-- response with the reply of that execution.
pub record IsAnswered (k now : ℕ) (n : Network) (d : SentDatagram) (c : CommandFields) : Type 0 where
  pub execution : Execution
  pub command : execution.command ≡ c
  pub executed : IsExecutedNow k now d.peer execution n ⊎ WasExecuted k now d.peer execution n
  pub sent : (after_step (ToDevice k now) n).to_links
      ≡ n.to_links ++ (record { peer = d.peer; bytes = pdu_encoding (pdu_of (response c.handle execution.reply)) }) ∷ []

-- A delivery of a datagram that carries an untaken command of the link is answered, where it finds room, and the peer
-- kept its session, this datagram counted.
abbrev pub AnswersUntaken : PeerLink → Network → Type 0
AnswersUntaken l n = (k now : ℕ) (d : SentDatagram) (c : CommandFields) →
    slice_get n.to_device k ≡ Some d → CarriesUntaken d l c →
    FindsRoom d.peer now n → KeepsItsSession d.peer (after_step (ToDevice k now) n) → IsAnswered k now n d c

-- Over every schedule, for all sizes and each link whose span fits the window:
abbrev pub NoUntakenCommandIsTooOld : Type 0
NoUntakenCommandIsTooOld =
    (w : DeviceSizes) (s : Setup) (tree : List Object) (starts : List Start) (steps : List Step) (i : ℕ)
    (l : PeerLink) →
    let n : Network = after_steps steps (opening w s tree starts) in
    slice_get n.links i ≡ Some l → SpanFits w l n → are_apart s.address starts ≡ true → Fit starts steps →
    AnswersUntaken l n

-- Where no step renews a link, no link was renewed.
abbrev pub IsNoRenewal : Step → Type 0
IsNoRenewal (Renew link first span now origin) = ⊥
IsNoRenewal _ = Unit {0}

abbrev pub OnlyRenewalsRenew : Type 0
OnlyRenewalsRenew =
    (w : DeviceSizes) (s : Setup) (tree : List Object) (starts : List Start) (steps : List Step) (p : Peer) →
    AllByRecursion IsNoRenewal steps → is_renewed p (after_steps steps (opening w s tree starts)) ≡ false

-- A link that was never renewed, whatever became of others: nothing was left behind, and it has the span that it was
-- set up with.
pub record IsAsSetUp (s : Setup) (l : PeerLink) (n : Network) : Type 0 where
  pub nothing_left : left_behind l.peer n ≡ 0
  pub span : l.link.span ≡ s.span l.peer

abbrev pub EveryFirstLinkIsAsSetUp : Type 0
EveryFirstLinkIsAsSetUp =
    (w : DeviceSizes) (s : Setup) (tree : List Object) (starts : List Start) (steps : List Step) (i : ℕ)
    (l : PeerLink) →
    let n : Network = after_steps steps (opening w s tree starts) in
    are_apart s.address starts ≡ true → Fit starts steps → slice_get n.links i ≡ Some l →
    is_renewed l.peer n ≡ false → IsAsSetUp s l n

-- No command of a link is executed twice, where its peer kept its session.
abbrev pub ExecutesOnce : Network → Type 0
ExecutesOnce n = (i : ℕ) (l : PeerLink) → slice_get n.links i ≡ Some l → KeepsItsSession l.peer n →
    IsDistinct (λ (x y : ℕ). x == y) (map (λ x. x.command.handle) (executions_for l.peer n))

-- Over every schedule, for all sizes:
abbrev pub EveryCommandIsExecutedOnce : Type 0
EveryCommandIsExecutedOnce =
    (w : DeviceSizes) (s : Setup) (tree : List Object) (starts : List Start) (steps : List Step) →
    are_apart s.address starts ≡ true → Fit starts steps →
    ExecutesOnce (after_steps steps (opening w s tree starts))

-- A LINK THAT RUNS OVER AN END: what is done with it by the calls of this crate, at which moments, and that it is asked
-- in time where the receives of the end return in time. Moments are in milliseconds, and stand in the order of time
-- here.
use Rattle.std.specs.Prelude.{[], ⊤, ◌*◌, ◌++◌, ◌+◌, ◌-◌, ◌<◌, ◌∷◌, ◌≡◌, ◌≤◌, Err, IsTrue, List, Ok, Result, false}
use Rattle.std.specs.Prelude.{is_none, length, max, true, ℕ}
use Rattle.std.specs.List.{AllByRecursion, flat_map}
use Rattle.oca_control.specs.Words.{Datagram, Delivery, EndState, Failed, Handle, Peer, Quiet, RequestFields}
use Rattle.oca_control.specs.Words.{largest_datagram}
use Rattle.oca_net.specs.Memory.{MemoryState, state_of_memory, after_receive, after_send}
use Rattle.oca_control.specs.declared.fault.ControlFault.{ControlFault}
use Rattle.oca_control.specs.declared.outcome.Outcome.{Outcome}
use Rattle.oca_control.specs.declared.reception.Reception.{Reception}
use Rattle.oca_control.specs.declared.report.DriveReport.{DriveReport}
use Rattle.oca_control.specs.Limits.{repeat_time, most_sendings, longest_life}
use Rattle.oca_control.specs.Untaken.{Untaken}
use Rattle.oca_control.specs.Links.{LinkState, present_moment, Decision, GivesNothing, decision, submitted, taken}
use Rattle.oca_control.specs.Histories.{Call, Submits, IsCall, IsHistory, clock_of_calls, sendings}
use Rattle.oca_control.specs.Answering.{last_asked, IsAskedEvery, IsWaiting, IsSentInTime}
use Rattle.oca_control.specs.Steps.{ReceivesDatagram}
use Rattle.oca_control.specs.Driving.{DrivesTurn, DrivesEnd, SendsDue, link_from}
use Rattle.oca_control.specs.Turning.{TurnsInTime, Turns, SendsInTime, link_in_time}
use Rattle.oca_control.specs.Asking.{beginning, Begins, Asks, Waits}
use Rattle.oca_control.specs.Waiting.{WaitsUntil}

-- NOTHING IS LEFT to send at the link's own moment.
abbrev pub NothingIsLeft : LinkState → Type 0
NothingIsLeft l = decision l.moment l ≡ GivesNothing

-- So it is after a turn that received and did not fail, unless it reports that the link is lost or late.
abbrev pub LeavesNothing : DriveReport → LinkState → Type 0
LeavesNothing report new = report.turns ≡ 1 → report.failed_receives ≡ 0 → report.lost ≡ false → NothingIsLeft new

-- ---- the moments of an end

-- the moment of a delivery; a failed receive has none
abbrev pub delivered_at : Delivery → List ℕ
delivered_at (Datagram from bytes now) = now ∷ []
delivered_at (Quiet now) = now ∷ []
delivered_at Failed = []

-- the moments of deliveries, in order
abbrev pub moments_delivered : List Delivery → List ℕ
moments_delivered deliveries = flat_map delivered_at deliveries

-- Each moment is at most so many ms after the latest one before it, the first after this one.
abbrev pub AreWithin : ℕ → ℕ → List ℕ → Type 0
AreWithin ms since [] = ⊤
AreWithin ms since (t ∷ later) = (t ≤ since + ms) × AreWithin ms (max since t) later

-- THE RECEIVES OF AN END RETURN WITHIN so many ms, from one of its states to a later one: so do the moments of what it
-- delivered in between follow one another, behind these others that came first.
abbrev pub ReturnsWithin : ℕ → ℕ → List ℕ → EndState → EndState → Type 0
ReturnsWithin ms since others before after =
    (deliveries : List Delivery) → after.delivered ≡ before.delivered ++ deliveries →
    AreWithin ms since (others ++ moments_delivered deliveries)

-- ---- a link that runs

-- A LINK WAS RUN: turns were taken, by `drive` or by `turn`, what was due was sent, by `send_due` or `send_in_time`,
-- commands were begun and answers taken. The moments are those of the deliveries, and those at which commands were
-- begun or what was due was sent.
pub data IsRun : (moments : List ℕ) (old new : LinkState) → Type 0 where
  NothingDone : {l : LinkState} → IsRun [] l l
  DroveATurn : {ts : List ℕ} {old l new : LinkState} {decisions : List Decision} {n : ℕ} (d : Delivery) →
      IsRun ts old l → DrivesTurn d l new decisions n → IsRun (ts ++ delivered_at d) old new
  TookATurn : {ts : List ℕ} {old l new : LinkState} {decisions : List Decision} {n : ℕ} (d : Delivery) →
      IsRun ts old l → TurnsInTime d l new decisions n → IsRun (ts ++ delivered_at d) old new
  SentAllDue : {ts : List ℕ} {old l new : LinkState} (now : ℕ) → IsRun ts old l →
      new ≡ link_from now (l.span + 1) l → IsRun (ts ++ now ∷ []) old new
  SentAllInTime : {ts : List ℕ} {old l new : LinkState} (now : ℕ) → IsRun ts old l →
      new ≡ link_in_time now l → IsRun (ts ++ now ∷ []) old new
  Began : {ts : List ℕ} {old l new : LinkState} (request : RequestFields) (now : ℕ) (h : Handle) →
      IsRun ts old l → beginning request now l ≡ Ok h →
      new ≡ link_from now ((submitted request now l).span + 1) (submitted request now l) →
      IsRun (ts ++ now ∷ []) old new
  Took : {ts : List ℕ} {old l new : LinkState} (h : ℕ) → IsRun ts old l → new ≡ taken h l → IsRun ts old new

-- It was run over an end: there are deliveries of which that is so, behind these moments at which a command was begun
-- or what was due was sent. Where the end tells, they are what it delivered.
pub record RunsOver (begun : List ℕ) (old new : LinkState) (before after : EndState) : Type 0 where
  pub deliveries : List Delivery
  pub run : IsRun (begun ++ moments_delivered deliveries) old new
  pub telling : after.tells ≡ before.tells
  pub delivered : IsTrue before.tells → after.delivered ≡ before.delivered ++ deliveries

-- a refused command has no moment
abbrev pub begun_at : Result Handle ControlFault → ℕ → List ℕ
begun_at (Ok h) now = now ∷ []
begun_at (Err fault) now = []

-- WHAT IS DONE BY `drive`, `turn`, `send_due`, `send_in_time`, `wait_for`, `wait_until`, `begin` AND `ask` is such a
-- run; so `wait_while`.
pub record EveryCallRuns : Type 0 where
  pub of_drive : (old new : LinkState) (before after : EndState) (report : DriveReport) →
      DrivesEnd old new before after report → RunsOver [] old new before after
  pub of_turn : (old new : LinkState) (before after : EndState) (report : DriveReport) →
      Turns old new before after report → RunsOver [] old new before after
  pub of_send_due : (now : ℕ) (old new : LinkState) (before after : EndState) (report : DriveReport) →
      SendsDue now (old.span + 1) old new before after report → RunsOver (now ∷ []) old new before after
  pub of_send_in_time : (now : ℕ) (old new : LinkState) (before after : EndState) (report : DriveReport) →
      SendsInTime now old new before after report → RunsOver (now ∷ []) old new before after
  pub of_wait : (h turns : ℕ) (old new : LinkState) (outcome : Outcome) (before after : EndState) →
      Waits h turns old outcome new before after → RunsOver [] old new before after
  pub of_wait_until : (h until : ℕ) (old new : LinkState) (outcome : Outcome) (before after : EndState) →
      WaitsUntil h until old outcome new before after → RunsOver [] old new before after
  pub of_begin : (request : RequestFields) (returned : Result Handle ControlFault) (old new : LinkState)
      (before after : EndState) (begins : Begins request returned old new before after) →
      RunsOver (begun_at returned begins.now) old new before after
  pub of_ask : (request : RequestFields) (turns : ℕ) (old new : LinkState) (outcome : Outcome) (before after : EndState)
      (asks : Asks request turns old outcome new before after) →
      RunsOver (begun_at asks.returned asks.begins.now) old new before after

-- A PROGRAM THAT RECEIVES BY ITSELF: a datagram was given to the link by `datagram`, and what was due then sent by
-- `send_in_time` at the same moment. So that is a run, too.
abbrev pub EveryOwnReceiveRuns : Type 0
EveryOwnReceiveRuns =
    (from : Peer) (bytes : List ℕ) (now : ℕ) (returned : Reception) (old l new : LinkState) (before after : EndState)
    (report : DriveReport) →
    length bytes ≤ largest_datagram → ReceivesDatagram from bytes now old returned l →
    SendsInTime now l new before after report → IsRun (now ∷ []) old new

-- Runs go on: the one and then the other are a run.
abbrev pub EveryRunGoesOn : Type 0
EveryRunGoesOn = (moments later : List ℕ) (old l new : LinkState) → IsRun moments old l → IsRun later l new →
    IsRun (moments ++ later) old new

-- ---- it is asked in time

-- a link becomes another by these calls, the latest first
abbrev pub BecomesBy : LinkState → List Call → LinkState → Type 0
BecomesBy old [] new = new ≡ old
BecomesBy old (call ∷ before) new = (l : LinkState) × BecomesBy old before l × IsCall l call new

-- The time that a link may be left alone: 500 ms. A command that is sent at once, and then as often as that, is
-- lost before it is late.
abbrev pub IsShortPause : ℕ → Type 0
IsShortPause ms = most_sendings * (repeat_time + ms) ≤ longest_life

-- A command that was sent HAS TIME LEFT: it is answered; or the sendings that are left to it, where the link is
-- asked every so many ms, and the call that finds it lost, come before it is late.
abbrev pub HasTimeLeft : ℕ → Untaken → Type 0
HasTimeLeft ms u = is_none u.answer ≡ true →
    u.last + (most_sendings + 1 - u.times) * (repeat_time + ms) ≤ u.submitted + longest_life

-- so has each command of a link
abbrev pub HaveTimeLeft : ℕ → LinkState → Type 0
HaveTimeLeft ms l = AllByRecursion (HasTimeLeft ms) l.untaken

-- Calls make a link another, by which it IS ASKED EVERY so many ms from a moment on, and it was asked at the moment
-- that it has now: nothing is left, and each command has time left.
pub record IsAsked (ms since : ℕ) (old new : LinkState) : Type 0 where
  pub calls : List Call
  pub made : BecomesBy old calls new
  pub every : IsAskedEvery ms since calls
  pub clock_is : clock_of_calls since calls ≡ new.moment
  pub asked_is : last_asked since calls ≡ new.moment
  pub left : NothingIsLeft new
  pub time : HaveTimeLeft ms new

-- A LINK THAT RUNS IS ASKED IN TIME. The moments of the run follow one another within so many ms; when it began nothing
-- was left, and each command had time left. Then the link is lost, or asked every so many ms.
abbrev pub EveryRunIsAsked : Type 0
EveryRunIsAsked =
    (device : Peer) (first opened span ms : ℕ) (before : List Call) (old new : LinkState) (moments : List ℕ) →
    0 < span → IsShortPause ms → IsHistory device first opened span before old → NothingIsLeft old →
    HaveTimeLeft ms old → IsRun moments old new → AreWithin ms old.moment moments → new.lost ≡ false →
    IsAsked ms old.moment old new

-- So it is OVER AN END that tells and whose receives return within so many ms.
abbrev pub EveryEndInTimeServes : Type 0
EveryEndInTimeServes =
    (device : Peer) (first opened span ms : ℕ) (before : List Call) (old new : LinkState) (begun : List ℕ)
    (old_end new_end : EndState) →
    0 < span → IsShortPause ms → IsHistory device first opened span before old → NothingIsLeft old →
    HaveTimeLeft ms old → RunsOver begun old new old_end new_end → IsTrue old_end.tells →
    ReturnsWithin ms old.moment begun old_end new_end →
    new.lost ≡ false →
    IsAsked ms old.moment old new

-- Nothing is left, and each command has time left; and there are calls after the submit of which the command of a
-- handle is sent in time as long as it is waiting.
pub record CommandIsInTime (device : Peer) (first opened span ms : ℕ) (before : List Call) (request : RequestFields)
    (now : ℕ) (h : Handle) (since : ℕ) (new : LinkState) : Type 0 where
  pub left : NothingIsLeft new
  pub time : HaveTimeLeft ms new
  pub later : List Call
  pub history : IsHistory device first opened span (later ++ Submits request now (Ok h) ∷ before) new
  pub in_time : IsWaiting device h.0 (later ++ Submits request now (Ok h) ∷ before) →
      IsSentInTime ms since new.moment (sendings opened h.0 (later ++ Submits request now (Ok h) ∷ before))

-- EACH COMMAND THAT IS BEGUN IS SENT IN TIME, where each command of the link has time left once it was, and the
-- moments of the run that follows are within so many ms of one another, the first of that of the begin.
abbrev pub EveryBegunCommandIsInTime : Type 0
EveryBegunCommandIsInTime =
    (device : Peer) (first opened span ms : ℕ) (before : List Call) (old link new : LinkState) (request : RequestFields)
    (now : ℕ) (h : Handle) (moments : List ℕ) →
    0 < span → IsShortPause ms → IsHistory device first opened span before old →
    beginning request now old ≡ Ok h →
    link ≡ link_from now ((submitted request now old).span + 1) (submitted request now old) → HaveTimeLeft ms link →
    IsRun moments link new → AreWithin ms link.moment moments → new.lost ≡ false →
    CommandIsInTime device first opened span ms before request now h link.moment new

-- A command that waits for its answer has time at a moment: all sendings that are left to it from then on come before
-- it is late, and so do those that are left to it behind its last one, where it was sent.
abbrev pub HasTimeAt : ℕ → ℕ → Untaken → Type 0
HasTimeAt ms t u = is_none u.answer ≡ true →
    (t + (most_sendings - u.times) * (repeat_time + ms) ≤ u.submitted + longest_life)
    × (0 < u.times → u.last + (most_sendings + 1 - u.times) * (repeat_time + ms) ≤ u.submitted + longest_life)

-- EACH COMMAND IN FLIGHT HAS TIME by its own submit and its own count of sendings, however many there are: at each
-- moment within so many ms of one at which nothing was left and each had time left.
abbrev pub EveryCommandHasTimeSoon : Type 0
EveryCommandHasTimeSoon =
    (device : Peer) (first opened span ms : ℕ) (before : List Call) (l : LinkState) (now : ℕ) →
    0 < span → IsHistory device first opened span before l → NothingIsLeft l → HaveTimeLeft ms l →
    now ≤ l.moment + ms → AllByRecursion (HasTimeAt ms (present_moment now l)) l.untaken

-- THE OTHERS DECIDE: once a command was begun each command has time left, where each that waited before has time at
-- that moment; as where none waited. So it is unless the link was lost.
abbrev pub EveryBegunCommandHasTime : Type 0
EveryBegunCommandHasTime =
    (device : Peer) (first opened span ms : ℕ) (before : List Call) (old link : LinkState) (request : RequestFields)
    (now : ℕ) (h : Handle) →
    0 < span → IsShortPause ms → IsHistory device first opened span before old →
    AllByRecursion (HasTimeAt ms (present_moment now old)) old.untaken → beginning request now old ≡ Ok h →
    link ≡ link_from now ((submitted request now old).span + 1) (submitted request now old) → link.lost ≡ false →
    HaveTimeLeft ms link

-- AN END IN MEMORY keeps that promise where its script does: a receive and a send leave what it delivered and will
-- deliver as a whole, and so the moments of what it delivers are those of the script.
pub record EveryScriptIsKept : Type 0 where
  pub receiving : (e : MemoryState) →
      (after_receive e).delivered ++ (after_receive e).to_come ≡ e.delivered ++ e.to_come
  pub sending : (e : MemoryState) (to : Peer) (bytes : List ℕ) →
      (after_send e to bytes).delivered ++ (after_send e to bytes).to_come ≡ e.delivered ++ e.to_come
  pub within : (ms since : ℕ) (e f : MemoryState) → f.delivered ++ f.to_come ≡ e.delivered ++ e.to_come →
      AreWithin ms since (moments_delivered e.to_come) →
      ReturnsWithin ms since [] (state_of_memory e) (state_of_memory f)

-- COPIES IN TIME, over whole histories of the calls of a link. As in Histories the latest call and the latest sending
-- stand first.
use Rattle.std.specs.Prelude.{[], ⊤, ◌++◌, ◌+◌, ◌<◌, ◌==◌, ◌∷◌, ◌≡◌, ◌≤◌, Bool, Err, List, None, Ok, Option, Result}
use Rattle.std.specs.Prelude.{Some, false, if◌then◌else◌, length, max, nat_le, true, ℕ}
use Rattle.std.specs.List.{AllByRecursion, flat_map}
use Rattle.oca_control.specs.Words.{Datagram, DeliversAndTakes, Delivery, EndState, Failed, Handle, Peer, Quiet}
use Rattle.oca_control.specs.Words.{RequestFields, Sent, largest_datagram}
use Rattle.oca_control.specs.declared.due.Due.{Due}
use Rattle.oca_control.specs.declared.due.Due.TheVariants as dues
use Rattle.oca_control.specs.declared.fault.ControlFault.{ControlFault}
use Rattle.oca_control.specs.declared.outcome.Outcome.{Outcome}
use Rattle.oca_control.specs.declared.report.DriveReport.{DriveReport}
use Rattle.oca_control.specs.Limits.{longest_life}
use Rattle.oca_control.specs.Links.{LinkState, new_link, late_at}
use Rattle.oca_control.specs.Histories.{Call, Submits, SendsDue, Receives, TakesAnswer, IsCall}
use Rattle.oca_control.specs.Histories.{clock_of_calls, Sending, sendings}
use Rattle.oca_control.specs.Answering.{is_among}
use Rattle.oca_control.specs.Running.{moments_delivered}
use Rattle.oca_control.specs.Turning.{SendsInTime, Turns}
use Rattle.oca_control.specs.Asking.{Waits, Begins, Asks}
use Rattle.oca_control.specs.Waiting.{WaitsUntil}

-- WHEN A COMMAND WAS SUBMITTED that has this handle, by the clock; none has it where none was.
abbrev pub submitted_at : ℕ → ℕ → List Call → Option ℕ
submitted_at opened h [] = None
submitted_at opened h (Submits request now (Ok x) ∷ before) =
    if h == x.0 then Some (max (clock_of_calls opened before) now) else submitted_at opened h before
submitted_at opened h (Submits request now (Err fault) ∷ before) = submitted_at opened h before
submitted_at opened h (SendsDue now returned bytes ∷ before) = submitted_at opened h before
submitted_at opened h (Receives from bytes content now returned ∷ before) = submitted_at opened h before
submitted_at opened h (TakesAnswer x answer ∷ before) = submitted_at opened h before

-- A SENDING LEAVES IN TIME: not before its command was submitted, and at most 15,000 ms after.
abbrev pub LeavesInTime : Option ℕ → Sending → Type 0
LeavesInTime None s = ⊥
LeavesInTime (Some t) s = (t ≤ s.at) × (s.at ≤ t + longest_life)

-- A call is in time unless it is one of `due` at a moment at which the link is late.
abbrev pub IsInTime : LinkState → Call → Type 0
IsInTime l (SendsDue now returned bytes) = late_at now l ≡ false
IsInTime l _ = ⊤

-- A link becomes another by these calls, each of which is in time.
abbrev pub MakesInTime : LinkState → List Call → LinkState → Type 0
MakesInTime old [] new = new ≡ old
MakesInTime old (call ∷ before) new = (l : LinkState) × MakesInTime old before l × IsCall l call new × IsInTime l call

-- Whatever calls are made of a new link in time, each copy of a command leaves at most 15,000 ms after its submit.
abbrev pub EveryCopyIsInTime : Type 0
EveryCopyIsInTime =
    (device : Peer) (first opened span : ℕ) (calls : List Call) (after : LinkState) → 0 < span →
    MakesInTime (new_link device first opened span) calls after →
    (h : ℕ) → AllByRecursion (LeavesInTime (submitted_at opened h calls)) (sendings opened h calls)

-- Calls in time after calls in time are such calls, all together.
abbrev pub EveryCallInTimeGoesOn : Type 0
EveryCallInTimeGoesOn =
    (old l new : LinkState) (calls later : List Call) → MakesInTime old calls l → MakesInTime l later new →
    MakesInTime old (later ++ calls) new

-- ---- over an end

-- a call of `due` returned a command or a keep-alive
abbrev pub is_sent_out : Due → Bool
is_sent_out (dues.Send handle) = true
is_sent_out dues.KeepAlive = true
is_sent_out _ = false

-- THE DATAGRAMS THAT CALLS SEND to a device, in order: here the first one stands first.
abbrev pub datagrams_sent : Peer → List Call → List Sent
datagrams_sent device [] = []
datagrams_sent device (SendsDue now returned bytes ∷ before) =
    datagrams_sent device before
    ++ (if is_sent_out returned then (record { to = device; bytes = bytes }) ∷ [] else [])
datagrams_sent device (Submits request now returned ∷ before) = datagrams_sent device before
datagrams_sent device (Receives from bytes content now returned ∷ before) = datagrams_sent device before
datagrams_sent device (TakesAnswer h answer ∷ before) = datagrams_sent device before

-- the datagrams that calls receive, in this order too
abbrev pub datagrams_heard : List Call → List Delivery
datagrams_heard [] = []
datagrams_heard (Receives from bytes content now returned ∷ before) =
    datagrams_heard before ++ Datagram from bytes now ∷ []
datagrams_heard (Submits request now returned ∷ before) = datagrams_heard before
datagrams_heard (SendsDue now returned bytes ∷ before) = datagrams_heard before
datagrams_heard (TakesAnswer h answer ∷ before) = datagrams_heard before

-- of what was delivered, a datagram of at most 1,472 bytes
abbrev pub short_datagram : Delivery → List Delivery
short_datagram (Datagram from bytes now) =
    if nat_le (length bytes) largest_datagram then Datagram from bytes now ∷ [] else []
short_datagram _ = []

-- a call is at one of these moments, if it is one of `due`
abbrev pub IsAskedAt : List ℕ → Call → Type 0
IsAskedAt moments (SendsDue now returned bytes) = is_among now moments ≡ true
IsAskedAt moments _ = ⊤

-- A LINK BECOMES ANOTHER OVER AN END by calls, each of which is in time. What these calls send is what was handed to
-- the end, and what they receive is what came. The calls of `due` are at moments at which something was delivered, or
-- at these others. Where the end tells, the deliveries are what it delivered, and it took what the calls send, but for
-- the failed sends.
pub record IsMadeInTime (others : List ℕ) (old new : LinkState) (before after : EndState) : Type 0 where
  pub calls : List Call
  pub made : MakesInTime old calls new
  pub deliveries : List Delivery
  pub failed_receives : ℕ
  pub failed_sends : ℕ
  pub runs : DeliversAndTakes deliveries (datagrams_sent old.device calls) failed_receives failed_sends before after
  pub heard : datagrams_heard calls ≡ flat_map short_datagram deliveries
  pub asked : AllByRecursion (IsAskedAt (others ++ moments_delivered deliveries)) calls

-- WHAT A STEP MAKES OF A LINK AND SENDS, it does by calls in time: `send_in_time`, `turn`, `begin`, `wait_for`,
-- `wait_until`, so `wait_while`, and `ask`. The other moment is the one that was given, or that of the begin.
pub record EveryStepIsInTime : Type 0 where
  pub giving : (now : ℕ) (old new : LinkState) (before after : EndState) (report : DriveReport) →
      SendsInTime now old new before after report → IsMadeInTime (now ∷ []) old new before after
  pub turning : (old new : LinkState) (before after : EndState) (report : DriveReport) →
      Turns old new before after report → IsMadeInTime [] old new before after
  pub beginning : (request : RequestFields) (returned : Result Handle ControlFault) (old new : LinkState)
      (before after : EndState) (begins : Begins request returned old new before after) →
      IsMadeInTime (begins.now ∷ []) old new before after
  pub waiting : (h turns : ℕ) (old new : LinkState) (outcome : Outcome) (before after : EndState) →
      Waits h turns old outcome new before after → IsMadeInTime [] old new before after
  pub waiting_until : (h until : ℕ) (old new : LinkState) (outcome : Outcome) (before after : EndState) →
      WaitsUntil h until old outcome new before after → IsMadeInTime [] old new before after
  pub asking : (request : RequestFields) (turns : ℕ) (old new : LinkState) (outcome : Outcome)
      (before after : EndState) (asks : Asks request turns old outcome new before after) →
      IsMadeInTime (asks.begins.now ∷ []) old new before after

-- A link that is late stays so, as moments rise.
abbrev pub EveryLateLinkStaysLate : Type 0
EveryLateLinkStaysLate = (now later : ℕ) (l : LinkState) → now ≤ later → late_at now l ≡ true → late_at later l ≡ true

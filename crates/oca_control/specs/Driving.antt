-- What the loop makes of a link and an end.
use Rattle.std.specs.Prelude.{[], ◌&&◌, ◌++◌, ◌+◌, ◌<◌, ◌||◌, ◌∷◌, ◌≡◌, ◌≤◌, Bool, List, count_by, false, if◌then◌else◌}
use Rattle.std.specs.Prelude.{length, min, nat_lt, not, suc, true, zero, ℕ}
use Rattle.std.specs.List.{flat_map, list_any}
use Rattle.oca_control.specs.Words.{Datagram, DeliversAndTakes, Delivery, EndState, Failed, Peer, Quiet, SendsAllBut}
use Rattle.oca_control.specs.Words.{Sent, largest_datagram, last_u64}
use Rattle.oca_control.specs.declared.reception.Reception.{Reception}
use Rattle.oca_control.specs.declared.reception.Reception.TheVariants as receptions
use Rattle.oca_control.specs.declared.report.DriveReport.{DriveReport}
use Rattle.oca_control.specs.Links.{LinkState, Decision, GivesCommand, GivesKeepAlive, GivesNothing, IsLost, decision}
use Rattle.oca_control.specs.Links.{gone_on, due_bytes}
use Rattle.oca_control.specs.Steps.{ReceivesDatagram}

-- how many commands a datagram answered
abbrev pub answered_by : Reception → ℕ
answered_by (receptions.Answered n) = n
answered_by _ = 0

-- a decision is that a command is sent
abbrev pub gives_command : Decision → Bool
gives_command (GivesCommand c) = true
gives_command _ = false

-- or a keep-alive
abbrev pub is_keep_alive : Decision → Bool
is_keep_alive (GivesCommand c) = false
is_keep_alive GivesKeepAlive = true
is_keep_alive _ = false

-- or that the link is lost
abbrev pub decides_lost : Decision → Bool
decides_lost (GivesCommand c) = false
decides_lost GivesKeepAlive = false
decides_lost GivesNothing = false
decides_lost IsLost = true

-- something was sent, so that `due` is asked again
abbrev pub goes_on : Decision → Bool
goes_on (GivesCommand c) = true
goes_on GivesKeepAlive = true
goes_on _ = false

-- what at most n calls of `due` decide at a moment, until one gives nothing out
unfoldable pub decisions_from : ℕ → ℕ → LinkState → List Decision
decisions_from now zero l = []
decisions_from now (suc n) l =
    decision now l ∷ (if goes_on (decision now l) then decisions_from now n (gone_on now l) else [])

-- the link after them
unfoldable pub link_from : ℕ → ℕ → LinkState → LinkState
link_from now zero l = l
link_from now (suc n) l = if goes_on (decision now l) then link_from now n (gone_on now l) else gone_on now l

-- the datagrams that they hand to the end, for the device
abbrev pub given_to : Peer → Decision → List Sent
given_to device d = if goes_on d then (record { to = device; bytes = due_bytes d }) ∷ [] else []

-- those of decisions, in order
abbrev pub all_given_to : Peer → List Decision → List Sent
all_given_to device decisions = flat_map (given_to device) decisions

-- What is heard of a delivery: a datagram of at most 1,472 bytes is one for the link, and nothing else is.
pub record HearsDatagram (from : Peer) (bytes : List ℕ) (now : ℕ) (old new : LinkState) (answered : ℕ) : Type 0 where
  pub short : length bytes ≤ largest_datagram →
      (returned : Reception) × ReceivesDatagram from bytes now old returned new × (answered ≡ answered_by returned)
  pub long : largest_datagram < length bytes → (new ≡ old) × (answered ≡ 0)

-- what is heard of a delivery: where nothing came, or the receive failed, the link stays as it is
abbrev pub HearsDelivery : Delivery → LinkState → LinkState → ℕ → Type 0
HearsDelivery (Datagram from bytes now) old new answered = HearsDatagram from bytes now old new answered
HearsDelivery _ old new answered = (new ≡ old) × (answered ≡ 0)

-- What is then sent: `due` is called at most once more than the span has handles, and not after a failed receive.
abbrev pub GivesAll : ℕ → LinkState → LinkState → List Decision → Type 0
GivesAll now old new decisions =
    (decisions ≡ decisions_from now (old.span + 1) old) × (new ≡ link_from now (old.span + 1) old)

-- what is sent after a delivery
abbrev pub Gives : Delivery → LinkState → LinkState → List Decision → Type 0
Gives (Datagram from bytes now) old new decisions = GivesAll now old new decisions
Gives (Quiet now) old new decisions = GivesAll now old new decisions
Gives Failed old new decisions = (decisions ≡ []) × (new ≡ old)

-- A TURN: what was delivered is heard, and then what is due is sent.
pub record DrivesTurn (d : Delivery) (old new : LinkState) (decisions : List Decision) (answered : ℕ) : Type 0 where
  pub between : LinkState
  pub hears : HearsDelivery d old between answered
  pub gives : Gives d between new decisions

-- THE TURNS, one for each delivery. After one in which the link is lost there is no other.
pub data Drives : (deliveries : List Delivery) (old new : LinkState) (decisions : List Decision) (answered : ℕ) →
    Type 0 where
  NoTurn : {l : LinkState} → Drives [] l l [] 0
  OneMore : {ds : List Delivery} {old l new : LinkState} {gs hs : List Decision} {n k : ℕ} (d : Delivery) →
      Drives ds old l gs n → list_any decides_lost gs ≡ false → DrivesTurn d l new hs k →
      Drives (ds ++ d ∷ []) old new (gs ++ hs) (n + k)

-- a delivery is a failed receive
abbrev pub is_failed_delivery : Delivery → Bool
is_failed_delivery (Datagram from bytes now) = false
is_failed_delivery (Quiet now) = false
is_failed_delivery Failed = true

-- the report of turns in which so many sends failed
abbrev pub drive_report_of : List Delivery → List Decision → ℕ → ℕ → DriveReport
drive_report_of deliveries decisions answered failed_sends =
    record {
      turns = length deliveries;
      sent = count_by gives_command decisions;
      keep_alives = count_by is_keep_alive decisions;
      answered = answered;
      failed_receives = count_by is_failed_delivery deliveries;
      failed_sends = failed_sends;
      lost = list_any decides_lost decisions;
    }

-- first the one, then the other
abbrev pub drive_report_sum : DriveReport → DriveReport → DriveReport
drive_report_sum a b =
    record {
      turns = a.turns + b.turns;
      sent = a.sent + b.sent;
      keep_alives = a.keep_alives + b.keep_alives;
      answered = a.answered + b.answered;
      failed_receives = a.failed_receives + b.failed_receives;
      failed_sends = a.failed_sends + b.failed_sends;
      lost = a.lost || b.lost;
    }

-- a number that would pass 64 bits stays at its last value
abbrev pub drive_report_capped : DriveReport → DriveReport
drive_report_capped r =
    record {
      turns = min r.turns last_u64;
      sent = min r.sent last_u64;
      keep_alives = min r.keep_alives last_u64;
      answered = min r.answered last_u64;
      failed_receives = min r.failed_receives last_u64;
      failed_sends = min r.failed_sends last_u64;
      lost = r.lost;
    }

-- A LINK WAS DRIVEN OVER AN END: there are deliveries of which the turns are what was done and reported, and the report
-- counts the calls of the end that failed. Where the end tells, these deliveries are what it delivered, and it took
-- what was sent but for the failed sends.
pub record DrivesEnd (old new : LinkState) (before after : EndState) (report : DriveReport) : Type 0 where
  pub deliveries : List Delivery
  pub decisions : List Decision
  pub answered : ℕ
  pub drives : Drives deliveries old new decisions answered
  pub reported : report ≡ drive_report_of deliveries decisions answered report.failed_sends
  pub runs : DeliversAndTakes deliveries (all_given_to old.device decisions) report.failed_receives report.failed_sends
      before after

-- WHAT WAS DUE at a moment, in so many calls of `due`, WAS SENT: it was handed to the end, for the device, and the
-- report counts it and the sends that failed. No turn was taken.
pub record SendsDue (now calls : ℕ) (old new : LinkState) (before after : EndState) (report : DriveReport)
    : Type 0 where
  pub link : new ≡ link_from now calls old
  pub device : new.device ≡ old.device
  pub reported : report ≡ drive_report_of [] (decisions_from now calls old) 0 report.failed_sends
  pub sends : SendsAllBut report.failed_sends before after (all_given_to old.device (decisions_from now calls old))

-- how often is received: once a turn, and once more where neither the turns nor a lost link ended the loop
abbrev pub receives_driven : DriveReport → ℕ → ℕ
receives_driven report turns = report.turns + (if nat_lt report.turns turns && not report.lost then 1 else 0)

-- The outcomes of commands that are sent over a network, one or those of lines.
use Rattle.std.specs.Prelude.{IfSome, Option, ◌≡◌, ◌⊎◌, ℕ, ℤ, ◌+◌, ◌-◌, ◌<◌, ◌≤◌, Bool, ◌||◌}
use Rattle.std.specs.Prelude.{true, false, Some, None, List, [], ◌∷◌, ◌++◌, length, codes, Result, Ok}
use Rattle.std.specs.Prelude.{Err, unwrap_or}
use Rattle.oca_types.specs.declared.words.Handle.{Handle}
use Rattle.oca_types.specs.declared.words.Peer.{Peer}
use Rattle.oca_types.specs.Peers.{RequestFields}
use Rattle.oca_net.specs.EndStates.{EndState}
use Rattle.oca_control.specs.declared.fault.ControlFault.{ControlFault}
use Rattle.oca_control.specs.declared.fault.ControlFault.TheVariants as faults
use Rattle.oca_control.specs.declared.outcome.Outcome.{Outcome}
use Rattle.oca_control.specs.declared.outcome.Outcome.TheVariants as outcomes
use Rattle.oca_control.specs.declared.report.DriveReport.{DriveReport}
use Rattle.oca_control.specs.Answers.{answer_fields}
use Rattle.oca_control.specs.Limits.{longest_life}
use Rattle.oca_control.specs.Links.{LinkState, late_at, new_link}
use Rattle.oca_control.specs.Turning.{Turns}
use Rattle.oca_control.specs.Asking.{Begins, Waits, IsPresent, refused_by}
use Rattle.oca_control.specs.Waiting.{ReceivesInAWait, WaitsWhile}
use Rattle.oca_control.specs.Untaken.{answer_under}
use Rattle.oca_script.specs.declared.fault.ReplayFault.{ReplayFault}
use Rattle.oca_script.specs.declared.fault.ReplayFault.TheVariants.{Write}
use Rattle.oca_script.specs.declared.fault.WriteFailed.{WriteFailed}
use Rattle.oca_script.specs.Ends.{Input, Output}
use Rattle.oca_script.specs.Printing.{WritesOut}
use Rattle.oca_script.specs.Replaying.{Replays, Outcome as ReadsLines}
use Rattle.oca_panel.specs.Panels.{PanelState, is_lost_or_unanswered}
use Rattle.oca_panel.specs.Renewals.{IsFoundLost, IsRenewed}
use Rattle.ocactl_cli.specs.Requests.{LineAsked, Send, Wait, asked_line}
use Rattle.ocactl_replay.specs.Printing.{answer_text, refusal_text}

-- the line that is printed
abbrev pub outcome_line : Outcome → List ℕ
outcome_line (outcomes.Answered a) = answer_text (answer_fields a)
outcome_line (outcomes.Refused fault) = refusal_text fault
outcome_line outcomes.Lost = codes "lost\n"
outcome_line outcomes.Unanswered = codes "no answer\n"

-- ---- commands of lines

-- A command of a line waits for so many milliseconds: as long as it takes, since the link is lost long before.
abbrev pub line_wait : ℕ
line_wait = 4294967295

-- The device and the span of each link that replaces one; the present link, what the end that it is driven over says of
-- itself, the handles of the commands in flight in the order of their lines, how many may be, and whether a command got
-- no answer so far; the end's descriptor, where it has one that is awaited beside input; whether a command was
-- submitted; and, where the next line was read, since when it is at hand.
pub record SessionState : Type 0 where
  pub device : Peer
  pub span : ℕ
  pub link : LinkState
  pub end_state : EndState
  pub in_flight : List ℕ
  pub ahead : ℕ
  pub unanswered : Bool
  pub socket : Option ℤ
  pub is_open : Bool
  pub at_hand : Option ℕ

-- no command is in flight
abbrev pub NoneInFlight : SessionState → Type 0
NoneInFlight s = length s.in_flight ≤ 0

-- Whether the link is lost, or late at the present moment of the end.
pub record IsFoundLostNow (s : SessionState) (found : Bool) : Type 0 where
  pub now : ℕ
  pub present : IsPresent now s.end_state
  pub lost : found ≡ (s.link.lost || late_at now s.link)

-- The first command in flight came out so: it was waited for, or that was known without a turn and without a look at
-- the end's moment.
pub record AwaitsFirst (old new : SessionState) (outcome : Outcome) : Type 0 where
  pub handle : ℕ
  pub first : old.in_flight ≡ handle ∷ new.in_flight
  pub waits : WaitsWhile handle line_wait old.link outcome new.link old.end_state new.end_state
      ⊎ Waits handle 0 old.link outcome new.link old.end_state new.end_state
  pub asks : ReceivesInAWait old.end_state.receives new.end_state.receives
  pub unanswered : new.unanswered ≡ (old.unanswered || is_lost_or_unanswered outcome)
  pub same : new ≡ record old {
    link = new.link;
    end_state = new.end_state;
    in_flight = new.in_flight;
    unanswered = new.unanswered;
  }

-- Commands in flight were waited for, one after another, while more than `left` were; how each came out is printed.
pub data Awaits (left : ℕ) : (old new : SessionState) (text : List ℕ) → Type 0 where
  NoneAwaited : {s : SessionState} → Awaits left s s []
  OneAwaited : {r s t : SessionState} {text : List ℕ} (outcome : Outcome) → Awaits left r s text
      → left < length s.in_flight →
      AwaitsFirst s t outcome → Awaits left r t (text ++ outcome_line outcome)

-- until at most so many are in flight
abbrev pub AwaitsUntil : ℕ → SessionState → SessionState → List ℕ → Type 0
AwaitsUntil left old new text = Awaits left old new text × (length new.in_flight ≤ left)

-- the answer of the first command in flight, where there is one, is not there, and the link is not lost
abbrev pub FirstIsOpen : LinkState → List ℕ → Type 0
FirstIsOpen l [] = Unit {0}
FirstIsOpen l (h ∷ hs) = (answer_under h l.untaken ≡ None) × (l.lost ≡ false)

-- a turn was taken
pub record TakesOne (old new : SessionState) : Type 0 where
  pub report : DriveReport
  pub turns : Turns old.link new.link old.end_state new.end_state report
  pub same : new ≡ record old { link = new.link; end_state = new.end_state }

-- WHILE INPUT IS AWAITED turns are taken, and it is printed how commands came out, in the order of their lines. A turn
-- is taken only where the first command in flight has not come out yet.
pub data Idles : (old new : SessionState) (text : List ℕ) → Type 0 where
  IdledNot : {s : SessionState} → Idles s s []
  OneTurned : {r s t : SessionState} {text : List ℕ} → Idles r s text → FirstIsOpen s.link s.in_flight → TakesOne s t
      → Idles r t text
  OnePrinted : {r s t : SessionState} {text : List ℕ} (outcome : Outcome) → Idles r s text → AwaitsFirst s t outcome
      → Idles r t (text ++ outcome_line outcome)

-- Before a read no line is at hand.
abbrev pub AwaitsLine : (old new : SessionState) (text : List ℕ) → Type 0
AwaitsLine old new text = Idles (record old { at_hand = None }) new text

-- ---- a line

-- A line is at hand since it was read, or since the line before it was submitted, whichever came last; the first one
-- that is served behind a read, since now.
abbrev pub since : (at_hand : Option ℕ) → (now : ℕ) → ℕ
since at_hand now = unwrap_or at_hand now

-- All but the end is as it was.
abbrev pub IsSameBeside : PanelState → PanelState → Type 0
IsSameBeside old new = new ≡ record old { end_state = new.end_state }

-- The panel is as it was. Or its link was lost or late, and a new one takes its place, whose handles go on behind those
-- of the old one.
abbrev pub RenewsPanel : (device : Peer) (span : ℕ) → PanelState → PanelState → Type 0
RenewsPanel device span old new =
    (new ≡ old) ⊎ ((first : ℕ) × IsFoundLost old true × (old.link.next ≡ Some first) × IsRenewed device first span old new)

-- The link was lost or late and no command was in flight, and a new one of the session's device and span takes its
-- place, whose handles go on behind those of the old one.
pub record RenewsLink (old : SessionState) (link : LinkState) : Type 0 where
  pub first : ℕ
  pub now : ℕ
  pub present : IsPresent now old.end_state
  pub none : NoneInFlight old
  pub lost : IsFoundLostNow old true
  pub behind : old.link.next ≡ Some first
  pub new : link ≡ new_link old.device first now old.span

-- The link is as it was, or a new one takes its place.
abbrev pub MayRenewLink : SessionState → LinkState → Type 0
MayRenewLink old link = (link ≡ old.link) ⊎ RenewsLink old link

pub record TakesUp (old new : SessionState) : Type 0 where
  pub now : ℕ
  pub present : IsPresent now old.end_state
  pub link : LinkState
  pub renews : MayRenewLink old link
  pub at_hand : new ≡ record old { link = link; at_hand = Some (since old.at_hand now) }

-- The command got this handle and was sent at once, and is in flight behind the others. Its line was not at hand for
-- longer than a command may take to leave.
pub record SubmitsCommand (request : RequestFields) (handle : Handle) (old new : SessionState) : Type 0 where
  pub begins : Begins request (Ok handle) old.link new.link old.end_state new.end_state
  pub now : ℕ
  pub present : IsPresent now old.end_state
  pub in_time : now ≤ since old.at_hand now + longest_life
  pub in_flight : new.in_flight ≡ old.in_flight ++ handle.0 ∷ []
  pub same : new ≡ record old {
    link = new.link;
    end_state = new.end_state;
    in_flight = new.in_flight;
    is_open = true;
    at_hand = Some now;
  }

-- The line was at hand for longer than that: its command counts as one of a link that is lost.
pub record ComesLate (fault : ControlFault) (s : SessionState) : Type 0 where
  pub now : ℕ
  pub present : IsPresent now s.end_state
  pub late : since s.at_hand now + longest_life < now
  pub counts : fault ≡ faults.Lost

-- The command was refused, which changes nothing: its line came late, or the link took none.
abbrev pub Refuses : RequestFields → ControlFault → SessionState → Type 0
Refuses request fault s = ComesLate fault s ⊎ Begins request (Err fault) s.link s.link s.end_state s.end_state

-- A command is submitted, and no more are waited for than need be, so that one more may be in flight. Where it is
-- refused all that are in flight are waited for first, and that is printed behind them.
abbrev pub SendsCommand : RequestFields → Result Handle ControlFault → SessionState → SessionState → List ℕ → Type 0
SendsCommand request (Ok handle) old new text =
    (s : SessionState) × SubmitsCommand request handle old s × AwaitsUntil (old.ahead - 1) s new text
SendsCommand request (Err fault) old new text =
    (s : SessionState) × (x : List ℕ) × Refuses request fault old × AwaitsUntil 0 old s x
    × (new ≡ record s { unanswered = true }) × (text ≡ x ++ outcome_line (refused_by fault))

-- what a line does that was taken up
abbrev pub DoesTakenUp : SessionState → LineAsked → SessionState → List ℕ → Type 0
DoesTakenUp old (Send request) new text =
    (s : SessionState) × (x : List ℕ) × (y : List ℕ) × (returned : Result Handle ControlFault)
    × AwaitsUntil (old.ahead - 1) old s x × SendsCommand request returned s new y × (text ≡ x ++ y)
DoesTakenUp old Wait new text = AwaitsUntil 0 old new text

-- WHAT A LINE DOES, from a session to the one after it, with the text that it prints.
abbrev pub DoesLine : SessionState → LineAsked → SessionState → List ℕ → Type 0
DoesLine old line new text = (s : SessionState) × TakesUp old s × DoesTakenUp s line new text

-- ---- all lines

-- how it all ended, where what was printed last was written, or a write failed
abbrev pub ended_by : Result Unit WriteFailed → Result Unit ReplayFault → Result Unit ReplayFault
ended_by (Ok u) ended = ended
ended_by (Err e) ended = Err Write

-- All that were still in flight were waited for, and their outcomes were written.
pub record Concludes (ended : Result Unit ReplayFault) (old new : SessionState) (was is : Output)
    (result : Result Unit ReplayFault) : Type 0 where
  pub text : List ℕ
  pub written : Result Unit WriteFailed
  pub awaits : AwaitsUntil 0 old new text
  pub writes : WritesOut written was is text
  pub ends : result ≡ ended_by written ended

-- a write failed
abbrev pub is_write_failure : Result Unit ReplayFault → Bool
is_write_failure (Err Write) = true
is_write_failure other = false

-- the same, unless a write had failed
abbrev pub FinishesUnless : (unwritten : Bool) → Result Unit ReplayFault → SessionState → SessionState → Output → Output
    → Result Unit ReplayFault → Type 0
FinishesUnless true ended old new was is result = (result ≡ ended) × (new ≡ old) × (is ≡ was)
FinishesUnless false ended old new was is result = Concludes ended old new was is result

-- THE LINES of a source were served one after another, between them it was idled while input was awaited, and then all
-- commands in flight were waited for. Where the bytes that the source had are known, these were its lines; whatever
-- source, there are bytes, those that it gave where it is known which, and the rest of what it had, of which they were.
pub record SendsLines (old new : SessionState) (was is : Output) (had has : Input)
    (result : Result Unit ReplayFault) : Type 0 where
  pub middle : SessionState
  pub between : Output
  pub ended : Result Unit ReplayFault
  pub known : IfSome had.remaining (λ given. Replays asked_line DoesLine AwaitsLine old middle was between ended given)
  pub reads : ReadsLines asked_line DoesLine AwaitsLine old middle was between had has ended
  pub finishes : FinishesUnless (is_write_failure ended) ended middle new between is result

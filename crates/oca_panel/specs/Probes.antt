-- Whether a device answers the commands of a port: how it is asked (AES70-3; that it is asked is the profile's).
use Rattle.std.specs.Prelude.{[], ◌+◌, ◌<◌, ◌≡◌, Bool, Err, None, Ok, Option, Result, Some, false, true, ℕ}
use Rattle.oca_panel.specs.Words.{ControlFault, DriveReport, EndState, Handle, IsPresent, LinkState, Outcome, Peer}
use Rattle.oca_panel.specs.Words.{RequestFields, Sends, Waits, new_link, submitted}
use Rattle.oca_pdu.specs.declared.message.Form.TheVariants.{Seconds}
use Rattle.oca_pdu.specs.Messages.{OneKeepAlive}
use Rattle.oca_pdu.specs.Encoding.{pdu_encoding}
use Rattle.oca_control.specs.declared.outcome.Outcome.TheVariants as outcomes
use Rattle.oca_control.specs.Driving.{SendsDue}
use Rattle.oca_panel.specs.Watching.{WatchState, found_by}
use Rattle.oca_panel.specs.declared.answering.Probed.{Probed}

-- THE QUESTION: GetClassIdentification (1.1) of the root block, object 100, without parameters.
abbrev pub question : RequestFields
question = record { target = 100; level = 1; index = 1; count = 0; params = [] }

abbrev pub handle_in : Result Handle ControlFault → Option Handle
handle_in (Ok handle) = Some handle
handle_in (Err fault) = None

-- an answer came
abbrev pub has_answer : Outcome → Bool
has_answer (outcomes.Answered a) = true
has_answer other = false

-- A keep-alive of five seconds was handed to the end for the device, which sent it or failed.
abbrev pub KeepsAlive : (sent : Bool) → Peer → EndState → EndState → Type 0
KeepsAlive sent device before after = Sends sent device (pdu_encoding (OneKeepAlive (Seconds 5))) before after

abbrev pub SendsKeepAlive : Peer → EndState → EndState → Type 0
SendsKeepAlive device before after = (sent : Bool) × KeepsAlive sent device before after

-- One round: a keep-alive was sent, and the answer waited for, five turns at most.
pub record AsksRound (device : Peer) (h : ℕ) (answered : Bool) (old new : LinkState)
    (before after : EndState) : Type 0 where
  pub between : EndState
  pub outcome : Outcome
  pub keeps : SendsKeepAlive device before between
  pub waits : Waits h 5 old outcome new between after
  pub answers : answered ≡ has_answer outcome

-- so many rounds, without an answer
pub data AsksInVain (device : Peer) (h : ℕ) : (rounds : ℕ) (old new : LinkState) (before after : EndState)
    → Type 0 where
  NoRound : {l : LinkState} {e : EndState} → AsksInVain device h 0 l l e e
  OneRound : {n : ℕ} {l m o : LinkState} {d e f : EndState} → AsksInVain device h n l m d e
      → AsksRound device h false m o e f → AsksInVain device h (n + 1) l o d f

-- four rounds without an answer, or fewer and one with it
abbrev pub AsksRounds : Peer → ℕ → Bool → LinkState → LinkState → EndState → EndState → Type 0
AsksRounds device h false old new before after = AsksInVain device h 4 old new before after
AsksRounds device h true old new before after =
    (n : ℕ) × (m : LinkState) × (e : EndState) × (n < 4) × AsksInVain device h n old m before e
    × AsksRound device h true m new e after

-- The question was submitted to a new link under this handle, at the end's present moment, and sent; and whether it was
-- answered.
pub record AsksQuestion (device : Peer) (first : ℕ) (answered : Bool) (before after : EndState) : Type 0 where
  pub now : ℕ
  pub present : IsPresent now before
  pub link : LinkState
  pub last : LinkState
  pub between : EndState
  pub report : DriveReport
  pub gives : SendsDue now 17 (submitted question now (new_link device first now 16)) link before between report
  pub rounds : AsksRounds device first answered link last between after

-- A DEVICE WAS ASKED whether it answers commands of a port, by a question that changes nothing and by keep-alives; and
-- this was found, by whether the question was answered and when the device was heard.
pub record Probes (device : Peer) (first : ℕ) (before : EndState) (asked : WatchState) (found : Probed) : Type 0 where
  pub answered : Bool
  pub asks : AsksQuestion device first answered before asked.end_state
  pub by : found ≡ found_by answered asked.heard

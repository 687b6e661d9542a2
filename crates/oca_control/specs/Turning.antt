-- What is sent in time, and a turn: a copy of a command is sent at most 15,000 ms after its submit, or never. Where the
-- link is late, nothing is sent, and it counts as lost.
use Rattle.std.specs.Prelude.{[], ◌+◌, ◌∷◌, ◌≡◌, ◌≤◌, ◌⊎◌, Bool, List, false, if◌then◌else◌, min, true, ℕ}
use Rattle.oca_control.specs.Words.{Datagram, DeliversAndTakes, Delivery, EndState, Failed, IsPresent, Quiet, Receives}
use Rattle.oca_control.specs.Words.{last_u64, one_more}
use Rattle.oca_net.specs.declared.end.Heard.TheVariants as heard
use Rattle.oca_control.specs.declared.report.DriveReport.{DriveReport}
use Rattle.oca_control.specs.Links.{LinkState, Decision, GivesNothing, IsLost, decision, late_at}
use Rattle.oca_control.specs.Driving.{HearsDelivery, SendsDue, decisions_from, link_from, all_given_to, drive_report_of}

-- What is sent where the link is late, and where it is not: nothing, which changes neither the link nor the end,
-- and is reported as lost; or all that is due.
abbrev pub GivesIf : Bool → ℕ → LinkState → LinkState → EndState → EndState → DriveReport → Type 0
GivesIf true now old new before after report =
    (new ≡ old) × (after ≡ before) × (report ≡ drive_report_of [] (IsLost ∷ []) 0 0)
GivesIf false now old new before after report = SendsDue now (old.span + 1) old new before after report

-- what is sent in time: by whether the link is late at the moment
abbrev pub SendsInTime : ℕ → LinkState → LinkState → EndState → EndState → DriveReport → Type 0
SendsInTime now old new before after report = GivesIf (late_at now old) now old new before after report

-- the same by what was decided, and the link after it
abbrev pub decisions_in_time : ℕ → LinkState → List Decision
decisions_in_time now l = if late_at now l then IsLost ∷ [] else decisions_from now (l.span + 1) l

abbrev pub link_in_time : ℕ → LinkState → LinkState
link_in_time now l = if late_at now l then l else link_from now (l.span + 1) l

abbrev pub GivesAllInTime : ℕ → LinkState → LinkState → List Decision → Type 0
GivesAllInTime now old new decisions = (decisions ≡ decisions_in_time now old) × (new ≡ link_in_time now old)

-- after a delivery: not after a failed receive
abbrev pub GivesAfter : Delivery → LinkState → LinkState → List Decision → Type 0
GivesAfter (Datagram from bytes now) old new decisions = GivesAllInTime now old new decisions
GivesAfter (Quiet now) old new decisions = GivesAllInTime now old new decisions
GivesAfter Failed old new decisions = (decisions ≡ []) × (new ≡ old)

-- What was delivered is heard, whether the link is late or not, and then what is due is sent in time.
pub record TurnsInTime (d : Delivery) (old new : LinkState) (decisions : List Decision) (answered : ℕ) : Type 0 where
  pub between : LinkState
  pub hears : HearsDelivery d old between answered
  pub gives : GivesAfter d between new decisions

-- A TURN OVER AN END: there is a delivery of which it is what was done and reported. Where the end tells, that is what
-- it delivered, and it took what was sent but for the failed sends.
pub record TurnsLinkOnce (old new : LinkState) (before after : EndState) (report : DriveReport) : Type 0 where
  pub delivery : Delivery
  pub decisions : List Decision
  pub answered : ℕ
  pub turns : TurnsInTime delivery old new decisions answered
  pub reported : report ≡ drive_report_of (delivery ∷ []) decisions answered report.failed_sends
  pub runs : DeliversAndTakes (delivery ∷ []) (all_given_to old.device decisions)
      report.failed_receives report.failed_sends before after
  pub receives : after.receives ≡ one_more before.receives

-- the end was closed, which is no turn and changes nothing of the link
pub record FindsClosed (old new : LinkState) (before after : EndState) (report : DriveReport) : Type 0 where
  pub link : new ≡ old
  pub received : Receives heard.Closed [] before after
  pub reported : report ≡ drive_report_of [] [] 0 0

-- a turn, or a closed end
abbrev pub Turns : LinkState → LinkState → EndState → EndState → DriveReport → Type 0
Turns old new before after report = TurnsLinkOnce old new before after report ⊎ FindsClosed old new before after report

-- ---- the wait of a turn

-- something is due at a moment
abbrev pub IsDueAt : LinkState → ℕ → Type 0
IsDueAt l t = (decision t l ≡ GivesNothing) → ⊥

-- A TURN THAT BEGINS NOW RECEIVES UNTIL THEN: for 50 ms at most, and no longer than until something is due; and less
-- than 50 ms only where something is due, or the clock ends.
pub record IsEndOfTurn (l : LinkState) (now until : ℕ) : Type 0 where
  pub most : until ≤ now + 50
  pub due : (t : ℕ) → l.moment ≤ t → IsDueAt l t → until ≤ t
  pub least : (until ≡ min (now + 50) last_u64) ⊎ IsDueAt l until

-- THE RECEIVE OF A TURN: at a present moment of the end it is asked to wait as a turn does, and this is what the end
-- then says of its wait until that moment.
pub record ReceivesInTurn (l : LinkState) (before : EndState) (waited : ℕ → Type 0) : Type 0 where
  pub now : ℕ
  pub until : ℕ
  pub present : IsPresent now before
  pub ends : IsEndOfTurn l now until
  pub waits : waited until

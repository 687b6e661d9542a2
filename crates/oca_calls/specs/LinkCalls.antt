-- What the calls of a link promise of what is behind a handle, and what they tell.
use Rattle.std.specs.Prelude.{◌≡◌, ◌⊎◌, ℕ, ◌≤◌, List, take, length, Option, Some, None, Result, Ok, Err}
use Rattle.oca_types.specs.declared.words.Handle.{Handle}
use Rattle.oca_control.specs.declared.fault.ControlFault.{ControlFault}
use Rattle.oca_control.specs.declared.due.Due.{Due}
use Rattle.oca_control.specs.declared.due.Due.TheVariants as dues
use Rattle.oca_control.specs.declared.reception.Reception.{Reception}
use Rattle.oca_control.specs.declared.reception.Reception.TheVariants as receptions
use Rattle.oca_control.specs.Answers.{AnswerFields}
use Rattle.oca_control.specs.Links.{LinkState, IsNextDue, NeverIsDue}
use Rattle.oca_calls.specs.LinkRooms.{RoomedLink}
use Rattle.oca_calls.specs.Numbers.{answer_number, submission_answer}

-- behind an open handle there is this link, with the rooms that it had
abbrev pub HoldsLink : Option RoomedLink → RoomedLink → LinkState → Type 0
HoldsLink behind b l = behind ≡ Some (record b { link = l })

-- a span
abbrev pub IsSpan : ℕ → Type 0
IsSpan span = (1 ≤ span) × (span ≤ 32)

-- A closed struct is opened: with this link and its rooms; or not, for want of memory, or where the span is none.
abbrev pub OpensLink : ℕ → Option RoomedLink → ℕ → RoomedLink → Type 0
OpensLink number new span l =
    ((number ≡ 0) × IsSpan span × (new ≡ Some l))
    ⊎ (((number ≡ 8) × IsSpan span × (new ≡ None)) ⊎ ((number ≡ 15) × (IsSpan span → ⊥) × (new ≡ None)))

-- these bytes lie at the front of a place, and this is their number
pub record LiesIn (bytes place : List ℕ) (number : ℕ) : Type 0 where
  pub counted : number ≡ length bytes
  pub front : take (length bytes) place ≡ bytes

-- the number that a submission is answered with, and the handle where it has one
abbrev pub WritesSubmission : ℕ → ℕ → Result Handle ControlFault → Type 0
WritesSubmission number handle (Ok h) = (number ≡ 0) × (handle ≡ h.0)
WritesSubmission number handle (Err fault) = number ≡ answer_number (submission_answer fault)

-- the number of what is due: 0 nothing, 1 a command with its handle, 2 a keep-alive, 3 the link is lost
abbrev pub due_kind : Due → ℕ
due_kind dues.Nothing = 0
due_kind (dues.Send handle) = 1
due_kind dues.KeepAlive = 2
due_kind dues.Lost = 3

abbrev pub due_handle : Due → ℕ
due_handle dues.Nothing = 0
due_handle (dues.Send handle) = handle.0
due_handle dues.KeepAlive = 0
due_handle dues.Lost = 0

-- the number of what a datagram was: 0 nothing new, 1 how many commands it answered, 2 a stranger's, 3 malformed
abbrev pub reception_kind : Reception → ℕ
reception_kind receptions.NothingNew = 0
reception_kind (receptions.Answered count) = 1
reception_kind receptions.Stranger = 2
reception_kind receptions.Malformed = 3

abbrev pub answered_count : Reception → ℕ
answered_count receptions.NothingNew = 0
answered_count (receptions.Answered count) = count
answered_count receptions.Stranger = 0
answered_count receptions.Malformed = 0

-- what is written of an answer that is taken: its status, its ParamCount and its parameters; or that there is none
abbrev pub WritesAnswer : ℕ → ℕ → ℕ → List ℕ → ℕ → Option AnswerFields → Type 0
WritesAnswer number status count place size None = number ≡ 13
WritesAnswer number status count place size (Some a) =
    (number ≡ 0) × (status ≡ a.status) × (count ≡ a.count) × LiesIn a.params place size

-- what is written of a number that may not be there
abbrev pub WritesNumber : ℕ → ℕ → Option ℕ → Type 0
WritesNumber number out None = number ≡ 13
WritesNumber number out (Some n) = (number ≡ 0) × (out ≡ n)

-- what is written of when something is due next: the moment; or that there is none within 64 bits
abbrev pub WritesNextDue : ℕ → ℕ → LinkState → Type 0
WritesNextDue number moment l = ((number ≡ 0) × IsNextDue l moment) ⊎ ((number ≡ 13) × NeverIsDue l)

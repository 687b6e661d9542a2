-- What a replay does to a link, and what it writes.
use Rattle.std.specs.Prelude.{◌≡◌, ℕ, List, Result}
use Rattle.oca_script.specs.declared.fault.WriteFailed.{WriteFailed}
use Rattle.oca_script.specs.Ends.{Output}
use Rattle.oca_script.specs.Printing.{Prints}
use Rattle.oca_control.specs.declared.reception.Reception.{Reception}
use Rattle.oca_control.specs.Links.{LinkState, submission, submitted, decision, due_answer, due_bytes, gone_on, taken}
use Rattle.oca_control.specs.Untaken.{answer_under}
use Rattle.oca_control.specs.Steps.{ReceivesDatagram}
use Rattle.ocactl_replay.specs.Requests.{LinkCall, Submit, Due, Datagram, Take}
use Rattle.ocactl_replay.specs.Printing.{submission_text, due_text, reception_text, taken_text}

-- From old the call leads to new, and prints the text: it is the call of the link, and the line of its answer.
abbrev pub ServesCall : LinkState → LinkCall → LinkState → List ℕ → Type 0
ServesCall old (Submit now request) new text =
    (new ≡ submitted request now old) × (text ≡ submission_text (submission request old))
ServesCall old (Due now) new text =
    (new ≡ gone_on now old) × (text ≡ due_text (due_answer (decision now old)) (due_bytes (decision now old)))
ServesCall old (Datagram now from bytes) new text =
    (answer : Reception) × ReceivesDatagram from bytes now old answer new × (text ≡ reception_text answer)
ServesCall old (Take handle) new text = (new ≡ taken handle old) × (text ≡ taken_text (answer_under handle old.untaken))

-- the call was served, and its text printed, as far as the writes went
pub record ServesCallAndPrints (old : LinkState) (call : LinkCall) (new : LinkState) (result : Result Unit WriteFailed)
    (was is : Output) : Type 0 where
  pub text : List ℕ
  pub serves : ServesCall old call new text
  pub prints : Prints result was is text

-- What the controller's program prints: a line for each call of a link.
use Rattle.std.specs.Prelude.{ℕ, List, ◌++◌, codes, decimal, Option, Some, None, Result, Ok, Err}
use Rattle.oca_types.specs.declared.words.Handle.{Handle}
use Rattle.oca_script.specs.Fields.{hex_text}
use Rattle.oca_control.specs.declared.fault.ControlFault.{ControlFault}
use Rattle.oca_control.specs.declared.fault.ControlFault.TheVariants as faults
use Rattle.oca_control.specs.declared.due.Due.{Due}
use Rattle.oca_control.specs.declared.due.Due.TheVariants as dues
use Rattle.oca_control.specs.declared.reception.Reception.{Reception}
use Rattle.oca_control.specs.declared.reception.Reception.TheVariants as receptions
use Rattle.oca_control.specs.Answers.{AnswerFields}

-- why a command is not submitted: the number of the fault, and a word
abbrev pub refusal_text : ControlFault → List ℕ
refusal_text faults.Lost = codes "refused 1 lost\n"
refusal_text faults.HandlesSpent = codes "refused 2 handles-spent\n"
refusal_text faults.SpanFull = codes "refused 3 span-full\n"
refusal_text faults.TooLong = codes "refused 4 too-long\n"

-- what became of a command that was to be submitted
abbrev pub submission_text : Result Handle ControlFault → List ℕ
submission_text (Ok h) = codes "handle " ++ decimal h.0 ++ codes "\n"
submission_text (Err fault) = refusal_text fault

-- what was sent, with its bytes
abbrev pub due_text : Due → List ℕ → List ℕ
due_text (dues.Send h) bytes = codes "send " ++ hex_text bytes ++ codes "\n"
due_text dues.KeepAlive bytes = codes "keep-alive " ++ hex_text bytes ++ codes "\n"
due_text dues.Nothing bytes = codes "nothing\n"
due_text dues.Lost bytes = codes "lost\n"

-- what became of a datagram
abbrev pub reception_text : Reception → List ℕ
reception_text (receptions.Answered k) = codes "answered " ++ decimal k ++ codes "\n"
reception_text receptions.Stranger = codes "stranger\n"
reception_text receptions.Malformed = codes "malformed\n"
reception_text receptions.NothingNew = codes "nothing new\n"

-- an answer: its status, ParamCount and parameters
abbrev pub answer_text : AnswerFields → List ℕ
answer_text a =
    codes "answer " ++ decimal a.status ++ codes " " ++ decimal a.count ++ codes " " ++ hex_text a.params ++ codes "\n"

-- the answer that is taken, where there is one
abbrev pub taken_text : Option AnswerFields → List ℕ
taken_text None = codes "none\n"
taken_text (Some a) = answer_text a

-- For private contracts: the text of the program's own lines.
use Rattle.std.specs.Prelude.{◌≤◌, ℕ, List, length, None}
use Rattle.oca_control.specs.Answers.{answer_fields}
use Rattle.ocactl_replay.specs.declared.line.Line.{Line}
use Rattle.ocactl_replay.specs.declared.line.Line.TheVariants as lines
use Rattle.ocactl_replay.specs.Printing.{submission_text, due_text, reception_text, answer_text, taken_text}

abbrev pub reply_line_text : Line → List ℕ
reply_line_text (lines.Submission r) = submission_text r
reply_line_text (lines.Due due bytes) = due_text due bytes.now
reply_line_text (lines.Reception r) = reception_text r
reply_line_text (lines.Answer a) = answer_text (answer_fields a.now)
reply_line_text lines.NoAnswer = taken_text None

-- the bytes that a line shows are those of a datagram
abbrev pub LineWithin : Line → Type 0
LineWithin (lines.Due due bytes) = length bytes.now ≤ 1472
LineWithin other = Unit {0}

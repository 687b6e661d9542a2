-- For private contracts: what is printed while commands are waited for, and what a line asks for as the program has it.
use Rattle.std.specs.Prelude.{◌≡◌, ◌<◌, ◌≤◌, ℕ, List, [], length, Option, Some, None, Result, Ok, Err, OnOk}
use Rattle.oca_types.specs.declared.words.Handle.{Handle}
use Rattle.oca_types.specs.Peers.{RequestFields, request_of}
use Rattle.oca_script.specs.declared.fault.LineFault.{LineFault}
use Rattle.oca_script.specs.declared.fault.WriteFailed.{WriteFailed}
use Rattle.oca_script.specs.Ends.{Output}
use Rattle.oca_script.specs.Printing.{Prints}
use Rattle.oca_control.specs.declared.fault.ControlFault.{ControlFault}
use Rattle.oca_control.specs.declared.outcome.Outcome.{Outcome}
use Rattle.ocactl_cli.specs.declared.commands.Instruction.{Instruction}
use Rattle.ocactl_cli.specs.declared.commands.Instruction.TheVariants as instructions
use Rattle.ocactl_cli.specs.Requests.{LineAsked, Send, Wait}
use Rattle.ocactl_cli.specs.Exchanges.{SessionState, AwaitsFirst, FirstIsOpen, SendsCommand, SubmitsCommand, Refuses}

-- The text is printed, unless a write failed before.
abbrev pub PrintsUnlessFailed : Result Unit WriteFailed → Result Unit WriteFailed → Output → Output → List ℕ → Type 0
PrintsUnlessFailed (Ok u) result was is text = Prints result was is text
PrintsUnlessFailed (Err e) result was is text = (result ≡ Err e) × (is ≡ was)

-- it was done with this text, which was printed as far as the writes went, unless one had failed before
pub record AndPrints (Does : List ℕ → Type 0) (written result : Result Unit WriteFailed) (was is : Output) : Type 0 where
  pub text : List ℕ
  pub does : Does text
  pub prints : PrintsUnlessFailed written result was is text

-- Where more were in flight than may be, what was printed is flushed, unless a write failed; else the output is as it
-- was.
pub record FlushesWhereAwaited (left : ℕ) (old : SessionState) (result : Result Unit WriteFailed) (was is : Output)
    : Type 0 where
  pub awaited : left < length old.in_flight → OnOk result (is.held ≡ [])
  pub none : length old.in_flight ≤ left → is ≡ was

-- how the first command in flight came out, where that is known without a turn
abbrev pub TakesFirst : Option Outcome → SessionState → SessionState → Type 0
TakesFirst None old new = (new ≡ old) × FirstIsOpen old.link old.in_flight
TakesFirst (Some outcome) old new = AwaitsFirst old new outcome

-- a command was submitted or refused
abbrev pub SendsOrRefuses : RequestFields → SessionState → SessionState → List ℕ → Type 0
SendsOrRefuses request old new text = (returned : Result Handle ControlFault) × SendsCommand request returned old new text

-- what a submission made of a session
abbrev pub Submitted : RequestFields → Result Handle ControlFault → SessionState → SessionState → Type 0
Submitted request (Ok handle) old new = SubmitsCommand request handle old new
Submitted request (Err fault) old new = (new ≡ old) × Refuses request fault old

abbrev pub line_in : Instruction → LineAsked
line_in (instructions.Send request) = Send (request_of request)
line_in instructions.Wait = Wait

abbrev pub line_asked : Result Instruction LineFault → Result LineAsked LineFault
line_asked (Ok a) = Ok (line_in a)
line_asked (Err f) = Err f

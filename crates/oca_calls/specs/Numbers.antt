-- The numbers of the answers, and what the faults of the calls behind them are answered with.
use Rattle.std.specs.Prelude.{ℕ}
use Rattle.oca_tree.specs.declared.builder.AddFault.{AddFault}
use Rattle.oca_tree.specs.declared.builder.AddFault.TheVariants as adds
use Rattle.oca_tree.specs.declared.start.StartFault.{StartFault}
use Rattle.oca_tree.specs.declared.start.StartFault.TheVariants as starts
use Rattle.oca_tree.specs.declared.front.FrontFault.{FrontFault}
use Rattle.oca_tree.specs.declared.front.FrontFault.TheVariants as fronts
use Rattle.oca_tree.specs.declared.setting.SetFault.{SetFault}
use Rattle.oca_tree.specs.declared.setting.SetFault.TheVariants as sets
use Rattle.oca_control.specs.declared.fault.ControlFault.{ControlFault}
use Rattle.oca_control.specs.declared.fault.ControlFault.TheVariants as controls
use Rattle.oca_calls.specs.declared.answer.Answer.{Answer}
use Rattle.oca_calls.specs.declared.answer.Answer.TheVariants as answers

abbrev pub answer_number : Answer → ℕ
answer_number answers.Done = 0
answer_number answers.Full = 1
answer_number answers.Reserved = 2
answer_number answers.Taken = 3
answer_number answers.NoSuchBlock = 4
answer_number answers.TooDeep = 5
answer_number answers.BadText = 6
answer_number answers.BadRange = 7
answer_number answers.NoMemory = 8
answer_number answers.Closed = 9
answer_number answers.Open = 10
answer_number answers.NotStarted = 11
answer_number answers.Started = 12
answer_number answers.Nothing = 13
answer_number answers.TooSmall = 14
answer_number answers.BadSize = 15
answer_number answers.NoObject = 16
answer_number answers.NoSetting = 17
answer_number answers.OtherKind = 18
answer_number answers.OutOfRange = 19
answer_number answers.Lost = 20
answer_number answers.HandlesSpent = 21
answer_number answers.SpanFull = 22
answer_number answers.TooLong = 23
answer_number answers.NoValue = 24

abbrev pub add_answer : AddFault → Answer
add_answer adds.Full = answers.Full
add_answer adds.Reserved = answers.Reserved
add_answer adds.Taken = answers.Taken
add_answer adds.NoSuchBlock = answers.NoSuchBlock
add_answer adds.TooDeep = answers.TooDeep
add_answer adds.BadText = answers.BadText
add_answer adds.BadRange = answers.BadRange
add_answer adds.NoMemory = answers.NoMemory

abbrev pub start_answer : StartFault → Answer
start_answer (starts.Add fault) = add_answer fault
start_answer starts.BadLabel = answers.BadText
start_answer starts.BadFlags = answers.BadRange

abbrev pub set_answer : SetFault → Answer
set_answer sets.NoObject = answers.NoObject
set_answer sets.NoSetting = answers.NoSetting
set_answer sets.OtherKind = answers.OtherKind
set_answer sets.OutOfRange = answers.OutOfRange

abbrev pub front_answer : FrontFault → Answer
front_answer fronts.NoObject = answers.NoObject
front_answer fronts.BadLabel = answers.BadText
front_answer fronts.NotLocked = answers.Nothing

abbrev pub submission_answer : ControlFault → Answer
submission_answer controls.Lost = answers.Lost
submission_answer controls.HandlesSpent = answers.HandlesSpent
submission_answer controls.SpanFull = answers.SpanFull
submission_answer controls.TooLong = answers.TooLong

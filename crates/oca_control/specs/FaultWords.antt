-- Why a command is not submitted, in words.
use Rattle.std.specs.Prelude.{List, codes, ℕ}
use Rattle.oca_control.specs.declared.fault.ControlFault.{ControlFault}
use Rattle.oca_control.specs.declared.fault.ControlFault.TheVariants.{Lost, HandlesSpent, SpanFull, TooLong}

abbrev pub control_fault_words : ControlFault → List ℕ
control_fault_words Lost = codes "the link is lost"
control_fault_words HandlesSpent = codes "no handle is left"
control_fault_words SpanFull = codes "the next handle is not below the lowest untaken one plus the span"
control_fault_words TooLong = codes "the parameters are too long"

use Rattle.std.proofs.Common.{◌≡◌, drop}
use Rattle.oca_script.specs.Fields.{value_after, at_most}
use Rattle.oca_script.proofs.field.number.Given as goal

abbrev pub invariant-loop-digit : goal.invariant-loop-digit
invariant-loop-digit l = at_most l.largest (value_after 0 l.digits) ≡ at_most l.largest (value_after l.value (drop l.digit-index l.digits))

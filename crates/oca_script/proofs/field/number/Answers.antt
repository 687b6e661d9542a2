use Rattle.std.proofs.Common.{arith}
use Rattle.oca_script.proofs.FieldLemmas.{number-too_large}
use Rattle.oca_script.proofs.field.number.Goals as goal

pub returns-then-value-add-clause-value : goal.returns-then-value-add-clause-value
returns-then-value-add-clause-value c = number-too_large c.args.most c.args.largest c.loop-digit.value c.loop-digit.digit-index c.args.digits.now (omega (arith, c.is_empty.ensures)) (omega arith) (omega arith) (omega arith) (omega arith) (omega arith) c.loop-digit.invariant

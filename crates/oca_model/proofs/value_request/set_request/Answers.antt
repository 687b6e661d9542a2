use Rattle.oca_model.proofs.Pairs.{has_set}
use Rattle.oca_model.proofs.value_request.set_request.Goals as goal

pub unreachable-requires : goal.unreachable-requires
unreachable-requires c = has_set c.args.value (rw (← c.class.ensures, ← c.set_method.ensures) c.in_default.ensures.only)

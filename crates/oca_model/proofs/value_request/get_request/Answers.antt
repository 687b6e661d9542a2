use Rattle.std.proofs.Common.{sym}
use Rattle.oca_model.proofs.Pairs.{has_get}
use Rattle.oca_model.proofs.value_request.get_request.Goals as goal

pub unreachable-requires : goal.unreachable-requires
unreachable-requires c = has_get c.args.class c.in_ok-get_method.field-0 (sym c.in_ok-get_method.ensures) c.in_default.ensures.only

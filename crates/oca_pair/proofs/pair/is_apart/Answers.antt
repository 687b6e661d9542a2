use Rattle.oca_pair.proofs.Words.{sym, ◌∙◌}
use Rattle.oca_pair.proofs.Runs.{apart_is}
use Rattle.oca_pair.proofs.pair.is_apart.Goals as goal

pub returns : goal.returns
returns c = apart_is c.args.peer c.args.later.now c.has_peer.result (sym c.is_device.ensures ∙ c.if-is_device.false) c.has_peer.ensures

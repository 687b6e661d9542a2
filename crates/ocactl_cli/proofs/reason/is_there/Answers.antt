use Rattle.std.proofs.Common.{refl}
use Rattle.ocactl_cli.proofs.ExchangeLemmas.{same_again}
use Rattle.ocactl_cli.proofs.reason.is_there.Goals as goal

pub loop-round-init : goal.loop-round-init
loop-round-init g c = refl

pub loop-round-preserved : goal.loop-round-preserved
loop-round-preserved g c = same_again _ _ _ _ _ c.loop-round.invariant c.call-heard.ensures.same

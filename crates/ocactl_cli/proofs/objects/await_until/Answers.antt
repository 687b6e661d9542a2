use Rattle.std.proofs.Common.{ap, arith, length}
use Rattle.ocactl_cli.proofs.objects.await_until.Goals as goal

pub loop-waiting-smaller : goal.loop-waiting-smaller
loop-waiting-smaller g c = let one = ap length c.in-Some.ensures.1 in omega (arith, one)

use Rattle.std.proofs.Common.{length}
use Rattle.ocactl_cli.proofs.objects.await_until.Given as goal

abbrev pub decreases-loop-waiting : goal.decreases-loop-waiting
decreases-loop-waiting g l = length l.waiting

use Rattle.ocactl_cli.specs.Exchanges.{IsSameBeside}
use Rattle.ocactl_cli.proofs.reason.is_there.Given as goal

abbrev pub invariant-loop-round : goal.invariant-loop-round
invariant-loop-round g l = IsSameBeside l.fn.panel l.panel

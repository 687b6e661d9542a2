use Rattle.std.proofs.Common.{Ok, length}
use Rattle.ocactl_cli.specs.Exchanges.{Idles}
use Rattle.ocactl_cli.specs.PrivateExchanges.{AndPrints}
use Rattle.ocactl_cli.proofs.commands.print_settled.Given as goal

abbrev pub invariant-loop-outcome : goal.invariant-loop-outcome
invariant-loop-outcome g l = AndPrints (Idles l.fn.session l.session) (Ok tt) l.so_far l.fn.printer l.printer

abbrev pub decreases-loop-outcome : goal.decreases-loop-outcome
decreases-loop-outcome g l = length l.session.in_flight

use Rattle.std.proofs.Common.{arith}
use Rattle.ocactl_cli.specs.Exchanges.{OnePrinted}
use Rattle.ocactl_cli.proofs.ExchangeLemmas.{and-flushed, and-then, fewer, idles-not}
use Rattle.ocactl_cli.proofs.commands.print_settled.Goals as goal

pub loop-outcome-init : goal.loop-outcome-init
loop-outcome-init g c = idles-not _ tt _

pub loop-outcome-preserved : goal.loop-outcome-preserved
loop-outcome-preserved g c =
    and-then _ c.loop-outcome.so_far _ _ c.loop-outcome.printer _ _ c.loop-outcome.invariant c.print_unless_failed-so_far.ensures
    (λ text does. OnePrinted c.in-Some.outcome does c.in-Some.ensures)

pub returns-clause-idles : goal.returns-clause-idles
returns-clause-idles g c =
    rw c.in_default.ensures.0 (and-flushed _ c.loop-outcome.so_far _ _ c.loop-outcome.printer _ c.loop-outcome.invariant c.flush_unless_failed.ensures.goes_on)

pub returns-clause-first : goal.returns-clause-first
returns-clause-first g c = rw c.in_default.ensures.0 c.in_default.ensures.1

pub loop-outcome-smaller : goal.loop-outcome-smaller
loop-outcome-smaller g c = let one = fewer _ _ _ c.in-Some.ensures in omega (arith, one)

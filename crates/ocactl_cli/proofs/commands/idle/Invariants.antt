use Rattle.std.proofs.Common.{◌≡◌, Ok}
use Rattle.oca_script.specs.Ends.{input}
use Rattle.ocactl_cli.specs.Exchanges.{Idles}
use Rattle.ocactl_cli.specs.PrivateExchanges.{AndPrints}
use Rattle.ocactl_cli.proofs.commands.idle.Given as goal

abbrev pub invariant-loop-turn : goal.invariant-loop-turn
invariant-loop-turn g l = record {
  idles : AndPrints (Idles l.fn.session l.session) (Ok tt) (Ok tt) l.fn.printer l.printer;
  source : input (g.R.Source.remaining l.reader) (g.R.Source.failed l.reader) ≡ input (g.R.Source.remaining l.fn.reader) (g.R.Source.failed l.fn.reader);
}

use Rattle.std.proofs.Common.{◌≡◌, ◌⊎◌, ◌<◌, ◌-◌, [], length}
use Rattle.std.specs.Prelude.{OnOk}
use Rattle.ocactl_cli.specs.Exchanges.{Awaits}
use Rattle.ocactl_cli.specs.PrivateExchanges.{AndPrints}
use Rattle.ocactl_cli.proofs.commands.await_until.Given as goal

abbrev pub invariant-loop-session : goal.invariant-loop-session
invariant-loop-session g l = record {
  awaits : AndPrints (Awaits l.left l.fn.session l.session) l.fn.written l.so_far l.fn.printer l.printer;
  flushed : ((length l.session.in_flight ≡ length l.fn.session.in_flight) × (l.printer ≡ l.fn.printer))
      ⊎ ((l.left < length l.fn.session.in_flight) × OnOk l.so_far (l.printer.held ≡ []));
}

abbrev pub decreases-loop-session : goal.decreases-loop-session
decreases-loop-session g l = length l.session.in_flight - l.left

use Rattle.std.proofs.Common.{arith, ap}
use Rattle.ocactl_cli.specs.PrivateExchanges.{line_in}
use Rattle.ocactl_cli.proofs.ExchangeLemmas.{does-line, serves-command}
use Rattle.ocactl_cli.proofs.commands.serve.Goals as goal

pub returns-in-Send : goal.returns-in-Send
returns-in-Send g c =
    does-line _ _ _ _ _ _ _ _ c.take_up.ensures (ap line_in c.in-Send.is)
    (serves-command _ c.left-left.result _ _ _ _ _ _ _ _ c.left-left.ensures.value c.await_until-written.ensures.awaits c.send.ensures)

pub returns-in-Wait : goal.returns-in-Wait
returns-in-Wait g c = does-line _ _ _ _ _ _ _ _ c.take_up.ensures (ap line_in c.in-Wait.is) c.await_until.ensures.awaits

pub send-requires : goal.send-requires
send-requires g c = let few = c.await_until-written.ensures.awaits.does.1 in omega (arith, few, c.left-left.ensures.most)

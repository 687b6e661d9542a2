use Rattle.oca_types.specs.Peers.{request_of}
use Rattle.ocactl_cli.proofs.ExchangeLemmas.{sends-one, sends-none}
use Rattle.ocactl_cli.proofs.commands.send.Goals as goal

pub returns-in-Ok : goal.returns-in-Ok
returns-in-Ok g c =
    sends-one (request_of c.args.request) c.submit.result _ c.left-left.result _ _ _ c.submit.new.self _ _ _ c.in-Ok.is c.submit.ensures c.left-left.ensures.value c.await_until.ensures.awaits

pub returns-in-Err : goal.returns-in-Err
returns-in-Err g c =
    sends-none (request_of c.args.request) c.submit.result c.in-Err.fault c.refused.result _ _ _ _ c.submit.new.self _ _ _ _ _ c.in-Err.is c.submit.ensures
    c.await_until-written.ensures.awaits c.refuse.ensures c.refused.ensures c.write_unless_failed.ensures.prints

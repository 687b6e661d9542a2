use Rattle.oca_pdu.specs.Messages.{response_with}
use Rattle.oca_pdu.proofs.Adding.{holds_one}
use Rattle.oca_core_tests.proofs.tests.pdu.extending.one_response.Goals as goal

pub returns-in-Ok : goal.returns-in-Ok
returns-in-Ok c = holds_one (response_with c.args.handle c.args.reply.now) c.new-packet.result.items c.write_response.new.packet.items c.new-packet.ensures c.in-Ok.ensures.ok

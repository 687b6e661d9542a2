use Rattle.oca_pdu.specs.Messages.{response_with}
use Rattle.oca_pdu.proofs.Adding.{holds_more}
use Rattle.oca_core_tests.proofs.tests.pdu.extending.one_more.Goals as goal

pub returns : goal.returns
returns c = holds_more c.extend_response.result _ c.args.packet.now c.extend_response.new.packet c.requires c.extend_response.ensures.ok c.extend_response.ensures.err

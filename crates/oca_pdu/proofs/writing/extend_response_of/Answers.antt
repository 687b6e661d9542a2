use Rattle.oca_pdu.proofs.Words.{arith, response_with}
use Rattle.std.proofs.lemmas.Grind.{common_steps}
use Rattle.oca_types.specs.Replies.{reply_in}
use Rattle.oca_pdu.proofs.Adding.{count_below, joins_responses}
use Rattle.oca_pdu.proofs.writing.extend_response_of.Goals as goal

pub raise_header-requires-clause-count : goal.raise_header-requires-clause-count
raise_header-requires-clause-count c = rw c.as_mut_slice.ensures.value (count_below c.args.packet.now.items c.requires.holds (omega (arith, c.len-room.ensures.fits, c.len-room.ensures.value)))

pub returns-clause-adds : goal.returns-clause-adds
returns-clause-adds c = λ rs was. joins_responses rs (response_with c.args.handle (reply_in c.args.reply)) c.args.packet.now.items c.put-2.new.packet.items c.response_head.ensures.fits was (grind (arith, common_steps)) (grind (arith, common_steps))

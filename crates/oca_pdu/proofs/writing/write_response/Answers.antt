use Rattle.oca_pdu.proofs.Words.{arith, ap, ◌∙◌, ◌≤◌, ◌++◌, ◌∷◌, [], List, ℕ, length, length-append, subst, Responses, response_with, pdu_encoding, ResponseFits}
use Rattle.oca_types.specs.Replies.{Reply}
use Rattle.oca_pdu.proofs.Adding.{adds_response, two_parts}
use Rattle.oca_pdu.proofs.writing.write_response.Goals as goal

pub returns-clause-ok : goal.returns-clause-ok
returns-clause-ok c = two_parts c.args.packet.now.items c.put.new.packet.items c.put-2.new.packet.items _ _ _ c.put.ensures c.put-2.ensures
    (c.response_front.ensures.bytes ∙ ap (λ (r : Reply). pdu_encoding (Responses (response_with c.args.handle r ∷ []))) c.parts-reply.ensures.parts)

pub returns-clause-adds : goal.returns-clause-adds
returns-clause-adds c =
    let is = two_parts c.args.packet.now.items c.put.new.packet.items c.put-2.new.packet.items _ _ _ c.put.ensures c.put-2.ensures
    (c.response_front.ensures.bytes ∙ ap (λ (r : Reply). pdu_encoding (Responses (response_with c.args.handle r ∷ []))) c.parts-reply.ensures.parts) in
    let short : length c.put-2.new.packet.items ≤ 1472 = omega (arith, ap length c.put-2.ensures, ap length c.put.ensures, length-append c.put.new.packet.items c.parts-reply.result.params.now, length-append c.args.packet.now.items c.response_front.result) in
    let fits = subst (λ (r : Reply). ResponseFits (response_with c.args.handle r)) c.parts-reply.ensures.parts c.response_front.ensures.fits in
    adds_response (response_with c.args.handle c.args.reply.now) c.args.packet.now.items c.put-2.new.packet.items fits is short

use Rattle.oca_control.proofs.Words.{rules, arith, map, ◌∙◌, sym, read_datagram, datagram_messages, messages_left, shortened_message}
use Rattle.oca_control.proofs.Messages.{content_read, has_content, datagram_short, no_content, received_messages, received_none, answer_of_content, link_of_content}
use Rattle.oca_control.proofs.Receiving.{heard_few}
use Rattle.oca_control.proofs.link.LinkOf.datagram.Goals as goal

pub returns-then-ne-clause-receives : goal.returns-then-ne-clause-receives
returns-then-ne-clause-receives g c = record {
  content = content_read (read_datagram c.args.bytes.now);
  holds = has_content c.args.bytes.now (λ i. omega (arith, c.type_inv.bytes i));
  answer_is = search rules;
  link_is = search rules;
}

pub returns-then-ne-clause-answer : goal.returns-then-ne-clause-answer
returns-then-ne-clause-answer g c = answer_of_content (λ i. omega (arith, c.type_inv.bytes i)) (returns-then-ne-clause-receives g c)

pub returns-then-ne-clause-link : goal.returns-then-ne-clause-link
returns-then-ne-clause-link g c = link_of_content (λ i. omega (arith, c.type_inv.bytes i)) (returns-then-ne-clause-receives g c)

pub hear_all-requires : goal.hear_all-requires
hear_all-requires g c =
    let found = c.in-Ok.ensures.found in
    (search rules, (search rules, datagram_short found.0 c.args.bytes.now _ found.1 (c.messages.ensures.all ∙ found.2)))

pub returns-in-Ok-clause-receives : goal.returns-in-Ok-clause-receives
returns-in-Ok-clause-receives g c =
    let found = c.in-Ok.ensures.found in
    received_messages (datagram_messages c.in-Ok.datagram) (found.0, found.1, sym found.2)
    (datagram_short found.0 c.args.bytes.now _ found.1 found.2) (search rules) (search rules)

pub returns-in-Ok-clause-answer : goal.returns-in-Ok-clause-answer
returns-in-Ok-clause-answer g c = answer_of_content (λ i. omega (arith, c.type_inv.bytes i)) (returns-in-Ok-clause-receives g c)

pub returns-in-Ok-clause-link : goal.returns-in-Ok-clause-link
returns-in-Ok-clause-link g c = link_of_content (λ i. omega (arith, c.type_inv.bytes i)) (returns-in-Ok-clause-receives g c)

pub returns-in-Err-clause-receives : goal.returns-in-Err-clause-receives
returns-in-Err-clause-receives g c = received_none (no_content c.args.bytes.now _ c.in-Err.ensures.reads) (search rules) (search rules)

pub returns-in-Err-clause-answer : goal.returns-in-Err-clause-answer
returns-in-Err-clause-answer g c = answer_of_content (λ i. omega (arith, c.type_inv.bytes i)) (returns-in-Err-clause-receives g c)

pub returns-in-Err-clause-link : goal.returns-in-Err-clause-link
returns-in-Err-clause-link g c = link_of_content (λ i. omega (arith, c.type_inv.bytes i)) (returns-in-Err-clause-receives g c)

pub invariant_of-self-in-Ok : goal.invariant_of-self-in-Ok
invariant_of-self-in-Ok g c = heard_few (map (shortened_message g.row.ANSWER) (messages_left c.messages.result)) _ c.self.inside.table c.hear_all.new.table c.hear_all.ensures.table c.self.invariant

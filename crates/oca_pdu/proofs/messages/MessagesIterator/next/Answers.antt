use Rattle.oca_pdu.proofs.Words.{arith, ◌≡◌, sym, ◌∙◌, length, eqb-true}
use Rattle.oca_pdu.proofs.Walking.{nothing_left}
use Rattle.oca_pdu.proofs.messages.MessagesIterator.next.Goals as goal

pub returns-then-is_empty-clause-steps : goal.returns-then-is_empty-clause-steps
returns-then-is_empty-clause-steps c =
    let none : c.args.self.now.left ≡ 0 = omega arith in
    let end : length c.args.self.now.rest.now ≡ 0 = eqb-true _ _ (sym c.is_empty.ensures ∙ c.if-is_empty.true) in
    let all = nothing_left c.args.self.now.kind c.args.self.now.left c.args.self.now.inside.now c.args.self.now.rest.now none end in
    (all, all)

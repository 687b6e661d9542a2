use Rattle.oca_control.proofs.Words.{rules, ◌≡◌, ◌+◌, ap, arith, msg_of, answers_by, shortened_message, TableState}
use Rattle.oca_control.proofs.Receiving.{hears_first, hears_further}
use Rattle.oca_control.proofs.link.hear_all.Goals as goal

pub hear-requires : goal.hear-requires
hear-requires g c = (search rules, hears_first g.row.ANSWER _ _ _ _ _ _ _ _ _ c.loop-message.invariant c.in-Some.ensures.steps)

pub loop-message-preserved : goal.loop-message-preserved
loop-message-preserved g c =
    let none : c.loop-message.answered ≡ c.loop-message.answered + answers_by (shortened_message g.row.ANSWER (msg_of c.in-Some.message)) c.loop-message.table.untaken = let n = c.if-hear.ensures.answered in omega arith in
    hears_further g.row.ANSWER (msg_of c.in-Some.message) _ _ _ c.loop-message.table.untaken _ c.hear.new.table.untaken c.loop-message.table.next c.hear.new.table.next c.loop-message.answered c.loop-message.answered _
    c.loop-message.invariant c.in-Some.ensures.steps (ap (λ (t : TableState). t.untaken) c.hear.ensures.table) (ap (λ (t : TableState). t.next) c.hear.ensures.table)
    none (omega arith)

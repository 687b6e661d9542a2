use Rattle.oca_control.proofs.Words.{◌∙◌, sym, arith, ◌<◌, length}
use Rattle.oca_control.proofs.Tables.{table_taken}
use Rattle.oca_control.proofs.Views.{answer_in_slot, answer_out, view_taken, not_taken}
use Rattle.oca_control.proofs.table.Table.take.Goals as goal

pub invariant_of-self : goal.invariant_of-self
invariant_of-self g c =
    let a = c.self.inside in
    let low = c.lowest_held-self-inside.ensures in
    let at = c.in-Some.ensures in
    rw at.2 (table_taken a.low a.next c.args.handle.0 c.lowest_held-self-inside.result a.slots c.take-answer.new.self c.self.invariant low.above low.below (rw at.2 at low.held))

pub returns-clause-answer : goal.returns-clause-answer
returns-clause-answer g c =
    let a = c.self.inside in
    rw (← c.self.view_is) (c.take-answer.ensures.answer ∙ answer_in_slot a.low a.next c.args.handle.0 c.in-Some.at a.slots c.index-self-at.result c.self.invariant c.in-Some.ensures)

pub returns-clause-state : goal.returns-clause-state
returns-clause-state g c =
    let a = c.self.inside in
    let at = c.in-Some.ensures in
    let inside : c.in-Some.at < length a.slots = let all = c.self.invariant.all in let place = at.2 in omega arith in
    rw (← c.self.view_is) (view_taken a.low a.next c.args.handle.0 c.in-Some.at c.lowest_held-self-inside.result a.slots c.index-self-at.result c.take-answer.new.self c.self.invariant at inside
    c.take-answer.ensures.slot c.lowest_held-self-inside.ensures.same)

pub returns-in_default-clause-answer : goal.returns-in_default-clause-answer
returns-in_default-clause-answer g c =
    let a = c.self.inside in
    rw (← c.self.view_is) (sym (answer_out a.low a.next c.args.handle.0 a.slots c.in_default.ensures))

pub returns-in_default-clause-state : goal.returns-in_default-clause-state
returns-in_default-clause-state g c =
    let a = c.self.inside in
    rw (← c.self.view_is) (not_taken a.next c.args.handle.0 _ (answer_out a.low a.next c.args.handle.0 a.slots c.in_default.ensures))

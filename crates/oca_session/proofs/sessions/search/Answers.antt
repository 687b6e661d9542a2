use Rattle.std.proofs.Common.{sym, ◌∙◌, ap}
use Rattle.oca_session.specs.Table.{is_of}
use Rattle.oca_session.proofs.Tables.{placed_first, placed_nowhere, one_more_not}
use Rattle.oca_session.proofs.sessions.search.Goals as goal

pub loop-at-preserved : goal.loop-at-preserved
loop-at-preserved g c = one_more_not c.args.peer c.args.slots.now c.loop-at.at c.index-slots-at.result c.loop-at-test.true c.loop-at.invariant
    (ap (is_of c.args.peer) (sym c.index-slots-at.is) ∙ sym c.is_of.ensures ∙ c.if-is_of.false)

pub returns-then-is_of : goal.returns-then-is_of
returns-then-is_of g c = sym (placed_first c.args.peer c.args.slots.now c.loop-at.at c.index-slots-at.result c.loop-at-test.true (c.loop-at.invariant c.index-slots-at.result)
    (ap (is_of c.args.peer) (sym c.index-slots-at.is) ∙ sym c.is_of.ensures ∙ c.if-is_of.true))

pub returns : goal.returns
returns g c = sym (placed_nowhere c.args.peer c.args.slots.now c.loop-at.at c.loop-at-test.false c.loop-at.invariant)

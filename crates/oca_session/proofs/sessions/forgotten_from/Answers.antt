use Rattle.std.proofs.Common.{◌+◌, sym, ap, ◌∙◌, take}
use Rattle.std.specs.Prelude.{not, ◌||◌}
use Rattle.oca_session.specs.Table.{stays}
use Rattle.oca_session.specs.Lapses.{forgets}
use Rattle.oca_types.proofs.MomentTests.{same_test}
use Rattle.oca_session.proofs.Lapses.{forgets_more}
use Rattle.oca_session.proofs.sessions.forgotten_from.Goals as goal

pub loop-slot-preserved : goal.loop-slot-preserved
loop-slot-preserved g c =
    let ss = c.args.slots.now in
    let i = c.loop-slot.slot-index in
    let x = c.slot-item.result in
    same_test (λ t. forgets (take i ss) t || not (stays t x)) (forgets (take (i + 1) ss)) c.sooner-first.result
    (λ t. forgets_more ss i x c.loop-slot-test.true t ∙ ap (λ s. forgets (take i ss) t || not (stays t s)) (sym c.slot-item.is))
    (c.sooner-first.ensures (forgets (take i ss)) (λ t. not (stays t x)) c.loop-slot.invariant c.forgotten_from.ensures)

use Rattle.std.proofs.Common.{◌<◌, length, arith, sym, ◌∙◌}
use Rattle.std.proofs.lemmas.Grind.{elements}
use Rattle.std.proofs.lemmas.List.Filters.{FiltersInPlace-more_swap, FiltersInPlace-more_no}
use Rattle.oca_session.proofs.sessions.forget.Goals as goal
use Rattle.oca_session.proofs.sessions.forget.Goals.{then-stays, else-stays}

pub loop-i-preserved : goal.loop-i-preserved
loop-i-preserved g c =
    let inv = c.loop-i.invariant in
    let within : c.loop-i.i < length c.loop-i.slots.items = omega (arith, inv.filters.long, c.args.slots.now.ok, c.requires) in
    elim c.if-stays.branch [
      | then-stays w ↦ rw (w.slots-is, w.kept-is) (record {
        filters = FiltersInPlace-more_swap inv.filters within (sym c.stays.ensures ∙ w.if-stays.true) c.index.ensures w.swap.ensures.by_index;
        sound = λ n h. let all = inv.sound n h in grind (arith, elements, all);
      })
      | else-stays w ↦ rw (w.slots-is, w.kept-is) (record {
        filters = FiltersInPlace-more_no inv.filters within (sym c.stays.ensures ∙ w.if-stays.false) c.index.ensures;
        sound = inv.sound;
      })
    ]

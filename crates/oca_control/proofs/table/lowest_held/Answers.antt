use Rattle.oca_control.proofs.Words.{◌≡◌, ◌∙◌, ap, sym, arith, true, false, held_at}
use Rattle.std.specs.Prelude.{is_some}
use Rattle.oca_control.proofs.Places.{slot_read, not_held, done}
use Rattle.oca_control.proofs.table.lowest_held.Goals as goal

pub returns-then-is_held-clause-held : goal.returns-then-is_held-clause-held
returns-then-is_held-clause-held g c =
    let h = c.loop-handle.handle in
    let read = slot_read h c.place.result c.args.slots.now c.index-slots-place.result c.type_inv.slots c.place.ensures.value in
    let held : is_some (held_at h c.args.slots.now) ≡ true = ap is_some read ∙ sym c.is_held.ensures ∙ c.if-is_held.true in
    λ below none. let e = ap is_some none in cc

pub loop-handle-preserved : goal.loop-handle-preserved
loop-handle-preserved g c =
    let h = c.loop-handle.handle in
    let read = slot_read h c.place.result c.args.slots.now c.index-slots-place.result c.type_inv.slots c.place.ensures.value in
    let not_so : is_some (held_at h c.args.slots.now) ≡ false = ap is_some read ∙ sym c.is_held.ensures ∙ c.if-is_held.false in
    sym (not_held h c.args.next c.args.slots.now (omega arith) not_so) ∙ c.loop-handle.invariant

pub returns-clause-same : goal.returns-clause-same
returns-clause-same g c =
    let h = c.loop-handle.handle in
    done c.args.next c.args.next c.args.slots.now (omega arith) ∙ sym (done h c.args.next c.args.slots.now c.loop-handle-test.false) ∙ c.loop-handle.invariant

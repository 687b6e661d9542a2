use Rattle.oca_control.proofs.Words.{◌≡◌, ◌∙◌, ap, sym, arith, true, false, held_is_due, held_at}
use Rattle.oca_control.proofs.Places.{slot_read, due_here, not_due, none_due}
use Rattle.oca_control.proofs.table.lowest_due.Goals as goal

pub returns-then-is_due : goal.returns-then-is_due
returns-then-is_due g c =
    let h = c.loop-handle.handle in
    let read = slot_read h c.place.result c.args.slots.now c.index-slots-place.result c.type_inv.slots c.place.ensures.value in
    let due : held_is_due c.args.now (held_at h c.args.slots.now) ≡ true = ap (held_is_due c.args.now) read ∙ sym c.is_due.ensures ∙ c.if-is_due.true in
    (omega arith, omega arith, due, sym c.loop-handle.invariant ∙ due_here c.args.now h c.args.next c.args.slots.now (omega arith) due)

pub loop-handle-preserved : goal.loop-handle-preserved
loop-handle-preserved g c =
    let h = c.loop-handle.handle in
    let read = slot_read h c.place.result c.args.slots.now c.index-slots-place.result c.type_inv.slots c.place.ensures.value in
    let not_so : held_is_due c.args.now (held_at h c.args.slots.now) ≡ false = ap (held_is_due c.args.now) read ∙ sym c.is_due.ensures ∙ c.if-is_due.false in
    sym (not_due c.args.now h c.args.next c.args.slots.now (omega arith) not_so) ∙ c.loop-handle.invariant

pub returns : goal.returns
returns g c = sym c.loop-handle.invariant ∙ none_due c.args.now c.loop-handle.handle c.args.next c.args.slots.now c.loop-handle-test.false

use Rattle.oca_control.proofs.Words.{◌≡◌, ◌∙◌, ap, sym, arith, true, false, held_is_late, held_at}
use Rattle.oca_control.proofs.Places.{slot_read}
use Rattle.oca_control.proofs.DueTimes.{late_here, not_late, none_late}
use Rattle.oca_control.proofs.table.some_late.Goals as goal

pub returns-then-is_late : goal.returns-then-is_late
returns-then-is_late g c =
    let h = c.loop-handle.handle in
    let read = slot_read h c.place.result c.args.slots.now c.index-slots-place.result c.type_inv.slots c.place.ensures.value in
    let so : held_is_late c.args.now (held_at h c.args.slots.now) ≡ true = ap (held_is_late c.args.now) read ∙ sym c.is_late.ensures ∙ c.if-is_late.true in
    sym (late_here c.args.now h c.args.next c.args.slots.now (omega arith) so) ∙ c.loop-handle.invariant

pub loop-handle-preserved : goal.loop-handle-preserved
loop-handle-preserved g c =
    let h = c.loop-handle.handle in
    let read = slot_read h c.place.result c.args.slots.now c.index-slots-place.result c.type_inv.slots c.place.ensures.value in
    let not_so : held_is_late c.args.now (held_at h c.args.slots.now) ≡ false = ap (held_is_late c.args.now) read ∙ sym c.is_late.ensures ∙ c.if-is_late.false in
    sym (not_late c.args.now h c.args.next c.args.slots.now (omega arith) not_so) ∙ c.loop-handle.invariant

pub returns : goal.returns
returns g c = sym (none_late c.args.now c.loop-handle.handle c.args.next c.args.slots.now c.loop-handle-test.false) ∙ c.loop-handle.invariant

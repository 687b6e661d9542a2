use Rattle.oca_control.proofs.Words.{◌≡◌, ◌∙◌, ap, sym, arith, true, false, held_answer, held_at}
use Rattle.std.specs.Prelude.{is_some}
use Rattle.oca_control.proofs.Places.{slot_read}
use Rattle.oca_control.proofs.DueTimes.{answered_here, not_answered, none_answered}
use Rattle.oca_control.proofs.table.lowest_answered.Goals as goal

pub returns-then-is_answered-clause-value : goal.returns-then-is_answered-clause-value
returns-then-is_answered-clause-value g c =
    let h = c.loop-handle.handle in
    let read = slot_read h c.place.result c.args.slots.now c.index-slots-place.result c.type_inv.slots c.place.ensures.value in
    let so : is_some (held_answer (held_at h c.args.slots.now)) ≡ true = ap (λ o. is_some (held_answer o)) read ∙ sym c.is_answered.ensures ∙ c.if-is_answered.true in
    sym (answered_here h c.args.next c.args.slots.now (omega arith) so) ∙ c.loop-handle.invariant

pub loop-handle-preserved : goal.loop-handle-preserved
loop-handle-preserved g c =
    let h = c.loop-handle.handle in
    let read = slot_read h c.place.result c.args.slots.now c.index-slots-place.result c.type_inv.slots c.place.ensures.value in
    let not_so : is_some (held_answer (held_at h c.args.slots.now)) ≡ false = ap (λ o. is_some (held_answer o)) read ∙ sym c.is_answered.ensures ∙ c.if-is_answered.false in
    sym (not_answered h c.args.next c.args.slots.now (omega arith) not_so) ∙ c.loop-handle.invariant

pub returns-clause-value : goal.returns-clause-value
returns-clause-value g c = sym (none_answered c.loop-handle.handle c.args.next c.args.slots.now c.loop-handle-test.false) ∙ c.loop-handle.invariant

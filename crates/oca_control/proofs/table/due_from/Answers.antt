use Rattle.oca_control.proofs.Words.{◌≡◌, ◌-◌, arith, subst, ℕ, HoldsFrom, some_due}
use Rattle.oca_control.specs.PrivateSlots.{untaken_from}
use Rattle.oca_control.proofs.Places.{slot_read}
use Rattle.oca_control.proofs.DueTimes.{none_from, from_more}
use Rattle.oca_control.proofs.table.due_from.Goals as goal

pub loop-handle-init : goal.loop-handle-init
loop-handle-init g c = none_from c.args.low c.args.slots.now

pub loop-handle-preserved : goal.loop-handle-preserved
loop-handle-preserved g c =
    let h = c.loop-handle.handle in
    let read = slot_read h c.place.result c.args.slots.now c.index-slots-place.result c.type_inv.slots c.place.ensures.value in
    from_more c.args.low h c.args.slots.now _ c.sooner-first.result (omega arith) read (c.sooner-first.ensures _ _ c.loop-handle.invariant c.due_from.ensures)

pub returns : goal.returns
returns g c =
    let e : c.loop-handle.handle ≡ c.args.next = let t = c.loop-handle-test.false in let f = c.loop-handle.auto.handle-end in omega arith in
    subst (λ (h : ℕ). HoldsFrom (some_due (untaken_from c.args.low (h - c.args.low) c.args.slots.now)) c.loop-handle.first) e c.loop-handle.invariant

use Rattle.oca_device.proofs.Words.{ℕ, ap, ◌∙◌, arith, ArrayVec}
use Rattle.oca_device.proofs.Keepings.{held_next, room_next}
use Rattle.oca_device.proofs.keeping.Keeping.hold.Goals as goal

pub loop-packet-preserved : goal.loop-packet-preserved
loop-packet-preserved c =
    let inv = c.loop-packet.invariant in
    record {
      held = held_next c.args.to c.loop-packet.packet-index c.packets-packet-items.result.now c.packet-item.result _ _ _ _ c.loop-packet-test.true
          (ap (λ (p : ArrayVec ℕ). p.items) c.packet-item.is) inv.held c.push.ensures.held;
      behind = c.push.ensures.behind ∙ inv.behind;
      room = room_next _ _ _ _ c.loop-packet.packet-index c.push.ensures.held inv.room;
      inside = omega (arith, c.loop-packet-test.true);
    }

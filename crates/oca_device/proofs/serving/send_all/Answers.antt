use Rattle.oca_device.proofs.Words.{◌≡◌, ℕ, ◌+◌, Bool, cond, ap, ◌∙◌, sym, arith, ArrayVec}
use Rattle.oca_net.proofs.Sending.{sends_none}
use Rattle.oca_device.proofs.Turns.{packet_sent, all_sent}
use Rattle.oca_device.proofs.serving.send_all.Goals as goal
use Rattle.oca_device.proofs.serving.send_all.Goals.{then-not-send, else-not-send}

pub loop-packet-init : goal.loop-packet-init
loop-packet-init g c = record { sends = sends_none (g.E.End.state c.args.end.now); few = omega arith; inside = omega arith }

pub loop-packet-preserved : goal.loop-packet-preserved
loop-packet-preserved g c =
    let inv = c.loop-packet.invariant in
    let xs = c.packets-packet-items.result.now in
    let item = c.packet-item.result in
    let bytes = c.as_slice.ensures.value ∙ ap (λ (p : ArrayVec ℕ). p.items) c.packet-item.is in
    record {
      sends = elim c.if-not-send.branch [
        | then-not-send w ↦
            packet_sent c.args.to c.loop-packet.packet-index c.loop-packet.failed _ xs item c.as_slice.result.now c.loop-packet-test.true bytes inv.sends c.send.ensures
            (w.failed-is ∙ ap (λ (b : Bool). c.loop-packet.failed + cond b 0 1) (sym w.if-not-send.true))
        | else-not-send w ↦
            packet_sent c.args.to c.loop-packet.packet-index c.loop-packet.failed _ xs item c.as_slice.result.now c.loop-packet-test.true bytes inv.sends c.send.ensures
            (w.failed-is ∙ plus_none c.loop-packet.failed ∙ ap (λ (b : Bool). c.loop-packet.failed + cond b 0 1) (sym w.if-not-send.false))
      ];
      few = elim c.if-not-send.branch [ then-not-send w ↦ omega (arith, inv.few) | else-not-send w ↦ omega (arith, inv.few) ];
      inside = omega (arith, c.loop-packet-test.true);
    }
  where
    plus_none : (n : ℕ) → n ≡ n + 0
    plus_none n = omega arith

pub returns : goal.returns
returns g c =
    let inv = c.loop-packet.invariant in
    record {
      sends = all_sent c.args.to _ c.loop-packet.packet-index c.packets-packet-items.result.now _ (omega (arith, c.loop-packet-test.false)) c.packets-packet-items.ensures.packets inv.sends;
      few = omega (arith, c.packets-packet-items.ensures.most, inv.few, inv.inside);
    }

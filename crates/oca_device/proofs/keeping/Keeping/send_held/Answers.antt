use Rattle.oca_device.proofs.Words.{◌≡◌, ℕ, ◌+◌, Bool, cond, ap, ◌∙◌, sym, arith, HeldPacket}
use Rattle.oca_net.proofs.Sending.{sends_none}
use Rattle.oca_device.proofs.Keepings.{held_further}
use Rattle.oca_device.proofs.keeping.Keeping.send_held.Goals as goal
use Rattle.oca_device.proofs.keeping.Keeping.send_held.Goals.{then-not-send, else-not-send}

pub loop-answer-init : goal.loop-answer-init
loop-answer-init g c = record { sends = sends_none (g.E.End.state c.args.end.now); few = omega arith; inside = omega arith }

pub loop-answer-preserved : goal.loop-answer-preserved
loop-answer-preserved g c =
    let inv = c.loop-answer.invariant in
    let to = ap (λ (x : HeldPacket). x.to) c.answer-item.is in
    let bytes = c.as_slice.ensures.value ∙ ap (λ (x : HeldPacket). x.packet.items) c.answer-item.is in
    record {
      sends = elim c.if-not-send.branch [
        | then-not-send w ↦
            held_further c.loop-answer.answer-index c.loop-answer.failed _ _ c.answer-item.result _ _ c.loop-answer-test.true inv.sends c.send.ensures to bytes
            (w.failed-is ∙ ap (λ (b : Bool). c.loop-answer.failed + cond b 0 1) (sym w.if-not-send.true))
        | else-not-send w ↦
            held_further c.loop-answer.answer-index c.loop-answer.failed _ _ c.answer-item.result _ _ c.loop-answer-test.true inv.sends c.send.ensures to bytes
            (w.failed-is ∙ plus_none c.loop-answer.failed ∙ ap (λ (b : Bool). c.loop-answer.failed + cond b 0 1) (sym w.if-not-send.false))
      ];
      few = elim c.if-not-send.branch [ then-not-send w ↦ omega (arith, inv.few) | else-not-send w ↦ omega (arith, inv.few) ];
      inside = omega (arith, c.loop-answer-test.true);
    }
  where
    plus_none : (n : ℕ) → n ≡ n + 0
    plus_none n = omega arith

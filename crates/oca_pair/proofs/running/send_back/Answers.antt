use Rattle.oca_pair.proofs.Words.{◌<◌, ℕ, List, [], ◌∷◌, ◌++◌, length, ap, ◌∙◌, arith, SentDatagram}
use Rattle.oca_pair.proofs.Runs.{sent_next, missing_at}
use Rattle.oca_pair.proofs.running.send_back.Goals as goal
use Rattle.oca_pair.proofs.running.send_back.Goals.{in-Some+in_ok-add-in-Some, in-None}

pub loop-i-preserved : goal.loop-i-preserved
loop-i-preserved c =
    let within : c.loop-i.i < length c.args.outbox.now = omega (arith, c.len-i-end.ensures.len) in
    elim c.match-get.branch [
      | in-Some+in_ok-add-in-Some w ↦ rw w.to_links-is (sent_next c.args.peer c.args.outbox.now c.loop-i.i w.in-Some.packet.now.items c.args.to_links.now.items c.loop-i.to_links.items w.add.new.list.items
          w.in-Some.ensures c.loop-i.invariant
          (w.in_ok-add-in-Some.ensures ∙ ap (λ (s : SentDatagram). c.loop-i.to_links.items ++ s ∷ [])
          (w.new.ensures ∙ ap (λ (b : List ℕ). let x : SentDatagram = record { peer = c.args.peer; bytes = b } in x) w.as_slice.ensures.value)))
      | in-None w ↦ absurd (missing_at c.args.outbox.now c.loop-i.i within w.in-None.ensures)
    ]

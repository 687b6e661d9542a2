use Rattle.oca_device.proofs.Words.{◌++◌, cond, [], List, refl, ap, ◌∙◌, Sent, Report, sent_to}
use Rattle.oca_device.proofs.Turns.{verdict_one}
use Rattle.oca_device.proofs.Keepings.{datagram_in}
use Rattle.oca_device.proofs.keeping.take_datagram.Goals as goal

pub returns : goal.returns
returns g c = record {
  turn = record {
    taken = λ start h.
        datagram_in _ c.as_slice.result.now c.datagram-verdict.result c.of_verdict-report.result refl c.of_verdict-report.ensures c.as_slice.ensures.fits c.as_slice.ensures.value h
        c.datagram-verdict.ensures.represents c.datagram-verdict.ensures.packets c.datagram-verdict.ensures.verdict c.send_or_hold-failed_sends.ensures.sends
        c.tree.ensures.tree c.written.ensures.written c.follow.ensures c.has_written-wrote.ensures c.note-waits.ensures.waits
        (c.send_or_hold-failed_sends.ensures.behind ∙ c.note-waits.ensures.behind)
        (c.send_or_hold-failed_sends.ensures.held ∙ ap (λ (xs : List Sent). xs ++ cond c.note-waits.result (sent_to c.args.from c.datagram-verdict.new.outbox) []) c.note-waits.ensures.held);
    one = ap (λ (m : Report). m.turns) c.of_verdict-report.ensures ∙ (verdict_one c.datagram-verdict.result).0;
  };
  receives = c.send_or_hold-failed_sends.ensures.sends.receives;
}

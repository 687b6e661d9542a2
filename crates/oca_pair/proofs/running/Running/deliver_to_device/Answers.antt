use Rattle.oca_pair.proofs.Words.{◌≡◌, length, Some, refl, arith, slice_get, slice_get_read}
use Rattle.oca_pair.proofs.Runs.{took_to_device}
use Rattle.oca_pair.proofs.running.Running.deliver_to_device.Goals as goal

pub returns-in-Ok : goal.returns-in-Ok
returns-in-Ok c = λ n h.
    let sent = c.args.self.now.to_device.items in
    let d = c.index-sent.result.now in
    let at : slice_get sent c.args.k ≡ Some d = slice_get_read sent (length sent) c.args.k d refl (omega (arith, c.args.self.now.to_device.ok)) c.index-sent.ensures in
    took_to_device c.args.self.now _ n c.args.k c.args.now d c.peer-peer.result c.bytes.result.now c.datagram-verdict.result c.datagram-verdict.new.outbox h at c.peer-peer.ensures c.bytes.ensures
    c.datagram-verdict.ensures.represents c.datagram-verdict.ensures.packets c.datagram-verdict.ensures.verdict refl refl c.in-Ok.ensures

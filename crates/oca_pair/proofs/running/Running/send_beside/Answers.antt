use Rattle.oca_pair.proofs.Words.{◌≡◌, length, Some, refl, arith, slice_get, slice_get_read}
use Rattle.oca_pair.proofs.Runs.{took_beside}
use Rattle.oca_pair.proofs.running.Running.send_beside.Goals as goal

pub returns-in-Ok : goal.returns-in-Ok
returns-in-Ok c = λ n now h.
    let links = c.args.self.now.links.items in
    let l = c.index.result.now in
    let at : slice_get links c.args.link ≡ Some l = slice_get_read links (length links) c.args.link l refl (omega (arith, c.args.self.now.links.ok)) c.index.ensures in
    let count : c.len-number.result ≡ length c.args.self.now.to_device.items = omega (arith, c.len-number.ensures, c.args.self.now.to_device.ok) in
    took_beside c.args.self.now _ n c.args.link now l c.len-number.result c.peer-peer.result c.keep_alive.result.items h at count c.peer-peer.ensures c.keep_alive.ensures refl refl c.in-Ok.ensures refl

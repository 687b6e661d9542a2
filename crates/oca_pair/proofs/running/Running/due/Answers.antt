use Rattle.oca_pair.proofs.Words.{◌≡◌, length, Some, refl, ap, arith, slice_get, slice_set, slice_get_read, PeerLink}
use Rattle.oca_pair.proofs.Runs.{took_sent, took_nothing, took_lost}
use Rattle.oca_pair.proofs.running.Running.due.Goals as goal

pub returns-in-Ok : goal.returns-in-Ok
returns-in-Ok c = λ n h.
    let links = c.args.self.now.links.items in
    let l = c.index_mut-place.result.now in
    let at : slice_get links c.args.link ≡ Some l = slice_get_read links (length links) c.args.link l refl (omega (arith, c.args.self.now.links.ok)) c.index_mut-place.ensures.value in
    let count : c.len-number.result ≡ length c.args.self.now.to_device.items = omega (arith, c.len-number.ensures, c.args.self.now.to_device.ok) in
    took_sent c.args.self.now _ n c.args.link c.args.now l c.len-number.result c.peer-peer.result c.in-Datagram.packet.items h at count c.peer-peer.ensures c.in-Datagram.ensures.answer refl refl c.in-Ok.ensures
    (ap (λ (x : PeerLink). slice_set links c.args.link x) c.due.ensures.link)

pub returns-in-Nothing : goal.returns-in-Nothing
returns-in-Nothing c = λ n h.
    let links = c.args.self.now.links.items in
    let l = c.index_mut-place.result.now in
    let at : slice_get links c.args.link ≡ Some l = slice_get_read links (length links) c.args.link l refl (omega (arith, c.args.self.now.links.ok)) c.index_mut-place.ensures.value in
    took_nothing c.args.self.now _ n c.args.link c.args.now l h at c.in-Nothing.ensures.answer (record { device = refl; to_device = refl; to_links = refl })
    (ap (λ (x : PeerLink). slice_set links c.args.link x) c.due.ensures.link)

pub returns-in-Lost : goal.returns-in-Lost
returns-in-Lost c = λ n h.
    let links = c.args.self.now.links.items in
    let l = c.index_mut-place.result.now in
    let at : slice_get links c.args.link ≡ Some l = slice_get_read links (length links) c.args.link l refl (omega (arith, c.args.self.now.links.ok)) c.index_mut-place.ensures.value in
    took_lost c.args.self.now _ n c.args.link c.args.now l h at c.in-Lost.ensures.answer (record { device = refl; to_device = refl; to_links = refl })
    (ap (λ (x : PeerLink). slice_set links c.args.link x) c.due.ensures.link)

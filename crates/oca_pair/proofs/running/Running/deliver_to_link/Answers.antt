use Rattle.oca_pair.proofs.Words.{◌≡◌, length, Some, refl, arith, slice_get, slice_get_read}
use Rattle.oca_pair.proofs.Runs.{took_to_link, no_deaf}
use Rattle.oca_pair.proofs.running.Running.deliver_to_link.Goals as goal

pub returns-in-Some : goal.returns-in-Some
returns-in-Some c = λ n h.
    let sent = c.args.self.now.to_links.items in
    let d = c.index-sent.result.now in
    let at : slice_get sent c.args.k ≡ Some d = slice_get_read sent (length sent) c.args.k d refl (omega (arith, c.args.self.now.to_links.ok)) c.index-sent.ensures in
    took_to_link c.args.self.now _ n c.args.k c.args.now d c.peer.result c.bytes.result.now c.in-Some.reception h at c.peer.ensures c.bytes.ensures
    (c.in-Some.ensures.answer, c.in-Some.ensures.links) (record { device = refl; to_device = refl; to_links = refl })

pub returns-in-None : goal.returns-in-None
returns-in-None c = λ n h.
    let sent = c.args.self.now.to_links.items in
    let d = c.index-sent.result.now in
    let at : slice_get sent c.args.k ≡ Some d = slice_get_read sent (length sent) c.args.k d refl (omega (arith, c.args.self.now.to_links.ok)) c.index-sent.ensures in
    absurd (no_deaf c.args.self.now n c.args.k d c.peer.result c.bytes.result.now h at c.peer.ensures c.bytes.ensures c.in-None.ensures.answer)

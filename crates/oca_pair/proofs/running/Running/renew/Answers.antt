use Rattle.oca_pair.proofs.Words.{◌≡◌, length, Some, refl, ap, arith, slice_get, slice_set, slice_get_read, span_size, PeerLink}
use Rattle.oca_pair.proofs.Runs.{took_renew}
use Rattle.oca_pair.proofs.running.Running.renew.Goals as goal

pub returns : goal.returns
returns c = λ n h.
    let links = c.args.self.now.links.items in
    let l = c.index_mut-place.result.now in
    let at : slice_get links c.args.link ≡ Some l = slice_get_read links (length links) c.args.link l refl (omega (arith, c.args.self.now.links.ok)) c.index_mut-place.ensures.value in
    took_renew c.args.self.now _ n c.args.link c.args.first.0 (span_size c.args.span) c.args.now l c.renew.result h at (record { device = refl; to_device = refl; to_links = refl })
    c.renew.ensures.answer (ap (λ (x : PeerLink). slice_set links c.args.link x) c.renew.ensures.link)

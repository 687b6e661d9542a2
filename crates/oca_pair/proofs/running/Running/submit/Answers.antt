use Rattle.oca_pair.proofs.Words.{◌≡◌, length, Some, refl, ap, arith, slice_get, slice_set, slice_get_read, Request, PeerLink}
use Rattle.oca_pair.proofs.Runs.{took_submit}
use Rattle.oca_pair.proofs.running.Running.submit.Goals as goal

pub returns : goal.returns
returns c = λ n h.
    let links = c.args.self.now.links.items in
    let l = c.index_mut-place.result.now in
    let at : slice_get links c.args.link ≡ Some l = slice_get_read links (length links) c.args.link l refl (omega (arith, c.args.self.now.links.ok)) c.index_mut-place.ensures.value in
    let r : Request = record { target = c.args.target.0; level = c.args.method.level; index = c.args.method.index; count = c.args.count; params = c.args.params.now } in
    took_submit c.args.self.now _ n c.args.link r c.args.now l c.submit.result h at (record { device = refl; to_device = refl; to_links = refl })
    c.submit.ensures.answer (ap (λ (x : PeerLink). slice_set links c.args.link x) c.submit.ensures.link)

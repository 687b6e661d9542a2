use Rattle.oca_device.proofs.Words.{ap, ◌∙◌, max, released_all, lapsed_at}
use Rattle.oca_device.proofs.Opened.{parts_in}
use Rattle.oca_device.proofs.Steps.{clock_moved}
use Rattle.oca_device.proofs.device.DeviceOf.move_clock.Goals as goal

pub returns-clause-moved : goal.returns-clause-moved
returns-clause-moved g c = λ w s h.
    let tree = c.self.inside.tree in
    let old = c.self.inside.sessions in
    let was = parts_in tree old c.args.self.now w s c.self.view_is h in
    let moved = clock_moved g.row.ANSWER w c.args.now s old c.advance_into.new.self c.advance_into.new.peers.items was.sessions c.advance_into.ensures.lapsed c.advance_into.ensures.staying in
    record {
      tree = c.release_all.ensures
          ∙ ap (λ ps. released_all ps tree) (c.as_slice.ensures.value ∙ moved.0)
          ∙ ap (released_all (lapsed_at (max s.moment c.args.now) s)) was.tree;
      sessions = moved.1;
    }

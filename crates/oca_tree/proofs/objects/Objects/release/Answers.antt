use Rattle.oca_tree.proofs.Words.{sym, ap, ◌∙◌, arith, values, places, containers}
use Rattle.oca_tree.specs.Locks.{released}
use Rattle.oca_tree.proofs.Sound.{shapes, released_shapes, released_places}
use Rattle.oca_tree.proofs.Totals.{lengths_kept}
use Rattle.oca_tree.proofs.objects.Objects.release.Goals as goal

pub invariant_of-self : goal.invariant_of-self
unfolding released
invariant_of-self c = (
  c.release_all.ensures.map,
  record {
    objects = omega (arith, c.self.invariant.1.objects, c.release_all.ensures.spare, c.release_all.ensures.len);
    containers = c.self.invariant.1.containers;
    both = c.self.invariant.1.both ∙ sym c.release_all.ensures.len;
  },
  c.self.invariant.2 ∙ ap containers (sym (ap places c.release_all.ensures.objects ∙ released_places c.args.peer (values c.self.inside.map))),
  record {
    objects = omega (arith, c.self.invariant.3.objects, c.release_all.ensures.spare, c.release_all.ensures.len);
    containers = c.self.invariant.3.containers;
    both = c.self.invariant.3.both ∙ sym c.release_all.ensures.len;
  },
  c.self.invariant.4 ∙ sym (lengths_kept _ _ (ap shapes c.release_all.ensures.objects ∙ released_shapes c.args.peer (values c.self.inside.map))),
)

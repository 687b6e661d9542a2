use Rattle.std.proofs.Common.{get_or, sym, ◌∙◌, arith}
use Rattle.oca_tree.proofs.Containers.{container_below, lies_nowhere}
use Rattle.oca_tree.proofs.Listing.{decided, passed_on}
use Rattle.oca_tree.proofs.answer.lies_in.Goals as goal

pub returns-in_default : goal.returns-in_default
returns-in_default c = λ d.
    let tree = c.args.objects.now.list in
    sym (lies_nowhere tree c.requires.tree c.loop.current d c.loop.invariant.within (get_or tree c.args.place d).ono.0 c.in_default.ensures) ∙ c.loop.invariant.same d

pub returns-then-container-place : goal.returns-then-container-place
returns-then-container-place c = λ d.
    sym (decided c.args.objects.now.list c.requires.tree c.args.place c.requires.block c.loop.current d c.loop.invariant.within c.in-Some.container c.in-Some.ensures (omega arith))
    ∙ c.loop.invariant.same d

pub loop-preserved : goal.loop-preserved
loop-preserved c =
    let below = container_below c.args.objects.now.list c.requires.tree c.loop.current c.loop.invariant.within c.in-Some.container c.in-Some.ensures in
    record {
      within = omega (arith, below);
      same = λ d.
          sym (passed_on c.args.objects.now.list c.requires.tree c.args.place c.requires.block c.loop.current d c.loop.invariant.within c.in-Some.container c.in-Some.ensures (omega arith))
          ∙ c.loop.invariant.same d;
      earlier = omega (arith, below, c.loop.invariant.earlier);
    }

use Rattle.std.proofs.Common.{arith}
use Rattle.oca_tree.proofs.Containers.{container_below, depth_root, depth_above}
use Rattle.oca_tree.proofs.place.depth.Goals as goal

pub returns-in_default : goal.returns-in_default
returns-in_default c = λ d.
    let root = depth_root c.args.objects.now.list c.requires.tree c.loop.current d c.loop.invariant.within c.in_default.ensures in
    let steps = c.loop.invariant.steps d in
    omega (arith, root, steps)

pub loop-preserved : goal.loop-preserved
loop-preserved c =
    let below = container_below c.args.objects.now.list c.requires.tree c.loop.current c.loop.invariant.within c.in-Some.container c.in-Some.ensures in
    record {
      within = omega (arith, below);
      steps = λ d.
          let above = depth_above c.args.objects.now.list c.requires.tree c.loop.current d c.loop.invariant.within c.in-Some.container c.in-Some.ensures in
          let steps = c.loop.invariant.steps d in
          omega (arith, above, steps);
      earlier = omega (arith, below, c.loop.invariant.earlier);
      few = omega (arith, c.loop.invariant.few);
    }

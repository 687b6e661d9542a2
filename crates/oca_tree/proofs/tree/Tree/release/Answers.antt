use Rattle.std.proofs.Common.{◌≡◌, sym, arith}
use Rattle.oca_tree.specs.Locks.{released, lock_count}
use Rattle.oca_tree.proofs.Locking.{nothing_locked}
use Rattle.oca_tree.proofs.Sound.{released_tree}
use Rattle.oca_tree.proofs.TypesKept.{released_good}
use Rattle.oca_tree.proofs.tree.Tree.release.Goals as goal

pub invariant_of-self : goal.invariant_of-self
unfolding released
invariant_of-self c =
    let good = released_good c.self.inside.objects.list c.args.peer (record { tree = c.self.invariant.0; typed = c.self.invariant.2 }) in
    (released_tree c.args.peer c.self.inside.objects.list c.release.new.self.list c.release.ensures.objects c.self.invariant.0, c.release.ensures.count, rw c.release.ensures.objects good.typed)

pub returns-else-self-gt0 : goal.returns-else-self-gt0
unfolding released
returns-else-self-gt0 c =
    let none : lock_count c.self.inside.objects.list ≡ 0 = omega (arith, c.self.invariant.1) in
    rw (← c.self.view_is) (sym (nothing_locked c.args.peer c.self.inside.objects.list none))

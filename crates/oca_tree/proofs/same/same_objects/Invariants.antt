use Rattle.oca_tree.proofs.Words.{◌≡◌, length, map, unlocked}
use Rattle.oca_tree.proofs.same.same_objects.Given as goal

abbrev pub invariant-loop-first : goal.invariant-loop-first
invariant-loop-first l = map unlocked l.left ≡ map unlocked l.right → map unlocked l.a ≡ map unlocked l.b

abbrev pub decreases-loop-first : goal.decreases-loop-first
decreases-loop-first l = length l.left

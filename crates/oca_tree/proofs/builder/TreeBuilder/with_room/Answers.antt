use Rattle.oca_tree.specs.Trees.{IsSoundValue}
use Rattle.oca_tree.proofs.builder.TreeBuilder.with_room.Goals as goal

pub holding-requires-clause-sound : goal.holding-requires-clause-sound
unfolding IsSoundValue
holding-requires-clause-sound c = rw c.root_object.ensures.root (record { value = tt; lock = tt })

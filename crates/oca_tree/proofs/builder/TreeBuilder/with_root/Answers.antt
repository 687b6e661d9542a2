use Rattle.oca_tree.specs.Trees.{IsSoundValue}
use Rattle.oca_tree.proofs.Starting.{restored_typed}
use Rattle.oca_tree.proofs.builder.TreeBuilder.with_root.Goals as goal

pub restore-requires : goal.restore-requires
unfolding IsSoundValue
restore-requires c = rw c.root_object-restored.ensures.root tt

pub holding-requires-clause-typed : goal.holding-requires-clause-typed
holding-requires-clause-typed c =
    let put = c.in_ok-restore.ensures in
    restored_typed c.args.start.now c.root_object-restored.result c.restore.new.object put.1 put.3 c.root_object-restored.ensures.typed

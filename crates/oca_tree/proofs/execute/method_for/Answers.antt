use Rattle.oca_tree.proofs.Words.{sym, ap, ◌∙◌, Known}
use Rattle.oca_tree.specs.Objects.{class_of}
use Rattle.oca_tree.specs.Locks.{lock_refuses}
use Rattle.oca_tree.proofs.Executing.{known_access}
use Rattle.oca_tree.proofs.execute.method_for.Goals as goal

pub returns-else-is_locked_for : goal.returns-else-is_locked_for
returns-else-is_locked_for c =
    let known = rw c.class.ensures at (sym c.in-Known.ensures) in
    let reached = known_access (class_of c.args.object.now.value) _ c.in-Known.method c.in-Known.access known in (
      known ∙ ap (Known c.in-Known.method) reached,
      ap (lock_refuses c.args.object.now.lock c.args.peer) (sym reached) ∙ sym c.if-is_locked_for.ensures,
    )

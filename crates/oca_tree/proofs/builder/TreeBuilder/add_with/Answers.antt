use Rattle.oca_tree.proofs.Words.{ap, ◌∙◌, arith, All-push, Store, place_of, IsOfItsTypes}
use Rattle.oca_tree.proofs.Starting.{restored_place, restored_sound, restored_typed, replaced_tree}
use Rattle.oca_tree.proofs.builder.TreeBuilder.add_with.Goals as goal

pub push-requires-clause-tree : goal.push-requires-clause-tree
push-requires-clause-tree c =
    let o = c.in_ok-restored.restored in
    let new = c.restore.new.object in
    let made = c.in_ok-restored.ensures.makes in
    let put = c.in_ok-restore.ensures in
    let sound = restored_sound c.args.start.now o new put.1 put.2 (rw made.1 tt) in
    replaced_tree c.self.inside.objects.list o new (ap place_of put.1 ∙ restored_place c.args.start.now o) sound c.self.invariant.0 made.2

pub invariant_of-self : goal.invariant_of-self
invariant_of-self c =
    let list = ap (λ (h : Store). h.list) c.push.ensures in
    let room = ap (λ (h : Store). h.room) c.push.ensures in
    let put = c.in_ok-restore.ensures in
    let typed = restored_typed c.args.start.now c.in_ok-restored.restored c.restore.new.object put.1 put.3 c.in_ok-restored.ensures.typed in (
      rw list (push-requires-clause-tree c.before),
      omega (arith, room, c.self.invariant.1),
      rw list (All-push IsOfItsTypes c.self.inside.objects.list c.restore.new.object c.self.invariant.2 typed),
    )

use Rattle.oca_tree.proofs.Words.{ap, arith, All-push, Store, IsOfItsTypes}
use Rattle.oca_tree.proofs.builder.TreeBuilder.add.Goals as goal

pub invariant_of-self : goal.invariant_of-self
invariant_of-self c =
    let list = ap (λ (h : Store). h.list) c.push.ensures in
    let room = ap (λ (h : Store). h.room) c.push.ensures in
    let o = c.in_ok-object.object in (
      rw list c.in_ok-object.ensures.makes.2,
      omega (arith, room, c.self.invariant.1),
      rw list (All-push IsOfItsTypes c.self.inside.objects.list o c.self.invariant.2 c.in_ok-object.ensures.typed),
    )

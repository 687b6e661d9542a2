use Rattle.oca_tree.proofs.Words.{[], ◌∷◌, ◌++◌, refl, ◌∙◌, ap, arith, Store, All-push, IsOfItsTypes}
use Rattle.std.proofs.lemmas.List.Elements.{All-nil}
use Rattle.oca_tree.proofs.Adding.{alone_tree}
use Rattle.oca_tree.proofs.builder.TreeBuilder.holding.Goals as goal

pub push-requires-clause-tree : goal.push-requires-clause-tree
push-requires-clause-tree c =
    let none = ap (λ (h : Store). h.list) c.in-Ok.ensures in
    alone_tree c.in-Ok.objects.list (c.in-Ok.objects.list ++ c.args.object ∷ []) c.args.object none refl c.requires.place c.requires.sound

pub invariant_of-result : goal.invariant_of-result
invariant_of-result c =
    let none = ap (λ (h : Store). h.list) c.in-Ok.ensures in
    let more = ap (λ (h : Store). h.list) c.push.ensures in
    let room = ap (λ (h : Store). h.room) c.push.ensures ∙ ap (λ (h : Store). h.room) c.in-Ok.ensures in (
      alone_tree c.in-Ok.objects.list c.push.new.self.list _ none more c.requires.place c.requires.sound,
      omega (arith, room, c.get.ensures.most),
      rw (more, none) (All-push IsOfItsTypes [] c.args.object (All-nil IsOfItsTypes) c.requires.typed),
    )

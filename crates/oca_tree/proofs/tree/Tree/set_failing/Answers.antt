use Rattle.oca_tree.proofs.Words.{sym, ap, ◌∙◌, set, ToFailing}
use Rattle.oca_model.specs.declared.request.Request.TheVariants as asked
use Rattle.oca_tree.proofs.LocalChanges.{no_object, not_told, object_there, stands_there, fault_there, told, told_there}
use Rattle.oca_tree.proofs.TypesKept.{change_good}
use Rattle.oca_tree.proofs.tree.Tree.set_failing.Goals as goal

pub returns-in_default-clause-tree : goal.returns-in_default-clause-tree
returns-in_default-clause-tree c =
    rw (← c.self.view_is) (sym (not_told c.self.inside.objects.list c.args.ono.0 c.args.failing c.in_default.ensures.absent))

pub returns-in_default-clause-fault : goal.returns-in_default-clause-fault
returns-in_default-clause-fault c =
    rw (← c.self.view_is) (sym (no_object c.self.inside.objects.list c.args.ono.0 (asked.SetEnabled c.args.failing) c.in_default.ensures.absent))

pub invariant_of-self-2 : goal.invariant_of-self-2
invariant_of-self-2 c =
    let tree = c.self.inside.objects.list in
    let here = stands_there tree c.args.ono.0 c.in-Some.at c.in-Some.ensures.index in
    let new = c.fail_at.ensures.objects (object_there tree c.in-Some.at)
    ∙ ap (λ o. set tree c.in-Some.at (told o c.args.failing)) (sym here)
    ∙ sym (told_there tree c.args.ono.0 c.in-Some.at (object_there tree c.in-Some.at) c.in-Some.ensures.index here c.args.failing) in
    let good = change_good tree c.args.ono.0 (ToFailing c.args.failing) (record { tree = c.self.invariant.0; typed = c.self.invariant.2 }) in
    (rw new good.tree, c.index_from.ensures.locks ∙ c.self.invariant.1 ∙ sym c.fail_at.ensures.count, rw new good.typed)

pub returns-clause-tree : goal.returns-clause-tree
returns-clause-tree c =
    let tree = c.self.inside.objects.list in
    let here = stands_there tree c.args.ono.0 c.in-Some.at c.in-Some.ensures.index in
    rw (← c.self.view_is) (c.fail_at.ensures.objects (object_there tree c.in-Some.at)
    ∙ ap (λ o. set tree c.in-Some.at (told o c.args.failing)) (sym here)
    ∙ sym (told_there tree c.args.ono.0 c.in-Some.at (object_there tree c.in-Some.at) c.in-Some.ensures.index here c.args.failing))

pub returns-clause-fault : goal.returns-clause-fault
returns-clause-fault c =
    let tree = c.self.inside.objects.list in
    let here = stands_there tree c.args.ono.0 c.in-Some.at c.in-Some.ensures.index in
    rw (← c.self.view_is) (sym (fault_there tree c.args.ono.0 c.in-Some.at (object_there tree c.in-Some.at) c.in-Some.ensures.index here (asked.SetEnabled c.args.failing)))

use Rattle.oca_tree.proofs.Words.{sym, ap, ◌∙◌, set, err_from_is_err_and, Object, front}
use Rattle.oca_model.specs.HeldRequests.{asked_by}
use Rattle.oca_model.specs.declared.request.Request.TheVariants as asks
use Rattle.oca_tree.specs.Typed.{changed_by}
use Rattle.oca_tree.proofs.Fronts.{fault_none, unset, fault_there, range_there, set_there}
use Rattle.oca_tree.proofs.TypesKept.{set_good}
use Rattle.oca_tree.proofs.tree.Tree.set.Goals as goal

pub returns-in_default-clause-tree : goal.returns-in_default-clause-tree
returns-in_default-clause-tree c =
    let tree = c.self.inside.objects.list in
    rw (← c.self.view_is) (sym (unset tree c.args.ono.0 c.args.value _ (fault_none tree c.args.ono.0 c.args.value c.in_default.ensures.absent)))

pub returns-in_default-clause-fault : goal.returns-in_default-clause-fault
returns-in_default-clause-fault c =
    rw (← c.self.view_is) (sym (fault_none c.self.inside.objects.list c.args.ono.0 c.args.value c.in_default.ensures.absent))

pub returns-in_err-check_setting-clause-tree : goal.returns-in_err-check_setting-clause-tree
returns-in_err-check_setting-clause-tree c =
    let tree = c.self.inside.objects.list in
    let there = fault_there tree c.args.ono.0 c.in-Some.at c.object_at.result.now c.in-Some.ensures.index c.object_at.ensures c.args.value in
    rw (← c.self.view_is) (sym (unset tree c.args.ono.0 c.args.value _ (there ∙ sym c.in_err-check_setting.ensures)))

pub returns-in_err-check_setting-clause-fault : goal.returns-in_err-check_setting-clause-fault
returns-in_err-check_setting-clause-fault c =
    let p = err_from_is_err_and c.from_residual.result c.from_residual.ensures.1 in
    let there = fault_there c.self.inside.objects.list c.args.ono.0 c.in-Some.at c.object_at.result.now c.in-Some.ensures.index c.object_at.ensures c.args.value in
    rw (← c.self.view_is) (rw (p.1, p.2) (sym (there ∙ sym c.in_err-check_setting.ensures)))

pub change_at-requires-clause-range : goal.change_at-requires-clause-range
unfolding asked_by
change_at-requires-clause-range c = λ d.
    range_there c.self.inside.objects.list c.args.ono.0 c.in-Some.at c.object_at.result.now c.in-Some.ensures.index c.object_at.ensures c.args.value (sym c.in_ok-check_setting.ensures) d

pub invariant_of-self-2 : goal.invariant_of-self-2
unfolding asked_by
invariant_of-self-2 c =
    let tree = c.self.inside.objects.list in
    let o = c.object_at.result.now in
    let new = c.change_at.ensures.objects o ∙ ap (λ (x : Object). set tree c.in-Some.at (changed_by x front (asks.Set c.args.value))) (sym c.object_at.ensures)
    ∙ sym (set_there tree c.args.ono.0 c.in-Some.at o c.in-Some.ensures.index c.object_at.ensures c.args.value (sym c.in_ok-check_setting.ensures)) in
    let good = set_good tree c.args.ono.0 c.args.value (record { tree = c.self.invariant.0; typed = c.self.invariant.2 }) in
    (rw new good.tree, c.change_at.ensures.count, rw new good.typed)

pub returns-clause-tree : goal.returns-clause-tree
unfolding asked_by
returns-clause-tree c =
    let tree = c.self.inside.objects.list in
    let o = c.object_at.result.now in
    rw (← c.self.view_is) (c.change_at.ensures.objects o ∙ ap (λ (x : Object). set tree c.in-Some.at (changed_by x front (asks.Set c.args.value))) (sym c.object_at.ensures)
    ∙ sym (set_there tree c.args.ono.0 c.in-Some.at o c.in-Some.ensures.index c.object_at.ensures c.args.value (sym c.in_ok-check_setting.ensures)))

pub returns-clause-fault : goal.returns-clause-fault
returns-clause-fault c =
    let there = fault_there c.self.inside.objects.list c.args.ono.0 c.in-Some.at c.object_at.result.now c.in-Some.ensures.index c.object_at.ensures c.args.value in
    rw (← c.self.view_is) (sym (there ∙ sym c.in_ok-check_setting.ensures))

use Rattle.oca_tree.proofs.Words.{sym, ap, ◌∙◌, refl, Some, None, not, if◌then◌else◌, ToUnlocked}
use Rattle.oca_model.specs.HeldRequests.{asked_by}
use Rattle.oca_model.specs.declared.request.Request.TheVariants as asked
use Rattle.oca_tree.specs.declared.front.FrontFault.TheVariants as faults
use Rattle.oca_tree.specs.Requests.{asks_out_of_range}
use Rattle.oca_tree.proofs.LocalChanges.{no_object, unchanged, fault_there, changed_here}
use Rattle.oca_tree.proofs.TypesKept.{change_good}
use Rattle.oca_tree.proofs.tree.Tree.unlock.Goals as goal

pub returns-in_default-clause-tree : goal.returns-in_default-clause-tree
returns-in_default-clause-tree c =
    let tree = c.self.inside.objects.list in
    rw (← c.self.view_is) (sym (unchanged tree c.args.ono.0 asked.Unlock _ (no_object tree c.args.ono.0 asked.Unlock c.in_default.ensures.absent)))

pub returns-in_default-clause-fault : goal.returns-in_default-clause-fault
returns-in_default-clause-fault c =
    rw (← c.self.view_is) (sym (no_object c.self.inside.objects.list c.args.ono.0 asked.Unlock c.in_default.ensures.absent))

pub returns-then-is_none-clause-tree : goal.returns-then-is_none-clause-tree
returns-then-is_none-clause-tree c =
    let tree = c.self.inside.objects.list in
    let there = fault_there tree c.args.ono.0 c.in-Some.at c.object_at.result.now c.in-Some.ensures.index c.object_at.ensures asked.Unlock in
    rw (← c.self.view_is) (sym (unchanged tree c.args.ono.0 asked.Unlock faults.NotLocked
    (there ∙ ap (λ b. if not b then Some faults.NotLocked else None) (c.is_none.ensures ∙ ap not c.if-is_none.true))))

pub returns-then-is_none-clause-fault : goal.returns-then-is_none-clause-fault
returns-then-is_none-clause-fault c =
    let there = fault_there c.self.inside.objects.list c.args.ono.0 c.in-Some.at c.object_at.result.now c.in-Some.ensures.index c.object_at.ensures asked.Unlock in
    rw (← c.self.view_is) (sym (there ∙ ap (λ b. if not b then Some faults.NotLocked else None) (c.is_none.ensures ∙ ap not c.if-is_none.true)))

pub change_at-requires-clause-range : goal.change_at-requires-clause-range
unfolding asked_by asks_out_of_range
change_at-requires-clause-range c = λ d. refl

pub invariant_of-self-2 : goal.invariant_of-self-2
unfolding asked_by
invariant_of-self-2 c =
    let tree = c.self.inside.objects.list in
    let o = c.object_at.result.now in
    let fine = ap (λ b. if not b then Some faults.NotLocked else None) (c.is_none.ensures ∙ ap not c.if-is_none.false) in
    let new = changed_here tree c.args.ono.0 c.in-Some.at o c.in-Some.ensures.index c.object_at.ensures asked.Unlock c.change_at.new.self.list fine (c.change_at.ensures.objects o) in
    let good = change_good tree c.args.ono.0 ToUnlocked (record { tree = c.self.invariant.0; typed = c.self.invariant.2 }) in
    (rw new good.tree, c.change_at.ensures.count, rw new good.typed)

pub returns-clause-tree : goal.returns-clause-tree
unfolding asked_by
returns-clause-tree c =
    let o = c.object_at.result.now in
    let fine = ap (λ b. if not b then Some faults.NotLocked else None) (c.is_none.ensures ∙ ap not c.if-is_none.false) in
    rw (← c.self.view_is) (changed_here c.self.inside.objects.list c.args.ono.0 c.in-Some.at o c.in-Some.ensures.index c.object_at.ensures asked.Unlock c.change_at.new.self.list fine (c.change_at.ensures.objects o))

pub returns-clause-fault : goal.returns-clause-fault
returns-clause-fault c =
    let there = fault_there c.self.inside.objects.list c.args.ono.0 c.in-Some.at c.object_at.result.now c.in-Some.ensures.index c.object_at.ensures asked.Unlock in
    rw (← c.self.view_is) (sym (there ∙ ap (λ b. if not b then Some faults.NotLocked else None) (c.is_none.ensures ∙ ap not c.if-is_none.false)))

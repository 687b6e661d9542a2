use Rattle.oca_tree.proofs.Words.{sym, ap, ◌∙◌, refl, set, get_or, Some, None, if◌then◌else◌, ToLabel, front}
use Rattle.oca_model.specs.declared.request.Request.TheVariants as asked
use Rattle.oca_tree.specs.declared.front.FrontFault.TheVariants as faults
use Rattle.oca_tree.specs.Typed.{changed_by}
use Rattle.oca_tree.proofs.LocalChanges.{no_object, unchanged, object_there, stands_there, fault_there, changed_here, good_label, long_label}
use Rattle.oca_tree.proofs.TypesKept.{change_good}
use Rattle.oca_tree.proofs.tree.Tree.set_label.Goals as goal

pub returns-in_default-clause-tree : goal.returns-in_default-clause-tree
returns-in_default-clause-tree c =
    let tree = c.self.inside.objects.list in
    let r = asked.SetLabel c.args.label.now in
    rw (← c.self.view_is) (sym (unchanged tree c.args.ono.0 r _ (no_object tree c.args.ono.0 r c.in_default.ensures.absent)))

pub returns-in_default-clause-fault : goal.returns-in_default-clause-fault
returns-in_default-clause-fault c =
    rw (← c.self.view_is) (sym (no_object c.self.inside.objects.list c.args.ono.0 (asked.SetLabel c.args.label.now) c.in_default.ensures.absent))

pub returns-in_default-new-clause-tree : goal.returns-in_default-new-clause-tree
returns-in_default-new-clause-tree c =
    let tree = c.self.inside.objects.list in
    let r = asked.SetLabel c.args.label.now in
    let there = fault_there tree c.args.ono.0 c.in-Some.at (object_there tree c.in-Some.at) c.in-Some.ensures.index
    (stands_there tree c.args.ono.0 c.in-Some.at c.in-Some.ensures.index) r in
    rw (← c.self.view_is) (sym (unchanged tree c.args.ono.0 r faults.BadLabel
    (there ∙ ap (λ b. if b then Some faults.BadLabel else None) (long_label c.args.label.now c.utf8.label c.in_default-new.ensures.variant.1))))

pub returns-in_default-new-clause-fault : goal.returns-in_default-new-clause-fault
returns-in_default-new-clause-fault c =
    let tree = c.self.inside.objects.list in
    let there = fault_there tree c.args.ono.0 c.in-Some.at (object_there tree c.in-Some.at) c.in-Some.ensures.index
    (stands_there tree c.args.ono.0 c.in-Some.at c.in-Some.ensures.index) (asked.SetLabel c.args.label.now) in
    rw (← c.self.view_is) (sym (there ∙ ap (λ b. if b then Some faults.BadLabel else None) (long_label c.args.label.now c.utf8.label c.in_default-new.ensures.variant.1)))

pub invariant_of-self-2 : goal.invariant_of-self-2
invariant_of-self-2 c =
    let tree = c.self.inside.objects.list in
    let label = c.args.label.now in
    let o = object_there tree c.in-Some.at in
    let here = stands_there tree c.args.ono.0 c.in-Some.at c.in-Some.ensures.index in
    let fine = ap (λ b. if b then Some faults.BadLabel else None) (good_label label c.utf8.label (c.in-Some-new.ensures.variant.0 refl)) in
    let new = changed_here tree c.args.ono.0 c.in-Some.at o c.in-Some.ensures.index here (asked.SetLabel label) c.relabel_at.new.self.list fine
    (c.relabel_at.ensures.objects o ∙ ap (λ l. set tree c.in-Some.at (changed_by (get_or tree c.in-Some.at o) front (asked.SetLabel l))) c.in-Some-new.ensures.value) in
    let good = change_good tree c.args.ono.0 (ToLabel label) (record { tree = c.self.invariant.0; typed = c.self.invariant.2 }) in
    (rw new good.tree, c.index_from.ensures.locks ∙ c.self.invariant.1 ∙ sym c.relabel_at.ensures.count, rw new good.typed)

pub returns-clause-tree : goal.returns-clause-tree
returns-clause-tree c =
    let tree = c.self.inside.objects.list in
    let label = c.args.label.now in
    let o = object_there tree c.in-Some.at in
    let here = stands_there tree c.args.ono.0 c.in-Some.at c.in-Some.ensures.index in
    let fine = ap (λ b. if b then Some faults.BadLabel else None) (good_label label c.utf8.label (c.in-Some-new.ensures.variant.0 refl)) in
    rw (← c.self.view_is) (changed_here tree c.args.ono.0 c.in-Some.at o c.in-Some.ensures.index here (asked.SetLabel label) c.relabel_at.new.self.list fine
    (c.relabel_at.ensures.objects o ∙ ap (λ l. set tree c.in-Some.at (changed_by (get_or tree c.in-Some.at o) front (asked.SetLabel l))) c.in-Some-new.ensures.value))

pub returns-clause-fault : goal.returns-clause-fault
returns-clause-fault c =
    let tree = c.self.inside.objects.list in
    let label = c.args.label.now in
    let there = fault_there tree c.args.ono.0 c.in-Some.at (object_there tree c.in-Some.at) c.in-Some.ensures.index
    (stands_there tree c.args.ono.0 c.in-Some.at c.in-Some.ensures.index) (asked.SetLabel label) in
    rw (← c.self.view_is) (sym (there ∙ ap (λ b. if b then Some faults.BadLabel else None) (good_label label c.utf8.label (c.in-Some-new.ensures.variant.0 refl))))

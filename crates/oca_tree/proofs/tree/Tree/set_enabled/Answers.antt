use Rattle.oca_tree.proofs.Words.{sym, refl, ToEnabled}
use Rattle.oca_model.specs.HeldRequests.{asked_by}
use Rattle.oca_model.specs.declared.request.Request.TheVariants as asked
use Rattle.oca_tree.specs.Requests.{asks_out_of_range}
use Rattle.oca_tree.proofs.LocalChanges.{no_object, unchanged, object_there, stands_there, fault_there, changed_here}
use Rattle.oca_tree.proofs.TypesKept.{change_good}
use Rattle.oca_tree.proofs.tree.Tree.set_enabled.Goals as goal

pub returns-in_default-clause-tree : goal.returns-in_default-clause-tree
returns-in_default-clause-tree c =
    let tree = c.self.inside.objects.list in
    let r = asked.SetEnabled c.args.enabled in
    rw (← c.self.view_is) (sym (unchanged tree c.args.ono.0 r _ (no_object tree c.args.ono.0 r c.in_default.ensures.absent)))

pub returns-in_default-clause-fault : goal.returns-in_default-clause-fault
returns-in_default-clause-fault c =
    rw (← c.self.view_is) (sym (no_object c.self.inside.objects.list c.args.ono.0 (asked.SetEnabled c.args.enabled) c.in_default.ensures.absent))

pub change_at-requires-clause-range : goal.change_at-requires-clause-range
unfolding asked_by asks_out_of_range
change_at-requires-clause-range c = λ d. refl

pub invariant_of-self-2 : goal.invariant_of-self-2
unfolding asked_by
invariant_of-self-2 c =
    let tree = c.self.inside.objects.list in
    let o = object_there tree c.in-Some.at in
    let here = stands_there tree c.args.ono.0 c.in-Some.at c.in-Some.ensures.index in
    let new = changed_here tree c.args.ono.0 c.in-Some.at o c.in-Some.ensures.index here (asked.SetEnabled c.args.enabled) c.change_at.new.self.list refl (c.change_at.ensures.objects o) in
    let good = change_good tree c.args.ono.0 (ToEnabled c.args.enabled) (record { tree = c.self.invariant.0; typed = c.self.invariant.2 }) in
    (rw new good.tree, c.change_at.ensures.count, rw new good.typed)

pub returns-clause-tree : goal.returns-clause-tree
unfolding asked_by
returns-clause-tree c =
    let tree = c.self.inside.objects.list in
    let o = object_there tree c.in-Some.at in
    let here = stands_there tree c.args.ono.0 c.in-Some.at c.in-Some.ensures.index in
    rw (← c.self.view_is) (changed_here tree c.args.ono.0 c.in-Some.at o c.in-Some.ensures.index here (asked.SetEnabled c.args.enabled) c.change_at.new.self.list refl (c.change_at.ensures.objects o))

pub returns-clause-fault : goal.returns-clause-fault
returns-clause-fault c =
    let tree = c.self.inside.objects.list in
    let here = stands_there tree c.args.ono.0 c.in-Some.at c.in-Some.ensures.index in
    rw (← c.self.view_is) (sym (fault_there tree c.args.ono.0 c.in-Some.at (object_there tree c.in-Some.at) c.in-Some.ensures.index here (asked.SetEnabled c.args.enabled)))

use Rattle.oca_tree.proofs.Words.{[], sym, ap, ◌∙◌, refl, arith, set, err_from_is_err_and, fields_of, Set}
use Rattle.oca_model.specs.HeldRequests.{asked_by}
use Rattle.oca_tree.specs.Typed.{changed_by}
use Rattle.oca_tree.proofs.Executing.{exec_refused, found_at, every_at, fails_to_set, works, failed_at, done_at, tree_at, nothing_put}
use Rattle.oca_tree.proofs.execute.set_at.Goals as goal

pub returns-in_err-value-clause-done : goal.returns-in_err-value-clause-done
returns-in_err-value-clause-done c =
    let p = err_from_is_err_and c.from_residual.result c.from_residual.ensures.1 in
    let o = c.object_at-object.result.now in
    let here = c.object_at-object.ensures in
    let may = rw (← here) at (c.requires.method o) in
    let found = found_at c.args.objects.now.list c.args.peer (fields_of c.args.command.now) c.args.at o (sym c.requires.place) here in
    rw (p.1, p.2) (exec_refused c.args.objects.now.list c.args.peer (fields_of c.args.command.now) o found _ (c.in_err-value.ensures c.args.peer may).0, refl, (c.in_err-value.ensures c.args.peer may).1)

pub returns-then-object-clause-done : goal.returns-then-object-clause-done
returns-then-object-clause-done c =
    let o = c.object_at-object.result.now in
    let here = c.object_at-object.ensures in
    let may = rw (← here) at (c.requires.method o) in
    let asked = c.in_ok-value.ensures c.args.peer may in
    let fails = fails_to_set o c.args.peer (fields_of c.args.command.now) may c.if-object.true in
    (failed_at c.args.objects.now.list c.args.peer (fields_of c.args.command.now) c.args.at o (sym c.requires.place) here (Set c.in_ok-value.value) asked [] 0 (nothing_put c.args.objects.now.list o c.in_ok-value.value) (omega arith) fails, refl, refl)

pub change_at-requires-clause-range : goal.change_at-requires-clause-range
unfolding asked_by
change_at-requires-clause-range c = λ d.
    let o = c.object_at-object.result.now in
    let here = c.object_at-object.ensures in
    let may = rw (← here) at (c.requires.method o) in
    rw (every_at c.args.objects.now.list c.args.peer (fields_of c.args.command.now) c.args.at o (sym c.requires.place) here d) (c.in_ok-value.ensures c.args.peer may).within

pub returns-clause-done : goal.returns-clause-done
unfolding asked_by
returns-clause-done c =
    let o = c.object_at-object.result.now in
    let here = c.object_at-object.ensures in
    let may = rw (← here) at (c.requires.method o) in
    let asked = c.in_ok-value.ensures c.args.peer may in
    let new = c.change_at.ensures.objects o ∙ ap (λ x. set c.args.objects.now.list c.args.at (changed_by x c.args.peer (Set c.in_ok-value.value))) (sym here) in
    let done = done_at c.args.objects.now.list c.args.peer (fields_of c.args.command.now) c.args.at o (sym c.requires.place) here (Set c.in_ok-value.value) asked [] 0 (nothing_put c.args.objects.now.list o c.in_ok-value.value) (omega arith) in
    rw new (done (works o (fields_of c.args.command.now) c.if-object.false))

pub returns-clause-tree : goal.returns-clause-tree
unfolding asked_by
returns-clause-tree c =
    let o = c.object_at-object.result.now in
    let here = c.object_at-object.ensures in
    let may = rw (← here) at (c.requires.method o) in
    let asked = c.in_ok-value.ensures c.args.peer may in
    let new = c.change_at.ensures.objects o ∙ ap (λ x. set c.args.objects.now.list c.args.at (changed_by x c.args.peer (Set c.in_ok-value.value))) (sym here) in
    rw new (tree_at c.args.objects.now.list c.args.peer (fields_of c.args.command.now) c.args.at o (sym c.requires.place) here (Set c.in_ok-value.value) asked [] c.requires.tree)

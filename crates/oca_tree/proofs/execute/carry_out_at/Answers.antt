use Rattle.oca_tree.proofs.Words.{sym, ap, ◌∙◌, refl, arith, set, err_from_is_err_and, fields_of, is_ok}
use Rattle.oca_model.specs.HeldRequests.{asked_by}
use Rattle.oca_tree.specs.Typed.{changed_by}
use Rattle.oca_tree.proofs.Executing.{exec_refused, found_at, full_at, failed_at, done_at, tree_at}
use Rattle.oca_tree.proofs.execute.carry_out_at.Goals as goal

pub returns-in_err-request-clause-done : goal.returns-in_err-request-clause-done
returns-in_err-request-clause-done c =
    let p = err_from_is_err_and c.from_residual.result c.from_residual.ensures.1 in
    let o = c.object_at-object.result.now in
    let here = c.object_at-object.ensures in
    let may = rw (← here) at (c.requires.method o) in
    let found = found_at c.args.objects.now.list c.args.peer (fields_of c.args.command.now) c.args.at o (sym c.requires.place) here in
    rw (p.1, p.2) (exec_refused c.args.objects.now.list c.args.peer (fields_of c.args.command.now) o found _ (c.in_err-request.ensures c.args.peer may).0, refl, (c.in_err-request.ensures c.args.peer may).1)

pub returns-in_err-count-clause-done : goal.returns-in_err-count-clause-done
returns-in_err-count-clause-done c =
    let p = err_from_is_err_and c.from_residual-in_err-count.result c.from_residual-in_err-count.ensures.1 in
    let o = c.object_at-object.result.now in
    let here = c.object_at-object.ensures in
    let may = rw (← here) at (c.requires.method o) in
    let asked = c.in_ok-request.ensures c.args.peer may in
    let puts = rw c.requires.empty at c.in_err-count.ensures in
    rw (p.1, p.2) (full_at c.args.objects.now.list c.args.peer (fields_of c.args.command.now) c.args.at o (sym c.requires.place) here (asked_by c.in_ok-request.request) asked c.put_answer.new.out.items _ puts, refl, ap is_ok puts.0)

pub returns-then-is_failing-clause-done : goal.returns-then-is_failing-clause-done
returns-then-is_failing-clause-done c =
    let o = c.object_at-object.result.now in
    let here = c.object_at-object.ensures in
    let may = rw (← here) at (c.requires.method o) in
    let asked = c.in_ok-request.ensures c.args.peer may in
    let puts = rw c.requires.empty at c.in_ok-count.ensures in (
      failed_at c.args.objects.now.list c.args.peer (fields_of c.args.command.now) c.args.at o (sym c.requires.place) here (asked_by c.in_ok-request.request) asked c.put_answer.new.out.items c.in_ok-count.count puts (omega arith)
          (rw may.0 (sym c.if-is_failing.ensures)),
      refl,
      refl,
    )

pub returns-clause-done : goal.returns-clause-done
returns-clause-done c =
    let o = c.object_at-object.result.now in
    let here = c.object_at-object.ensures in
    let may = rw (← here) at (c.requires.method o) in
    let asked = c.in_ok-request.ensures c.args.peer may in
    let puts = rw c.requires.empty at c.in_ok-count.ensures in
    let new = c.change_at.ensures.objects o ∙ ap (λ x. set c.args.objects.now.list c.args.at (changed_by x c.args.peer (asked_by c.in_ok-request.request))) (sym here) in
    let done = done_at c.args.objects.now.list c.args.peer (fields_of c.args.command.now) c.args.at o (sym c.requires.place) here (asked_by c.in_ok-request.request) asked c.put_answer.new.out.items c.in_ok-count.count puts (omega arith) in
    rw new (done (rw may.0 (sym c.if-is_failing.ensures)))

pub returns-clause-tree : goal.returns-clause-tree
returns-clause-tree c =
    let o = c.object_at-object.result.now in
    let here = c.object_at-object.ensures in
    let may = rw (← here) at (c.requires.method o) in
    let asked = c.in_ok-request.ensures c.args.peer may in
    let new = c.change_at.ensures.objects o ∙ ap (λ x. set c.args.objects.now.list c.args.at (changed_by x c.args.peer (asked_by c.in_ok-request.request))) (sym here) in
    rw new (tree_at c.args.objects.now.list c.args.peer (fields_of c.args.command.now) c.args.at o (sym c.requires.place) here (asked_by c.in_ok-request.request) asked c.put_answer.new.out.items c.requires.tree)

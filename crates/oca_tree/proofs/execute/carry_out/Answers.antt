use Rattle.oca_tree.proofs.Words.{[], sym, refl, ap, ◌∙◌, arith, set, Some, err_from_is_err_and, fields_of, Set}
use Rattle.oca_types.specs.declared.class.Method.TheVariants.{GetState, SetState}
use Rattle.oca_model.specs.HeldRequests.{asked_by}
use Rattle.oca_model.specs.Requests.{request_in}
use Rattle.oca_model.specs.declared.request.Request.TheVariants.{Get}
use Rattle.oca_tree.specs.Requests.{asks_out_of_range}
use Rattle.oca_tree.specs.Typed.{answer_given, changed_by}
use Rattle.oca_tree.proofs.Plain.{plain}
use Rattle.oca_tree.proofs.Executing.{every_at, exec_none, exec_refused, read_at, setting_ok, works, done_at, tree_at, nothing_put}
use Rattle.oca_tree.proofs.States.{may_get, may_set, get_reads, set_writes, each_state, always}
use Rattle.oca_tree.proofs.execute.carry_out.Goals as goal

pub returns-in_default-clause-done : goal.returns-in_default-clause-done
returns-in_default-clause-done c =
    (exec_none c.args.objects.now.list c.args.peer (fields_of c.args.command.now) c.in_default.ensures.absent, refl, refl)

pub returns-clause-done : goal.returns-clause-done
unfolding request_in answer_given
returns-clause-done c =
    let o = c.object_at-object.result.now in
    let called = c.if-calls_unlocked.ensures refl in
    let bare = c.if-is_bare.ensures refl in
    let may = may_get o c.args.peer (fields_of c.args.command.now) c.in-Some-state_number.ensures.state called.0 called.2 called.1 in
    read_at c.args.objects.now.list c.args.peer (fields_of c.args.command.now) c.in-Some.at o c.in-Some.ensures.index c.object_at-object.ensures
    GetState Get may refl bare.0 bare.1
    c.put_number-answered.result c.put_number-answered.new.out.items (rw c.requires.empty at c.put_number-answered.ensures) (omega arith)

pub returns-clause-writes : goal.returns-clause-writes
returns-clause-writes c =
    let o = c.object_at-object.result.now in
    let called = c.if-calls_unlocked.ensures refl in
    let found = c.in-Some.ensures.found o ∙ ap Some (sym c.object_at-object.ensures) in
    always c.put_number-answered.result (get_reads o c.args.peer (fields_of c.args.command.now) c.in-Some-state_number.ensures.state called.0 called.2 c.args.objects.now.list found called.1)

pub change_at-requires-clause-range : goal.change_at-requires-clause-range
unfolding asked_by asks_out_of_range
change_at-requires-clause-range c = λ d.
    let o = c.object_at-object.result.now in
    rw (every_at c.args.objects.now.list c.args.peer (fields_of c.args.command.now) c.in-Some.at o c.in-Some.ensures.index c.object_at-object.ensures d) (each_state o.value c.in-Some-state_to_set.state c.in-Some-state_to_set.ensures.state)

pub returns-2-clause-done : goal.returns-2-clause-done
unfolding asked_by
returns-2-clause-done c =
    let o = c.object_at-object.result.now in
    let v = c.in-Some-state_to_set.state in
    let called = c.if-calls_unlocked-2.ensures refl in
    let may = may_set o c.args.peer (fields_of c.args.command.now) c.in-Some-state_to_set.ensures.state called.0 called.2 called.1 in
    let asked = setting_ok o c.args.peer (fields_of c.args.command.now) SetState may refl v c.in-Some-state_to_set.ensures.asked (each_state o.value v c.in-Some-state_to_set.ensures.state) in
    let new = c.change_at.ensures.objects o ∙ ap (λ x. set c.args.objects.now.list c.in-Some.at (changed_by x c.args.peer (Set v))) (sym c.object_at-object.ensures) in
    let done = done_at c.args.objects.now.list c.args.peer (fields_of c.args.command.now) c.in-Some.at o c.in-Some.ensures.index c.object_at-object.ensures (Set v) asked [] 0 (nothing_put c.args.objects.now.list o v) (omega arith) in
    rw (new, c.requires.empty) (done (works o (fields_of c.args.command.now) c.in-Some-state_to_set.ensures.works))

pub returns-2-clause-writes : goal.returns-2-clause-writes
returns-2-clause-writes c =
    let o = c.object_at-object.result.now in
    let called = c.if-calls_unlocked-2.ensures refl in
    let found = c.in-Some.ensures.found o ∙ ap Some (sym c.object_at-object.ensures) in
    set_writes o c.args.peer (fields_of c.args.command.now) c.in-Some-state_to_set.ensures.state called.0 called.2 c.args.objects.now.list found called.1

pub returns-2-clause-tree : goal.returns-2-clause-tree
unfolding asked_by
returns-2-clause-tree c =
    let o = c.object_at-object.result.now in
    let v = c.in-Some-state_to_set.state in
    let called = c.if-calls_unlocked-2.ensures refl in
    let may = may_set o c.args.peer (fields_of c.args.command.now) c.in-Some-state_to_set.ensures.state called.0 called.2 called.1 in
    let asked = setting_ok o c.args.peer (fields_of c.args.command.now) SetState may refl v c.in-Some-state_to_set.ensures.asked (each_state o.value v c.in-Some-state_to_set.ensures.state) in
    let new = c.change_at.ensures.objects o ∙ ap (λ x. set c.args.objects.now.list c.in-Some.at (changed_by x c.args.peer (Set v))) (sym c.object_at-object.ensures) in
    rw new (tree_at c.args.objects.now.list c.args.peer (fields_of c.args.command.now) c.in-Some.at o c.in-Some.ensures.index c.object_at-object.ensures (Set v) asked [] c.requires.tree)

pub returns-in_err-method-clause-done : goal.returns-in_err-method-clause-done
returns-in_err-method-clause-done c =
    let p = err_from_is_err_and c.from_residual.result c.from_residual.ensures.1 in
    let found = c.in-Some.ensures.found c.object_at-object.result.now ∙ ap Some (sym c.object_at-object.ensures) in
    rw (p.1, p.2) (exec_refused c.args.objects.now.list c.args.peer (fields_of c.args.command.now) c.object_at-object.result.now found _ c.in_err-method.ensures.0, refl, c.in_err-method.ensures.1)

pub put_answer-answered-requires-clause-range : goal.put_answer-answered-requires-clause-range
put_answer-answered-requires-clause-range c = (plain c.in_ok-method.method (asked_by c.in-Some-plain.request) (sym c.in-Some-plain.ensures)).within c.object_at-object.result.now

pub returns-3-clause-done : goal.returns-3-clause-done
returns-3-clause-done c =
    read_at c.args.objects.now.list c.args.peer (fields_of c.args.command.now) c.in-Some.at c.object_at-object.result.now c.in-Some.ensures.index c.object_at-object.ensures
    c.in_ok-method.method (asked_by c.in-Some-plain.request) c.in_ok-method.ensures (sym c.in-Some-plain.ensures) (c.if-is_bare-2.ensures refl).0 (c.if-is_bare-2.ensures refl).1
    c.put_answer-answered.result c.put_answer-answered.new.out.items (rw c.requires.empty at c.put_answer-answered.ensures) (omega arith)

pub set_at-requires-clause-method : goal.set_at-requires-clause-method
set_at-requires-clause-method c = λ d.
    let here = every_at c.args.objects.now.list c.args.peer (fields_of c.args.command.now) c.in-Some.at c.object_at-object.result.now c.in-Some.ensures.index c.object_at-object.ensures d in
    rw here (record { method = c.in_ok-method.method; sets = sym c.if-sets_value.ensures; may = c.in_ok-method.ensures })

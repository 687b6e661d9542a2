use Rattle.oca_tree.proofs.Words.{sym, fields_of}
use Rattle.oca_model.specs.HeldRequests.{asked_by}
use Rattle.oca_tree.proofs.Executing.{understood, refuses}
use Rattle.oca_tree.proofs.execute.check_request.Goals as goal

pub returns-in-Some : goal.returns-in-Some
returns-in-Some c = λ peer may.
    let asked = rw c.class.ensures at (sym c.in-Ok.ensures) in
    refuses c.args.object.now peer (fields_of c.args.command.now) c.args.method may (asked_by c.in-Ok.request) asked c.in-Some.status (sym c.in-Some.ensures)

pub returns-in-None : goal.returns-in-None
returns-in-None c = λ peer may.
    let asked = rw c.class.ensures at (sym c.in-Ok.ensures) in
    understood c.args.object.now peer (fields_of c.args.command.now) c.args.method may (asked_by c.in-Ok.request) asked (sym c.in-None.ensures)

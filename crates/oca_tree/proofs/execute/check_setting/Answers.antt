use Rattle.oca_tree.proofs.Words.{sym, fields_of}
use Rattle.oca_tree.proofs.Executing.{setting_not_understood, setting_ok, setting_refused}
use Rattle.oca_tree.proofs.execute.check_setting.Goals as goal

pub returns-then-cannot_be : goal.returns-then-cannot_be
returns-then-cannot_be c = λ peer may.
    let got = rw c.class.ensures at (sym c.in-Ok.ensures) in
    setting_refused c.args.object.now peer (fields_of c.args.command.now) may.method may.may may.sets c.in-Ok.value got (sym c.if-cannot_be.ensures)

pub returns-else-cannot_be : goal.returns-else-cannot_be
returns-else-cannot_be c = λ peer may.
    let got = rw c.class.ensures at (sym c.in-Ok.ensures) in
    setting_ok c.args.object.now peer (fields_of c.args.command.now) may.method may.may may.sets c.in-Ok.value got (sym c.if-cannot_be.ensures)

pub returns-in-Err : goal.returns-in-Err
returns-in-Err c = λ peer may.
    let got = rw c.class.ensures at (sym c.in-Err.ensures) in
    rw c.status_of_fault.ensures (setting_not_understood c.args.object.now peer (fields_of c.args.command.now) may.method may.may may.sets c.in-Err.fault got)

use Rattle.std.proofs.lemmas.Result.{err_from_is_err_and}
use Rattle.oca_script.proofs.StepLemmas.{awaited-then, awaited-not}
use Rattle.oca_script.proofs.lines.await_read.Goals as goal

pub returns-in_err-flush-clause-awaited : goal.returns-in_err-flush-clause-awaited
returns-in_err-flush-clause-awaited g c =
    let p = err_from_is_err_and c.from_residual.result c.from_residual.ensures.1 in
    awaited-not g.L.Language.serves g.L.Language.idles _ _ _ _ p.0 p.0 p.1 c.in_err-flush.ensures.prints

pub returns-clause-awaited : goal.returns-clause-awaited
returns-clause-awaited g c = awaited-then g.L.Language.serves g.L.Language.idles _ _ _ _ _ _ c.in_ok-flush.ensures.prints c.before_read.ensures.awaited

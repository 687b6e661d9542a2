use Rattle.std.proofs.Common.{Err, ap, ◌∙◌}
use Rattle.std.proofs.lemmas.Result.{err_from_is_err_and}
use Rattle.oca_script.proofs.StepLemmas.{line-too_long}
use Rattle.oca_script.proofs.lines.serve_ended.Goals as goal

pub returns-in_err-keep-clause-step : goal.returns-in_err-keep-clause-step
returns-in_err-keep-clause-step g c =
    let p = err_from_is_err_and c.from_residual.result c.from_residual.ensures.1 in
    line-too_long g.L.Language.serves g.L.Language.idles _ _ _ _ g.L.Language.asked _ c.in_err-keep.ensures.err (p.1 ∙ ap Err (p.2 ∙ c.in_err-keep.ensures.fault))

use Rattle.std.proofs.Common.{Ok, ap, sym, ◌∙◌}
use Rattle.oca_script.proofs.StepLemmas.{line-bad, line-skipped}
use Rattle.oca_script.proofs.lines.serve_line.Goals as goal

pub returns-in-Err : goal.returns-in-Err
returns-in-Err g c = line-bad g.L.Language.serves g.L.Language.idles _ _ _ _ _ _ (sym c.line_asks.ensures.value ∙ c.in-Err.is)

pub returns-in-Ok-false : goal.returns-in-Ok-false
returns-in-Ok-false g c =
    line-skipped g.L.Language.serves g.L.Language.idles _ _ _ _ _ (sym c.line_asks.ensures.value ∙ c.in-Ok-false.is ∙ ap Ok c.in-Ok-false.field-0-test)

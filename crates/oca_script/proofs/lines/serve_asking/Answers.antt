use Rattle.std.proofs.Common.{Err, ap, ◌∙◌}
use Rattle.oca_script.proofs.StepLemmas.{line-served, line-failed, line-refused}
use Rattle.oca_script.proofs.lines.serve_asking.Goals as goal

pub returns-in-Ok : goal.returns-in-Ok
returns-in-Ok g c = line-served g.L.Language.serves g.L.Language.idles _ _ _ _ _ _ _ _ c.in-Ok.is c.serve_line.ensures

pub returns-in-Err-Line : goal.returns-in-Err-Line
returns-in-Err-Line g c = line-refused g.L.Language.serves g.L.Language.idles _ _ _ _ _ _ _ _ (c.in-Err-Line.is ∙ ap Err c.in-Err-Line.field-0-is) c.serve_line.ensures

pub returns-in-Err-Write : goal.returns-in-Err-Write
returns-in-Err-Write g c = line-failed g.L.Language.serves g.L.Language.idles _ _ _ _ _ _ _ (c.in-Err-Write.is ∙ ap Err c.in-Err-Write.field-0-is) c.serve_line.ensures

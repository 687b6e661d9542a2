use Rattle.std.proofs.Common.{sym}
use Rattle.oca_script.proofs.ReadLemmas.{outcome-unflushed}
use Rattle.oca_script.proofs.lines.serve_script.Goals as goal

pub returns-in_default : goal.returns-in_default
returns-in_default g c =
    outcome-unflushed g.L.Language.asked g.L.Language.serves g.L.Language.idles _ _ _ c.read_script-ended.new.printer _ _ _ c.read_script-ended.result (sym c.if-failed_at_an_end.ensures) c.read_script-ended.ensures c.in_default.ensures.prints

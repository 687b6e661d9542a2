use Rattle.oca_script.specs.Ends.{input}
use Rattle.oca_script.proofs.ReadLemmas.{outcome-known}
use Rattle.oca_script.proofs.lines.serve_lines.Goals as goal

pub returns-clause-known : goal.returns-clause-known
returns-clause-known g c = outcome-known g.L.Language.asked g.L.Language.serves g.L.Language.idles _ _ _ _ _ (input (g.R.Source.remaining c.serve_script.new.reader) (g.R.Source.failed c.serve_script.new.reader)) _ c.serve_script.ensures

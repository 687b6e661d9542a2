use Rattle.oca_script.specs.Ends.{input}
use Rattle.oca_script.proofs.ReadLemmas.{Reading}
use Rattle.oca_script.proofs.lines.read_script.Given as goal

abbrev pub invariant-loop-left : goal.invariant-loop-left
invariant-loop-left g l = Reading g.L.Language.asked g.L.Language.serves g.L.Language.idles l.fn.state l.state l.fn.printer l.printer
    (input (g.R.Source.remaining l.fn.reader) (g.R.Source.failed l.fn.reader)) (input (g.R.Source.remaining l.reader) (g.R.Source.failed l.reader)) l.progress l.left

abbrev pub decreases-loop-left : goal.decreases-loop-left
decreases-loop-left g l = l.left

use Rattle.oca_pair.proofs.Words.{◌≡◌, take, map, span_size, run_setup, started}
use Rattle.oca_pair.proofs.running.links_of.Given as goal

abbrev pub invariant-loop-start : goal.invariant-loop-start
invariant-loop-start l = l.links.items ≡ map (started (run_setup (span_size l.span))) (take l.start-index l.starts)

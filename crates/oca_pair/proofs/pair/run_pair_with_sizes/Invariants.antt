use Rattle.oca_pair.proofs.Words.{drop, map, sizes_of, span_size, run_setup, opening, step_of}
use Rattle.oca_pair.proofs.Runs.{IsHalfway}
use Rattle.oca_pair.proofs.pair.run_pair_with_sizes.Given as goal

abbrev pub invariant-loop-number : goal.invariant-loop-number
invariant-loop-number l =
    IsHalfway l.running l.log.items l.number (map step_of (drop l.number l.steps)) (map step_of l.steps) (opening (sizes_of l.fn.sizes) (run_setup (span_size l.fn.span)) l.fn.tree l.starts)

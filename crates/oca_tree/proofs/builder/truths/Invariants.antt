use Rattle.std.proofs.Common.{◌≡◌, true}
use Rattle.std.specs.Prelude.{replicate}
use Rattle.oca_tree.proofs.builder.truths.Given as goal

-- as many so far as there were turns
abbrev pub invariant-loop : goal.invariant-loop
invariant-loop l = l.truths.items ≡ replicate l.counter true

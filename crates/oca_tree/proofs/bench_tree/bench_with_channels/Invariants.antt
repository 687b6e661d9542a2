use Rattle.oca_tree.proofs.Words.{◌≡◌, bench_with}
use Rattle.oca_tree.proofs.bench_tree.bench_with_channels.Given as goal

-- the strips so far
abbrev pub invariant-loop-channel : goal.invariant-loop-channel
invariant-loop-channel l = l.builder.list ≡ bench_with l.channel

use Rattle.oca_tree.proofs.Words.{◌≡◌, suc, ◌+◌, ◌*◌, ◌++◌, ap, ◌∙◌, arith, append_assoc, Store, bench_with}
use Rattle.oca_tree.specs.Bench.{bench_objects, strip, strips}
use Rattle.oca_tree.proofs.bench_tree.bench_with_channels.Goals as goal

pub loop-channel-preserved : goal.loop-channel-preserved
loop-channel-preserved c =
    let n = c.loop-channel.channel in
    let next : suc n ≡ n + 1 = omega arith in
    ap (λ (h : Store). h.list) c.in_ok-add_strip.ensures ∙ ap (λ m. c.loop-channel.builder.list ++ strip (4103 + 4 * m)) c.from.ensures
    ∙ ap (λ ys. ys ++ strip (4103 + 4 * n)) c.loop-channel.invariant ∙ append_assoc bench_objects (strips n) (strip (4103 + 4 * n)) ∙ ap bench_with next

pub returns-clause-ok : goal.returns-clause-ok
returns-clause-ok c =
    let all : c.loop-channel.channel ≡ c.args.channels = omega arith in
    c.finish.ensures ∙ c.loop-channel.invariant ∙ ap bench_with all

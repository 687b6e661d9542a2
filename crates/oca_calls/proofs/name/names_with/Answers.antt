use Rattle.std.proofs.Common.{rules, ◌∙◌, arith}
use Rattle.std.proofs.lemmas.List.{take_all}
use Rattle.oca_calls.proofs.PutLemmas.{put_names}
use Rattle.oca_calls.proofs.name.names_with.Goals as goal

pub returns-clause-others : goal.returns-clause-others
returns-clause-others c =
    let texts = c.args.texts.now in
    put_names texts c.loop-text.names.items c.put_words.new.place c.default-place.result
    (c.loop-text.invariant.texts ∙ take_all c.loop-text.text-index texts (omega (arith, c.loop-text-test.false)))
    (search rules) (search rules)

use Rattle.std.proofs.Common.{encode_utf8_all, ◌∙◌, ap, sym, map-id, arith, ◌++◌, ◌∷◌, [], length-append}
use Rattle.std.specs.List.{flat_map}
use Rattle.std.proofs.lemmas.Iterator.{YieldsList-from_chars}
use Rattle.std.proofs.lemmas.Iterator.Consumers.{YieldsList-end, YieldsList-turn}
use Rattle.oca_script.specs.Escapes.{escape, escaped}
use Rattle.oca_script.proofs.EscapeLemmas.{one_more, few_chars}
use Rattle.oca_script.proofs.escape.escapes_of.Goals as goal

pub put_escape-requires : goal.put_escape-requires
put_escape-requires c =
    let all = YieldsList-from_chars c.args.text.now c.utf8.text cc in
    let turn = YieldsList-turn all c.loop-c.yielded _ c.loop-c.yielded_by _ _ _ c.in-Some.is c.next.ensures.steps in
    omega (arith, turn.0, c.loop-c.invariant.1, few_chars c.args.text.now c.utf8.text, c.requires)

pub loop-c-preserved : goal.loop-c-preserved
loop-c-preserved c = (
  c.put_escape.ensures.value ∙ ap (λ l. l ++ encode_utf8_all (escape c.in-Some.c)) c.loop-c.invariant.0 ∙ sym (one_more c.loop-c.yielded c.in-Some.c),
  omega (arith, c.put_escape.ensures.len, c.loop-c.invariant.1, length-append c.loop-c.yielded (c.in-Some.c ∷ [])),
)

pub returns : goal.returns
unfolding escaped
returns c =
    let done = YieldsList-end (YieldsList-from_chars c.args.text.now c.utf8.text cc) c.loop-c.yielded _ c.loop-c.yielded_by _ _ c.in-None.is c.next.ensures.steps in
    c.loop-c.invariant.0 ∙ ap (λ cs. encode_utf8_all (flat_map escape cs)) (sym (map-id c.loop-c.yielded) ∙ done.0)

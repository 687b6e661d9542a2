use Rattle.std.proofs.Common.{Err, ap, sym, ◌∙◌}
use Rattle.std.proofs.lemmas.Result.{err_from_is_err_and}
use Rattle.oca_textree.specs.Stored.{field_text}
use Rattle.oca_textree.proofs.SplitLemmas.{names-err, names-failed, names-on, names-last}
use Rattle.oca_textree.proofs.stored.add_names.Goals as goal

pub returns-in_err-add_name : goal.returns-in_err-add_name
returns-in_err-add_name c =
    let p = err_from_is_err_and c.from_residual.result c.from_residual.ensures.1 in
    names-err _ c.in_err-add_name.field-0.0 _ _ (p.1 ∙ ap Err p.2)
    (names-failed (field_text c.args.quoted) _ c.loop-name.names.items c.loop-name.rest.now c.in-Some.name.now c.in-Some.after.now _ c.loop-name.invariant
    c.in-Some.ensures.value c.in_err-add_name.ensures)

pub loop-name-preserved : goal.loop-name-preserved
loop-name-preserved c =
    names-on (field_text c.args.quoted) _ c.loop-name.names.items _ c.loop-name.rest.now c.in-Some.name.now c.in-Some.after.now c.loop-name.invariant
    c.in-Some.ensures.value c.in_ok-add_name.ensures

pub returns : goal.returns
returns c =
    names-last (field_text c.args.quoted) _ c.loop-name.names.items c.loop-name.rest.now _ c.loop-name.invariant (sym c.in_default.ensures.value) c.add_name-2.ensures

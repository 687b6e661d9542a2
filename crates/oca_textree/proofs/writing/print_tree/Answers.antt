use Rattle.std.proofs.Common.{sym, ◌∙◌}
use Rattle.std.proofs.lemmas.Result.{err_from_is_err_and}
use Rattle.oca_textree.specs.Written.{text_of}
use Rattle.oca_textree.proofs.Standing.{fits}
use Rattle.oca_textree.proofs.WritingLemmas.{line-more, line-less}
use Rattle.oca_textree.proofs.writing.print_tree.Goals as goal

pub print_line-requires : goal.print_line-requires
print_line-requires g c = fits c.args.tree.now c.len-i-end.ensures.sound _

pub returns-in_err-print_line : goal.returns-in_err-print_line
unfolding text_of
returns-in_err-print_line g c =
    let p = err_from_is_err_and c.from_residual.result c.from_residual.ensures.1 in
    line-less c.args.tree.now c.len-i-end.ensures.sound c.loop-i.i _ (sym c.in-Some.is ∙ c.object_at.ensures) _ c.loop-i.printer _ _ p.0 p.1 c.loop-i.invariant
    c.in_err-print_line.ensures

pub loop-i-preserved : goal.loop-i-preserved
loop-i-preserved g c =
    line-more c.args.tree.now c.len-i-end.ensures.sound c.loop-i.i _ (sym c.in-Some.is ∙ c.object_at.ensures) _ c.loop-i.printer _ c.loop-i.invariant
    c.in_ok-print_line.ensures

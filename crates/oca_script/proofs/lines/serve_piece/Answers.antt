use Rattle.std.proofs.Common.{Err, refl, ℕ, ◌+◌, ap, sym, ◌∙◌, arith, rules}
use Rattle.std.proofs.lemmas.Result.{err_from_is_err_and}
use Rattle.oca_script.proofs.PieceLemmas.{piece-more, piece-fails, piece-kept, ascii-parts}
use Rattle.oca_script.proofs.PrintLemmas.{PrintsAll-nil}
use Rattle.oca_script.proofs.StepLemmas.{Step-nothing}
use Rattle.oca_script.proofs.lines.serve_piece.Goals as goal

pub returns-in_err-serve_ended-clause-step : goal.returns-in_err-serve_ended-clause-step
returns-in_err-serve_ended-clause-step g c =
    let p = err_from_is_err_and c.from_residual.result c.from_residual.ensures.1 in
    piece-fails g.L.Language.serves g.L.Language.idles g.L.Language.asked _ c.loop-end.state _ _ _ _ _ c.in_err-serve_ended.field-0.0 _ _ c.loop-end.progress.number c.loop-end.progress.line c.loop-end.rest.now
    c.in-Some.end.now c.in-Some.after.now c.in-Some.ensures.value (p.1 ∙ ap Err p.2) c.loop-end.invariant.step c.in_err-serve_ended.ensures.step

pub loop-end-preserved : goal.loop-end-preserved
loop-end-preserved g c = record {
  ascii = λ known. (ascii-parts 10 c.loop-end.rest.now c.in-Some.end.now c.in-Some.after.now c.in-Some.ensures.value (c.loop-end.invariant.ascii known)).1;
  number = omega (arith, c.in_ok-serve_ended.ensures.number, c.in-Some.ensures.within, c.loop-end.invariant.number);
  step = piece-more g.L.Language.serves g.L.Language.idles g.L.Language.asked _ c.loop-end.state _ _ _ _ _ _ c.loop-end.progress.number _ c.loop-end.progress.line _ c.loop-end.rest.now
      c.in-Some.end.now c.in-Some.after.now c.in-Some.ensures.value c.clear.ensures (ap (λ (n : ℕ). n + 1) c.in_ok-serve_ended.ensures.number) c.loop-end.invariant.step c.in_ok-serve_ended.ensures.step;
}

pub loop-end-init : goal.loop-end-init
loop-end-init g c = record {
  ascii = search rules;
  number = omega arith;
  step = Step-nothing g.L.Language.serves g.L.Language.idles _ _ _ _ _ (PrintsAll-nil _) (λ m. refl);
}

pub returns-clause-step : goal.returns-clause-step
returns-clause-step g c =
    piece-kept g.L.Language.serves g.L.Language.idles g.L.Language.asked _ _ _ _ _ _ c.loop-end.progress.number _ c.loop-end.progress.line _ c.loop-end.rest.now
    (sym c.in_default.ensures.value) c.keep.ensures.number c.keep.ensures.ok c.keep.ensures.err c.keep.ensures.fault c.loop-end.invariant.step

pub serve_ended-requires : goal.serve_ended-requires
serve_ended-requires g c known =
    (ascii-parts 10 c.loop-end.rest.now c.in-Some.end.now c.in-Some.after.now c.in-Some.ensures.value (c.loop-end.invariant.ascii known)).0

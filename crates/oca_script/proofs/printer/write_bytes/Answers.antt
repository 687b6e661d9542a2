use Rattle.std.proofs.Common.{arith, ◌∙◌, ℕ, length-take, length-drop}
use Rattle.std.proofs.lemmas.Result.{err_from_is_err_and}
use Rattle.oca_script.proofs.PrintLemmas.{Appends-more, writes-failed}
use Rattle.oca_script.proofs.printer.write_bytes.Goals as goal

pub returns-in_err-done : goal.returns-in_err-done
returns-in_err-done g c =
    let p = err_from_is_err_and c.from_residual.result c.from_residual.ensures.1 in
    writes-failed _ p.0 _ (g.W.Sink.contents c.loop-done.sink) _ _ _ c.loop-done.done _ p.1 c.loop-done.invariant.1 c.in_err-done.ensures.bytes c.in_err-done.ensures.failed

pub loop-done-preserved : goal.loop-done-preserved
loop-done-preserved g c = (
  omega (arith, c.in_ok-done.ensures.within, length-take {A = ℕ}, length-drop {A = ℕ}),
  Appends-more _ (g.W.Sink.contents c.loop-done.sink) _ c.loop-done.done c.in_ok-done.field-0 c.args.bytes.now c.loop-done.invariant.1 c.in_ok-done.ensures.bytes,
  c.in_ok-done.ensures.failed ∙ c.loop-done.invariant.2,
)

use Rattle.std.proofs.Common.{Err, ap, sym, ◌∙◌, arith}
use Rattle.std.proofs.lemmas.Result.{err_from_is_err_and}
use Rattle.oca_textree.proofs.SplitLemmas.{first-fault, lines-on, last-read}
use Rattle.oca_textree.proofs.text.add_lines.Goals as goal

pub returns-in_err-add_numbered : goal.returns-in_err-add_numbered
returns-in_err-add_numbered c =
    let p = err_from_is_err_and c.from_residual.result c.from_residual.ensures.1 in
    first-fault _ c.loop-line.rest.now c.in-Some.line.now c.in-Some.after.now c.loop-line.builder _ c.loop-line.number _
    c.in_err-add_numbered.field-0.0 (p.1 ∙ ap Err p.2) c.loop-line.invariant.read c.in-Some.ensures.value c.in_err-add_numbered.ensures

pub loop-line-preserved : goal.loop-line-preserved
loop-line-preserved c = record {
  room = c.in_ok-add_numbered.ensures.1 ∙ c.loop-line.invariant.room;
  number = omega (arith, c.in-Some.ensures.within, c.loop-line.invariant.number);
  read = lines-on _ c.loop-line.rest.now c.in-Some.line.now c.in-Some.after.now c.loop-line.builder.list _ c.loop-line.number
      c.loop-line.invariant.read c.in-Some.ensures.value c.in_ok-add_numbered.ensures.0;
}

pub returns : goal.returns
returns c =
    last-read _ c.loop-line.rest.now c.loop-line.builder _ c.loop-line.number _ c.loop-line.invariant.read
    (sym c.in_default.ensures.value) c.add_numbered-2.ensures

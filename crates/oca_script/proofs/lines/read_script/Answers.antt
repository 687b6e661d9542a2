use Rattle.std.proofs.Common.{Err, refl, ap, sym, ◌∙◌, arith}
use Rattle.std.proofs.lemmas.Bool.{eqb-true, eqb-false}
use Rattle.std.proofs.lemmas.Result.{err_from_is_err_and}
use Rattle.oca_script.specs.Ends.{input}
use Rattle.oca_script.proofs.ReadLemmas.{reading-start, reading-awaited, reading-more, reading-fails, reading-read_failed, reading-unwritten, reading-too_much, reading-ends}
use Rattle.oca_script.proofs.lines.read_script.Goals as goal

pub loop-left-init : goal.loop-left-init
loop-left-init g c = reading-start g.L.Language.asked g.L.Language.serves g.L.Language.idles _ _ _ _ c.new-progress.ensures.line c.new-progress.ensures.number

pub returns-in_default : goal.returns-in_default
returns-in_default g c =
    reading-unwritten g.L.Language.asked g.L.Language.serves g.L.Language.idles _ _ _ _ _ _ _ _ _ c.loop-left.progress c.loop-left.left (Err c.in_default.field-0) c.in_default.field-0 refl
    c.loop-left.invariant c.in_default.ensures.awaited c.in_default.ensures.source

pub returns-in_err-piece : goal.returns-in_err-piece
returns-in_err-piece g c =
    let p = err_from_is_err_and c.from_residual.result c.from_residual.ensures.1 in
    reading-read_failed g.L.Language.asked g.L.Language.serves g.L.Language.idles _ _ _ _ _ (input (g.R.Source.remaining c.await_read.new.reader) (g.R.Source.failed c.await_read.new.reader)) _ c.loop-left.progress c.loop-left.left _ (p.1 ∙ ap Err (p.2 ∙ c.in_err-piece.ensures.fault))
    (reading-awaited g.L.Language.asked g.L.Language.serves g.L.Language.idles _ _ _ _ _ _ _ _ _ _ _ _ _ refl c.loop-left.invariant c.in-Ok.ensures.awaited c.in-Ok.ensures.source)
    c.in-Ok.ensures.empty c.in_err-piece.ensures.err c.in_err-piece.ensures.failed

pub returns-then-is_empty : goal.returns-then-is_empty
returns-then-is_empty g c =
    reading-ends g.L.Language.asked g.L.Language.serves g.L.Language.idles _ c.await_read.new.state _ _ c.await_read.new.printer _ _ (input (g.R.Source.remaining c.await_read.new.reader) (g.R.Source.failed c.await_read.new.reader)) _ c.loop-left.progress c.loop-left.left
    c.in_ok-piece.piece.now c.as_slice-line.result.now _
    (reading-awaited g.L.Language.asked g.L.Language.serves g.L.Language.idles _ _ _ _ _ _ _ _ _ _ _ _ _ refl c.loop-left.invariant c.in-Ok.ensures.awaited c.in-Ok.ensures.source)
    c.in_ok-piece.ensures.consumes c.in_ok-piece.ensures.failed (eqb-true _ _ (sym c.if-is_empty.ensures)) c.in_ok-piece.ensures.end
    c.as_slice-line.ensures.value c.serve_line.ensures

pub loop-left-preserved : goal.loop-left-preserved
loop-left-preserved g c =
    reading-more g.L.Language.asked g.L.Language.serves g.L.Language.idles _ c.await_read.new.state _ _ c.await_read.new.printer _ _ (input (g.R.Source.remaining c.await_read.new.reader) (g.R.Source.failed c.await_read.new.reader)) _ c.loop-left.progress c.serve_piece.new.progress c.loop-left.left _
    c.in_ok-piece.piece.now
    (reading-awaited g.L.Language.asked g.L.Language.serves g.L.Language.idles _ _ _ _ _ _ _ _ _ _ _ _ _ refl c.loop-left.invariant c.in-Ok.ensures.awaited c.in-Ok.ensures.source)
    c.in_ok-piece.ensures.consumes c.in_ok-piece.ensures.failed (omega (arith, c.in_ok-piece.ensures.within, c.min-most.ensures)) c.in_ok-serve_piece.ensures.number c.in_ok-serve_piece.ensures.step

pub returns-in_err-serve_piece : goal.returns-in_err-serve_piece
returns-in_err-serve_piece g c =
    let q = c.from_residual-in_err-serve_piece in
    let p = err_from_is_err_and q.result q.ensures.1 in
    reading-fails g.L.Language.asked g.L.Language.serves g.L.Language.idles _ c.await_read.new.state _ _ c.await_read.new.printer _ _ (input (g.R.Source.remaining c.await_read.new.reader) (g.R.Source.failed c.await_read.new.reader)) _ c.loop-left.progress c.loop-left.left
    c.in_ok-piece.piece.now _ c.in_err-serve_piece.field-0.0 _ (p.1 ∙ ap Err p.2)
    (reading-awaited g.L.Language.asked g.L.Language.serves g.L.Language.idles _ _ _ _ _ _ _ _ _ _ _ _ _ refl c.loop-left.invariant c.in-Ok.ensures.awaited c.in-Ok.ensures.source)
    c.in_ok-piece.ensures.consumes c.in_ok-piece.ensures.failed (omega (arith, c.in_ok-piece.ensures.within, c.min-most.ensures)) c.in_err-serve_piece.ensures.step

pub returns-in_default-await_read : goal.returns-in_default-await_read
returns-in_default-await_read g c =
    reading-unwritten g.L.Language.asked g.L.Language.serves g.L.Language.idles _ _ _ _ _ _ _ _ _ c.loop-left.progress c.loop-left.left (Err c.in_default-await_read.field-0) c.in_default-await_read.field-0 refl
    c.loop-left.invariant c.in_default-await_read.ensures.awaited c.in_default-await_read.ensures.source

pub returns-in_err-over : goal.returns-in_err-over
returns-in_err-over g c =
    let q = c.from_residual-in_err-over in
    let p = err_from_is_err_and q.result q.ensures.1 in
    reading-read_failed g.L.Language.asked g.L.Language.serves g.L.Language.idles _ _ _ _ _ (input (g.R.Source.remaining c.await_read-2.new.reader) (g.R.Source.failed c.await_read-2.new.reader)) _ c.loop-left.progress c.loop-left.left _ (p.1 ∙ ap Err (p.2 ∙ c.in_err-over.ensures.fault))
    (reading-awaited g.L.Language.asked g.L.Language.serves g.L.Language.idles _ _ _ _ _ _ _ _ _ _ _ _ _ refl c.loop-left.invariant c.in-Ok-await_read.ensures.awaited c.in-Ok-await_read.ensures.source)
    c.in-Ok-await_read.ensures.empty c.in_err-over.ensures.err c.in_err-over.ensures.failed

pub returns-then-not-is_empty : goal.returns-then-not-is_empty
returns-then-not-is_empty g c =
    reading-too_much g.L.Language.asked g.L.Language.serves g.L.Language.idles _ _ _ _ _ (input (g.R.Source.remaining c.await_read-2.new.reader) (g.R.Source.failed c.await_read-2.new.reader)) _ c.loop-left.progress c.loop-left.left
    c.in_ok-over.over.now
    (reading-awaited g.L.Language.asked g.L.Language.serves g.L.Language.idles _ _ _ _ _ _ _ _ _ _ _ _ _ refl c.loop-left.invariant c.in-Ok-await_read.ensures.awaited c.in-Ok-await_read.ensures.source)
    c.in_ok-over.ensures.consumes c.in_ok-over.ensures.failed (omega arith)
    (let some = eqb-false _ _ (sym c.if-not-is_empty.ensures) in let within = c.in_ok-over.ensures.within in omega (arith, some, within))
    c.as_slice-last.ensures.most

pub returns : goal.returns
returns g c =
    reading-ends g.L.Language.asked g.L.Language.serves g.L.Language.idles _ c.await_read-2.new.state _ _ c.await_read-2.new.printer _ _ (input (g.R.Source.remaining c.await_read-2.new.reader) (g.R.Source.failed c.await_read-2.new.reader)) _ c.loop-left.progress c.loop-left.left
    c.in_ok-over.over.now c.as_slice-last.result.now _
    (reading-awaited g.L.Language.asked g.L.Language.serves g.L.Language.idles _ _ _ _ _ _ _ _ _ _ _ _ _ refl c.loop-left.invariant c.in-Ok-await_read.ensures.awaited c.in-Ok-await_read.ensures.source)
    c.in_ok-over.ensures.consumes c.in_ok-over.ensures.failed (eqb-true _ _ (sym c.if-not-is_empty.ensures)) c.in_ok-over.ensures.end
    c.as_slice-last.ensures.value c.serve_line-2.ensures

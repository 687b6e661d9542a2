use Rattle.oca_pdu.proofs.Words.{sym, ◌∙◌, arith, ◌≡◌, ◌-◌, ◌+◌, length, err_from_is_err_and}
use Rattle.oca_pdu.proofs.PduLoop.{goes_on, ends, is_done_early, is_done}
use Rattle.oca_pdu.proofs.checking.check_pdus.Goals as goal

pub returns-then-is_empty : goal.returns-then-is_empty
returns-then-is_empty c = is_done_early _ c.loop.counter _ c.loop.rest.now _ c.loop-test.true (sym c.is_empty.ensures ∙ c.if-is_empty.true) c.loop.invariant.1

pub returns-in_err-rest : goal.returns-in_err-rest
returns-in_err-rest c =
    let p = err_from_is_err_and c.from_residual.result c.from_residual.ensures.1 in
    rw (p.1, p.2) (ends _ c.loop.counter _ c.loop.rest.now c.in_err-rest.field-0.0 _ c.loop-test.true (sym c.is_empty.ensures ∙ c.if-is_empty.false) c.in_err-rest.ensures.exact c.loop.invariant.1)

pub loop-preserved : goal.loop-preserved
loop-preserved c =
    let at = length c.args.bytes.now - length c.loop.rest.now in
    let step : length c.args.bytes.now - length c.in_ok-rest.rest.now ≡ at + (length c.loop.rest.now - length c.in_ok-rest.rest.now) = omega (arith, c.in_ok-rest.ensures.shorter, c.loop.invariant.0) in
    (omega (arith, c.in_ok-rest.ensures.shorter, c.loop.invariant.0), goes_on _ c.loop.counter at _ c.loop.rest.now c.in_ok-rest.rest.now _ c.loop-test.true (sym c.is_empty.ensures ∙ c.if-is_empty.false) c.in_ok-rest.ensures.exact step c.loop.invariant.1)

pub returns : goal.returns
returns c = is_done _ c.loop.counter _ c.loop.rest.now _ c.loop-test.false c.loop.invariant.1

use Rattle.oca_pdu.proofs.Words.{err_from_is_err_and, Fits-lt-pow}
use Rattle.oca_pdu.proofs.Exact.{is_fault, check_found, check_only, not_refused}
use Rattle.oca_pdu.proofs.checking.check.Goals as goal

pub returns-in_err-check_all-clause-only : goal.returns-in_err-check_all-clause-only
returns-in_err-check_all-clause-only c = λ ps s. not_refused ps c.args.bytes.now c.in_err-check_all.field-0.0 s c.in_err-check_all.ensures

pub returns-in_err-check_all-clause-fault : goal.returns-in_err-check_all-clause-fault
returns-in_err-check_all-clause-fault c =
    let p = err_from_is_err_and c.from_residual.result c.from_residual.ensures.1 in
    rw (p.1, p.2) (is_fault c.args.bytes.now c.in_err-check_all.field-0.0 (λ i. Fits-lt-pow (c.type_inv.bytes i)) c.in_err-check_all.ensures)

pub returns-clause-found : goal.returns-clause-found
returns-clause-found c = check_found c.args.bytes.now (λ i. Fits-lt-pow (c.type_inv.bytes i)) c.in_ok-check_all.ensures

pub returns-clause-only : goal.returns-clause-only
returns-clause-only c = λ ps s. check_only ps c.args.bytes.now s

use Rattle.oca_pdu.proofs.Exact.{one_fault}
use Rattle.oca_pdu.proofs.laws.law_one_first_fault.Goals as goal

pub returns : goal.returns
returns c = one_fault

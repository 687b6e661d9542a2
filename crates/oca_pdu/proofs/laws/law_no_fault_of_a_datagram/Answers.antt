use Rattle.oca_pdu.proofs.Exact.{no_fault}
use Rattle.oca_pdu.proofs.laws.law_no_fault_of_a_datagram.Goals as goal

pub returns : goal.returns
returns c = no_fault

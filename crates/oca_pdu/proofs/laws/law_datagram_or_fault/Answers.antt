use Rattle.oca_pdu.proofs.Exact.{decided}
use Rattle.oca_pdu.proofs.laws.law_datagram_or_fault.Goals as goal

pub returns : goal.returns
returns c = decided

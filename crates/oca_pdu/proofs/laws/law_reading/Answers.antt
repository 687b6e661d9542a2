use Rattle.oca_pdu.proofs.Exact.{exact}
use Rattle.oca_pdu.proofs.laws.law_reading.Goals as goal

pub returns : goal.returns
returns c = exact

use Rattle.oca_pdu.proofs.Exact.{read_back}
use Rattle.oca_pdu.proofs.laws.law_written_is_read_back.Goals as goal

pub returns : goal.returns
returns c = read_back

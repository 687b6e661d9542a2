use Rattle.oca_pdu.proofs.Exact.{one_list}
use Rattle.oca_pdu.proofs.laws.law_one_list_of_messages.Goals as goal

pub returns : goal.returns
returns c = one_list

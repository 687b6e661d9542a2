use Rattle.oca_pair.proofs.GettingThrough.{gets_through}
use Rattle.oca_pair.proofs.law.law_getting_through.Goals as goal

pub returns : goal.returns
returns c = gets_through c.law_written_is_read_back.ensures

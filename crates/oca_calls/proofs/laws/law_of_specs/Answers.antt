use Rattle.oca_calls.proofs.SpecsAgain.{written_again}
use Rattle.oca_calls.proofs.laws.law_of_specs.Goals as goal

pub returns : goal.returns
returns c = written_again c.law_of_copies.ensures

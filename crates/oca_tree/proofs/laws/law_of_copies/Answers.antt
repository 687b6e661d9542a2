use Rattle.oca_tree.proofs.Copying.{made_again}
use Rattle.oca_tree.proofs.laws.law_of_copies.Goals as goal

pub returns : goal.returns
returns c = made_again

use Rattle.oca_tree.proofs.Starting.{plain}
use Rattle.oca_tree.proofs.laws.law_of_starts.Goals as goal

pub returns : goal.returns
returns c = plain

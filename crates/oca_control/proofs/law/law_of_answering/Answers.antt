use Rattle.oca_control.proofs.Answering.{answer_kept}
use Rattle.oca_control.proofs.law.law_of_answering.Goals as goal

pub returns : goal.returns
returns c = answer_kept

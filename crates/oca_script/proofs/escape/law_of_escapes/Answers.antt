use Rattle.oca_script.proofs.EscapeLemmas.{read_back}
use Rattle.oca_script.proofs.escape.law_of_escapes.Goals as goal

pub returns : goal.returns
returns c = read_back

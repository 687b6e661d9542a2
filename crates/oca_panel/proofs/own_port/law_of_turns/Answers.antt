use Rattle.oca_panel.proofs.OwnLemmas.{rise-or-rest}
use Rattle.oca_panel.proofs.own_port.law_of_turns.Goals as goal

pub returns : goal.returns
returns c = rise-or-rest

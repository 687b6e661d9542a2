use Rattle.oca_panel.proofs.RequestLemmas.{asks-set}
use Rattle.oca_panel.proofs.panel.Panel.ask_to_set.Goals as goal

pub returns : goal.returns
returns g c = asks-set _ _ c.set_request-request.result _ _ _ c.set_request-request.ensures c.ask_value.ensures

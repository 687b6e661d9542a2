use Rattle.oca_panel.proofs.RequestLemmas.{begins-set}
use Rattle.oca_panel.proofs.panel.Panel.begin_set.Goals as goal

pub returns : goal.returns
returns g c = begins-set _ _ c.set_request-request.result _ _ _ _ c.set_request-request.ensures c.of.ensures c.begin.ensures

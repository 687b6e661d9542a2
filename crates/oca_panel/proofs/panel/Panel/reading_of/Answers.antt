use Rattle.std.proofs.Common.{refl}
use Rattle.oca_panel.proofs.RequestLemmas.{reads-by}
use Rattle.oca_panel.proofs.panel.Panel.reading_of.Goals as goal

pub returns-in-Some : goal.returns-in-Some
returns-in-Some g c =
    reads-by _ _ _ c.get_request.result c.in-Some.request _ _ _ _ c.in-Some.is c.get_request.ensures refl c.ask_value-outcome.ensures c.reading_in.ensures

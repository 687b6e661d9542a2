use Rattle.oca_panel.proofs.WalkLemmas.{finds-too-many}
use Rattle.oca_panel.proofs.walk.find.Goals as goal

pub returns-in-Ok-clause-refused : goal.returns-in-Ok-clause-refused
returns-in-Ok-clause-refused g c =
    finds-too-many _ _ _ _ _ _ _ c.in-Ok.description c.find_in.result c.if-again.false c.in-Ok.ensures c.find_in.ensures.refused

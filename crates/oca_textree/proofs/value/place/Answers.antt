use Rattle.std.proofs.Common.{sym, ◌∙◌}
use Rattle.oca_textree.proofs.SplitLemmas.{place-position}
use Rattle.oca_textree.proofs.value.place.Goals as goal

pub returns-in-Some : goal.returns-in-Some
returns-in-Some c = sym c.in-Some.is ∙ c.first_place.ensures.value ∙ place-position c.args.name.now c.args.names.now

pub returns-in-None : goal.returns-in-None
returns-in-None c = sym c.in-None.is ∙ c.first_place.ensures.value ∙ place-position c.args.name.now c.args.names.now

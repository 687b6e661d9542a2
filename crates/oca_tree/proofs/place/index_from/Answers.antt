use Rattle.oca_tree.specs.Objects.{has_number}
use Rattle.oca_tree.proofs.Positions.{place_absent, place_there, place_within}
use Rattle.oca_tree.proofs.place.index_from.Goals as goal

pub returns-clause-within : goal.returns-clause-within
returns-clause-within c = place_within (has_number c.args.ono.0) c.args.objects.now.list c.search_from.result c.search_from.ensures.index

pub returns-clause-absent : goal.returns-clause-absent
returns-clause-absent c = place_absent (has_number c.args.ono.0) c.args.objects.now.list c.search_from.result c.search_from.ensures.index

pub returns-clause-found : goal.returns-clause-found
returns-clause-found c = place_there (has_number c.args.ono.0) c.args.objects.now.list c.search_from.result c.search_from.ensures.index

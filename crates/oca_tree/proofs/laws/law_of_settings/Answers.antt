use Rattle.oca_tree.proofs.Fronts.{any_peer, as_peers}
use Rattle.oca_tree.proofs.Takes.{each_is_a_value}
use Rattle.oca_tree.proofs.laws.law_of_settings.Goals as goal

pub returns-clause-any_peer : goal.returns-clause-any_peer
returns-clause-any_peer c = any_peer

pub returns-clause-as_peers : goal.returns-clause-as_peers
returns-clause-as_peers c = as_peers

pub returns-clause-each : goal.returns-clause-each
returns-clause-each c = each_is_a_value

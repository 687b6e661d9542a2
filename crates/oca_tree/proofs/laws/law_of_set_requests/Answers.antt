use Rattle.oca_tree.specs.SetRequests.{command_for}
use Rattle.oca_tree.proofs.SetRequests.{is_understood}
use Rattle.oca_tree.proofs.laws.law_of_set_requests.Goals as goal

pub returns-clause-understood : goal.returns-clause-understood
returns-clause-understood c = is_understood

pub returns-clause-carried_out : goal.returns-clause-carried_out
returns-clause-carried_out c = λ v request handle tree peer target o fits sets found e free works.
    (c.law_of_settings.ensures.as_peers tree peer (command_for handle target request) o v found e free works (is_understood v request handle target o fits sets e)).tree_is

use Rattle.oca_device.proofs.GroupLaws.{are_groups, only_groups}
use Rattle.oca_device.proofs.law.law_of_groups.Goals as goal

pub returns : goal.returns
returns c = λ answers a. (are_groups answers a, λ groups h. only_groups answers groups a h)

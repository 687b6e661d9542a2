use Rattle.std.proofs.Common.{rules}
use Rattle.oca_calls.proofs.Behind.{sets_behind}
use Rattle.oca_c.proofs.front_calls.oca_device_set.Goals as goal

pub returns-clause-sets : goal.returns-clause-sets
returns-clause-sets c =
    sets_behind c.args.handle.now.slot.inner c.put.new.self.slot.inner c.deref_mut.result.now c.set-answer.new.self c.number-2.result c.set-answer.result c.args.ono c.args.value.now
    (search rules) (search rules) c.number-2.ensures c.set-answer.ensures.sets

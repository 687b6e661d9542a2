use Rattle.std.proofs.Common.{rules}
use Rattle.oca_model.specs.declared.request.Request.TheVariants as asked
use Rattle.oca_tree.specs.LocalChanges.{ToUnlocked}
use Rattle.oca_calls.proofs.Behind.{changes_behind}
use Rattle.oca_c.proofs.front_calls.oca_device_unlock.Goals as goal

pub returns-clause-unlocks : goal.returns-clause-unlocks
returns-clause-unlocks c =
    changes_behind c.args.handle.now.slot.inner c.put.new.self.slot.inner c.deref_mut.result.now c.unlock-answer.new.self c.number-2.result c.unlock-answer.result c.args.ono ToUnlocked asked.Unlock
    (search rules) (search rules) c.number-2.ensures c.unlock-answer.ensures.unlocks

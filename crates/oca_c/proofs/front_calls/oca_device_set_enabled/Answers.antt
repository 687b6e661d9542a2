use Rattle.std.proofs.Common.{rules}
use Rattle.oca_model.specs.declared.request.Request.TheVariants as asked
use Rattle.oca_tree.specs.LocalChanges.{ToEnabled}
use Rattle.oca_calls.proofs.Behind.{changes_behind}
use Rattle.oca_c.proofs.front_calls.oca_device_set_enabled.Goals as goal

pub returns-clause-sets : goal.returns-clause-sets
returns-clause-sets c =
    changes_behind c.args.handle.now.slot.inner c.put.new.self.slot.inner c.deref_mut.result.now c.set_enabled-answer.new.self c.number-2.result c.set_enabled-answer.result c.args.ono (ToEnabled c.args.enabled) (asked.SetEnabled c.args.enabled)
    (search rules) (search rules) c.number-2.ensures c.set_enabled-answer.ensures.sets

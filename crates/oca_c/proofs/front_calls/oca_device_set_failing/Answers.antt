use Rattle.std.proofs.Common.{rules}
use Rattle.oca_model.specs.declared.request.Request.TheVariants as asked
use Rattle.oca_tree.specs.LocalChanges.{ToFailing}
use Rattle.oca_calls.proofs.Behind.{changes_behind}
use Rattle.oca_c.proofs.front_calls.oca_device_set_failing.Goals as goal

pub returns-clause-tells : goal.returns-clause-tells
returns-clause-tells c =
    changes_behind c.args.handle.now.slot.inner c.put.new.self.slot.inner c.deref_mut.result.now c.set_failing-answer.new.self c.number-2.result c.set_failing-answer.result c.args.ono (ToFailing c.args.failing) (asked.SetEnabled c.args.failing)
    (search rules) (search rules) c.number-2.ensures c.set_failing-answer.ensures.tells

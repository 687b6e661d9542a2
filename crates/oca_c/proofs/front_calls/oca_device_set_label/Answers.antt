use Rattle.std.proofs.Common.{rules}
use Rattle.oca_calls.proofs.Behind.{labels_behind}
use Rattle.oca_c.proofs.front_calls.oca_device_set_label.Goals as goal

pub returns-clause-labels : goal.returns-clause-labels
returns-clause-labels c =
    labels_behind c.args.handle.now.slot.inner c.put.new.self.slot.inner c.deref_mut.result.now c.set_label-answer.new.self c.number-2.result c.set_label-answer.result c.args.ono c.args.label.now
    (search rules) (search rules) c.number-2.ensures c.set_label-answer.ensures.labels c.set_label-answer.ensures.other

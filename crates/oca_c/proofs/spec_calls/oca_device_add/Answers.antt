use Rattle.std.proofs.Common.{rules}
use Rattle.oca_calls.specs.CSpecs.{SpecAddedBy}
use Rattle.oca_calls.proofs.Behind.{adds_behind}
use Rattle.oca_c.proofs.spec_calls.oca_device_add.Goals as goal

pub returns-clause-adds : goal.returns-clause-adds
returns-clause-adds c =
    adds_behind c.args.handle.now.slot.inner c.put.new.self.slot.inner c.deref_mut.result.now c.add_spec-answer.new.self c.number-2.result c.add_spec-answer.result
    (λ a B B'. SpecAddedBy a B B' c.args.container c.args.ono c.args.spec.now) (search rules) (search rules) c.number-2.ensures c.add_spec-answer.ensures.adds

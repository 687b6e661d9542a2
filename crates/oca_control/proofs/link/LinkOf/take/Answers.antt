use Rattle.oca_control.proofs.Receiving.{taken_few}
use Rattle.oca_control.proofs.link.LinkOf.take.Goals as goal

pub invariant_of-self : goal.invariant_of-self
invariant_of-self g c = taken_few c.args.handle.0 _ c.self.inside.table c.take.new.self c.take.ensures.state c.self.invariant

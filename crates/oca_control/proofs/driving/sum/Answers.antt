use Rattle.oca_control.proofs.Turns.{sum_fits}
use Rattle.oca_control.proofs.driving.sum.Goals as goal

pub returns : goal.returns
returns c = sum_fits c.args.a c.args.b _ c.requires.a c.requires.b c.add.ensures

use Rattle.oca_device.proofs.Words.{refl}
use Rattle.oca_device.proofs.Keepings.{quiet_in, oversize_in, failed_in}
use Rattle.oca_device.proofs.keeping.take_turn.Goals as goal

pub returns-in-Quiet-clause-turn : goal.returns-in-Quiet-clause-turn
returns-in-Quiet-clause-turn g c = quiet_in _ c.quiet_turn-report.ensures c.in-Quiet.ensures c.tick.ensures

pub returns-in-Oversize-clause-turn : goal.returns-in-Oversize-clause-turn
returns-in-Oversize-clause-turn g c = oversize_in _ c.oversize_turn-report.ensures c.in-Oversize.ensures c.tick-in-Oversize.ensures

pub returns-in-Failed-clause-turn : goal.returns-in-Failed-clause-turn
returns-in-Failed-clause-turn g c = failed_in _ c.failed_turn-report.ensures c.in-Failed.ensures refl

use Rattle.oca_device.proofs.Words.{ToEnabled}
use Rattle.oca_device.proofs.Opened.{local_in}
use Rattle.oca_device.proofs.device.DeviceOf.set_enabled.Goals as goal

pub returns-clause-represents : goal.returns-clause-represents
returns-clause-represents g c = local_in _ c.self.inside.tree _ c.self.inside.sessions c.args.self.now c.args.ono.0 (ToEnabled c.args.enabled) c.self.view_is c.set_enabled.ensures.tree

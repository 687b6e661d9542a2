use Rattle.oca_device.proofs.Words.{ToValue}
use Rattle.oca_device.proofs.Opened.{local_in}
use Rattle.oca_device.proofs.device.DeviceOf.set.Goals as goal

pub returns-clause-represents : goal.returns-clause-represents
returns-clause-represents g c = local_in _ c.self.inside.tree _ c.self.inside.sessions c.args.self.now c.args.ono.0 (ToValue c.args.value) c.self.view_is c.set.ensures.tree

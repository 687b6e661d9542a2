use Rattle.oca_device.proofs.Words.{ToUnlocked}
use Rattle.oca_device.proofs.Opened.{local_in}
use Rattle.oca_device.proofs.device.DeviceOf.unlock.Goals as goal

pub returns-clause-represents : goal.returns-clause-represents
returns-clause-represents g c = local_in _ c.self.inside.tree _ c.self.inside.sessions c.args.self.now c.args.ono.0 ToUnlocked c.self.view_is c.unlock.ensures.tree

use Rattle.std.proofs.Math.Facts.{Fits-lt-pow}
use Rattle.oca_pdu.proofs.Limited.{limited}
use Rattle.oca_pdu.proofs.messages.Messages.start.Goals as goal

pub returns-clause-limits : goal.returns-clause-limits
returns-clause-limits c = limited c.args.bytes.now (λ i. Fits-lt-pow (c.type_inv.bytes i)) c.requires

use Rattle.oca_pdu.proofs.Words.{subst, sym, IsWithinLimits}
use Rattle.oca_pdu.proofs.datagram.Datagram.messages.Goals as goal

pub returns-clause-limits : goal.returns-clause-limits
returns-clause-limits c = subst IsWithinLimits (sym c.start.ensures.all) c.start.ensures.limits

use Rattle.std.proofs.Common.{arith}
use Rattle.oca_pdu.proofs.Adding.{status_below}
use Rattle.oca_pdu.proofs.writing.response_head.Goals as goal

pub returns-clause-fits : goal.returns-clause-fits
returns-clause-fits c = record { handle = omega arith; status = status_below c.args.reply.status; count = omega arith; size = omega (arith, c.requires) }

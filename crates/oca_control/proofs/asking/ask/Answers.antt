use Rattle.oca_control.proofs.Asks.{asks_answered, asks_refused, begun_asked, refused_asked}
use Rattle.oca_control.proofs.asking.ask.Goals as goal

pub returns-in-Ok-clause-asks : goal.returns-in-Ok-clause-asks
returns-in-Ok-clause-asks g c = asks_answered c.in-Ok.handle c.wait_for.result c.in-Ok.ensures c.wait_for.ensures.waits

pub returns-in-Ok-clause-receives : goal.returns-in-Ok-clause-receives
returns-in-Ok-clause-receives g c = λ below. begun_asked c.args.turns c.in-Ok.handle c.wait_for.result _ c.in-Ok.ensures (c.wait_for.ensures.receives below)

pub returns-in-Err-clause-asks : goal.returns-in-Err-clause-asks
returns-in-Err-clause-asks g c = asks_refused c.in-Err.fault c.refused.result c.in-Err.ensures c.refused.ensures

pub returns-in-Err-clause-receives : goal.returns-in-Err-clause-receives
returns-in-Err-clause-receives g c = λ below. refused_asked c.args.turns c.in-Err.fault c.refused.result c.in-Err.ensures c.refused.ensures

use Rattle.oca_control.proofs.Settling.{some_more, gave_lost, gave_left}
use Rattle.oca_control.proofs.driving.send_due.Goals as goal

pub returns-clause-lost : goal.returns-clause-lost
returns-clause-lost g c = gave_lost c.give_all.ensures.gives (some_more c.args.link.now.span)

pub returns-clause-left : goal.returns-clause-left
returns-clause-left g c = gave_left c.give_all.ensures.gives c.give_all.ensures.few

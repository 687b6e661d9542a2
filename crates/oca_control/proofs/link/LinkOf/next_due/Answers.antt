use Rattle.oca_control.proofs.DueTimes.{next_some, next_none}
use Rattle.oca_control.proofs.link.LinkOf.next_due.Goals as goal

pub returns-in-Some : goal.returns-in-Some
returns-in-Some g c =
    let due = c.sooner.ensures _ _ c.due_from.ensures c.later.ensures in
    rw (← c.self.view_is) (next_some _ c.if-self.false _ c.in-Some.first _ due c.in-Some.is c.latest.ensures.value c.latest.ensures.fits)

pub returns-in-None : goal.returns-in-None
returns-in-None g c =
    let due = c.sooner.ensures _ _ c.due_from.ensures c.later.ensures in
    rw (← c.self.view_is) (next_none _ c.if-self.false _ due c.in-None.is)

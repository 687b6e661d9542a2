use Rattle.std.proofs.Common.{refl}
use Rattle.oca_session.proofs.Tables.{session_in}
use Rattle.oca_session.proofs.sessions.SessionsOf.judge.Goals as goal

pub returns-clause-retained : goal.returns-clause-retained
returns-clause-retained g c =
    let a = c.self.inside in
    let found = session_in c.args.peer a.slots.items a.slots.items a.count c.index_of_known.result _ refl (rw (← c.self.view_is) at c.index_of_known.ensures.place) c.index.ensures in
    rw (← c.self.view_is, found) c.judge.ensures.exact

pub returns-clause-accepted : goal.returns-clause-accepted
returns-clause-accepted g c = λ w A agrees.
    let a = c.self.inside in
    let found = session_in c.args.peer a.slots.items a.slots.items a.count c.index_of_known.result _ refl (rw (← c.self.view_is) at c.index_of_known.ensures.place) c.index.ensures in
    c.judge.ensures.accepted w A (rw (← c.self.view_is, found) at agrees)

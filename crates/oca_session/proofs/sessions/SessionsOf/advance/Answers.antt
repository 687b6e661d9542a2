-- No more peers lapse than there are sessions, and so all are among the first 16 where at most 16 sessions were chosen.
use Rattle.std.proofs.Common.{rules, ◌≤◌, sym, subst, ◌∙◌, length, length-take, arith}
use Rattle.std.specs.Prelude.{All, Contains}
use Rattle.std.proofs.lemmas.List.{take_all}
use Rattle.oca_session.specs.Table.{present, lapsed, forgotten, peers_of}
use Rattle.oca_session.proofs.Tables.{lapsed_few}
use Rattle.oca_session.proofs.sessions.SessionsOf.advance.Goals as goal

pub returns-clause-lapsed : goal.returns-clause-lapsed
returns-clause-lapsed g c = search rules

pub returns-clause-all : goal.returns-clause-all
returns-clause-all g c = λ le.
    let a = c.self.inside in
    let t = present c.args.self.now c.args.now in
    let few = lapsed_few t c.args.self.now.sessions in
    let known : length c.args.self.now.sessions ≤ c.args.self.now.sizes.peers =
    rw (← c.self.view_is) (omega (arith, length-take a.count a.slots.items, c.self.invariant.0)) in
    returns-clause-lapsed g c ∙ take_all 16 (lapsed t c.args.self.now.sessions) (omega (arith, few, known, le))

pub returns-clause-forgotten : goal.returns-clause-forgotten
returns-clause-forgotten g c = λ le.
    let all = c.advance_into.ensures.lapsed ∙ sym (returns-clause-all g c le) in
    subst (λ qs. All (Contains qs) (peers_of (forgotten (present c.args.self.now c.args.now) c.args.self.now.sessions))) all
    c.advance_into.ensures.forgotten

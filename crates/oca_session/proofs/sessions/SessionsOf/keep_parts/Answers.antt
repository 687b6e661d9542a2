use Rattle.std.proofs.Common.{ap, ◌∙◌, refl}
use Rattle.oca_session.specs.Table.{with_sessions, peers_of}
use Rattle.oca_session.proofs.Tables.{changed_agreed, peers_of-changed, known_same}
use Rattle.oca_session.proofs.sessions.SessionsOf.keep_parts.Goals as goal

pub returns-clause-accepted : goal.returns-clause-accepted
returns-clause-accepted g c = λ w A h.
    c.put.ensures.retained
    ∙ ap (with_sessions c.args.self.now) (changed_agreed c.args.peer w A _ c.args.self.now.sessions c.put.ensures.one.one h)

pub returns-clause-peers : goal.returns-clause-peers
returns-clause-peers g c =
    ap (λ t. peers_of t.sessions) c.put.ensures.retained
    ∙ peers_of-changed c.args.peer _ (λ s. refl) c.args.self.now.sessions

pub returns-clause-known : goal.returns-clause-known
returns-clause-known g c = λ p. known_same p _ c.args.self.now.sessions (returns-clause-peers g c)

use Rattle.oca_control.proofs.Words.{ℕ, List, refl, subst}
use Rattle.oca_net.specs.declared.end.Heard.TheVariants as heard
use Rattle.oca_net.specs.EndStates.{Receives}
use Rattle.oca_control.proofs.Turns.{datagram_turn, quiet_turn, oversize_turn, failed_turn}
use Rattle.oca_control.proofs.driving.take_turn.Goals as goal

pub returns-in-Datagram-clause-turn : goal.returns-in-Datagram-clause-turn
returns-in-Datagram-clause-turn g c =
    datagram_turn c.give_all-given.result c.as_slice.result.now c.datagram.result c.count_of-answered.result c.as_slice.ensures.fits c.as_slice.ensures.value c.in-Datagram.ensures
    c.datagram.ensures.receives c.count_of-answered.ensures.count c.give_all-given.ensures.gives

pub returns-in-Quiet-clause-turn : goal.returns-in-Quiet-clause-turn
returns-in-Quiet-clause-turn g c = quiet_turn c.give_all.result c.in-Quiet.ensures c.give_all.ensures.gives

pub returns-in-Oversize-clause-turn : goal.returns-in-Oversize-clause-turn
returns-in-Oversize-clause-turn g c = oversize_turn c.give_all-in-Oversize.result c.in-Oversize.ensures c.give_all-in-Oversize.ensures.gives

pub returns-in-Failed-clause-turn : goal.returns-in-Failed-clause-turn
returns-in-Failed-clause-turn g c = failed_turn c.nothing.result c.args.link.now c.in-Failed.ensures c.nothing.ensures

pub returns-in-Closed-clause-turn : goal.returns-in-Closed-clause-turn
returns-in-Closed-clause-turn g c = record {
  link = refl;
  received = subst (λ (bytes : List ℕ). Receives heard.Closed bytes (g.E.End.state c.args.end.now) (g.E.End.state c.receive.new.self)) c.in-Closed.ensures.packet c.in-Closed.ensures;
}

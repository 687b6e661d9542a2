use Rattle.oca_device.proofs.Words.{refl, subst, List, ℕ, Receives}
use Rattle.oca_net.specs.declared.end.Heard.TheVariants as heard
use Rattle.oca_device.proofs.Turns.{quiet_turn, oversize_turn, failed_turn, datagram_turn, told_turn}
use Rattle.oca_device.proofs.serving.take_turn.Goals as goal

pub returns-in-Datagram-clause-turn : goal.returns-in-Datagram-clause-turn
returns-in-Datagram-clause-turn g c =
    told_turn c.tell.ensures (datagram_turn _ c.as_slice.result.now c.datagram-verdict.result c.of_verdict.result refl c.of_verdict.ensures c.as_slice.ensures.fits c.as_slice.ensures.value c.in-Datagram.ensures
    c.datagram-verdict.ensures.represents c.datagram-verdict.ensures.packets c.datagram-verdict.ensures.verdict c.send_all-failed_sends.ensures.sends
    c.tree.ensures.tree c.written.ensures.written c.follow.ensures)

pub returns-in-Quiet-clause-turn : goal.returns-in-Quiet-clause-turn
returns-in-Quiet-clause-turn g c =
    told_turn c.tell-in-Quiet.ensures (quiet_turn _ c.quiet_turn-turn.ensures c.in-Quiet.ensures c.tick.ensures)

pub returns-in-Oversize-clause-turn : goal.returns-in-Oversize-clause-turn
returns-in-Oversize-clause-turn g c =
    told_turn c.tell-in-Oversize.ensures (oversize_turn _ c.oversize_turn-turn.ensures c.in-Oversize.ensures c.tick-in-Oversize.ensures)

pub returns-in-Failed-clause-turn : goal.returns-in-Failed-clause-turn
returns-in-Failed-clause-turn g c =
    told_turn c.tell-in-Failed.ensures (failed_turn _ c.failed_turn-turn.ensures c.in-Failed.ensures refl)

pub returns-in-Closed-clause-turn : goal.returns-in-Closed-clause-turn
returns-in-Closed-clause-turn g c = record {
  device = refl;
  electronics = refl;
  received = subst (λ (bytes : List ℕ). Receives heard.Closed bytes (g.E.End.state c.args.end.now) (g.E.End.state c.receive.new.self)) c.in-Closed.ensures.packet c.in-Closed.ensures;
}

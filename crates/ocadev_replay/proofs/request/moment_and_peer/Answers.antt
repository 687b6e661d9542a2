use Rattle.ocadev_replay.proofs.RequestLemmas.{line-datagram}
use Rattle.ocadev_replay.proofs.request.moment_and_peer.Goals as goal

pub returns-clause-value : goal.returns-clause-value
returns-clause-value c =
    line-datagram c.args.line.now c.in_ok-now.rest.now c.in_ok-from.rest.now c.in_ok-now.now c.in_ok-from.from c.in_ok-now.ensures.value c.in_ok-from.ensures.value

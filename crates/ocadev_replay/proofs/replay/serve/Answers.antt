use Rattle.ocadev_replay.proofs.ServeLemmas.{tick-served}
use Rattle.ocadev_replay.proofs.replay.serve.Goals as goal

pub returns-in-Tick : goal.returns-in-Tick
returns-in-Tick g c = tick-served _ _ c.in-Tick.now _ _ _ _ c.in-Tick.is c.tick.ensures c.print.ensures

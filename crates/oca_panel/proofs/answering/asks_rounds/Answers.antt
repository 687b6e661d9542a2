use Rattle.oca_panel.specs.Probes.{NoRound, OneRound}
use Rattle.oca_panel.proofs.answering.asks_rounds.Goals as goal

pub loop-round-init : goal.loop-round-init
loop-round-init g c = NoRound

pub loop-round-preserved : goal.loop-round-preserved
loop-round-preserved g c = OneRound c.loop-round.invariant c.if-asks_round.ensures

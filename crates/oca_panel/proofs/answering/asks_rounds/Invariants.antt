use Rattle.oca_panel.specs.Probes.{AsksInVain}
use Rattle.oca_panel.proofs.answering.asks_rounds.Given as goal

abbrev pub invariant-loop-round : goal.invariant-loop-round
invariant-loop-round g l = AsksInVain l.device l.handle.0 l.round l.fn.link l.link l.fn.end.end_state l.end.end_state

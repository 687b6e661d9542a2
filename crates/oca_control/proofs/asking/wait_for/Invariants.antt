use Rattle.oca_control.proofs.Words.{TakesTurns}
use Rattle.oca_control.proofs.asking.wait_for.Given as goal

abbrev pub invariant-loop-turn : goal.invariant-loop-turn
invariant-loop-turn g l = TakesTurns l.handle.0 l._turn l.late l.fn.link l.link (g.E.End.state l.fn.end) (g.E.End.state l.end)

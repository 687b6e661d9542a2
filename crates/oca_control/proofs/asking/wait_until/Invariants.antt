use Rattle.oca_control.proofs.Words.{TakesTurnsBefore}
use Rattle.oca_control.proofs.asking.wait_until.Given as goal

abbrev pub invariant-loop-turn : goal.invariant-loop-turn
invariant-loop-turn g l =
    TakesTurnsBefore l.handle.0 l.until l._turn l.seen.lost l.seen.closed l.fn.link l.link (g.E.End.state l.fn.end) (g.E.End.state l.end)

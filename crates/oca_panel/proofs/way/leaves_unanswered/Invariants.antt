use Rattle.std.proofs.Common.{◌≡◌}
use Rattle.oca_panel.proofs.way.leaves_unanswered.Given as goal

abbrev pub invariant-loop-round : goal.invariant-loop-round
invariant-loop-round g l = l.reached.end.peer ≡ l.fn.reached.end.peer

use Rattle.std.proofs.Common.{◌≡◌}
use Rattle.oca_panel.proofs.way.Way.bind_patiently.Given as goal

abbrev pub invariant-loop-attempt : goal.invariant-loop-attempt
invariant-loop-attempt g l = l.waiting.peer ≡ l.self.device

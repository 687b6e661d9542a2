use Rattle.oca_device.proofs.Words.{◌≡◌, ◌+◌, ◌<◌, [], last_u64, ServesEndWith, ServesLongWith, IsAtMostEach}
use Rattle.std.proofs.Common.{◌*◌}
use Rattle.oca_device.proofs.serving.serve_with.Given as goal

abbrev pub invariant-loop-turn : goal.invariant-loop-turn
invariant-loop-turn g l = record {
  empty : l.outbox ≡ [];
  served : ServesLongWith l.fn.device l.device (g.E.End.state l.fn.end) (g.E.End.state l.end) (g.L.Electronics.state l.fn.electronics) (g.L.Electronics.state l.electronics) l.report;
  exact : l._turn < 4294967296 → ServesEndWith l.fn.device l.device (g.E.End.state l.fn.end) (g.E.End.state l.end) (g.L.Electronics.state l.fn.electronics) (g.L.Electronics.state l.electronics) l.report;
  turns : l.report.turns ≡ l._turn;
  within : IsAtMostEach (l._turn * 4294967295) l.report;
  receives : (g.E.End.state l.end).receives < last_u64 → (g.E.End.state l.end).receives ≡ (g.E.End.state l.fn.end).receives + l._turn;
}

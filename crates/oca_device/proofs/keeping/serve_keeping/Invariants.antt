use Rattle.oca_device.proofs.Words.{◌≡◌, ◌+◌, ◌<◌, ◌≤◌, [], last_u64, ServesKeeping}
use Rattle.oca_device.proofs.keeping.serve_keeping.Given as goal

abbrev pub invariant-loop-group : goal.invariant-loop-group
invariant-loop-group g l = record {
  served : ServesKeeping l.fn.keeping.is_behind l.keeping.is_behind l.fn.device l.device (g.E.End.state l.fn.end) (g.E.End.state l.end) (g.L.Electronics.state l.fn.electronics) (g.L.Electronics.state l.electronics) (g.S.Store.state l.fn.store) (g.S.Store.state l.store) l.report;
  turns : l.report.turns + l.left ≡ l.turns;
  many : l._group ≤ l.report.turns;
  receives : (g.E.End.state l.end).receives < last_u64 → (g.E.End.state l.end).receives ≡ (g.E.End.state l.fn.end).receives + l.report.turns;
  empty : l.outbox ≡ [];
  none : l.keeping.held ≡ [];
}

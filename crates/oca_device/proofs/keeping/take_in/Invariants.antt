use Rattle.oca_device.proofs.Words.{◌≡◌, ◌+◌, ◌<◌, ◌≤◌, false, [], length, last_u64, TakesIn}
use Rattle.oca_device.proofs.keeping.take_in.Given as goal

abbrev pub invariant-loop-turn : goal.invariant-loop-turn
invariant-loop-turn g l = record {
  taken : TakesIn l.taken.is_due l.fn.device l.device (g.E.End.state l.fn.end) (g.E.End.state l.end) (g.L.Electronics.state l.fn.electronics) (g.L.Electronics.state l.electronics) l.fn.keeping l.keeping l.taken.report;
  store : g.S.Store.state l.store ≡ g.S.Store.state l.fn.store;
  turns : l.taken.turns ≡ l._turn;
  same : l.taken.report.turns ≡ l.taken.turns;
  open_yet : l.taken.is_closed ≡ false;
  empty : l.outbox ≡ [];
  receives : (g.E.End.state l.end).receives < last_u64 → (g.E.End.state l.end).receives ≡ (g.E.End.state l.fn.end).receives + l._turn;
  room : length l.keeping.held ≤ 244;
}

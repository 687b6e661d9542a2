use Rattle.std.proofs.Common.{◌≡◌, ◌+◌, ◌<◌, false}
use Rattle.oca_net.specs.Ends.{last_u64}
use Rattle.oca_net.specs.Stale.{says_empty}
use Rattle.oca_net.proofs.stale.drop_waiting.Given as goal

abbrev pub invariant-loop-received : goal.invariant-loop-received
invariant-loop-received g l = record {
  receives : (g.E.End.state l.end).receives < last_u64 → (g.E.End.state l.end).receives ≡ (g.E.End.state l.fn.end).receives + l._received;
  closed : (g.E.End.state l.end).closed ≡ (g.E.End.state l.fn.end).closed;
  sends : (g.E.End.state l.end).sends ≡ (g.E.End.state l.fn.end).sends;
  waiting : says_empty l.last ≡ false;
}

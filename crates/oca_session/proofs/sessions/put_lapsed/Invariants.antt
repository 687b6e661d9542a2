use Rattle.std.proofs.Common.{◌≡◌, ◌≤◌, ◌++◌, drop, length}
use Rattle.oca_session.specs.Table.{lapsed}
use Rattle.oca_session.proofs.sessions.put_lapsed.Given as goal

-- the peers so far, with those of the sessions to come
abbrev pub invariant-loop-slot : goal.invariant-loop-slot
invariant-loop-slot g l =
    record {
      found : l.peers.items ++ lapsed l.moment (drop l.slot-index l.slots) ≡ lapsed l.moment l.slots;
      few : length l.peers.items ≤ l.slot-index;
    }

use Rattle.std.proofs.Common.{◌≡◌, ◌≤◌, length}
use Rattle.std.specs.Prelude.{All}
use Rattle.std.specs.Vec.{vec_capacity}
use Rattle.oca_session.specs.Sound.{IsSession}
use Rattle.oca_session.proofs.sessions.spare_slots.Given as goal

abbrev pub invariant-loop-i : goal.invariant-loop-i
invariant-loop-i g l = (length l.slots.items ≡ l._i) × (l.count ≤ vec_capacity l.slots) × All (IsSession l.window) l.slots.items

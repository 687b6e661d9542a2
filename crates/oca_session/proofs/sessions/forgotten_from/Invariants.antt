use Rattle.std.proofs.Common.{take}
use Rattle.oca_types.specs.Moments.{HoldsFrom}
use Rattle.oca_session.specs.Lapses.{forgets}
use Rattle.oca_session.proofs.sessions.forgotten_from.Given as goal

-- of the sessions so far
abbrev pub invariant-loop-slot : goal.invariant-loop-slot
invariant-loop-slot g l = HoldsFrom (forgets (take l.slot-index l.slots)) l.first

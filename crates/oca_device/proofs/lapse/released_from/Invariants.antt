use Rattle.std.proofs.Common.{take}
use Rattle.oca_device.proofs.Words.{HoldsFrom, releases}
use Rattle.oca_device.proofs.lapse.released_from.Given as goal

-- of the objects so far
abbrev pub invariant-loop-at : goal.invariant-loop-at
invariant-loop-at g l = HoldsFrom (releases (take l.at l.tree) l.sessions.sessions) l.first

use Rattle.oca_control.proofs.Words.{◌-◌, HoldsFrom, some_due}
use Rattle.oca_control.specs.PrivateSlots.{untaken_from}
use Rattle.oca_control.proofs.table.due_from.Given as goal

-- of those below
abbrev pub invariant-loop-handle : goal.invariant-loop-handle
invariant-loop-handle g l = HoldsFrom (some_due (untaken_from l.low (l.handle - l.low) l.slots)) l.first

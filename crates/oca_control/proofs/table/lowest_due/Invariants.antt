use Rattle.oca_control.proofs.Words.{◌≡◌, ◌-◌, first_due}
use Rattle.oca_control.specs.PrivateSlots.{untaken_from}
use Rattle.oca_control.proofs.table.lowest_due.Given as goal

-- the first due command is not below
abbrev pub invariant-loop-handle : goal.invariant-loop-handle
invariant-loop-handle g l = first_due l.now (untaken_from l.handle (l.next - l.handle) l.slots) ≡ first_due l.now (untaken_from l.low (l.next - l.low) l.slots)

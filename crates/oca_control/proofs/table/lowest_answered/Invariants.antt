use Rattle.oca_control.proofs.Words.{◌≡◌, ◌-◌, first_answered}
use Rattle.oca_control.specs.PrivateSlots.{untaken_from}
use Rattle.oca_control.proofs.table.lowest_answered.Given as goal

-- the first that has its answer is not below
abbrev pub invariant-loop-handle : goal.invariant-loop-handle
invariant-loop-handle g l = first_answered (untaken_from l.handle (l.next - l.handle) l.slots) ≡ first_answered (untaken_from l.low (l.next - l.low) l.slots)

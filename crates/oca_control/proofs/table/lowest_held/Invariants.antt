use Rattle.oca_control.proofs.Words.{◌≡◌, ◌-◌}
use Rattle.oca_control.specs.PrivateSlots.{untaken_from}
use Rattle.oca_control.proofs.table.lowest_held.Given as goal

-- nothing is held below
abbrev pub invariant-loop-handle : goal.invariant-loop-handle
invariant-loop-handle g l = untaken_from l.handle (l.next - l.handle) l.slots ≡ untaken_from l.low (l.next - l.low) l.slots

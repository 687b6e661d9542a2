use Rattle.oca_control.proofs.Words.{◌≡◌, ◌-◌, list_any, is_late}
use Rattle.oca_control.specs.PrivateSlots.{untaken_from}
use Rattle.oca_control.proofs.table.some_late.Given as goal

-- none below is late
abbrev pub invariant-loop-handle : goal.invariant-loop-handle
invariant-loop-handle g l = list_any (is_late l.now) (untaken_from l.handle (l.next - l.handle) l.slots) ≡ list_any (is_late l.now) (untaken_from l.low (l.next - l.low) l.slots)

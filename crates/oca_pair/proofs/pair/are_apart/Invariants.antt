use Rattle.oca_pair.proofs.Words.{◌≡◌, drop, device_address, are_apart}
use Rattle.oca_pair.proofs.pair.are_apart.Given as goal

abbrev pub invariant-loop-i : goal.invariant-loop-i
invariant-loop-i l = are_apart device_address (drop l.i l.starts) ≡ are_apart device_address l.starts

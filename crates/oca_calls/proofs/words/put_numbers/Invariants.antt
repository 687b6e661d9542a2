use Rattle.std.proofs.Common.{◌≡◌, ◌++◌, take, drop}
use Rattle.oca_device.specs.Written.{numbers_of}
use Rattle.oca_calls.proofs.words.put_numbers.Given as goal

-- those so far are put, and behind them the place is as it was
abbrev pub invariant-loop-i : goal.invariant-loop-i
invariant-loop-i l = l.place ≡ take l.i (numbers_of l.onos) ++ drop l.i l.fn.place

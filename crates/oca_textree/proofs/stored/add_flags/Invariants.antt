use Rattle.std.proofs.Common.{◌≡◌, length}
use Rattle.oca_textree.specs.Stored.{flags_after}
use Rattle.oca_textree.proofs.stored.add_flags.Given as goal

abbrev pub invariant-loop-digit : goal.invariant-loop-digit
invariant-loop-digit l = flags_after l.fn.flags.items l.digits ≡ flags_after l.flags.items l.rest

abbrev pub decreases-loop-digit : goal.decreases-loop-digit
decreases-loop-digit l = length l.rest

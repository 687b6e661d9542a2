use Rattle.std.proofs.Common.{◌≡◌, ◌+◌, ◌≤◌, ◌++◌, length, map, take}
use Rattle.oca_script.specs.Ends.{output}
use Rattle.oca_textree.specs.Written.{flag_digit}
use Rattle.oca_textree.proofs.writing.put_flags.Given as goal

abbrev pub invariant-loop-flag : goal.invariant-loop-flag
invariant-loop-flag g l = record {
  value : l.printer ≡ output l.fn.printer.contents (l.fn.printer.held ++ map flag_digit (take l.flag-index l.flags)) l.fn.printer.failed;
  len : length l.printer.held ≤ length l.fn.printer.held + l.flag-index;
}

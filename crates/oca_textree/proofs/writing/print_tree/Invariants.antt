use Rattle.std.proofs.Common.{take}
use Rattle.std.specs.List.{flat_map}
use Rattle.oca_script.specs.Printing.{PrintsAll}
use Rattle.oca_textree.specs.Written.{line_of}
use Rattle.oca_textree.proofs.writing.print_tree.Given as goal

abbrev pub invariant-loop-i : goal.invariant-loop-i
invariant-loop-i g l = PrintsAll l.fn.printer l.printer (flat_map line_of (take l.i l.tree))

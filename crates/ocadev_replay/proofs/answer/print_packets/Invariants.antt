use Rattle.std.proofs.Common.{take}
use Rattle.std.specs.List.{flat_map}
use Rattle.oca_script.specs.Printing.{PrintsAll}
use Rattle.ocadev_replay.specs.Printing.{packet_text}
use Rattle.ocadev_replay.proofs.answer.print_packets.Given as goal

abbrev pub invariant-loop-i : goal.invariant-loop-i
invariant-loop-i g l = PrintsAll l.fn.printer l.printer (flat_map packet_text (take l.i l.outbox))

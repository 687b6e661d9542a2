use Rattle.std.proofs.Common.{◌≡◌, ◌≤◌, ◌*◌, length, encode_utf8_all}
use Rattle.std.specs.List.{flat_map}
use Rattle.oca_script.specs.Escapes.{escape}
use Rattle.oca_script.proofs.escape.escapes_of.Given as goal

abbrev pub invariant-loop-c : goal.invariant-loop-c
invariant-loop-c l =
    (l.bytes ≡ encode_utf8_all (flat_map escape l.yielded)) × (length l.bytes ≤ 8 * length l.yielded)

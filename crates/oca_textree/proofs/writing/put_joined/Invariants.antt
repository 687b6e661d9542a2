use Rattle.std.proofs.Common.{◌≡◌, ℕ, List, ◌+◌, ◌*◌, ◌≤◌, ◌∷◌, ◌++◌, length, take}
use Rattle.std.specs.List.{flat_map}
use Rattle.oca_script.specs.Ends.{output}
use Rattle.oca_textree.specs.Written.{name_part}
use Rattle.oca_textree.proofs.writing.put_joined.Given as goal

abbrev pub invariant-loop-name : goal.invariant-loop-name
invariant-loop-name g l = record {
  value : l.printer ≡ output l.initial.printer.contents (l.initial.printer.held ++ flat_map (λ (n : List ℕ). 44 ∷ name_part l.plain n) (take l.name-index l.more)) l.initial.printer.failed;
  len : length l.printer.held ≤ length l.initial.printer.held + 130 * l.name-index;
}

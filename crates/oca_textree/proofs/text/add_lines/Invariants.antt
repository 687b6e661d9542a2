use Rattle.std.proofs.Common.{◌≡◌, ◌+◌, ◌≤◌, length}
use Rattle.oca_script.specs.Fields.{split_on}
use Rattle.oca_textree.specs.Texts.{after_lines}
use Rattle.oca_textree.proofs.text.add_lines.Given as goal

abbrev pub invariant-loop-line : goal.invariant-loop-line
invariant-loop-line l = record {
  room : l.builder.room ≡ 4096;
  number : l.number + length l.rest ≤ 2 + length l.text;
  read : after_lines l.first l.fn.builder.list (split_on 10 l.text) ≡ after_lines l.number l.builder.list (split_on 10 l.rest);
}

abbrev pub decreases-loop-line : goal.decreases-loop-line
decreases-loop-line l = length l.rest

use Rattle.std.proofs.Common.{◌≡◌, ◌<◌, ◌≤◌, ◌+◌, length, true, false}
use Rattle.oca_tree.proofs.Totals.{Lacks, Counts}
use Rattle.oca_tree.proofs.lengths.add_last.Given as goal

-- members are counted, and so are descendants, but for those above the object that was reached; each step goes to an earlier one
abbrev pub invariant-loop : goal.invariant-loop
invariant-loop l = record {
  within : l.current < length l.objects;
  earlier : l.counter + l.current ≤ l.last;
  long : length l.lengths.items ≡ length l.objects;
  members : Counts l.objects l.lengths.items false;
  above : Lacks l.objects l.lengths.items true (l.bytes + 4) l.current;
}

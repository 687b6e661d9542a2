use Rattle.oca_tree.proofs.Words.{◌≡◌, ◌+◌, ◌<◌, ◌≤◌, length, get_or, true, Object, is_listed}
use Rattle.oca_tree.proofs.answer.lies_in.Given as goal

-- the object lies in the block as the one that was reached does, and each step goes to an earlier object
abbrev pub invariant-loop : goal.invariant-loop
invariant-loop l = record {
  within : l.current < length l.objects.list;
  same : (d : Object) → is_listed l.objects.list (get_or l.objects.list l.place d).ono.0 true (get_or l.objects.list l.current d)
      ≡ is_listed l.objects.list (get_or l.objects.list l.place d).ono.0 true (get_or l.objects.list l.fn.at d);
  earlier : l.counter + l.current ≤ l.fn.at;
}

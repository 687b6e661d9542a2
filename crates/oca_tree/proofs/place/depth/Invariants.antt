use Rattle.oca_tree.proofs.Words.{◌≡◌, ◌+◌, ◌<◌, ◌≤◌, suc, length, get_or, Object, places, depth}
use Rattle.oca_tree.proofs.place.depth.Given as goal

-- the steps so far and the depth from here on are all, and each step goes to an earlier object
abbrev pub invariant-loop : goal.invariant-loop
invariant-loop l = record {
  within : l.current < length l.objects.list;
  steps : (d : Object) → l.depth + depth (places l.objects.list) (get_or l.objects.list l.current d).ono.0 ≡ suc (depth (places l.objects.list) (get_or l.objects.list l.fn.at d).ono.0);
  earlier : l.counter + l.current ≤ l.fn.at;
  few : l.depth ≤ l.counter + 1;
}

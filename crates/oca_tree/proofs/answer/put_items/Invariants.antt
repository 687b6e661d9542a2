use Rattle.oca_tree.proofs.Words.{◌≡◌, ◌+◌, ◌≤◌, ◌++◌, drop, length, flat_map, filter, is_listed, item_encoding}
use Rattle.oca_tree.proofs.answer.put_items.Given as goal

-- what is put so far and what is left make the whole, and the same of how many there are
abbrev pub invariant-loop-at : goal.invariant-loop-at
invariant-loop-at l = record {
  bytes : l.out.items ++ flat_map (item_encoding l.deep) (filter (is_listed l.objects.list l.block.ono.0 l.deep) (drop l.at l.objects.list))
      ≡ l.fn.out.items ++ flat_map (item_encoding l.deep) (filter (is_listed l.objects.list l.block.ono.0 l.deep) l.objects.list);
  number : l.count + length (filter (is_listed l.objects.list l.block.ono.0 l.deep) (drop l.at l.objects.list)) ≡ length (filter (is_listed l.objects.list l.block.ono.0 l.deep) l.objects.list);
  few : l.count ≤ l.at;
}

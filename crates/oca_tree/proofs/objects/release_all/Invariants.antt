use Rattle.oca_tree.proofs.Words.{◌≡◌, ◌++◌, drop, take, map, length, values, without_lock_of, lock_count}
use Rattle.indexmap.specs.IndexMap.{spare, index_map_len}
use Rattle.oca_tree.specs.PrivateObjects.{IsMap}
use Rattle.oca_tree.proofs.objects.release_all.Given as goal

-- those so far have no lock of the peer, and the rest are as they were
abbrev pub invariant-loop-at : goal.invariant-loop-at
invariant-loop-at l = record {
  valid : IsMap l.map;
  long : length l.map.entries ≡ l.at-end;
  free : spare l.map ≡ spare l.fn.map;
  size : index_map_len l.map ≡ index_map_len l.fn.map;
  released : values l.map ≡ map (without_lock_of l.peer) (take l.at (values l.fn.map)) ++ drop l.at (values l.fn.map);
  count : l.marks.locks ≡ lock_count (values l.map);
}

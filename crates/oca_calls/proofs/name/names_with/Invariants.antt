use Rattle.std.proofs.Common.{◌≡◌, map, take, length}
use Rattle.oca_calls.specs.Calls.{name_bytes, name_sizes}
use Rattle.oca_calls.proofs.name.names_with.Given as goal

-- the names so far have the texts so far
abbrev pub invariant-loop-text : goal.invariant-loop-text
invariant-loop-text l = record {
  texts : map name_bytes l.names.items ≡ take l.text-index l.texts;
  sizes : name_sizes l.names.items ≡ map length (take l.text-index l.texts);
  long : length l.names.items ≡ l.text-index;
}

use Rattle.std.proofs.Common.{◌≡◌, map, take, length}
use Rattle.std.specs.List.{AllByRecursion}
use Rattle.oca_calls.specs.Calls.{IsName, name_bytes}
use Rattle.oca_calls.proofs.name.texts_of.Given as goal

-- the texts so far, of names that are names
abbrev pub invariant-loop-name : goal.invariant-loop-name
invariant-loop-name l = record {
  texts : map (λ text. text.now) l.texts.items ≡ map name_bytes (take l.name-index l.names);
  names : AllByRecursion IsName (take l.name-index l.names);
  long : length l.texts.items ≡ l.name-index;
}

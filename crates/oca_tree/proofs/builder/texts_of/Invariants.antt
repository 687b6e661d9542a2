use Rattle.oca_tree.proofs.Words.{◌≡◌, map, take, length, IsText, Each}
use Rattle.oca_tree.proofs.builder.texts_of.Given as goal

-- the texts so far
abbrev pub invariant-loop-name : goal.invariant-loop-name
invariant-loop-name l = record {
  texts : l.texts.items ≡ map (λ name. name.now) (take l.name-index l.names);
  typed : Each IsText l.texts.items;
  long : length l.texts.items ≡ l.name-index;
}

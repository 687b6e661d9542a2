use Rattle.std.proofs.Common.{ℕ, List, ◌++◌, sym, ap, subst, ◌∙◌}
use Rattle.oca_model.specs.Members.{class_with}
use Rattle.oca_panel.specs.Walks.{PutsLastMembers, is_block_class, places_of}
use Rattle.oca_panel.proofs.WalkLemmas.{listed, unlisted}
use Rattle.oca_panel.proofs.walk.find_in.Goals as goal

pub returns-in-Ok-put_first-clause-finds : goal.returns-in-Ok-put_first-clause-finds
returns-in-Ok-put_first-clause-finds g c =
    listed _ c.args.description _ _ _ c.in-Ok.members.items _ _
    (ap (λ (fields : List ℕ). is_block_class (class_with fields)) (sym c.as_slice.ensures.value) ∙ sym c.are_of_block.ensures ∙ c.if-not-are_of_block.false) c.in-Ok.ensures
    (c.in-Ok-put_first.ensures.puts ∙ ap (λ (members : List ℕ). c.args.waiting.now.items ++ places_of c.args.ono members) c.as_slice-in-Ok.ensures.value)

pub returns-in-Err-clause-finds : goal.returns-in-Err-clause-finds
returns-in-Err-clause-finds g c =
    unlisted _ c.args.description _ _ _ _ _
    (ap (λ (fields : List ℕ). is_block_class (class_with fields)) (sym c.as_slice.ensures.value) ∙ sym c.are_of_block.ensures ∙ c.if-not-are_of_block.false) c.in-Err.ensures

pub returns-in-Err-put_first-clause-refused : goal.returns-in-Err-put_first-clause-refused
returns-in-Err-put_first-clause-refused g c = record {
  block =
      ap (λ (fields : List ℕ). is_block_class (class_with fields)) (sym c.as_slice.ensures.value) ∙ sym c.are_of_block.ensures ∙ c.if-not-are_of_block.false;
  members = c.in-Ok.members.items;
  reads = c.in-Ok.ensures;
  puts = subst (λ (members : List ℕ). PutsLastMembers c.args.ono members c.args.waiting.now.items c.put_first.new.waiting.items)
      c.as_slice-in-Ok.ensures.value c.in-Err-put_first.ensures.refused;
}

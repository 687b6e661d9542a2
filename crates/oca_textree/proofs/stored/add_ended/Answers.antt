use Rattle.std.proofs.Common.{Err, ap, sym, ◌∙◌}
use Rattle.oca_textree.proofs.StoredLemmas.{kept-refused}
use Rattle.oca_textree.proofs.stored.add_ended.Goals as goal

pub returns-in-Err : goal.returns-in-Err
returns-in-Err c =
    let h = c.in-Err.ensures in
    (kept-refused _ _ _ _ _ _ _ _ c.requires c.as_str.ensures.value c.as_str-2.ensures.value h.1 ∙ ap Err (sym c.fault_of_stored.ensures), h.0)

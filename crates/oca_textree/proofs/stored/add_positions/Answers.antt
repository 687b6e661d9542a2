use Rattle.std.proofs.Common.{ℕ, List, Some, map, ap, ◌∙◌, subst}
use denote.Ref.{Bor}
use Rattle.oca_textree.specs.Stored.{Flagged, stored_with}
use Rattle.oca_textree.specs.PrivateLines.{Became}
use Rattle.oca_textree.proofs.StoredLemmas.{reading-switch}
use Rattle.oca_textree.proofs.stored.add_positions.Goals as goal

pub returns : goal.returns
returns c =
    subst (λ (s : Flagged). Became c.add.result c.args.builder.now c.add.new.builder (stored_with c.args.builder.now.list c.args.container c.args.ono s))
    (reading-switch c.as_slice-2.result c.args.position (Some c.as_slice-3.result) c.args.rest c.args.names.now.items c.args.flags.now.items
    (ap (λ (ns : List (Bor (List ℕ))). map (λ n. n.now) ns) c.as_slice-2.ensures.value ∙ c.names_of-names.ensures ∙ c.as_slice.ensures.value)
    (ap Some c.as_slice-3.ensures.value))
    c.add.ensures

use Rattle.std.proofs.Common.{ℕ, List, Ok, map, ap, ◌∙◌}
use Rattle.std.specs.Option.{option_copied}
use denote.Ref.{Bor}
use Rattle.oca_textree.proofs.SwitchLemmas.{switch-added}
use Rattle.oca_textree.proofs.line.add_switch.Goals as goal

pub returns : goal.returns
returns c =
    switch-added _ _ _ _ _ (option_copied c.args.rest) c.as_slice.result c.in_ok-position.position c.in_ok-position.rest
    (ap (λ (xs : List (Bor (List ℕ))). Ok (c.in_ok-position.position, map (λ n. n.now) xs, option_copied c.in_ok-position.rest)) c.as_slice.ensures.value
    ∙ c.in_ok-position.ensures)
    c.add.ensures

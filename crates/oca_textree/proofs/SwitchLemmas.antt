-- A switch of a line.
use Rattle.std.proofs.Common.{◌≡◌, ℕ, Bool, map, List, Option, Result, Ok, sym, ap, ◌∙◌, subst}
use Rattle.std.specs.Option.{option_copied}
use Rattle.std.specs.List.{list_any}
use denote.Ref.{Bor}
use Rattle.oca_types.specs.declared.class.Class.TheVariants as class
use Rattle.oca_tree.specs.declared.builder.Kind.TheVariants as given
use Rattle.oca_tree.specs.Objects.{Store}
use Rattle.oca_tree.specs.Building.{is_long, switch, value_of}
use Rattle.oca_script.specs.declared.object_fault.ObjectFault.{ObjectFault}
use Rattle.oca_textree.specs.Lines.{then_by, Valued, positions_of, value_at, added_with, added_as}
use Rattle.oca_textree.specs.PrivateLines.{kind_valued, Became}
use Rattle.oca_textree.proofs.SplitLemmas.{any-map}

switch-valued : (rest0 : Option (List ℕ)) (names : Bor (List (Bor (List ℕ)))) (position : ℕ) (rest : Option (Bor (List ℕ)))
    → Ok (position, map (λ n. n.now) names.now, option_copied rest) ≡ positions_of rest0
    → value_at class.Switch rest0 ≡ Ok (kind_valued (given.Switch names position) rest)
unfolding value_at value_of
switch-valued rest0 names position rest h =
    ap (λ (r : Result (ℕ × List (List ℕ) × Option (List ℕ)) ObjectFault).
    then_by r (λ p. let v : Valued = record { bad_name = list_any is_long p.1; value = switch p.1 p.0; rest = p.2 } in Ok v)) (sym h)
    ∙ ap (λ (b : Bool). let v : Valued = record { bad_name = b; value = switch (map (λ n. n.now) names.now) position; rest = option_copied rest } in Ok v)
    (any-map is_long names.now)

-- what adding the switch that was read makes of the objects is what the line makes of them
pub switch-added : (result : Result Unit ObjectFault) (old new : Store) (container ono : ℕ) (rest0 : Option (List ℕ)) (names : Bor (List (Bor (List ℕ))))
    (position : ℕ) (rest : Option (Bor (List ℕ)))
    → Ok (position, map (λ n. n.now) names.now, option_copied rest) ≡ positions_of rest0
    → Became result old new (added_with old.list container ono (kind_valued (given.Switch names position) rest))
    → Became result old new (added_as old.list container ono class.Switch rest0)
switch-added result old new container ono rest0 names position rest h k =
    subst (λ (x : Result Valued ObjectFault). Became result old new (then_by x (λ v. added_with old.list container ono v)))
    (sym (switch-valued rest0 names position rest h)) k

use Rattle.oca_tree.proofs.Words.{◌≡◌, List, [], ◌∷◌, ◌++◌, refl, ap, Object, Store}
use Rattle.oca_tree.specs.Building.{value_of}
use Rattle.oca_tree.proofs.bench_tree.add_strip.Goals as goal

four : (xs : List Object) (a b c d : Object) → (((xs ++ a ∷ []) ++ b ∷ []) ++ c ∷ []) ++ d ∷ [] ≡ xs ++ a ∷ b ∷ c ∷ d ∷ []
four [] a b c d = refl
four (x ∷ xs) a b c d = ap (λ ys. x ∷ ys) (four xs a b c d)

pub returns : goal.returns
unfolding value_of
returns c = rw (c.in_ok-add-4.ensures.1, c.in_ok-add-3.ensures.1, c.in_ok-add-2.ensures.1, c.in_ok-add.ensures.1, c.lockable-block_spec.ensures, c.lockable-mute_spec.ensures, c.lockable-polarity_spec.ensures, c.lockable-trim_spec.ensures)
    (let put : List Object → Store = λ ys. record c.args.builder.now { list = ys } in ap put (four c.args.builder.now.list _ _ _ _))

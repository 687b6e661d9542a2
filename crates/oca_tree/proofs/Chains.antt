-- The place of an object.
use Rattle.oca_tree.proofs.Words.{◌≡◌, ℕ, Bool, true, false, List, [], ◌∷◌, length, refl, ap, ◌∙◌, Some, None, not, ◌==◌, option_map, option_map_or, position, prefix_len, length-map, Object, has_number, object_of, place_of, places, place_at, is_block_value, is_block}

-- the place with a number is that of the object with it
pub place_at_places : (tree : List Object) (number : ℕ) → place_at (places tree) number ≡ option_map place_of (object_of tree number)
place_at_places [] number = refl
place_at_places (o ∷ os) number = by_test (o.ono.0 == number) refl (place_at_places os number)
  where
    by_test : (b : Bool) → (o.ono.0 == number) ≡ b → place_at (places os) number ≡ option_map place_of (object_of os number)
        → place_at (places (o ∷ os)) number ≡ option_map place_of (object_of (o ∷ os) number)
    by_test true e rest = rw e refl
    by_test false e rest = rw e rest

pub place_there : (tree : List Object) (number : ℕ) (o : Object) → object_of tree number ≡ Some o → place_at (places tree) number ≡ Some (place_of o)
place_there tree number o e = place_at_places tree number ∙ ap (option_map place_of) e

pub place_absent : (tree : List Object) (number : ℕ) → object_of tree number ≡ None → place_at (places tree) number ≡ None
place_absent tree number e = place_at_places tree number ∙ ap (option_map place_of) e

pub block_there : (tree : List Object) (number : ℕ) (o : Object) → object_of tree number ≡ Some o → is_block (places tree) number ≡ is_block_value o.value
block_there tree number o e = ap (λ x. option_map_or (λ p. p.block) x false) (place_there tree number o e)

pub block_absent : (tree : List Object) (number : ℕ) → object_of tree number ≡ None → is_block (places tree) number ≡ false
block_absent tree number e = ap (λ x. option_map_or (λ p. p.block) x false) (place_absent tree number e)

-- an object's index is that of its place
module _ (number : ℕ) where
  prefix_places : (tree : List Object) → prefix_len (λ o. not (has_number number o)) tree ≡ prefix_len (λ p. not (p.number == number)) (places tree)
  prefix_places [] = refl
  prefix_places (o ∷ os) = rw (prefix_places os) refl

pub length_places : (tree : List Object) → length (places tree) ≡ length tree
length_places tree = search (length-map)

pub position_places : (tree : List Object) (number : ℕ) → position (has_number number) tree ≡ position (λ p. p.number == number) (places tree)
position_places tree number = rw (prefix_places number tree, length_places tree) refl

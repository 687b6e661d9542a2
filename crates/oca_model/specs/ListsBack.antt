-- A list that was encoded is read back.
use Rattle.std.proofs.Common.{◌≡◌, ℕ, ◌<◌, ◌≤◌, ◌^◌, ltb, false, List, [], ◌∷◌, ◌++◌, length, refl, sym, ap, ◌∙◌}
use Rattle.std.proofs.Common.{append_assoc, append-nil}
use Rattle.std.specs.Prelude.{Option, Some}
use Rattle.std.specs.List.{flat_map}
use Rattle.std.specs.Int.{w16}
use Rattle.std.proofs.lemmas.Bool.{le-ltb}
use Rattle.oca_types.specs.Numbers.{unsigned_encoding}
use Rattle.oca_types.specs.Reading.{unsigned_at}
use Rattle.oca_model.specs.Parameters.{items_at, whole}
use Rattle.oca_model.specs.Fronts.{u16_front}
use Rattle.oca_model.specs.Lists.{list_encoding, list_of_most, Each, ListsAreReadBack}

module _ {X : Type 0} (IsItem : X → Type 0) (encoding : X → List ℕ) (read_at : List ℕ → Option (X × List ℕ))
    (back : (v : X) (rest : List ℕ) → IsItem v → read_at (encoding v ++ rest) ≡ Some (v, rest)) where
  items_back : (xs : List X) (rest : List ℕ) → Each IsItem xs →
      items_at read_at (length xs) (flat_map encoding xs ++ rest) ≡ Some (xs, rest)
  unfolding items_at
  items_back [] rest each = refl
  items_back (x ∷ xs) rest each =
      rw (
        append_assoc (encoding x) (flat_map encoding xs) rest,
        back x (flat_map encoding xs ++ rest) each.0,
        items_back xs rest each.1,
      ) refl

  pub list_front : (most : ℕ) (xs : List X) (rest : List ℕ) → length xs ≤ most → length xs < 2 ^ 16 → Each IsItem xs →
      list_of_most most read_at (list_encoding encoding xs ++ rest) ≡ Some (xs, rest)
  list_front most xs rest few fits each =
      let n = length xs in
      let count : unsigned_at w16 (list_encoding encoding xs ++ rest) ≡ Some (n, flat_map encoding xs ++ rest)
      = ap (unsigned_at w16) (append_assoc (unsigned_encoding w16 n) (flat_map encoding xs) rest)
      ∙ u16_front n (flat_map encoding xs ++ rest) fits in
      let enough : ltb most n ≡ false = le-ltb _ _ few in
      rw (count, enough, items_back xs rest each) refl

  pub lists_back : ListsAreReadBack IsItem encoding read_at
  lists_back most xs few fits each =
      let bytes = list_encoding encoding xs in
      ap (λ b. whole (list_of_most most read_at b)) (sym (append-nil bytes))
      ∙ ap whole (list_front most xs [] few fits each)

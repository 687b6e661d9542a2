-- The first command in flight.
use Rattle.std.proofs.Common.{◌≡◌, List, [], ◌∷◌, Some, None, refl, sym, ap}
use Rattle.std.specs.List.{slice_get}
use Rattle.std.specs.Prelude.{map}
use Rattle.std.proofs.lemmas.Option.{same_Some}

none-of : {A : Type 0} (x : A) → Some x ≡ None → ⊥
none-of x e = cc e

module _ {A B : Type 0} (view : A → B) where
  -- the items as they are seen begin with the first
  pub first-seen : (items : List A) (x : A) → slice_get items 0 ≡ Some x → (rest : List B) × (map view items ≡ view x ∷ rest)
  first-seen [] x e = absurd (none-of x (sym e))
  first-seen (y ∷ items) x e = (map view items, ap (λ (z : A). view z ∷ map view items) (same_Some y x e))

  -- where there is no first none is seen
  pub none-seen : (items : List A) → slice_get items 0 ≡ None → map view items ≡ []
  none-seen [] e = refl
  none-seen (y ∷ items) e = absurd (none-of y e)

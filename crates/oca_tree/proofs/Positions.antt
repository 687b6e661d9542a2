-- The place of an object, and a write there.
use Rattle.oca_tree.proofs.Words.{◌≡◌, ℕ, zero, suc, ◌<◌, Bool, true, false, List, [], ◌∷◌, length, get_or, set, ◌≤◌, refl, sym, ap, ◌∙◌, arith, one-add, Object, has_number, with_object, Option, Some, None, IfSome, is_some, ◌==◌, find, position, position_or_len, slice_get}
use Rattle.std.specs.Prelude.{IfNone}
use Rattle.std.proofs.lemmas.List.Folds.{find_at}
use Rattle.std.proofs.lemmas.List.Sums.{length-filter}
use Rattle.std.proofs.lemmas.Option.{slice_get_past, slice_get-get_or}

module _ {X : Type 0} (p : X → Bool) where
  pub slice_get_at : (xs : List X) (i : ℕ) (d : X) → i < length xs → slice_get xs i ≡ Some (get_or xs i d)
  slice_get_at [] i d h = absurd (omega arith)
  slice_get_at (x ∷ xs) zero d h = refl
  slice_get_at (x ∷ xs) (suc i) d h = slice_get_at xs i d (omega arith)

  -- the place that was found is the first
  pub place_found : (xs : List X) (i : ℕ) → Some i ≡ position p xs → (i < length xs) × (i ≡ position_or_len p xs)
  place_found xs i e = grind arith

  pub place_none : (xs : List X) → None ≡ position p xs → length xs ≤ position_or_len p xs
  place_none xs e = grind arith

  pub find_none : (xs : List X) → None ≡ position p xs → find p xs ≡ None
  find_none xs e = find_at p xs ∙ slice_get_past xs (position_or_len p xs) (place_none xs e)

  pub find_some : (xs : List X) (i : ℕ) (d : X) → Some i ≡ position p xs → find p xs ≡ Some (get_or xs i d)
  find_some xs i d e =
      let found = place_found xs i e in
      find_at p xs ∙ ap (slice_get xs) (sym found.1) ∙ slice_get_at xs i d found.0

-- a write at the place
pub with_object_from : (xs : List Object) (new : Object) → position_or_len (has_number new.ono.0) xs < length xs → with_object xs new ≡ set xs (position_or_len (has_number new.ono.0) xs) new
with_object_from [] new h = refl
with_object_from (x ∷ xs) new h = by_test (x.ono.0 == new.ono.0) refl (with_object_from xs new)
  where
    by_test : (b : Bool) → (x.ono.0 == new.ono.0) ≡ b → (position_or_len (has_number new.ono.0) xs < length xs → with_object xs new ≡ set xs (position_or_len (has_number new.ono.0) xs) new) → with_object (x ∷ xs) new ≡ set (x ∷ xs) (position_or_len (has_number new.ono.0) (x ∷ xs)) new
    by_test true e rest = rw e refl
    by_test false e rest = let h' = rw e at h in rw (e, one-add) (ap (λ ys. x ∷ ys) (rest (omega arith)))

pub with_object_at : (xs : List Object) (i number : ℕ) (new : Object) → new.ono.0 ≡ number → Some i ≡ position (has_number number) xs → with_object xs new ≡ set xs i new
with_object_at xs i number new same e =
    let found = place_found (has_number number) xs i e in
    let i_is : i ≡ position_or_len (has_number new.ono.0) xs = found.1 ∙ ap (λ (n : ℕ). position_or_len (λ (o : Object). o.ono.0 == n) xs) (sym same) in
    rw i_is (with_object_from xs new (omega arith))

-- what is found passes
pub find_passes : {X : Type 0} (p : X → Bool) (xs : List X) (x : X) → find p xs ≡ Some x → p x ≡ true
find_passes p [] x e = cc
find_passes p (y ∷ ys) x e = by_test (p y) refl (find_passes p ys x)
  where
    by_test : (b : Bool) → p y ≡ b → (find p ys ≡ Some x → p x ≡ true) → p x ≡ true
    by_test true t rest = let e' = rw t at e in let same : y ≡ x = cc in rw (← same) t
    by_test false t rest = rest (rw t at e)

module _ {X : Type 0} (p : X → Bool) (xs : List X) where
  pub place_absent : (r : Option ℕ) → r ≡ position p xs → IfNone r (find p xs ≡ None)
  place_absent None e = find_none p xs e
  place_absent (Some i) e = tt

  pub place_there : (r : Option ℕ) → r ≡ position p xs → IfSome r (λ i. (d : X) → find p xs ≡ Some (get_or xs i d))
  place_there None e = tt
  place_there (Some i) e = λ d. find_some p xs i d e

  pub place_within : (r : Option ℕ) → r ≡ position p xs → IfSome r (λ i. i < length xs)
  place_within None e = tt
  place_within (Some i) e = (place_found p xs i e).0

  slice_get_is_some : (ys : List X) (i : ℕ) → i < length ys → is_some (slice_get ys i) ≡ true
  slice_get_is_some [] i h = absurd (omega arith)
  slice_get_is_some (y ∷ ys) zero h = refl
  slice_get_is_some (y ∷ ys) (suc i) h = slice_get_is_some ys i (omega arith)

  pub place_some : (r : Option ℕ) → r ≡ position p xs → is_some r ≡ is_some (find p xs)
  place_some None e = rw (find_none p xs e) refl
  place_some (Some i) e =
      let found = place_found p xs i e in
      sym (ap is_some (find_at p xs ∙ ap (slice_get xs) (sym found.1)) ∙ slice_get_is_some xs i found.0)

-- an element that is there doesn't depend on the default
pub same_element : {X : Type 0} (xs : List X) (i : ℕ) (d e : X) → i < length xs → get_or xs i d ≡ get_or xs i e
same_element xs i d e h = let a = slice_get-get_or xs i d h in let b = slice_get-get_or xs i e h in cc

pub ruleset counted = (length-filter)

-- What a tree answers of its objects: of each its own, and that it fits a line.
use Rattle.std.proofs.Common.{◌≡◌, ℕ, zero, suc, ◌<◌, ◌≤◌, true, List, [], ◌∷◌, ◌++◌, length, get_or, take, refl, sym, ap, ◌∙◌, subst, arith, inl, inr, length-append, eq-eqb}
use Rattle.std.specs.Prelude.{Option, Some, None, ◌==◌, ◌⊎◌, slice_get}
use Rattle.std.specs.Option.{option_map}
use Rattle.std.specs.List.{All, position_or_len}
use Rattle.std.proofs.lemmas.Bool.{cases_lt}
use Rattle.std.proofs.lemmas.List.{take-append-le}
use Rattle.std.proofs.Math.ListN.{get_or-append}
use Rattle.std.proofs.Math.Seq.{take-append_seam, get_or-append_seam}
use Rattle.std.proofs.lemmas.List.Folds.{find-append, find_at}
use Rattle.std.proofs.lemmas.Option.{slice_get_within, get_or_from_slice_get}
use Rattle.oca_model.specs.declared.reading.Reading.{Reading}
use Rattle.oca_model.specs.declared.reading.Reading.TheVariants as readings
use Rattle.oca_tree.specs.declared.object.Object.{Object}
use Rattle.oca_tree.specs.declared.object.Value.{Value}
use Rattle.oca_tree.specs.declared.object.Value.TheVariants as values
use Rattle.oca_tree.specs.Objects.{has_number, object_of}
use Rattle.oca_tree.specs.Places.{Place, place_of, places, place_at}
use Rattle.oca_tree.specs.Trees.{IsBuilt, IsFree, IsTree, IsSound, IsSoundValue}
use Rattle.oca_tree.specs.Trees as trees
use Rattle.oca_tree.specs.Copies.{names_in, flags_in}
use Rattle.oca_tree.proofs.Chains.{place_at_places}
use Rattle.oca_textree.specs.PrivateWritten.{few_flags, Fits}

-- ---- each was free when it was added

free-at : (ps : List Place) → IsBuilt ps → (i : ℕ) (d : Place) → i < length ps → (i ≡ 0) ⊎ IsFree (take i ps) (get_or ps i d)
free-at _ trees.root zero d h = inl refl
free-at _ trees.root (suc i) d h = absurd (omega arith)
free-at _ (trees.next ps p built free) i d h = by (cases_lt i (length ps)) (free-at ps built i d)
  where
    by : (i < length ps) ⊎ (length ps ≤ i) → (i < length ps → (i ≡ 0) ⊎ IsFree (take i ps) (get_or ps i d))
        → (i ≡ 0) ⊎ IsFree (take i (ps ++ p ∷ [])) (get_or (ps ++ p ∷ []) i d)
    by (inl lt) earlier = rw (get_or-append ps (p ∷ []) d i lt, take-append-le i ps (p ∷ []) (omega arith)) (earlier lt)
    by (inr le) earlier =
        let last : i ≡ length ps = omega (arith, h, le, length-append ps (p ∷ [])) in
        rw (last, get_or-append_seam ps p [] d, take-append_seam ps (p ∷ [])) (inr free)

places-append : (xs ys : List Object) → places (xs ++ ys) ≡ places xs ++ places ys
places-append [] ys = refl
places-append (x ∷ xs) ys = ap (λ ps. place_of x ∷ ps) (places-append xs ys)

length-places : (xs : List Object) → length (places xs) ≡ length xs
length-places [] = refl
length-places (x ∷ xs) = ap suc (length-places xs)

-- an object behind others, of which the first is the root
pub free-in : (front back : List Object) (o : Object) → IsBuilt (places (front ++ o ∷ back)) → (length front ≡ 0) ⊎ IsFree (places front) (place_of o)
free-in front back o built = by (free-at ps built' (length (places front)) (place_of o) (omega (arith, length-append (places front) (place_of o ∷ places back))))
  where
    ps : List Place
    ps = places front ++ place_of o ∷ places back

    built' : IsBuilt ps
    built' = subst IsBuilt (places-append front (o ∷ back)) built

    by : (length (places front) ≡ 0) ⊎ IsFree (take (length (places front)) ps) (get_or ps (length (places front)) (place_of o))
        → (length front ≡ 0) ⊎ IsFree (places front) (place_of o)
    by (inl e) = inl (sym (length-places front) ∙ e)
    by (inr free) = inr (rw (get_or-append_seam (places front) (place_of o) (places back) (place_of o), take-append_seam (places front) (place_of o ∷ places back)) at free)

none-of : (o : Option Object) → option_map place_of o ≡ None → o ≡ None
none-of None e = refl
none-of (Some x) e = absurd (cc)

-- a number that no place has, no object has
pub none-before : (front : List Object) (n : ℕ) → place_at (places front) n ≡ None → object_of front n ≡ None
none-before front n e = none-of (object_of front n) (sym (place_at_places front n) ∙ e)

-- the object with its number is itself
pub found-in : (front back : List Object) (o : Object) → object_of front o.ono.0 ≡ None → object_of (front ++ o ∷ back) o.ono.0 ≡ Some o
found-in front back o none =
    let same : (o.ono.0 == o.ono.0) ≡ true = eq-eqb o.ono.0 o.ono.0 refl in
    find-append (has_number o.ono.0) front (o ∷ back) ∙ (rw (none, same) refl)

-- the object that is found by an object's number is that object
pub itself-in : (front back : List Object) (o : Object) → IsTree (front ++ o ∷ back) → object_of (front ++ o ∷ back) o.ono.0 ≡ Some o
itself-in front back o h = by front (free-in front back o h.built)
  where
    by : (xs : List Object) → (length xs ≡ 0) ⊎ IsFree (places xs) (place_of o) → object_of (xs ++ o ∷ back) o.ono.0 ≡ Some o
    by [] (inl e) = found-in [] back o refl
    by (x ∷ xs) (inl e) = absurd (omega arith)
    by xs (inr free) = found-in xs back o (none-before xs o.ono.0 free.untaken)

-- ---- what is answered fits a line

-- what holds of each object holds of the one that is found
pub found-holds : (P : Object → Type 0) (tree : List Object) (n : ℕ) (o : Object) → All P tree → object_of tree n ≡ Some o → P o
found-holds P tree n o h found =
    let at = position_or_len (has_number n) tree in
    let is : slice_get tree at ≡ Some o = sym (find_at (has_number n) tree) ∙ found in
    subst P (get_or_from_slice_get tree at o o is) (h at o (slice_get_within tree at o is))

few-names : (v : Value) → IsSoundValue v → length (names_in v) ≤ 16
unfolding names_in IsSoundValue
few-names (values.Switch switch) h = h.few
few-names _ h = omega arith

few-flags : (v : Value) → IsSoundValue v → few_flags (flags_in v) ≤ 16
unfolding flags_in IsSoundValue
few-flags (values.Switch switch) h = omega (arith, h.few, h.both)
few-flags _ h = omega arith

-- what is printed of each object of a tree fits a line
pub fits : (tree : List Object) → IsTree tree → (n : ℕ) → Fits tree n
fits tree h n = by (object_of tree n) refl
  where
    by : (x : Option Object) → object_of tree n ≡ x → Fits tree n
    by None e = record { names = rw e (omega arith); flags = rw e (omega arith) }
    by (Some o) e =
        let sound = found-holds IsSound tree n o h.objects e in
        record { names = rw e (few-names o.value sound.value); flags = rw e (few-flags o.value sound.value) }

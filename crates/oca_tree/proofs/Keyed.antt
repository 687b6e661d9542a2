-- Keys and values of the map side by side.
use Rattle.oca_tree.proofs.Words.{◌≡◌, ℕ, zero, suc, ◌+◌, ◌<◌, Bool, true, false, cond, List, [], ◌∷◌, length, get_or, set, map, take, drop, ◌++◌, refl, sym, ap, ◌∙◌, arith, Some, None, not, ◌==◌, position, prefix_len, slice_get, find, values_of, set_value_at, Ono, Peer, Object, Request, get_or_from_slice_get, without_lock_of, is_held_by}
use Rattle.std.specs.Map.{keys_of, lookup}
use Rattle.std.proofs.Math.Seq.{map-set_same}
use Rattle.oca_tree.specs.Typed.{changed_by}
use Rattle.oca_tree.specs.PrivateObjects.{IsKeyed}
use Rattle.oca_tree.proofs.Sound.{shape_of, shapes}
use Rattle.oca_tree.proofs.Writes.{written_so}

pub values_length : (es : List (Ono × Object)) → length (values_of es) ≡ length es
values_length [] = refl
values_length (e ∷ es) = ap suc (values_length es)

module _ (p : Ono → Bool) (q : Object → Bool) (agree : (o : Object) → p o.ono ≡ q o) where
  prefix_keyed : (es : List (Ono × Object)) → IsKeyed es → prefix_len (λ k. not (p k)) (keys_of es) ≡ prefix_len (λ o. not (q o)) (values_of es)
  prefix_keyed [] h = refl
  prefix_keyed (e ∷ es) h = let t : p e.0 ≡ q e.1 = ap p h.0 ∙ agree e.1 in rw (t, prefix_keyed es h.1) refl

  length_keyed : (es : List (Ono × Object)) → length (keys_of es) ≡ length (values_of es)
  length_keyed [] = refl
  length_keyed (e ∷ es) = ap suc (length_keyed es)

  -- the index of a key is that of the object with it
  pub position_keyed : (es : List (Ono × Object)) → IsKeyed es → position p (keys_of es) ≡ position q (values_of es)
  position_keyed es h = rw (prefix_keyed es h, length_keyed es) refl

  -- what is found under a key is the object with it
  pub lookup_keyed : (es : List (Ono × Object)) → IsKeyed es → lookup p es ≡ find q (values_of es)
  lookup_keyed [] h = refl
  lookup_keyed (e ∷ es) h = let t : p e.0 ≡ q e.1 = ap p h.0 ∙ agree e.1 in rw (t, lookup_keyed es h.1) refl

pub eqb_comm : (a b : ℕ) → (a == b) ≡ (b == a)
eqb_comm a b = grind arith

pub same_ono : (a b : Object) → a.ono.0 ≡ b.ono.0 → a.ono ≡ b.ono
same_ono a b e = ap (λ (n : ℕ). record { 0 = n }) e

-- ---- adding an object

pub keyed_push : (es : List (Ono × Object)) (o : Object) → IsKeyed es → IsKeyed (es ++ (o.ono, o) ∷ [])
keyed_push [] o h = (refl, tt)
keyed_push (e ∷ es) o h = (h.0, keyed_push es o h.1)

pub values_push : (es : List (Ono × Object)) (o : Object) → values_of (es ++ (o.ono, o) ∷ []) ≡ values_of es ++ o ∷ []
values_push [] o = refl
values_push (e ∷ es) o = ap (λ ys. e.1 ∷ ys) (values_push es o)

-- ---- writing an object

pub values-set_value_at : (es : List (Ono × Object)) (i : ℕ) (w : Object) → values_of (set_value_at es i w) ≡ set (values_of es) i w
values-set_value_at [] i w = refl
values-set_value_at (e ∷ es) zero w = refl
values-set_value_at (e ∷ es) (suc i) w = ap (λ ys. e.1 ∷ ys) (values-set_value_at es i w)

pub keyed-set_value_at : (es : List (Ono × Object)) (i : ℕ) (w old : Object) → slice_get (values_of es) i ≡ Some old → w.ono ≡ old.ono → IsKeyed es → IsKeyed (set_value_at es i w)
keyed-set_value_at [] i w old at same h = tt
keyed-set_value_at (e ∷ es) zero w old at same h = let is : e.1 ≡ old = cc in (h.0 ∙ ap (λ (o : Object). o.ono) is ∙ sym same, h.1)
keyed-set_value_at (e ∷ es) (suc i) w old at same h = (h.0, keyed-set_value_at es i w old at same h.1)

pub length-set_value : (es : List (Ono × Object)) (i : ℕ) (w : Object) → length (set_value_at es i w) ≡ length es
length-set_value [] i w = refl
length-set_value (e ∷ es) zero w = refl
length-set_value (e ∷ es) (suc i) w = ap suc (length-set_value es i w)

-- what is written where the object was leaves the places, and the classes
pub shapes_kept : (es : List (Ono × Object)) (i : ℕ) (old new : Object) → slice_get (values_of es) i ≡ Some old → shape_of new ≡ shape_of old → shapes (values_of (set_value_at es i new)) ≡ shapes (values_of es)
shapes_kept es i old new at same =
    ap shapes (values-set_value_at es i new) ∙ map-set_same shape_of (values_of es) i new old (same ∙ ap shape_of (sym (get_or_from_slice_get (values_of es) i old old at)))

pub change_there : (es : List (Ono × Object)) (i : ℕ) (old new : Object) (peer : Peer) (r : Request) (d : Object) → slice_get (values_of es) i ≡ Some old → new ≡ changed_by old peer r
    → values_of (set_value_at es i new) ≡ set (values_of es) i (changed_by (get_or (values_of es) i d) peer r)
change_there es i old new peer r d at is =
    values-set_value_at es i new ∙ ap (set (values_of es) i) is ∙ ap (λ (o : Object). set (values_of es) i (changed_by o peer r)) (sym (get_or_from_slice_get (values_of es) i old d at))

pub told_there : (es : List (Ono × Object)) (i : ℕ) (old new : Object) (truth : Bool) (d : Object) → slice_get (values_of es) i ≡ Some old → new ≡ record old { failing = truth }
    → values_of (set_value_at es i new) ≡ set (values_of es) i (record (get_or (values_of es) i d) { failing = truth })
told_there es i old new truth d at is =
    values-set_value_at es i new ∙ ap (set (values_of es) i) is ∙ ap (λ (o : Object). set (values_of es) i (record o { failing = truth })) (sym (get_or_from_slice_get (values_of es) i old d at))

pub released_ono : (peer : Peer) (o : Object) → (without_lock_of peer o).ono ≡ o.ono
released_ono peer o = by (is_held_by peer o.lock)
  where
    by : (b : Bool) → (cond b (record o { lock = None }) o).ono ≡ o.ono
    by true = refl
    by false = refl

pub release_step : (es : List (Ono × Object)) (was : List Object) (i : ℕ) (old new : Object) (peer : Peer) → slice_get (values_of es) i ≡ Some old → new ≡ without_lock_of peer old → i < length was
    → values_of es ≡ map (without_lock_of peer) (take i was) ++ drop i was → values_of (set_value_at es i new) ≡ map (without_lock_of peer) (take (i + 1) was) ++ drop (i + 1) was
release_step es was i old new peer at is within e =
    values-set_value_at es i new ∙ written_so (without_lock_of peer) (values_of es) was i old new e within (sym (get_or_from_slice_get (values_of es) i old old at)) is

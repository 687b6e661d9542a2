-- Counting locks.
use Rattle.oca_tree.proofs.Words.{◌≡◌, ℕ, zero, suc, ◌+◌, ◌<◌, ◌≤◌, false, cond, List, [], ◌∷◌, length, get_or, set, map, refl, sym, ap, ◌∙◌, arith, Option, Some, None, is_some, slice_get, values_of, get_or_from_slice_get, set_value_at, Ono, Peer, Object, lock_of_one, lock_count, without_lock_of, is_held_by}
use Rattle.oca_tree.proofs.Keyed.{values-set_value_at}
use Rattle.std.proofs.lemmas.List.Sums.{sum_by-set, sum_by-cons, count_by-le-length}
use Rattle.oca_tree.specs.declared.object.Lock.{Lock}

-- no more locks than objects
pub locks_few : (tree : List Object) (n : ℕ) → length tree ≤ n → lock_count tree ≤ n
locks_few tree n h = let e = count_by-le-length (λ (o : Object). is_some o.lock) tree in omega (arith, e)

slice_get_within : (tree : List Object) (i : ℕ) (o : Object) → slice_get tree i ≡ Some o → i < length tree
slice_get_within [] i o at = cc
slice_get_within (x ∷ xs) zero o at = omega arith
slice_get_within (x ∷ xs) (suc i) o at = let h = slice_get_within xs i o at in omega (arith, h)

module _ (tree : List Object) (i : ℕ) (d : Object) (within : i < length tree) where
  -- the lock of an object is one of those of its tree
  pub lock_counted : lock_of_one (get_or tree i d) ≤ lock_count tree
  lock_counted = let e = sum_by-set lock_of_one tree i (record d { lock = None }) d within in omega (arith, e)

  -- a write changes the number of locks by those of the object that is written
  pub lock_written : (new : Object) (before after : ℕ) → before ≡ lock_count tree → after + lock_of_one (get_or tree i d) ≡ before + lock_of_one new → after ≡ lock_count (set tree i new)
  lock_written new before after e by = let w = sum_by-set lock_of_one tree i new d within in omega (arith, e, by, w)

-- the same of an object that was looked up
pub lock_counted_get : (tree : List Object) (i : ℕ) (o : Object) → slice_get tree i ≡ Some o → lock_of_one o ≤ lock_count tree
lock_counted_get tree i o at =
    let within = slice_get_within tree i o at in
    let e = lock_counted tree i o within in
    let f = ap lock_of_one (get_or_from_slice_get tree i o o at) in
    omega (arith, e, f)

pub lock_written_get : (es : List (Ono × Object)) (i : ℕ) (o : Object) → slice_get (values_of es) i ≡ Some o → (new : Object) (before after : ℕ) → before ≡ lock_count (values_of es)
    → after + lock_of_one o ≡ before + lock_of_one new → after ≡ lock_count (values_of (set_value_at es i new))
lock_written_get es i o at new before after e by =
    let f = ap lock_of_one (get_or_from_slice_get (values_of es) i o o at) in
    lock_written (values_of es) i o (slice_get_within (values_of es) i o at) new before after e (omega (arith, by, f)) ∙ ap lock_count (sym (values-set_value_at es i new))

unlocked : (peer : Peer) (lock : Option Lock) → (if_some : ℕ) → (if_some ≡ cond (is_some lock) 1 0) → if_some ≡ 0 → is_held_by peer lock ≡ false
unlocked peer None n e z = refl
unlocked peer (Some lock) n e z = absurd (omega (arith, e, z))

-- where no lock is held, none is taken off
pub nothing_locked : (peer : Peer) (tree : List Object) → lock_count tree ≡ 0 → map (without_lock_of peer) tree ≡ tree
nothing_locked peer [] e = refl
nothing_locked peer (o ∷ os) e =
    let s = sum_by-cons lock_of_one o os in
    let free : is_held_by peer o.lock ≡ false = unlocked peer o.lock (lock_of_one o) refl (omega (arith, s, e)) in
    rw (free, nothing_locked peer os (omega (arith, s, e))) refl

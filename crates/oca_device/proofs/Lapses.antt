-- When a clock reading changes something.
use Rattle.oca_device.proofs.Words.{◌≡◌, ℕ, zero, suc, ◌+◌, ◌<◌, ◌≤◌, ◌^◌, Bool, true, false, cond, List, [], ◌∷◌, length, refl, sym, ap, ◌∙◌, subst, arith, not, ◌||◌, map, filter, is_some, list_any}
use Rattle.oca_device.proofs.Words.{slice_get, sum_by-cons, le-leb, lt-leb, or_parts, or-false, Peer, same_peer, DeviceSizes, Object, is_held_by, without_lock_of, lock_of_one, lock_count, Session}
use Rattle.oca_device.proofs.Words.{Table, stays, staying, lapsed, HoldsFrom, forgets, lapses, noted_peers, State, released_all, lapsed_at, moved_to, session_within, table_within, table_of, frees}
use Rattle.oca_device.proofs.Words.{releases, on_bool}
use Rattle.std.proofs.Common.{max, take, Option, Some, None}
use Rattle.std.specs.Option.{option_and_then}
use Rattle.oca_tree.specs.declared.object.Lock.{Lock}
use Rattle.oca_tree.specs.Locks.{released}
use Rattle.oca_types.proofs.MomentTests.{same_test}
use Rattle.oca_device.specs.Lapses.{TickKeeps, IsNextLapse, NeverLapses}
use Rattle.oca_device.proofs.Peers.{same_turned}
use Rattle.oca_device.proofs.Runs.{table_moved, lapsed_moved}

-- ---- locks are taken off

-- the object without the locks of these peers
abbrev freed : List Peer → Object → Object
freed [] o = o
freed (p ∷ ps) o = freed ps (without_lock_of p o)

-- one of these peers holds the lock
abbrev held : List Peer → Object → Bool
held ps o = list_any (λ p. is_held_by p o.lock) ps

map_freed : (ps : List Peer) (p : Peer) (tree : List Object) → map (freed ps) (map (without_lock_of p) tree) ≡ map (freed (p ∷ ps)) tree
map_freed ps p [] = refl
map_freed ps p (o ∷ tree) = ap (λ xs. freed ps (without_lock_of p o) ∷ xs) (map_freed ps p tree)

map_none : (tree : List Object) → tree ≡ map (freed []) tree
map_none [] = refl
map_none (o ∷ tree) = ap (λ xs. o ∷ xs) (map_none tree)

released_each : (ps : List Peer) (tree : List Object) → released_all ps tree ≡ map (freed ps) tree
unfolding released
released_each [] tree = map_none tree
released_each (p ∷ ps) tree = released_each ps (released tree p) ∙ map_freed ps p tree

freed_other : (p : Peer) (o : Object) → is_held_by p o.lock ≡ false → without_lock_of p o ≡ o
freed_other p o other = ap (λ b. cond b (record o { lock = None }) o) other

freed_none : (ps : List Peer) (o : Object) → held ps o ≡ false → freed ps o ≡ o
freed_none [] o none = refl
freed_none (p ∷ ps) o none =
    let parts = or_parts (is_held_by p o.lock) (held ps o) none in
    ap (freed ps) (freed_other p o parts.0) ∙ freed_none ps o parts.1

not_held : (q p : Peer) (o : Object) → is_held_by q o.lock ≡ false → is_held_by q (without_lock_of p o).lock ≡ false
not_held q p o h = on_bool (is_held_by p o.lock) (λ b. is_held_by q (cond b (record o { lock = None }) o).lock ≡ false) refl h

not_own : (p : Peer) (o : Object) → is_held_by p (without_lock_of p o).lock ≡ false
not_own p o = on_bool (is_held_by p o.lock) (λ b. is_held_by p o.lock ≡ b → is_held_by p (cond b (record o { lock = None }) o).lock ≡ false) (λ e. refl) (λ e. e) refl

never_held : (q : Peer) (ps : List Peer) (o : Object) → is_held_by q o.lock ≡ false → is_held_by q (freed ps o).lock ≡ false
never_held q [] o h = h
never_held q (p ∷ ps) o h = never_held q ps (without_lock_of p o) (not_held q p o h)

freed_held : (ps : List Peer) (o : Object) → held ps (freed ps o) ≡ false
freed_held [] o = refl
freed_held (p ∷ ps) o =
    ap (λ b. b || held ps (freed ps (without_lock_of p o))) (never_held p ps (without_lock_of p o) (not_own p o))
    ∙ freed_held ps (without_lock_of p o)

-- where no peer of these holds a lock, none is taken off
none_freed : (ps : List Peer) (tree : List Object) → list_any (held ps) tree ≡ false → map (freed ps) tree ≡ tree
none_freed ps [] none = refl
none_freed ps (o ∷ tree) none =
    let parts = or_parts (held ps o) (list_any (held ps) tree) none in
    ap (λ x. x ∷ map (freed ps) tree) (freed_none ps o parts.0) ∙ ap (λ xs. o ∷ xs) (none_freed ps tree parts.1)

-- and once they are taken off, none of these holds one
none_held : (ps : List Peer) (tree : List Object) → list_any (held ps) (map (freed ps) tree) ≡ false
none_held ps [] = refl
none_held ps (o ∷ tree) = ap (λ b. b || list_any (held ps) (map (freed ps) tree)) (freed_held ps o) ∙ none_held ps tree

-- ---- locks by the sessions

frees_where : (ss : List Session) (t : ℕ) (o : Option Lock) → frees ss t o ≡ list_any (λ p. is_held_by p o) (lapsed t ss)
frees_where ss t None = none (lapsed t ss)
  where
    none : (ps : List Peer) → false ≡ list_any (λ p. is_held_by p None) ps
    none [] = refl
    none (p ∷ ps) = none ps
frees_where ss t (Some lock) = by (lapsed t ss)
  where
    by : (ps : List Peer) → list_any (λ q. same_peer q lock.holder) ps ≡ list_any (λ q. same_peer lock.holder q) ps
    by [] = refl
    by (p ∷ ps) = ap (λ b. b || list_any (λ q. same_peer q lock.holder) ps) (same_turned p lock.holder) ∙ ap (λ b. same_peer lock.holder p || b) (by ps)

releases_where : (ss : List Session) (t : ℕ) (tree : List Object) → releases tree ss t ≡ list_any (held (lapsed t ss)) tree
releases_where ss t [] = refl
releases_where ss t (o ∷ tree) =
    ap (λ b. b || releases tree ss t) (frees_where ss t o.lock) ∙ ap (λ b. held (lapsed t ss) o || b) (releases_where ss t tree)

or_assoc : (a b c : Bool) → (a || (b || c)) ≡ ((a || b) || c)
or_assoc true b c = refl
or_assoc false b c = refl

-- the lock of the object at this index
abbrev lock_in : List Object → ℕ → Option Lock
lock_in tree i = option_and_then (λ o. o.lock) (slice_get tree i)

-- one object more was looked at
releases_next : (ss : List Session) (t : ℕ) (tree : List Object) (i : ℕ) → i < length tree →
    releases (take (suc i) tree) ss t ≡ (releases (take i tree) ss t || frees ss t (lock_in tree i))
releases_next ss t [] i within = absurd (omega arith)
releases_next ss t (o ∷ tree) zero within = or-false (frees ss t o.lock)
releases_next ss t (o ∷ tree) (suc i) within =
    ap (λ b. frees ss t o.lock || b) (releases_next ss t tree i (omega arith))
    ∙ or_assoc (frees ss t o.lock) (releases (take i tree) ss t) (frees ss t (lock_in tree i))

releases_more : (ss : List Session) (t : ℕ) (tree : List Object) (i : ℕ) → i < length tree →
    releases (take (i + 1) tree) ss t ≡ (releases (take i tree) ss t || frees ss t (lock_in tree i))
releases_more ss t tree i within = ap (λ (n : ℕ). releases (take n tree) ss t) (after i) ∙ releases_next ss t tree i within
  where
    after : (n : ℕ) → n + 1 ≡ suc n
    after n = omega arith

pub lock_there : (tree : List Object) (ss : List Session) (i : ℕ) (l : Lock) (o : Option ℕ) → i < length tree → Some l ≡ lock_in tree i →
    HoldsFrom (λ t. releases (take i tree) ss t || lapses l.holder ss t) o → HoldsFrom (releases (take (i + 1) tree) ss) o
lock_there tree ss i l o within e h =
    same_test (λ t. releases (take i tree) ss t || lapses l.holder ss t) (releases (take (i + 1) tree) ss) o
    (λ t. releases_more ss t tree i within ∙ ap (λ x. releases (take i tree) ss t || frees ss t x) (sym e)) h

pub no_lock_there : (tree : List Object) (ss : List Session) (i : ℕ) (o : Option ℕ) → i < length tree → None ≡ lock_in tree i →
    HoldsFrom (releases (take i tree) ss) o → HoldsFrom (releases (take (i + 1) tree) ss) o
no_lock_there tree ss i o within e h =
    same_test (releases (take i tree) ss) (releases (take (i + 1) tree) ss) o
    (λ t. releases_more ss t tree i within ∙ ap (λ x. releases (take i tree) ss t || frees ss t x) (sym e) ∙ or-false (releases (take i tree) ss t)) h

-- no object is locked
pub releases_none : (tree : List Object) (ss : List Session) (t : ℕ) → lock_count tree ≡ 0 → releases tree ss t ≡ false
releases_none [] ss t none = refl
releases_none (o ∷ tree) ss t none = by o.lock (sym (sum_by-cons lock_of_one o tree) ∙ none) (releases_none tree ss t)
  where
    by : (l : Option Lock) → cond (is_some l) 1 0 + lock_count tree ≡ 0 → (lock_count tree ≡ 0 → releases tree ss t ≡ false) → (frees ss t l || releases tree ss t) ≡ false
    by None e rest = let here : lock_count tree ≡ 0 = omega (arith, e) in rest here
    by (Some lock) e rest = absurd (omega (arith, e))

-- ---- sessions are forgotten

filter_short : {X : Type 0} (f : X → Bool) (xs : List X) → length (filter f xs) ≤ length xs
filter_short f [] = omega arith
filter_short {X} f (x ∷ xs) = on_bool (f x) (λ b. length (filter f xs) ≤ length xs → length (cond b (x ∷ filter f xs) (filter f xs)) ≤ length (x ∷ xs))
    (λ h. omega arith) (λ h. omega arith) (filter_short f xs)

all_stay : {X : Type 0} (f : X → Bool) (xs : List X) → list_any (λ x. not (f x)) xs ≡ false → filter f xs ≡ xs
all_stay f [] none = refl
all_stay {X} f (x ∷ xs) none =
    on_bool (f x) (λ b. (not b || list_any (λ y. not (f y)) xs) ≡ false → (list_any (λ y. not (f y)) xs ≡ false → filter f xs ≡ xs) → cond b (x ∷ filter f xs) (filter f xs) ≡ x ∷ xs)
    (λ e h. ap (λ ys. x ∷ ys) (h e)) (λ e h. cc) none (all_stay f xs)

none_goes : {X : Type 0} (f : X → Bool) (xs : List X) → filter f xs ≡ xs → list_any (λ x. not (f x)) xs ≡ false
none_goes f [] same = refl
none_goes {X} f (x ∷ xs) same =
    on_bool (f x) (λ b. cond b (x ∷ filter f xs) (filter f xs) ≡ x ∷ xs → (filter f xs ≡ xs → list_any (λ y. not (f y)) xs ≡ false) → (not b || list_any (λ y. not (f y)) xs) ≡ false)
    (λ e h. h (ap rest e)) (λ e h. let short = filter_short f xs in let longer = ap length e in absurd (omega (arith, short, longer))) same (none_goes f xs)
  where
    rest : List X → List X
    rest [] = []
    rest (y ∷ ys) = ys

-- ---- a clock reading

max_is : (m t : ℕ) → m ≤ t → max m t ≡ t
max_is m t le = omega arith

module _ (w : DeviceSizes) (s : State) where
  abbrev ss : List Session
  ss = (table_of w s).sessions

  abbrev changes_at : ℕ → Bool
  changes_at t = forgets ss t || releases s.tree ss t

  objects_at : (t : ℕ) → s.moment ≤ t → (moved_to (max s.moment t) s).tree ≡ map (freed (lapsed t ss)) s.tree
  objects_at t own =
      ap (λ (u : ℕ). released_all (lapsed_at u s) s.tree) (max_is s.moment t own)
      ∙ ap (λ (ps : List Peer). released_all ps s.tree) (sym (lapsed_moved 1452 w t s))
      ∙ released_each (lapsed t ss) s.tree

  sessions_at : (t : ℕ) → s.moment ≤ t → (table_of w (moved_to (max s.moment t) s)).sessions ≡ staying t ss
  sessions_at t own =
      ap (λ (u : ℕ). (table_of w (moved_to u s)).sessions) (max_is s.moment t own)
      ∙ ap (λ (x : Table). x.sessions) (sym (table_moved 1452 w t s own))

  keeps : (t : ℕ) → s.moment ≤ t → changes_at t ≡ false → TickKeeps w s t
  keeps t own none =
      let parts = or_parts (forgets ss t) (releases s.tree ss t) none in
      record {
        objects = objects_at t own ∙ none_freed (lapsed t ss) s.tree (sym (releases_where ss t s.tree) ∙ parts.1);
        sessions = sessions_at t own ∙ all_stay (stays t) ss parts.0;
      }

  alters : (t : ℕ) → s.moment ≤ t → changes_at t ≡ true → TickKeeps w s t → ⊥
  alters t own some kept =
      let stay = none_goes (stays t) ss (sym (sessions_at t own) ∙ kept.sessions) in
      let unheld = releases_where ss t s.tree
      ∙ ap (list_any (held (lapsed t ss))) (sym (sym (objects_at t own) ∙ kept.objects))
      ∙ none_held (lapsed t ss) s.tree in
      differs (sym some ∙ ap (λ b. b || releases s.tree ss t) stay ∙ unheld)
    where
      differs : true ≡ false → ⊥
      differs e = cc

  some_lapse : (first t : ℕ) → HoldsFrom changes_at (Some first) → t ≡ max first s.moment → t < 2 ^ 64 → IsNextLapse w s t
  some_lapse first t h e fits = record {
    own = omega arith;
    changes = alters t (omega arith) (h t fits ∙ le-leb first t (omega arith));
    earlier = λ u own below. keeps u own (h u (omega arith) ∙ lt-leb first u (omega arith));
  }

  no_lapse : HoldsFrom changes_at None → NeverLapses w s
  no_lapse h = record { never = λ t own fits. keeps t own (h t fits) }

-- what a device is in this state: which replies it retains changes nothing of when its sessions lapse
module _ (most : ℕ) (w : DeviceSizes) (s : State) (tree : List Object) (table : Table) (tree_is : tree ≡ s.tree) (table_is : table ≡ table_within most w s) where
  abbrev its : List Session
  its = (table_within most w s).sessions

  same_lapsed : (t : ℕ) → lapsed t its ≡ lapsed t (ss w s)
  same_lapsed t = lapsed_moved most w t s ∙ sym (lapsed_moved 1452 w t s)

  same_forgets : (t : ℕ) (ps : List Peer) → forgets (map (session_within most w s.notes) ps) t ≡ forgets (map (session_within 1452 w s.notes) ps) t
  same_forgets t [] = refl
  same_forgets t (p ∷ ps) = ap (λ b. not (stays t (session_within 1452 w s.notes p)) || b) (same_forgets t ps)

  same_changes : (t : ℕ) → (forgets its t || releases s.tree its t) ≡ changes_at w s t
  same_changes t =
      ap (λ b. b || releases s.tree its t) (same_forgets t (noted_peers s.moment s.notes))
      ∙ ap (λ b. forgets (ss w s) t || b)
      (releases_where its t s.tree ∙ ap (λ (ps : List Peer). list_any (held ps) s.tree) (same_lapsed t) ∙ sym (releases_where (ss w s) t s.tree))

  in_state : (o : Option ℕ) → HoldsFrom (λ t. forgets table.sessions t || releases tree table.sessions t) o → HoldsFrom (changes_at w s) o
  in_state o h =
      subst (λ (f : ℕ → Bool). HoldsFrom f o) (λ i t. same_changes t i)
      (subst (λ (x : List Object). HoldsFrom (λ t. forgets its t || releases x its t) o) tree_is
      (subst (λ (x : Table). HoldsFrom (λ t. forgets x.sessions t || releases tree x.sessions t) o) table_is h))

  pub next_some : (first t : ℕ) → HoldsFrom (λ t. forgets table.sessions t || releases tree table.sessions t) (Some first) → t ≡ max first table.moment →
      t < 2 ^ 64 → IsNextLapse w s t
  next_some first t h e fits = some_lapse w s first t (in_state (Some first) h) (e ∙ ap (λ (x : Table). max first x.moment) table_is) fits

  pub next_none : HoldsFrom (λ t. forgets table.sessions t || releases tree table.sessions t) None → NeverLapses w s
  next_none h = no_lapse w s (in_state None h)

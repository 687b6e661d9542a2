-- Where the containers of objects stand.
use Rattle.oca_tree.proofs.Words.{◌≡◌, ℕ, zero, suc, ◌<◌, ◌≤◌, Bool, true, false, cond, List, [], ◌∷◌, ◌++◌, length, get_or, take, drop, refl, sym, ap, ◌∙◌, arith, inl, inr, append_assoc, length-append, eqb-true, eq-eqb, one-add, Option, Some, None, is_some, ◌==◌, ◌||◌, ◌⊎◌, option_or, position, position_or_len, find, get_or-map, get_or-append, get_or-append_seam, find-append, cases_lt, Object, has_number, Place, place_of, places, place_at, depth, reaches, IsBuilt, IsFree, IsTree, containers}
use Rattle.std.proofs.Common.{append-nil}
use Rattle.std.proofs.lemmas.List.{take-append-drop, take-append-le, get_or-take}
use Rattle.std.proofs.Math.ListN.{length-take}
use Rattle.std.proofs.Math.Seq.{take-append_seam}
use Rattle.std.proofs.lemmas.List.Folds.{position_or_len_push}
use Rattle.oca_tree.specs.Trees as trees
use Rattle.oca_tree.specs.PrivateObjects.{containers_behind}
use Rattle.oca_tree.proofs.Chains.{length_places, position_places}
use Rattle.oca_tree.proofs.Positions.{place_found, find_none, find_some, find_passes}
use Rattle.oca_tree.proofs.Endings.{looked_up, block_there, depth_absent, depth_there, reaches_absent, reaches_there}

abbrev is_container_of : Place → Place → Bool
is_container_of p q = q.number == p.container

-- one more object
pub containers_push : (before ps : List Place) (p : Place) → containers_behind before (ps ++ p ∷ []) ≡ containers_behind before ps ++ position (is_container_of p) (before ++ ps) ∷ []
containers_push before [] p = ap (λ qs. position (is_container_of p) qs ∷ []) (sym (append-nil before))
containers_push before (q ∷ qs) p =
    ap (λ cs. position (is_container_of q) before ∷ cs)
    (containers_push (before ++ q ∷ []) qs p ∙ ap (λ front. containers_behind (before ++ q ∷ []) qs ++ position (is_container_of p) front ∷ []) (append_assoc before (q ∷ []) qs))

pub containers_length : (before ps : List Place) → length (containers_behind before ps) ≡ length ps
containers_length before [] = refl
containers_length before (p ∷ ps) = ap suc (containers_length (before ++ p ∷ []) ps)

containers_get : (before ps : List Place) (i : ℕ) (d : Place) → i < length ps → get_or (containers_behind before ps) i None ≡ position (is_container_of (get_or ps i d)) (before ++ take i ps)
containers_get before [] i d h = absurd (omega arith)
containers_get before (p ∷ ps) zero d h = ap (position (is_container_of p)) (sym (append-nil before))
containers_get before (p ∷ ps) (suc i) d h = containers_get (before ++ p ∷ []) ps i d (omega arith) ∙ ap (position (is_container_of (get_or ps i d))) (append_assoc before (p ∷ []) (take i ps))

-- no object has the number 0
zero_absent : (ps : List Place) → IsBuilt ps → place_at ps 0 ≡ None
zero_absent _ trees.root = refl
zero_absent _ (trees.next ps p built free) =
    let big = free.number in
    let other : (p.number == 0) ≡ false = grind (arith, big) in
    looked_up ps p 0 ∙ (rw (zero_absent ps built, other) refl)

-- a container stands before what it contains, and the root has none
stands_before : (ps : List Place) → IsBuilt ps → (i : ℕ) (d : Place) → i < length ps → ((get_or ps i d).container ≡ 0) ⊎ (is_some (place_at (take i ps) (get_or ps i d).container) ≡ true)
stands_before _ trees.root zero d h = inl refl
stands_before _ trees.root (suc i) d h = absurd (omega arith)
stands_before _ (trees.next ps p built free) i d h = by (cases_lt i (length ps)) (stands_before ps built i d)
  where
    by : (i < length ps) ⊎ (length ps ≤ i) → (i < length ps → ((get_or ps i d).container ≡ 0) ⊎ (is_some (place_at (take i ps) (get_or ps i d).container) ≡ true))
        → ((get_or (ps ++ p ∷ []) i d).container ≡ 0) ⊎ (is_some (place_at (take i (ps ++ p ∷ [])) (get_or (ps ++ p ∷ []) i d).container) ≡ true)
    by (inl lt) earlier = rw (get_or-append ps (p ∷ []) d i lt, take-append-le i ps (p ∷ []) (omega arith)) (earlier lt)
    by (inr le) earlier =
        let last : i ≡ length ps = omega (arith, h, le, length-append ps (p ∷ [])) in
        rw (last, get_or-append_seam ps p [] d, take-append_seam ps (p ∷ [])) (inr (block_there ps p.container free.container))

module _ (ps : List Place) (built : IsBuilt ps) (i : ℕ) (d : Place) (within : i < length ps) where
  -- what a container is among those before the object it is among all
  among : place_at (take i ps) (get_or ps i d).container ≡ place_at ps (get_or ps i d).container
  among = by (stands_before ps built i d within) (place_at (take i ps) (get_or ps i d).container) refl
    where
      n : ℕ
      n = (get_or ps i d).container

      whole : place_at ps n ≡ option_or (place_at (take i ps) n) (place_at (drop i ps) n)
      whole = ap (λ (qs : List Place). place_at qs n) (sym (take-append-drop i ps)) ∙ find-append (λ q. q.number == n) (take i ps) (drop i ps)

      by : (n ≡ 0) ⊎ (is_some (place_at (take i ps) n) ≡ true) → (o : Option Place) → place_at (take i ps) n ≡ o → place_at (take i ps) n ≡ place_at ps n
      by z (Some q) e = e ∙ sym (whole ∙ ap (λ x. option_or x (place_at (drop i ps) n)) e)
      by (inl z) None e = e ∙ sym (ap (place_at ps) z ∙ zero_absent ps built)
      by (inr s) None e = absurd (cc)

  absent : None ≡ get_or (containers ps) i None → place_at ps (get_or ps i d).container ≡ None
  absent e = sym among ∙ find_none (is_container_of (get_or ps i d)) (take i ps) (e ∙ containers_get [] ps i d within)

  there : (j : ℕ) → Some j ≡ get_or (containers ps) i None → (j < i) × (place_at ps (get_or ps i d).container ≡ Some (get_or ps j d))
  there j e =
      let at = e ∙ containers_get [] ps i d within in
      let below : j < i = omega (arith, (place_found (is_container_of (get_or ps i d)) (take i ps) j at).0, length-take i ps) in
      (below, sym among ∙ find_some (is_container_of (get_or ps i d)) (take i ps) j d at ∙ ap Some (get_or-take i ps j d below))

-- an object is the one that has its number
pub itself : (ps : List Place) → IsBuilt ps → (i : ℕ) (d : Place) → i < length ps → place_at ps (get_or ps i d).number ≡ Some (get_or ps i d)
itself _ trees.root zero d h = refl
itself _ trees.root (suc i) d h = absurd (omega arith)
itself _ (trees.next ps p built free) i d h = by (cases_lt i (length ps)) (itself ps built i d)
  where
    by : (i < length ps) ⊎ (length ps ≤ i) → (i < length ps → place_at ps (get_or ps i d).number ≡ Some (get_or ps i d))
        → place_at (ps ++ p ∷ []) (get_or (ps ++ p ∷ []) i d).number ≡ Some (get_or (ps ++ p ∷ []) i d)
    by (inl lt) earlier =
        rw (get_or-append ps (p ∷ []) d i lt) (looked_up ps p (get_or ps i d).number ∙ ap (λ o. option_or o (cond (p.number == (get_or ps i d).number) (Some p) None)) (earlier lt))
    by (inr le) earlier =
        let last : i ≡ length ps = omega (arith, h, le, length-append ps (p ∷ [])) in
        let same : (p.number == p.number) ≡ true = eq-eqb p.number p.number refl in
        rw (last, get_or-append_seam ps p [] d) (looked_up ps p p.number ∙ (rw (free.untaken, same) refl))

-- and it stands first where its number is looked for
module _ (p : Place → Bool) where
  nothing_before : (ps : List Place) → find p ps ≡ None → position_or_len p ps ≡ length ps
  nothing_before [] e = refl
  nothing_before (q ∷ qs) e = by (p q) refl (nothing_before qs)
    where
      by : (b : Bool) → p q ≡ b → (find p qs ≡ None → position_or_len p qs ≡ length qs) → position_or_len p (q ∷ qs) ≡ length (q ∷ qs)
      by true t rest = let e' = rw t at e in absurd (cc)
      by false t rest = rw (t, one-add) (ap suc (rest (rw t at e)))

  pushed_before : (ps : List Place) (q : Place) (i : ℕ) → position_or_len p ps ≡ i → i < length ps → position_or_len p (ps ++ q ∷ []) ≡ i
  pushed_before ps q i e within = let other : (i == length ps) ≡ false = grind (arith, within) in position_or_len_push p ps q ∙ (rw (e, other) refl)

  pushed_last : (ps : List Place) (q : Place) → position_or_len p ps ≡ length ps → p q ≡ true → position_or_len p (ps ++ q ∷ []) ≡ length ps
  pushed_last ps q e passes = let same : (length ps == length ps) ≡ true = eq-eqb (length ps) (length ps) refl in position_or_len_push p ps q ∙ (rw (e, same, passes) (omega arith))

stands_first : (p : Place → Bool) (ps : List Place) (i : ℕ) → position_or_len p ps ≡ i → i < length ps → Some i ≡ position p ps
stands_first p ps i e within = grind arith

itself_first : (ps : List Place) → IsBuilt ps → (i : ℕ) (d : Place) → i < length ps → position_or_len (λ q. q.number == (get_or ps i d).number) ps ≡ i
itself_first _ trees.root zero d h = refl
itself_first _ trees.root (suc i) d h = absurd (omega arith)
itself_first _ (trees.next ps p built free) i d h = by (cases_lt i (length ps)) (itself_first ps built i d)
  where
    by : (i < length ps) ⊎ (length ps ≤ i) → (i < length ps → position_or_len (λ q. q.number == (get_or ps i d).number) ps ≡ i)
        → position_or_len (λ q. q.number == (get_or (ps ++ p ∷ []) i d).number) (ps ++ p ∷ []) ≡ i
    by (inl lt) earlier = rw (get_or-append ps (p ∷ []) d i lt) (pushed_before (λ q. q.number == (get_or ps i d).number) ps p i (earlier lt) lt)
    by (inr le) earlier =
        let last : i ≡ length ps = omega (arith, h, le, length-append ps (p ∷ [])) in
        rw (last, get_or-append_seam ps p [] d)
        (pushed_last (λ q. q.number == p.number) ps p (nothing_before (λ q. q.number == p.number) ps free.untaken) (eq-eqb p.number p.number refl))

-- ---- of an object at an index

abbrev nowhere : Place
nowhere = record { number = 0; container = 0; block = false }

pub container_below : (tree : List Object) → IsTree tree → (i : ℕ) → i < length tree → (j : ℕ) → Some j ≡ get_or (containers (places tree)) i None → j < i
container_below tree sound i within j e = (there (places tree) sound.built i nowhere (rw (length_places tree) within) j e).0

module _ (tree : List Object) (sound : IsTree tree) (i : ℕ) (d : Object) (within : i < length tree) where
  abbrev pub ps : List Place
  ps = places tree

  long : i < length ps
  long = rw (length_places tree) within

  place : get_or ps i (place_of d) ≡ place_of (get_or tree i d)
  place = get_or-map place_of tree i d (place_of d) within

  pub own : place_at ps (get_or tree i d).ono.0 ≡ Some (place_of (get_or tree i d))
  own = rw place at (itself ps sound.built i (place_of d) long)

  -- the index of an object is where its number stands first
  pub index_itself : Some i ≡ position (has_number (get_or tree i d).ono.0) tree
  index_itself =
      let first : position_or_len (λ q. q.number == (get_or tree i d).ono.0) ps ≡ i = rw place at (itself_first ps sound.built i (place_of d) long) in
      stands_first (λ q. q.number == (get_or tree i d).ono.0) ps i first long ∙ sym (position_places tree (get_or tree i d).ono.0)

  pub container_absent : None ≡ get_or (containers ps) i None → place_at ps (get_or tree i d).container.0 ≡ None
  container_absent e = rw place at (absent ps sound.built i (place_of d) long e)

  pub container_there : (j : ℕ) → Some j ≡ get_or (containers ps) i None → place_at ps (get_or tree i d).container.0 ≡ Some (place_of (get_or tree j d))
  container_there j e =
      let below = container_below tree sound i within j e in
      let that : get_or ps j (place_of d) ≡ place_of (get_or tree j d) = get_or-map place_of tree j d (place_of d) (omega arith) in
      rw (place, that) at (there ps sound.built i (place_of d) long j e).1

  pub container_number : (j : ℕ) → Some j ≡ get_or (containers ps) i None → (get_or tree i d).container.0 ≡ (get_or tree j d).ono.0
  container_number j e =
      let n = (get_or tree i d).container.0 in
      sym (eqb-true (get_or tree j d).ono.0 n (find_passes (λ (p : Place). p.number == n) ps (place_of (get_or tree j d)) (container_there j e)))

  -- the depth of an object is that of its container and one
  pub depth_root : None ≡ get_or (containers ps) i None → depth ps (get_or tree i d).ono.0 ≡ 1
  depth_root e = depth_there ps sound.built (get_or tree i d).ono.0 (place_of (get_or tree i d)) own ∙ ap suc (depth_absent ps (get_or tree i d).container.0 (container_absent e))

  pub depth_above : (j : ℕ) → Some j ≡ get_or (containers ps) i None → depth ps (get_or tree i d).ono.0 ≡ suc (depth ps (get_or tree j d).ono.0)
  depth_above j e = depth_there ps sound.built (get_or tree i d).ono.0 (place_of (get_or tree i d)) own ∙ ap (λ n. suc (depth ps n)) (container_number j e)

  -- an object lies in a block that is its container, or in which its container lies
  pub lies_nowhere : (block : ℕ) → None ≡ get_or (containers ps) i None → reaches ps block (get_or tree i d).container.0 ≡ false
  lies_nowhere block e = reaches_absent ps block (get_or tree i d).container.0 (container_absent e)

  pub lies_above : (block j : ℕ) → Some j ≡ get_or (containers ps) i None → reaches ps block (get_or tree i d).container.0 ≡ ((get_or tree i d).container.0 == block) || reaches ps block (get_or tree j d).container.0
  lies_above block j e = reaches_there ps block sound.built (get_or tree i d).container.0 (place_of (get_or tree j d)) (container_there j e)

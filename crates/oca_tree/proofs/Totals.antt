-- How many bytes are listed of what is in a block, as objects are added and changed.
use Rattle.oca_tree.proofs.Words.{◌≡◌, ℕ, zero, suc, ◌+◌, ◌-◌, ◌*◌, ◌<◌, ◌≤◌, Bool, true, false, cond, List, [], ◌∷◌, ◌++◌, map, length, get_or, set, drop, refl, sym, ap, ◌∙◌, subst, arith, inl, inr, length-append, eqb-true, eq-eqb, Some, None, ◌==◌, ◌||◌, ◌⊎◌, filter, flat_map, list_any, get_or-map, length-map, get_or-append, get_or-append_seam, cases_lt, w32, unsigned_encoding, Class, class_identification_encoding, Lengths, Object, Place, place_of, places, reaches, IsTree, IsBuilt, IsFree, containers, is_listed, item_encoding, listed_bytes, lengths, nothing_listed}
use Rattle.std.proofs.lemmas.List.{ext_get_or, drop_all, get_or-set_same, get_or-set_other}
use Rattle.oca_types.specs.declared.class.Class.TheVariants as class
use Rattle.oca_tree.specs.Objects.{class_of}
use Rattle.oca_tree.specs.Trees as trees
use Rattle.oca_tree.specs.PrivateSteps.{lengths_of, length_in, LastIsNew}
use Rattle.oca_tree.proofs.Adding.{places_push}
use Rattle.oca_tree.proofs.Chains.{length_places}
use Rattle.oca_tree.proofs.Containers.{containers_length, container_below, itself, lies_nowhere, lies_above}
use Rattle.oca_tree.proofs.Endings.{closed, apart_from, chain_kept}
use Rattle.oca_tree.proofs.Listing.{member_there, member_absent, none_before, all_behind}
use Rattle.oca_tree.proofs.Sound.{shape_of, shapes, place_shapes}

-- ---- by places and classes alone

-- whether what stands at a place is listed of a block
abbrev is_in : List Place → ℕ → Bool → Place → Bool
is_in ps block true p = reaches ps block p.container
is_in ps block false p = p.container == block

abbrev item_bytes : Bool → Class → ℕ
item_bytes true of = length (class_identification_encoding of) + 8
item_bytes false of = length (class_identification_encoding of) + 4

item_length : (deep : Bool) (o : Object) → length (item_encoding deep o) ≡ item_bytes deep (class_of o.value)
item_length true o = omega (arith, length-append (item_encoding false o) (unsigned_encoding w32 o.container.0))
item_length false o = omega arith

deep_few : (of : Class) → item_bytes true of ≤ 22
deep_few class.Block = omega arith
deep_few _ = omega arith

item_few : (deep : Bool) (of : Class) → item_bytes deep of ≤ 22
item_few true of = deep_few of
item_few false of = omega (arith, deep_few of)

module _ (ps : List Place) (block : ℕ) (deep : Bool) where
  abbrev one : Place × Class → ℕ
  one s = cond (is_in ps block deep s.0) (item_bytes deep s.1) 0

  abbrev total : List (Place × Class) → ℕ
  total [] = 0
  total (s ∷ ss) = one s + total ss

  total_append : (ss ts : List (Place × Class)) → total (ss ++ ts) ≡ total ss + total ts
  total_append [] ts = omega arith
  total_append (s ∷ ss) ts = omega (arith, total_append ss ts)

  one_few : (s : Place × Class) → one s ≤ 22
  one_few s = by (is_in ps block deep s.0)
    where
      by : (b : Bool) → cond b (item_bytes deep s.1) 0 ≤ 22
      by true = item_few deep s.1
      by false = omega arith

  total_few : (ss : List (Place × Class)) → total ss ≤ 22 * length ss
  total_few [] = omega arith
  total_few (s ∷ ss) = omega (arith, one_few s, total_few ss)

  listed_total : (p : Object → Bool) → ((o : Object) → p o ≡ is_in ps block deep (place_of o)) → (xs : List Object) → length (flat_map (item_encoding deep) (filter p xs)) ≡ total (shapes xs)
  listed_total p is [] = refl
  listed_total p is (x ∷ xs) = by (p x) refl (listed_total p is xs)
    where
      by : (b : Bool) → p x ≡ b → length (flat_map (item_encoding deep) (filter p xs)) ≡ total (shapes xs) → length (flat_map (item_encoding deep) (filter p (x ∷ xs))) ≡ total (shapes (x ∷ xs))
      by true e rest =
          let there : is_in ps block deep (place_of x) ≡ true = sym (is x) ∙ e in
          rw (e, there) (omega (arith, length-append (item_encoding deep x) (flat_map (item_encoding deep) (filter p xs)), item_length deep x, rest))
      by false e rest = let there : is_in ps block deep (place_of x) ≡ false = sym (is x) ∙ e in rw (e, there) (omega (arith, rest))

listed_in : (tree : List Object) (block : ℕ) (deep : Bool) (o : Object) → is_listed tree block deep o ≡ is_in (places tree) block deep (place_of o)
listed_in tree block true o = refl
listed_in tree block false o = refl

listed_is : (tree : List Object) (block : ℕ) (deep : Bool) → listed_bytes deep tree block ≡ total (places tree) block deep (shapes tree)
listed_is tree block deep = listed_total (places tree) block deep (is_listed tree block deep) (listed_in tree block deep) tree

pub listed_few : (tree : List Object) (block : ℕ) (deep : Bool) → listed_bytes deep tree block ≤ 22 * length tree
listed_few tree block deep = omega (arith, listed_is tree block deep, total_few (places tree) block deep (shapes tree), length-map tree shape_of)

-- the same places and classes have the same lengths
abbrev by_shapes : List (Place × Class) → Place × Class → Lengths
by_shapes ss s =
    let ps = map (λ (t : Place × Class). t.0) ss in
    record { members = total ps s.0.number false ss; descendants = total ps s.0.number true ss }

one_by_shapes : (tree : List Object) (o : Object) → lengths_of tree o ≡ by_shapes (shapes tree) (shape_of o)
one_by_shapes tree o =
    ap (λ (n : ℕ). record { members = n; descendants = listed_bytes true tree o.ono.0 }) (listed_is tree o.ono.0 false)
    ∙ ap (λ (n : ℕ). record { members = total (places tree) o.ono.0 false (shapes tree); descendants = n }) (listed_is tree o.ono.0 true)
    ∙ ap (λ (ps : List Place). record { members = total ps o.ono.0 false (shapes tree); descendants = total ps o.ono.0 true (shapes tree) }) (sym (place_shapes tree))

all_by_shapes : (tree xs : List Object) → map (lengths_of tree) xs ≡ map (by_shapes (shapes tree)) (shapes xs)
all_by_shapes tree [] = refl
all_by_shapes tree (x ∷ xs) = rw (one_by_shapes tree x, all_by_shapes tree xs) refl

pub lengths_kept : (t u : List Object) → shapes t ≡ shapes u → lengths t ≡ lengths u
lengths_kept t u e = all_by_shapes t t ∙ ap (λ ss. map (by_shapes ss) ss) e ∙ sym (all_by_shapes u u)

-- ---- one more object

parted : {X : Type 0} (xs ys : List X) (x y : X) → xs ++ x ∷ [] ≡ ys ++ y ∷ [] → (xs ≡ ys) × (x ≡ y)
parted [] [] x y e = (refl, cc)
parted [] (z ∷ zs) x y e = absurd (omega (arith, ap length e, length-append zs (y ∷ [])))
parted (z ∷ zs) [] x y e = absurd (omega (arith, ap length e, length-append zs (x ∷ [])))
parted (z ∷ zs) (w ∷ ws) x y e =
    let heads : z ≡ w = cc in
    let tails : zs ++ x ∷ [] ≡ ws ++ y ∷ [] = cc in
    let rest = parted zs ws x y tails in
    (rw (heads, rest.0) refl, rest.1)

-- what is built was built before its last place was taken, unless that is the root's
unbuilt : (qs : List Place) → IsBuilt qs → (ps : List Place) (p : Place) → qs ≡ ps ++ p ∷ [] → (ps ≡ []) ⊎ (IsBuilt ps × IsFree ps p)
unbuilt _ trees.root [] p e = inl refl
unbuilt _ trees.root (q ∷ ps) p e = absurd (omega (arith, ap length e, length-append ps (p ∷ [])))
unbuilt _ (trees.next qs q built free) ps p e = let same = parted qs ps q p e in inr (rw (← same.0, ← same.1) (built, free))

total_same : (ps qs : List Place) (block : ℕ) (deep : Bool) (ss : List (Place × Class)) → ((i : ℕ) (d : Place × Class) → i < length ss → is_in ps block deep (get_or ss i d).0 ≡ is_in qs block deep (get_or ss i d).0)
    → total ps block deep ss ≡ total qs block deep ss
total_same ps qs block deep [] h = refl
total_same ps qs block deep (s ∷ ss) h =
    ap (λ b. cond b (item_bytes deep s.1) 0 + total ps block deep ss) (h zero s (omega arith))
    ∙ ap (λ n. one qs block deep s + n) (total_same ps qs block deep ss (λ i d lt. h (suc i) d (omega (arith, lt))))

shapes_push : (tree : List Object) (o : Object) → shapes (tree ++ o ∷ []) ≡ shapes tree ++ shape_of o ∷ []
shapes_push [] o = refl
shapes_push (x ∷ xs) o = ap (λ ss. shape_of x ∷ ss) (shapes_push xs o)

length_of : (deep : Bool) (tree : List Object) (o : Object) → length_in (lengths_of tree o) deep ≡ listed_bytes deep tree o.ono.0
length_of true tree o = refl
length_of false tree o = refl

-- what is kept of the object at an index
pub read_at : (tree : List Object) (all : List Lengths) → all ≡ lengths tree → (i : ℕ) → i < length tree → (deep : Bool) (d : Object)
    → length_in (get_or all i nothing_listed) deep ≡ listed_bytes deep tree (get_or tree i d).ono.0
read_at tree all is i within deep d =
    ap (λ (l : Lengths). length_in l deep) (ap (λ ls. get_or ls i nothing_listed) is ∙ get_or-map (lengths_of tree) tree i d nothing_listed within) ∙ length_of deep tree (get_or tree i d)

-- of each object what is listed is counted, but for one object: where that is listed, these bytes are still to come
abbrev pub Lacks : List Object → List Lengths → Bool → ℕ → ℕ → Type 0
Lacks tree all deep bytes at = (i : ℕ) (d : Object) → i < length tree →
    length_in (get_or all i nothing_listed) deep + cond (is_listed tree (get_or tree i d).ono.0 deep (get_or tree at d)) bytes 0 ≡ listed_bytes deep tree (get_or tree i d).ono.0

-- of each object all that is listed is counted
abbrev pub Counts : List Object → List Lengths → Bool → Type 0
Counts tree all deep = (i : ℕ) (d : Object) → i < length tree → length_in (get_or all i nothing_listed) deep ≡ listed_bytes deep tree (get_or tree i d).ono.0

module _ (front : List Object) (last : Object) (sound : IsTree (front ++ last ∷ [])) where
  abbrev grown : List Object
  grown = front ++ last ∷ []

  -- the chains of those before the last are as they were
  reaches_kept : (block i : ℕ) (d : Place) → i < length (places front)
      → reaches (places grown) block (get_or (places front) i d).container ≡ reaches (places front) block (get_or (places front) i d).container
  reaches_kept block i d within = by (unbuilt (places grown) sound.built (places front) (place_of last) (places_push front last))
    where
      x : Place
      x = get_or (places front) i d

      by : (places front ≡ []) ⊎ (IsBuilt (places front) × IsFree (places front) (place_of last)) → reaches (places grown) block x.container ≡ reaches (places front) block x.container
      by (inl none) = absurd (omega (arith, within, ap length none))
      by (inr both) =
          let away = apart_from (places front) (place_of last) both.1 x (closed (places front) both.0 x.number x (itself (places front) both.0 i d within)) in
          ap (λ ps. reaches ps block x.container) (places_push front last)
          ∙ ap (list_any (λ number. number == block)) (chain_kept (places front) (place_of last) both.0 both.1 x.container away)

  in_kept : (deep : Bool) (block i : ℕ) (d : Place × Class) → i < length (shapes front)
      → is_in (places grown) block deep (get_or (shapes front) i d).0 ≡ is_in (places front) block deep (get_or (shapes front) i d).0
  in_kept false block i d within = refl
  in_kept true block i d within =
      let here : get_or (places front) i d.0 ≡ (get_or (shapes front) i d).0 =
      ap (λ ps. get_or ps i d.0) (sym (place_shapes front)) ∙ get_or-map (λ (s : Place × Class). s.0) (shapes front) i d d.0 within in
      let inside : i < length (places front) = omega (arith, within, length-map front shape_of, length_places front) in
      rw here at (reaches_kept block i d.0 inside)

  -- what is listed is what was, and the last where it is
  pub more : (deep : Bool) (block : ℕ) → listed_bytes deep grown block ≡ listed_bytes deep front block + cond (is_listed grown block deep last) (length (item_encoding deep last)) 0
  more deep block =
      let there : cond (is_listed grown block deep last) (length (item_encoding deep last)) 0 ≡ one (places grown) block deep (shape_of last) =
      ap (λ b. cond b (length (item_encoding deep last)) 0) (listed_in grown block deep last)
      ∙ ap (λ n. cond (is_in (places grown) block deep (place_of last)) n 0) (item_length deep last) in
      omega (
        arith,
        there,
        listed_is grown block deep,
        listed_is front block deep,
        ap (total (places grown) block deep) (shapes_push front last),
        total_append (places grown) block deep (shapes front) (shape_of last ∷ []),
        total_same (places grown) (places front) block deep (shapes front) (in_kept deep block),
      )

  pub at_end : (d : Object) → get_or grown (length front) d ≡ last
  at_end d = get_or-append_seam front last [] d

  pub inside : length front < length grown
  inside = omega (arith, length-append front (last ∷ []))

  -- nothing is listed of the last itself
  none_of_last : (deep : Bool) → listed_bytes deep grown last.ono.0 ≡ 0
  none_of_last deep =
      let none : drop (length front + 1) grown ≡ [] = drop_all (length front + 1) grown (omega (arith, length-append front (last ∷ []))) in
      ap (λ xs. length (flat_map (item_encoding deep) xs))
      (all_behind grown sound (length front) inside last (sym (at_end last)) deep ∙ ap (filter (is_listed grown last.ono.0 deep)) none)

  not_in_itself : (deep : Bool) → is_listed grown last.ono.0 deep last ≡ false
  not_in_itself deep =
      ap (λ (o : Object). is_listed grown o.ono.0 deep last) (sym (at_end last))
      ∙ ap (is_listed grown (get_or grown (length front) last).ono.0 deep) (sym (at_end last))
      ∙ none_before grown sound (length front) inside deep (length front) last (omega arith)

  pub begun : (all : List Lengths) → all ≡ lengths front ++ nothing_listed ∷ [] → (deep : Bool) → Lacks grown all deep (length (item_encoding deep last)) (length front)
  begun all others deep i d within = by (cases_lt i (length front))
    where
      long : length (lengths front) ≡ length front
      long = length-map front (lengths_of front)

      zero_of : (deep : Bool) → length_in nothing_listed deep + 0 ≡ 0
      zero_of true = refl
      zero_of false = refl

      by : (i < length front) ⊎ (length front ≤ i)
          → length_in (get_or all i nothing_listed) deep + cond (is_listed grown (get_or grown i d).ono.0 deep (get_or grown (length front) d)) (length (item_encoding deep last)) 0 ≡ listed_bytes deep grown (get_or grown i d).ono.0
      by (inl lt) =
          let is : get_or all i nothing_listed ≡ lengths_of front (get_or front i d) =
          ap (λ ls. get_or ls i nothing_listed) others ∙ get_or-append (lengths front) (nothing_listed ∷ []) nothing_listed i (omega (arith, lt, long)) ∙ get_or-map (lengths_of front) front i d nothing_listed lt in
          rw (is, at_end d, get_or-append front (last ∷ []) d i lt, length_of deep front (get_or front i d)) (sym (more deep (get_or front i d).ono.0))
      by (inr le) =
          let here : i ≡ length front = omega (arith, le, within, length-append front (last ∷ [])) in
          let is : get_or all i nothing_listed ≡ nothing_listed =
          ap (λ ls. get_or ls i nothing_listed) others ∙ ap (λ n. get_or (lengths front ++ nothing_listed ∷ []) n nothing_listed) (here ∙ sym long) ∙ get_or-append_seam (lengths front) nothing_listed [] nothing_listed in
          rw (is, here, at_end d, not_in_itself deep) (zero_of deep ∙ sym (none_of_last deep))

-- what a function that counts begins with
pub record Begun (tree : List Object) (all : List Lengths) (at bytes : ℕ) : Type 0 where
  pub within : at < length tree
  pub long : length all ≡ length tree
  pub members : Lacks tree all false bytes at
  pub above : Lacks tree all true (bytes + 4) at

begun_front : (front : List Object) (last : Object) (all : List Lengths) → all ≡ lengths front ++ nothing_listed ∷ [] → (o : Object) (at bytes : ℕ) → IsTree (front ++ last ∷ [])
    → at ≡ length (front ++ last ∷ []) - 1 → o ≡ get_or (front ++ last ∷ []) at o → bytes ≡ length (item_encoding false o) → Begun (front ++ last ∷ []) all at bytes
begun_front front last all others o at bytes sound place here few =
    let end : at ≡ length front = omega (arith, place, length-append front (last ∷ [])) in
    let is : o ≡ last = here ∙ ap (λ k. get_or (front ++ last ∷ []) k o) end ∙ at_end front last sound o in
    let short : bytes ≡ length (item_encoding false last) = few ∙ ap (λ x. length (item_encoding false x)) is in
    let more : bytes + 4 ≡ length (item_encoding true last) = omega (arith, short, item_length false last, item_length true last) in
    record {
      within = omega (arith, end, inside front last sound);
      long = omega (arith, ap length others, length-append (lengths front) (nothing_listed ∷ []), length-map front (lengths_of front), length-append front (last ∷ []));
      members = rw (end, short) (begun front last sound all others false);
      above = rw (end, more) (begun front last sound all others true);
    }

pub begun_at : (tree : List Object) (all : List Lengths) → LastIsNew tree all → (o : Object) (at bytes : ℕ) → IsTree tree → at ≡ length tree - 1 → o ≡ get_or tree at o
    → bytes ≡ length (item_encoding false o) → Begun tree all at bytes
begun_at tree all new o at bytes =
    subst (λ (t : List Object). IsTree t → at ≡ length t - 1 → o ≡ get_or t at o → bytes ≡ length (item_encoding false o) → Begun t all at bytes) (sym new.is)
    (begun_front new.front new.last all new.others o at bytes)

pub containers_long : (tree : List Object) → length (containers (places tree)) ≡ length tree
containers_long tree = containers_length [] (places tree) ∙ length_places tree

-- ---- counting, step by step

apart_of : (i j : ℕ) → (j == i) ≡ false → i ≡ j → ⊥
apart_of i j e same = let yes : (j == i) ≡ true = eq-eqb j i (sym same) in cc

-- what is read where one was written
read_set : (f : Lengths → ℕ) (all : List Lengths) (j i : ℕ) (new : Lengths) → j < length all
    → f (get_or (set all j new) i nothing_listed) ≡ cond (j == i) (f new) (f (get_or all i nothing_listed))
read_set f all j i new within = by (j == i) refl
  where
    by : (b : Bool) → (j == i) ≡ b → f (get_or (set all j new) i nothing_listed) ≡ cond b (f new) (f (get_or all i nothing_listed))
    by true e =
        let same : i ≡ j = sym (eqb-true j i e) in
        ap (λ k. f (get_or (set all j new) k nothing_listed)) same ∙ ap f (get_or-set_same all j new nothing_listed within)
    by false e = ap f (get_or-set_other all j i new nothing_listed (apart_of i j e))

module _ (tree : List Object) (sound : IsTree tree) (all : List Lengths) (long : length all ≡ length tree) (at : ℕ) (within : at < length tree) where
  -- where what is still to come has no container, it is not listed
  pub member_end : (bytes : ℕ) → None ≡ get_or (containers (places tree)) at None → Lacks tree all false bytes at → Counts tree all false
  member_end bytes e lacks i d inside =
      let no = member_absent tree sound i inside at d within e in
      omega (arith, lacks i d inside, ap (λ b. cond b bytes 0) no)

  pub above_end : (bytes : ℕ) → None ≡ get_or (containers (places tree)) at None → Lacks tree all true bytes at → Counts tree all true
  above_end bytes e lacks i d inside =
      let no = lies_nowhere tree sound at d within (get_or tree i d).ono.0 e in
      omega (arith, lacks i d inside, ap (λ b. cond b bytes 0) no)

  module _ (j : ℕ) (e : Some j ≡ get_or (containers (places tree)) at None) (bytes : ℕ) where
    below : j < at
    below = container_below tree sound at within j e

    pub there : j < length all
    there = omega (arith, below, within, long)

    in_tree : j < length tree
    in_tree = omega (arith, below, within)

    here_is : (d : Object) → is_listed tree (get_or tree j d).ono.0 true (get_or tree at d) ≡ true
    here_is d =
        let yes : (j == j) ≡ true = eq-eqb j j refl in
        lies_above tree sound at d within (get_or tree j d).ono.0 j e
        ∙ ap (λ b. b || is_listed tree (get_or tree j d).ono.0 true (get_or tree j d)) (member_there tree sound j in_tree at d within j e ∙ yes)

    -- so few bytes that no sum passes what a number holds
    pub member_few : (d : Object) → Lacks tree all false bytes at → (get_or all j nothing_listed).members + bytes ≤ 90112
    member_few d lacks =
        let yes : (j == j) ≡ true = eq-eqb j j refl in
        let sum = lacks j d in_tree in
        let is = ap (λ b. cond b bytes 0) (member_there tree sound j in_tree at d within j e ∙ yes) in
        omega (arith, sum, is, listed_few tree (get_or tree j d).ono.0 false, sound.few)

    pub above_few : (d : Object) → Lacks tree all true bytes at → (get_or all j nothing_listed).descendants + bytes ≤ 90112
    above_few d lacks =
        let sum = lacks j d in_tree in
        let is = ap (λ b. cond b bytes 0) (here_is d) in
        omega (arith, sum, is, listed_few tree (get_or tree j d).ono.0 true, sound.few)

    module _ (new : Lengths) where
      pub member_step : new.members ≡ (get_or all j nothing_listed).members + bytes → Lacks tree all false bytes at → Counts tree (set all j new) false
      member_step sum lacks i d inside = by (j == i) refl
        where
          read : (get_or (set all j new) i nothing_listed).members ≡ cond (j == i) new.members (get_or all i nothing_listed).members
          read = read_set (λ l. l.members) all j i new there

          is : cond (is_listed tree (get_or tree i d).ono.0 false (get_or tree at d)) bytes 0 ≡ cond (j == i) bytes 0
          is = ap (λ b. cond b bytes 0) (member_there tree sound i inside at d within j e)

          by : (b : Bool) → (j == i) ≡ b → (get_or (set all j new) i nothing_listed).members ≡ listed_bytes false tree (get_or tree i d).ono.0
          by true t =
              let same : j ≡ i = eqb-true j i t in
              let old = ap (λ k. (get_or all k nothing_listed).members) same in
              omega (arith, read, is, ap (λ b. cond b new.members (get_or all i nothing_listed).members) t, ap (λ b. cond b bytes 0) t, old, sum, lacks i d inside)
          by false t =
              omega (arith, read, is, ap (λ b. cond b new.members (get_or all i nothing_listed).members) t, ap (λ b. cond b bytes 0) t, lacks i d inside)

      pub above_step : new.descendants ≡ (get_or all j nothing_listed).descendants + bytes → Lacks tree all true bytes at → Lacks tree (set all j new) true bytes j
      above_step sum lacks i d inside = by (j == i) refl
        where
          read : (get_or (set all j new) i nothing_listed).descendants ≡ cond (j == i) new.descendants (get_or all i nothing_listed).descendants
          read = read_set (λ l. l.descendants) all j i new there

          is : is_listed tree (get_or tree i d).ono.0 true (get_or tree at d) ≡ (j == i) || is_listed tree (get_or tree i d).ono.0 true (get_or tree j d)
          is =
              lies_above tree sound at d within (get_or tree i d).ono.0 j e
              ∙ ap (λ b. b || is_listed tree (get_or tree i d).ono.0 true (get_or tree j d)) (member_there tree sound i inside at d within j e)

          by : (b : Bool) → (j == i) ≡ b
              → (get_or (set all j new) i nothing_listed).descendants + cond (is_listed tree (get_or tree i d).ono.0 true (get_or tree j d)) bytes 0 ≡ listed_bytes true tree (get_or tree i d).ono.0
          by true t =
              let same : j ≡ i = eqb-true j i t in
              let old = ap (λ k. (get_or all k nothing_listed).descendants) same in
              let here = is ∙ ap (λ b. b || is_listed tree (get_or tree i d).ono.0 true (get_or tree j d)) t in
              let none = ap (λ k. is_listed tree (get_or tree k d).ono.0 true (get_or tree j d)) (sym same) ∙ none_before tree sound j in_tree true j d (omega arith) in
              omega (
                arith,
                read,
                ap (λ b. cond b new.descendants (get_or all i nothing_listed).descendants) t,
                old,
                sum,
                ap (λ b. cond b bytes 0) here,
                ap (λ b. cond b bytes 0) none,
                lacks i d inside,
              )
          by false t =
              let here = is ∙ ap (λ b. b || is_listed tree (get_or tree i d).ono.0 true (get_or tree j d)) t in
              omega (arith, read, ap (λ b. cond b new.descendants (get_or all i nothing_listed).descendants) t, ap (λ b. cond b bytes 0) here, lacks i d inside)

      read_same : (f : Lengths → ℕ) (i : ℕ) → f new ≡ f (get_or all j nothing_listed) → f (get_or (set all j new) i nothing_listed) ≡ f (get_or all i nothing_listed)
      read_same f i same = read_set f all j i new there ∙ by (j == i) refl
        where
          by : (b : Bool) → (j == i) ≡ b → cond b (f new) (f (get_or all i nothing_listed)) ≡ f (get_or all i nothing_listed)
          by true t = same ∙ ap (λ k. f (get_or all k nothing_listed)) (eqb-true j i t)
          by false t = refl

      -- what counts the others is as it was
      pub members_kept : new.members ≡ (get_or all j nothing_listed).members → Counts tree all false → Counts tree (set all j new) false
      members_kept same counts i d inside = read_same (λ l. l.members) i same ∙ counts i d inside

      pub descendants_kept : new.descendants ≡ (get_or all j nothing_listed).descendants → (n : ℕ) (k : ℕ) → Lacks tree all true n k → Lacks tree (set all j new) true n k
      descendants_kept same n k lacks i d inside =
          ap (λ m. m + cond (is_listed tree (get_or tree i d).ono.0 true (get_or tree k d)) n 0) (read_same (λ l. l.descendants) i same) ∙ lacks i d inside

-- all is counted
pub all_counted : (tree : List Object) (o : Object) (all : List Lengths) → length all ≡ length tree → Counts tree all false → Counts tree all true → all ≡ lengths tree
all_counted tree o all long members descendants =
    ext_get_or nothing_listed all (lengths tree) (omega (arith, long, length-map tree (lengths_of tree))) (λ i lt.
    let inside : i < length tree = omega (arith, lt, long) in
    ap (λ (n : ℕ). record { members = n; descendants = (get_or all i nothing_listed).descendants }) (members i o inside)
    ∙ ap (λ (n : ℕ). record { members = listed_bytes false tree (get_or tree i o).ono.0; descendants = n }) (descendants i o inside)
    ∙ sym (get_or-map (lengths_of tree) tree i o nothing_listed inside))

-- Objects that are listed, and their number before them.
use Rattle.oca_tree.proofs.Words.{◌≡◌, ℕ, zero, suc, ◌+◌, ◌<◌, ◌≤◌, Bool, true, false, List, [], ◌∷◌, ◌++◌, length, get_or, take, drop, refl, sym, ap, ◌∙◌, arith, append_assoc, length-append, eqb-true, eq-eqb, Option, Some, None, ◌==◌, ◌||◌, filter, position, length-map, flat_map-map, answer_count, list_encoding, member_encoding, descendant_encoding, Object, has_number, members, descendants, places, place_at, IsTree, containers, is_listed, item_encoding, member_of, descendant_of}
use Rattle.std.specs.Prelude.{map}
use Rattle.oca_model.specs.Answers.{answer_encoding}
use Rattle.oca_tree.specs.PrivateSteps.{listed_answer}
use Rattle.oca_tree.proofs.Positions.{same_element}
use Rattle.oca_tree.proofs.Containers.{container_below, container_number, container_absent, own, index_itself, lies_above, lies_nowhere}

or_false : (t : Bool) → (t || false) ≡ t
or_false true = refl
or_false false = refl

-- what is listed of a block, by indices
module _ (tree : List Object) (sound : IsTree tree) (b : ℕ) (inside : b < length tree) where
  abbrev number : Object → ℕ
  number d = (get_or tree b d).ono.0

  -- numbers are the same where indices are
  same_number : (j : ℕ) (d : Object) → j < length tree → ((get_or tree j d).ono.0 == number d) ≡ (j == b)
  same_number j d within = by ((get_or tree j d).ono.0 == number d) refl
    where
      there : (t : Bool) → (j == b) ≡ t → ((get_or tree j d).ono.0 == number d) ≡ false → false ≡ t
      there false h e = refl
      there true h e =
          let numbers : (get_or tree j d).ono.0 ≡ number d = ap (λ k. (get_or tree k d).ono.0) (eqb-true j b h) in
          let same : ((get_or tree j d).ono.0 == number d) ≡ true = eq-eqb _ _ numbers in cc

      by : (t : Bool) → ((get_or tree j d).ono.0 == number d) ≡ t → t ≡ (j == b)
      by true e =
          let numbers = eqb-true _ _ e in
          let found : Some j ≡ Some b = index_itself tree sound j d within ∙ ap (λ n. position (has_number n) tree) numbers ∙ sym (index_itself tree sound b d inside) in
          let is : j ≡ b = cc in sym (eq-eqb j b is)
      by false e = there (j == b) refl e

  -- a member has the block for its container
  pub member_there : (i : ℕ) (d : Object) → i < length tree → (j : ℕ) → Some j ≡ get_or (containers (places tree)) i None → is_listed tree (number d) false (get_or tree i d) ≡ (j == b)
  member_there i d within j e =
      let below = container_below tree sound i within j e in
      ap (λ n. n == number d) (container_number tree sound i d within j e) ∙ same_number j d (omega (arith, below, within))

  pub member_absent : (i : ℕ) (d : Object) → i < length tree → None ≡ get_or (containers (places tree)) i None → is_listed tree (number d) false (get_or tree i d) ≡ false
  member_absent i d within e = by ((get_or tree i d).container.0 == number d) refl
    where
      by : (t : Bool) → ((get_or tree i d).container.0 == number d) ≡ t → t ≡ false
      by false h = refl
      by true h =
          let none = container_absent tree sound i d within e in
          let here = own tree sound b d inside in
          let same = eqb-true _ _ h in
          let gone : place_at (places tree) (number d) ≡ None = ap (place_at (places tree)) (sym same) ∙ none in cc

  -- nothing up to the block lies in it
  before : (k i : ℕ) (d : Object) → i < k → i ≤ b → i < length tree → is_listed tree (number d) true (get_or tree i d) ≡ false
  before zero i d lt le within = absurd (omega arith)
  before (suc k) i d lt le within = by (get_or (containers (places tree)) i None) refl (before k)
    where
      by : (o : Option ℕ) → get_or (containers (places tree)) i None ≡ o
          → ((j : ℕ) (d : Object) → j < k → j ≤ b → j < length tree → is_listed tree (number d) true (get_or tree j d) ≡ false) → is_listed tree (number d) true (get_or tree i d) ≡ false
      by None e earlier = lies_nowhere tree sound i d within (number d) (sym e)
      by (Some j) e earlier =
          let below = container_below tree sound i within j (sym e) in
          let other : (j == b) ≡ false = grind (arith, below, le) in
          lies_above tree sound i d within (number d) j (sym e)
          ∙ ap (λ t. t || is_listed tree (number d) true (get_or tree j d)) (member_there i d within j (sym e) ∙ other)
          ∙ earlier j d (omega (arith, below, lt)) (omega (arith, below, le)) (omega (arith, below, within))

  -- at a container that stands not behind the block it is decided
  pub decided : (i : ℕ) (d : Object) → i < length tree → (j : ℕ) → Some j ≡ get_or (containers (places tree)) i None → j ≤ b → is_listed tree (number d) true (get_or tree i d) ≡ (j == b)
  decided i d within j e le =
      let below = container_below tree sound i within j e in
      lies_above tree sound i d within (number d) j e
      ∙ ap (λ t. ((get_or tree i d).container.0 == number d) || t) (before (suc j) j d (omega arith) le (omega (arith, below, within)))
      ∙ or_false ((get_or tree i d).container.0 == number d) ∙ member_there i d within j e

  -- and at one behind it, that container decides
  pub passed_on : (i : ℕ) (d : Object) → i < length tree → (j : ℕ) → Some j ≡ get_or (containers (places tree)) i None → b < j
      → is_listed tree (number d) true (get_or tree i d) ≡ is_listed tree (number d) true (get_or tree j d)
  passed_on i d within j e behind =
      let other : (j == b) ≡ false = grind (arith, behind) in
      lies_above tree sound i d within (number d) j e ∙ ap (λ t. t || is_listed tree (number d) true (get_or tree j d)) (member_there i d within j e ∙ other)

  -- what is listed stands behind the block
  pub none_before : (deep : Bool) (i : ℕ) (d : Object) → i < b + 1 → is_listed tree (number d) deep (get_or tree i d) ≡ false
  none_before true i d le = before (suc i) i d (omega arith) (omega (arith, le)) (omega (arith, le, inside))
  none_before false i d le = by (get_or (containers (places tree)) i None) refl
    where
      within : i < length tree
      within = omega (arith, le, inside)

      by : (o : Option ℕ) → get_or (containers (places tree)) i None ≡ o → is_listed tree (number d) false (get_or tree i d) ≡ false
      by None e = member_absent i d within (sym e)
      by (Some j) e =
          let below = container_below tree sound i within j (sym e) in
          let other : (j == b) ≡ false = grind (arith, below, le) in
          member_there i d within j (sym e) ∙ other

-- what does not pass at the front is left out
pub begins : {X : Type 0} (p : X → Bool) (xs : List X) (k : ℕ) → ((i : ℕ) (d : X) → i < k → p (get_or xs i d) ≡ false) → filter p xs ≡ filter p (drop k xs)
begins p [] zero h = refl
begins p [] (suc k) h = refl
begins p (x ∷ xs) zero h = refl
begins p (x ∷ xs) (suc k) h = let first : p x ≡ false = h zero x (omega arith) in rw first (begins p xs k (λ i d lt. h (suc i) d (omega (arith, lt))))

-- the same of the block itself
module _ (tree : List Object) (b : ℕ) (inside : b < length tree) (block : Object) (here : block ≡ get_or tree b block) (deep : Bool) where
  block_number : (d : Object) → (get_or tree b d).ono.0 ≡ block.ono.0
  block_number d = ap (λ (o : Object). o.ono.0) (same_element tree b d block inside ∙ sym here)

  -- an object is listed as was answered
  pub here_listed : (i : ℕ) (o : Object) → o ≡ get_or tree i o → (r : Bool) → ((d : Object) → r ≡ is_listed tree (get_or tree b d).ono.0 deep (get_or tree i d)) → is_listed tree block.ono.0 deep o ≡ r
  here_listed i o at r answered = ap (is_listed tree block.ono.0 deep) at ∙ ap (λ n. is_listed tree n deep (get_or tree i o)) (sym (block_number o)) ∙ sym (answered o)

pub all_behind : (tree : List Object) → IsTree tree → (b : ℕ) → b < length tree → (block : Object) → block ≡ get_or tree b block → (deep : Bool)
    → filter (is_listed tree block.ono.0 deep) tree ≡ filter (is_listed tree block.ono.0 deep) (drop (b + 1) tree)
all_behind tree sound b inside block here deep =
    begins (is_listed tree block.ono.0 deep) tree (b + 1) (λ i d lt. ap (λ n. is_listed tree n deep (get_or tree i d)) (sym (block_number tree b inside block here deep d)) ∙ none_before tree sound b inside deep i d lt)

-- ---- a count that is written over two bytes

take_front : (old rest : List ℕ) → take (length old) (old ++ rest) ≡ old
take_front [] rest = refl
take_front (b ∷ bs) rest = ap (λ xs. b ∷ xs) (take_front bs rest)

drop_front : (old rest : List ℕ) → drop (length old) (old ++ rest) ≡ rest
drop_front [] rest = refl
drop_front (b ∷ bs) rest = drop_front bs rest

pub counted_front : (old front rest count mid new : List ℕ) (start : ℕ) → start ≡ length old → length front ≡ 2 → mid ≡ (old ++ front) ++ rest → new ≡ take start mid ++ count ++ drop (start + 2) mid
    → new ≡ old ++ (count ++ rest)
counted_front old front rest count mid new start s f e n =
    let long : start + 2 ≡ length (old ++ front) = omega (arith, s, f, length-append old front) in
    let head : take start mid ≡ old = ap (λ k. take k mid) s ∙ ap (take (length old)) (e ∙ append_assoc old front rest) ∙ take_front old (front ++ rest) in
    let tail : drop (start + 2) mid ≡ rest = ap (λ k. drop k mid) long ∙ ap (drop (length (old ++ front))) e ∙ drop_front (old ++ front) rest in
    n ∙ ap (λ ys. ys ++ count ++ drop (start + 2) mid) head ∙ ap (λ ys. old ++ count ++ ys) tail ∙ append_assoc old count rest

refilled : (xs ws : List ℕ) → length ws ≡ length xs → take (length xs) (ws ++ drop (length ws) xs) ≡ ws
refilled xs ws e = ap (λ n. take n (ws ++ drop (length ws) xs)) (sym e) ∙ take_front ws (drop (length ws) xs)

-- the same of bytes that are written back as a slice
pub counted_over : (old front rest count mid new : List ℕ) (start : ℕ) → start ≡ length old → length front ≡ 2 → length count ≡ 2 → mid ≡ (old ++ front) ++ rest
    → new ≡ take start mid ++ count ++ drop (start + 2) mid → take (length mid) (new ++ drop (length new) mid) ≡ old ++ (count ++ rest)
counted_over old front rest count mid new start s f k e n =
    let is = counted_front old front rest count mid new start s f e n in
    let long : length new ≡ length mid =
    omega (arith, ap length is, ap length e, length-append old (count ++ rest), length-append count rest, length-append (old ++ front) rest, length-append old front, f, k) in
    refilled mid new long ∙ is

-- ---- the answer that lists

list_of_each : {X Y : Type 0} (item : Y → List ℕ) (f : X → Y) (xs : List X) → list_encoding (λ x. item (f x)) xs ≡ list_encoding item (map f xs)
list_of_each item f xs = rw (length-map xs f, flat_map-map item f xs) refl

pub listed_encoding : (deep : Bool) (tree : List Object) (block : ℕ) → list_encoding (item_encoding deep) (filter (is_listed tree block deep) tree) ≡ answer_encoding (listed_answer deep tree block)
unfolding answer_encoding
listed_encoding true tree block = list_of_each descendant_encoding descendant_of (descendants tree block)
listed_encoding false tree block = list_of_each member_encoding member_of (members tree block)

pub listed_count : (deep : Bool) (tree : List Object) (block : ℕ) → answer_count (listed_answer deep tree block) ≡ 1
listed_count true tree block = refl
listed_count false tree block = refl

-- Every chain of containers ends within as many steps as there are objects.
use Rattle.oca_tree.proofs.Words.{◌≡◌, ℕ, zero, suc, Bool, true, false, cond, List, [], ◌∷◌, ◌++◌, length, refl, sym, ap, ◌∙◌, subst, arith, inl, inr, length-append, eqb-true, eq-eqb, Option, Some, None, is_some, ◌==◌, ◌||◌, ◌⊎◌, option_map_or, option_or, list_any, find-append, Place, place_at, is_block, depth, reaches, IsBuilt, IsFree}
use Rattle.oca_tree.specs.Places.{chain_within, chain, ChainReaches}
use Rattle.oca_tree.specs.Places as places
use Rattle.oca_tree.specs.Trees as trees

abbrev single : Place → ℕ → Option Place
single p n = cond (p.number == n) (Some p) None

pub looked_up : (ps : List Place) (p : Place) (n : ℕ) → place_at (ps ++ p ∷ []) n ≡ option_or (place_at ps n) (single p n)
looked_up ps p n = find-append (λ q. q.number == n) ps (p ∷ [])

other : (ps : List Place) (p : Place) (n : ℕ) → (p.number == n) ≡ false → place_at (ps ++ p ∷ []) n ≡ place_at ps n
other ps p n e = looked_up ps p n ∙ ap (λ b. option_or (place_at ps n) (cond b (Some p) None)) e ∙ by (place_at ps n)
  where
    by : (o : Option Place) → option_or o None ≡ o
    by None = refl
    by (Some q) = refl

kept : (ps : List Place) (p : Place) (n : ℕ) → is_some (place_at ps n) ≡ true → is_some (place_at (ps ++ p ∷ []) n) ≡ true
kept ps p n e = ap is_some (looked_up ps p n) ∙ by (place_at ps n) e
  where
    by : (o : Option Place) → is_some o ≡ true → is_some (option_or o (single p n)) ≡ true
    by None h = cc
    by (Some q) h = refl

pub block_there : (ps : List Place) (n : ℕ) → is_block ps n ≡ true → is_some (place_at ps n) ≡ true
block_there ps n e = by (place_at ps n) e
  where
    by : (o : Option Place) → option_map_or (λ p. p.block) o false ≡ true → is_some o ≡ true
    by None h = cc
    by (Some q) h = refl

-- the container of an object is there, but for the root's
pub closed : (ps : List Place) → IsBuilt ps → (n : ℕ) (q : Place) → place_at ps n ≡ Some q → (q.container ≡ 0) ⊎ (is_some (place_at ps q.container) ≡ true)
closed _ trees.root n q e = by (100 == n) e
  where
    by : (b : Bool) → cond b (Some (record { number = 100; container = 0; block = true })) None ≡ Some q → (q.container ≡ 0) ⊎ (is_some (place_at (record { number = 100; container = 0; block = true } ∷ []) q.container) ≡ true)
    by true h = let same : record { number = 100; container = 0; block = true } ≡ q = cc in inl (sym (ap (λ (p : Place). p.container) same))
    by false h = cc
closed _ (trees.next ps p built free) n q e = by (place_at ps n) (closed ps built n) (sym (looked_up ps p n) ∙ e)
  where
    new : (b : Bool) → cond b (Some p) None ≡ Some q → (q.container ≡ 0) ⊎ (is_some (place_at (ps ++ p ∷ []) q.container) ≡ true)
    new true h = let same : p ≡ q = cc in inr (kept ps p q.container (subst (λ (x : Place). is_some (place_at ps x.container) ≡ true) same (block_there ps p.container free.container)))
    new false h = cc

    grow : (q.container ≡ 0) ⊎ (is_some (place_at ps q.container) ≡ true) → (q.container ≡ 0) ⊎ (is_some (place_at (ps ++ p ∷ []) q.container) ≡ true)
    grow (inl z) = inl z
    grow (inr s) = inr (kept ps p q.container s)

    by : (o : Option Place) → ((x : Place) → o ≡ Some x → (x.container ≡ 0) ⊎ (is_some (place_at ps x.container) ≡ true)) → option_or o (single p n) ≡ Some q
        → (q.container ≡ 0) ⊎ (is_some (place_at (ps ++ p ∷ []) q.container) ≡ true)
    by None before h = new (p.number == n) h
    by (Some x) before h = let same : x ≡ q = cc in grow (before q (ap Some same))

chain_absent : (k : ℕ) (ps : List Place) (n : ℕ) → place_at ps n ≡ None → chain_within k ps n ≡ []
unfolding chain_within
chain_absent zero ps n e = refl
chain_absent (suc k) ps n e = ap (λ o. option_map_or (λ p. n ∷ chain_within k ps p.container) o []) e

chain_there : (k : ℕ) (ps : List Place) (n : ℕ) (q : Place) → place_at ps n ≡ Some q → chain_within (suc k) ps n ≡ n ∷ chain_within k ps q.container
unfolding chain_within
chain_there k ps n q e = ap (λ o. option_map_or (λ p. n ∷ chain_within k ps p.container) o []) e

-- the new number is none of those that are there
apart : (ps : List Place) (p : Place) → IsFree ps p → (m : ℕ) → is_some (place_at ps m) ≡ true → (p.number == m) ≡ false
apart ps p free m s = test (p.number == m) refl
  where
    test : (b : Bool) → (p.number == m) ≡ b → (p.number == m) ≡ false
    test true t =
        let same : p.number ≡ m = eqb-true p.number m t in
        let gone : place_at ps m ≡ None = subst (λ (x : ℕ). place_at ps x ≡ None) same free.untaken in
        let no : is_some (place_at ps m) ≡ false = ap is_some gone in
        let never : true ≡ false = sym s ∙ no in cc
    test false t = t

-- nor is it that of a container of one that is there
pub apart_from : (ps : List Place) (p : Place) → IsFree ps p → (q : Place) → (q.container ≡ 0) ⊎ (is_some (place_at ps q.container) ≡ true) → (p.number == q.container) ≡ false
apart_from ps p free q (inl z) = let big = free.number in grind arith
apart_from ps p free q (inr s) = apart ps p free q.container s

-- a number that is not the new one has the chain that it had
chain_push : (k : ℕ) (ps : List Place) (p : Place) → IsBuilt ps → IsFree ps p → (n : ℕ) → (p.number == n) ≡ false → chain_within k (ps ++ p ∷ []) n ≡ chain_within k ps n
unfolding chain_within
chain_push zero ps p built free n e = refl
chain_push (suc k) ps p built free n e = by (place_at ps n) refl (chain_push k ps p built free)
  where
    by : (o : Option Place) → place_at ps n ≡ o → ((m : ℕ) → (p.number == m) ≡ false → chain_within k (ps ++ p ∷ []) m ≡ chain_within k ps m)
        → chain_within (suc k) (ps ++ p ∷ []) n ≡ chain_within (suc k) ps n
    by None t fewer = chain_absent (suc k) (ps ++ p ∷ []) n (other ps p n e ∙ t) ∙ sym (chain_absent (suc k) ps n t)
    by (Some q) t fewer =
        chain_there k (ps ++ p ∷ []) n q (other ps p n e ∙ t) ∙ ap (λ c. n ∷ c) (fewer q.container (apart_from ps p free q (closed ps built n q t))) ∙ sym (chain_there k ps n q t)

-- where one step more adds nothing, nor do two
once_more : (k : ℕ) (ps : List Place) → ((n : ℕ) → chain_within (suc k) ps n ≡ chain_within k ps n) → (n : ℕ) → chain_within (suc (suc k)) ps n ≡ chain_within (suc k) ps n
once_more k ps same n = by (place_at ps n) refl
  where
    by : (o : Option Place) → place_at ps n ≡ o → chain_within (suc (suc k)) ps n ≡ chain_within (suc k) ps n
    by None t = chain_absent (suc (suc k)) ps n t ∙ sym (chain_absent (suc k) ps n t)
    by (Some q) t = chain_there (suc k) ps n q t ∙ ap (λ c. n ∷ c) (same q.container) ∙ sym (chain_there k ps n q t)

-- as many steps as there are objects are enough
abbrev one : List Place
one = record { number = 100; container = 0; block = true } ∷ []

ends : (ps : List Place) → IsBuilt ps → (n : ℕ) → chain_within (suc (length ps)) ps n ≡ chain_within (length ps) ps n
ends _ trees.root n = by (100 == n) refl
  where
    by : (b : Bool) → (100 == n) ≡ b → chain_within 2 one n ≡ chain_within 1 one n
    by true t =
        let there : place_at one n ≡ Some (record { number = 100; container = 0; block = true }) = rw t refl in
        chain_there 1 one n _ there ∙ ap (λ c. n ∷ c) (chain_absent 1 one 0 refl) ∙ sym (ap (λ c. n ∷ c) (chain_absent 0 one 0 refl)) ∙ sym (chain_there 0 one n _ there)
    by false t = let gone : place_at one n ≡ None = rw t refl in chain_absent 2 one n gone ∙ sym (chain_absent 1 one n gone)
ends _ (trees.next ps p built free) n =
    let long : length (ps ++ p ∷ []) ≡ suc (length ps) = omega (arith, length-append ps (p ∷ [])) in
    rw long (by (p.number == n) refl (ends ps built))
  where
    push : (k m : ℕ) → (p.number == m) ≡ false → chain_within k (ps ++ p ∷ []) m ≡ chain_within k ps m
    push k m e = chain_push k ps p built free m e

    gone : (p.number == n) ≡ true → place_at ps n ≡ None
    gone t = subst (λ (x : ℕ). place_at ps x ≡ None) (eqb-true p.number n t) free.untaken

    by : (b : Bool) → (p.number == n) ≡ b → ((m : ℕ) → chain_within (suc (length ps)) ps m ≡ chain_within (length ps) ps m)
        → chain_within (suc (suc (length ps))) (ps ++ p ∷ []) n ≡ chain_within (suc (length ps)) (ps ++ p ∷ []) n
    by false t same = push (suc (suc (length ps))) n t ∙ once_more (length ps) ps same n ∙ sym (push (suc (length ps)) n t)
    by true t same =
        let there : place_at (ps ++ p ∷ []) n ≡ Some p = looked_up ps p n ∙ ap (λ o. option_or o (single p n)) (gone t) ∙ ap (λ b. cond b (Some p) None) t in
        let away : (p.number == p.container) ≡ false = apart ps p free p.container (block_there ps p.container free.container) in
        chain_there (suc (length ps)) (ps ++ p ∷ []) n p there
        ∙ ap (λ c. n ∷ c) (push (suc (length ps)) p.container away ∙ same p.container ∙ sym (push (length ps) p.container away))
        ∙ sym (chain_there (length ps) (ps ++ p ∷ []) n p there)

-- so its whole chain is as it was
pub chain_kept : (ps : List Place) (p : Place) → IsBuilt ps → IsFree ps p → (n : ℕ) → (p.number == n) ≡ false → chain (ps ++ p ∷ []) n ≡ chain ps n
chain_kept ps p built free n e =
    let long : length (ps ++ p ∷ []) ≡ suc (length ps) = omega (arith, length-append ps (p ∷ [])) in
    ap (λ k. chain_within k (ps ++ p ∷ []) n) long ∙ chain_push (suc (length ps)) ps p built free n e ∙ ends ps built n

pub depth_absent : (ps : List Place) (n : ℕ) → place_at ps n ≡ None → depth ps n ≡ 0
depth_absent ps n e = ap length (chain_absent (length ps) ps n e)

pub depth_there : (ps : List Place) → IsBuilt ps → (n : ℕ) (p : Place) → place_at ps n ≡ Some p → depth ps n ≡ suc (depth ps p.container)
depth_there ps built n p e = sym (ap length (ends ps built n)) ∙ ap length (chain_there (length ps) ps n p e)

module _ (ps : List Place) (block : ℕ) where
  abbrev found_in : List ℕ → Bool
  found_in numbers = list_any (λ number. number == block) numbers

  there_is : (n : ℕ) → (n == block) ≡ true → (p : Place) → place_at ps n ≡ Some p → ChainReaches ps block n
  there_is n t p e = subst (λ (x : ℕ). place_at ps x ≡ Some p → ChainReaches ps block x) (sym (eqb-true n block t)) (λ h. places.here p h) e

  -- what is found in a chain, however far it is followed, is reached
  found : (k : ℕ) (n : ℕ) → found_in (chain_within k ps n) ≡ true → ChainReaches ps block n
  unfolding chain_within
  found zero n h = cc
  found (suc k) n h = by (place_at ps n) refl (found k) h
    where
      test : (p : Place) → place_at ps n ≡ Some p → (b : Bool) → (n == block) ≡ b → b || found_in (chain_within k ps p.container) ≡ true
          → ((m : ℕ) → found_in (chain_within k ps m) ≡ true → ChainReaches ps block m) → ChainReaches ps block n
      test p e true t h fewer = there_is n t p e
      test p e false t h fewer = places.above n p e (fewer p.container h)

      by : (o : Option Place) → place_at ps n ≡ o → ((m : ℕ) → found_in (chain_within k ps m) ≡ true → ChainReaches ps block m)
          → found_in (option_map_or (λ p. n ∷ chain_within k ps p.container) o []) ≡ true → ChainReaches ps block n
      by None e fewer h = cc
      by (Some p) e fewer h = test p e (n == block) refl h fewer

  self : (block == block) ≡ true
  self = eq-eqb block block refl

  reached : IsBuilt ps → (n : ℕ) → ChainReaches ps block n → found_in (chain ps n) ≡ true
  reached built _ (places.here p e) =
      sym (ap found_in (ends ps built block)) ∙ ap found_in (chain_there (length ps) ps block p e) ∙ ap (λ b. b || found_in (chain_within (length ps) ps p.container)) self
  reached built _ (places.above n p e more) =
      sym (ap found_in (ends ps built n)) ∙ ap found_in (chain_there (length ps) ps n p e) ∙ either (n == block) (reached built p.container more)
    where
      either : (b : Bool) → found_in (chain ps p.container) ≡ true → b || found_in (chain ps p.container) ≡ true
      either true h = refl
      either false h = h

  pub reaches_absent : (n : ℕ) → place_at ps n ≡ None → reaches ps block n ≡ false
  reaches_absent n e = ap found_in (chain_absent (length ps) ps n e)

  pub reaches_there : IsBuilt ps → (n : ℕ) (p : Place) → place_at ps n ≡ Some p → reaches ps block n ≡ (n == block) || reaches ps block p.container
  reaches_there built n p e = sym (ap found_in (ends ps built n)) ∙ ap found_in (chain_there (length ps) ps n p e)

  pub reaches_chain : IsBuilt ps → (n : ℕ) → (reaches ps block n ≡ true → ChainReaches ps block n) × (ChainReaches ps block n → reaches ps block n ≡ true)
  reaches_chain built n = (found (length ps) n, reached built n)

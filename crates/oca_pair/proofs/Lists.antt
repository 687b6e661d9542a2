-- Of lists and peers.
use Rattle.oca_pair.proofs.Words.{◌≡◌, ℕ, ◌≢◌, true, false, List, [], ◌∷◌, ◌++◌, Some, refl, sym, ap, ◌∙◌, arith, zero, suc, ◌⊎◌, inl, inr, nat_eq, map, AllByRecursion, Contains, slice_get, slice_set}
use Rattle.oca_pair.proofs.Words.{nat_tests, same_Some, Peer, same_peer, same_self, same_is, on_bool}

-- ---- tests

pub differs : {X : Type 0} → true ≡ false → X
differs e = cc

pub flipped : (a b : ℕ) → nat_eq a b ≡ false → nat_eq b a ≡ false
flipped a b e = grind (arith, nat_tests)

-- ---- peers

pub same_of : (p q : Peer) → p ≡ q → same_peer p q ≡ true
same_of p q e = ap (λ x. same_peer p x) (sym e) ∙ same_self p

pub other_of : (p q : Peer) → same_peer p q ≡ false → p ≢ q
other_of p q e same = differs (sym (same_of p q same) ∙ e)

pub other_is : (p q : Peer) → p ≢ q → same_peer p q ≡ false
other_is p q other = on_bool (same_peer p q) (λ b. same_peer p q ≡ b → b ≡ false) (λ e. absurd (other (same_is p q e))) (λ e. refl) refl

-- ---- members

-- x is a member of the list: as `Contains` says it, by recursion
abbrev pub IsIn : {X : Type 0} → X → List X → Type 0
IsIn x [] = ⊥
IsIn x (y ∷ ys) = (y ≡ x) ⊎ IsIn x ys

pub contains_in : {X : Type 0} (x : X) (xs : List X) → Contains xs x → IsIn x xs
contains_in x [] (k, lt, e) = absurd (omega (arith, lt))
contains_in x (y ∷ ys) (zero, lt, e) = inl e
contains_in x (y ∷ ys) (suc k, lt, e) = inr (contains_in x ys (k, omega (arith, lt), e))

pub in_contains : {X : Type 0} (x : X) (xs : List X) → IsIn x xs → Contains xs x
in_contains x [] i = absurd i
in_contains x (y ∷ ys) (inl e) = (0, omega arith, e)
in_contains x (y ∷ ys) (inr i) = let h = in_contains x ys i in let lt = h.1 in (suc h.0, omega arith, h.2)

pub in_more : {X : Type 0} (x : X) (xs ys : List X) → IsIn x xs → IsIn x (xs ++ ys)
in_more x [] ys i = absurd i
in_more x (z ∷ zs) ys (inl e) = inl e
in_more x (z ∷ zs) ys (inr i) = inr (in_more x zs ys i)

pub in_behind : {X : Type 0} (x : X) (xs ys : List X) → IsIn x ys → IsIn x (xs ++ ys)
in_behind x [] ys i = i
in_behind x (z ∷ zs) ys i = inr (in_behind x zs ys i)

pub in_last : {X : Type 0} (x : X) (xs : List X) → IsIn x (xs ++ x ∷ [])
in_last x [] = inl refl
in_last x (y ∷ ys) = inr (in_last x ys)

pub in_parts : {X : Type 0} (x : X) (xs ys : List X) → IsIn x (xs ++ ys) → IsIn x xs ⊎ IsIn x ys
in_parts x [] ys i = inr i
in_parts x (z ∷ zs) ys (inl e) = inl (inl e)
in_parts x (z ∷ zs) ys (inr i) = elim (in_parts x zs ys i) [ inl a ↦ inl (inr a) | inr b ↦ inr b ]

-- what holds of all holds of a member
pub each_in : {X : Type 0} (P : X → Type 0) (x : X) (xs : List X) → AllByRecursion P xs → IsIn x xs → P x
each_in P x [] a i = absurd i
each_in P x (y ∷ ys) a (inl e) = rw e at a.0
each_in P x (y ∷ ys) a (inr i) = each_in P x ys a.1 i

pub each_at : {X : Type 0} (P : X → Type 0) (xs : List X) (k : ℕ) (x : X) → AllByRecursion P xs → slice_get xs k ≡ Some x → P x
each_at P [] k x a e = cc
each_at P (y ∷ ys) zero x a e = let same : y ≡ x = cc in rw same at a.0
each_at P (y ∷ ys) (suc k) x a e = each_at P ys k x a.1 e

pub each_set : {X : Type 0} (P : X → Type 0) (xs : List X) (k : ℕ) (y : X) → P y → AllByRecursion P xs → AllByRecursion P (slice_set xs k y)
each_set P [] k y q p = tt
each_set P (x ∷ xs) zero y q p = (q, p.1)
each_set P (x ∷ xs) (suc k) y q p = (p.0, each_set P xs k y q p.1)

-- what stands at a place of a list that a function was mapped over
pub mapped_at : {X Y : Type 0} (f : X → Y) (xs : List X) (i : ℕ) (y : Y) → slice_get (map f xs) i ≡ Some y → (x : X) × (slice_get xs i ≡ Some x) × (f x ≡ y)
mapped_at f [] i y e = cc
mapped_at f (x ∷ xs) zero y e = (x, refl, same_Some (f x) y e)
mapped_at f (x ∷ xs) (suc i) y e = mapped_at f xs i y e

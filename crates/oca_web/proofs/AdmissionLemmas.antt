-- Two texts, and a Cookie field, from one byte on.
use Rattle.std.proofs.Common.{◌≡◌, ℕ, ◌+◌, ◌<◌, ◌≤◌, ◌==◌, ◌&&◌, ◌||◌, Bool, true, false, List, [], ◌∷◌, length, drop, get_or, refl, sym, arith, ◌∙◌}
use Rattle.std.proofs.lemmas.List.{drop_more, drop_all}
use Rattle.std.specs.Str.{bytes_eq}
use Rattle.oca_web.specs.Admission.{begins_with_pair, behind_blank, has_later_pair}

-- what was the same so far, with what is from this byte on
abbrev pub SameSoFar : List ℕ → List ℕ → ℕ → Bool → Type 0
SameSoFar one other i same = (same && bytes_eq (drop i one) (drop i other)) ≡ bytes_eq one other

and-assoc : (a b c : Bool) → ((a && b) && c) ≡ (a && (b && c))
and-assoc true b c = refl
and-assoc false b c = refl

and-true : (a : Bool) → (a && true) ≡ a
and-true true = refl
and-true false = refl

pub same_more : (one other : List ℕ) (i : ℕ) (before now : Bool) → SameSoFar one other i before → i < length one → i < length other
    → now ≡ (before && (get_or one i 0 == get_or other i 0)) → SameSoFar one other (i + 1) now
same_more one other i before now so within inside e =
    let k : (before && bytes_eq (get_or one i 0 ∷ drop (i + 1) one) (get_or other i 0 ∷ drop (i + 1) other)) ≡ bytes_eq one other =
    rw (drop_more one i 0 within, drop_more other i 0 inside) at so in
    rw e (and-assoc before (get_or one i 0 == get_or other i 0) (bytes_eq (drop (i + 1) one) (drop (i + 1) other)) ∙ k)

pub same_all : (one other : List ℕ) (i : ℕ) (same : Bool) → SameSoFar one other i same → length one ≤ i → length one ≡ length other → same ≡ bytes_eq one other
same_all one other i same so past e =
    let k : (same && bytes_eq [] []) ≡ bytes_eq one other = rw (drop_all i one past, drop_all i other (rw e at past)) at so in
    sym (and-true same) ∙ k

and-false : (x y : Bool) → y ≡ false → (x && y) ≡ false
and-false true y f = f
and-false false y f = refl

length-differs : (one other : List ℕ) → (length one ≡ length other → ⊥) → bytes_eq one other ≡ false
length-differs [] [] e = absurd (e refl)
length-differs [] (y ∷ ys) e = refl
length-differs (x ∷ xs) [] e = refl
length-differs (x ∷ xs) (y ∷ ys) e = and-false (x == y) (bytes_eq xs ys) (length-differs xs ys (λ f. e (omega (arith, f))))

pub same_never : (one other : List ℕ) → (length one ≡ length other → ⊥) → false ≡ bytes_eq one other
same_never one other e = sym (length-differs one other e)

pub ruleset same_rules = (same_more, same_all, same_never)

-- ---- a pair behind a semicolon

abbrev pub LaterSoFar : List ℕ → List ℕ → ℕ → Type 0
LaterSoFar field pair i = has_later_pair pair (drop i field) ≡ has_later_pair pair field

pub later_found : (field pair : List ℕ) (i : ℕ) → LaterSoFar field pair i → i < length field
    → ((get_or field i 0 == 59) && begins_with_pair pair (behind_blank (drop (i + 1) field))) ≡ true → true ≡ has_later_pair pair field
later_found field pair i so within e =
    let k : (((get_or field i 0 == 59) && begins_with_pair pair (behind_blank (drop (i + 1) field))) || has_later_pair pair (drop (i + 1) field))
    ≡ has_later_pair pair field = rw (drop_more field i 0 within) at so in
    rw e at k

pub later_more : (field pair : List ℕ) (i : ℕ) → LaterSoFar field pair i → i < length field
    → ((get_or field i 0 == 59) && begins_with_pair pair (behind_blank (drop (i + 1) field))) ≡ false → LaterSoFar field pair (i + 1)
later_more field pair i so within e =
    let k : (((get_or field i 0 == 59) && begins_with_pair pair (behind_blank (drop (i + 1) field))) || has_later_pair pair (drop (i + 1) field))
    ≡ has_later_pair pair field = rw (drop_more field i 0 within) at so in
    rw e at k

pub later_all : (field pair : List ℕ) (i : ℕ) → LaterSoFar field pair i → length field ≤ i → false ≡ has_later_pair pair field
later_all field pair i so past =
    let k : has_later_pair pair [] ≡ has_later_pair pair field = rw (drop_all i field past) at so in
    k

pub ruleset later_rules = (later_found, later_more, later_all)

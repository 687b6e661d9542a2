-- Accepted commands whose handles come in nearly rising order: what is still in the reply window of them.
use Rattle.oca_pair.proofs.Words.{◌≡◌, ℕ, ◌+◌, ◌-◌, ◌*◌, ◌<◌, ◌≤◌, Bool, true, false, cond, List, [], ◌∷◌, ◌++◌, length, take, Some, refl, sym, ap, ◌∙◌, arith, zero, suc, ◌⊎◌, inl, inr, nat_eq}
use Rattle.oca_pair.proofs.Words.{nat_lt, not, ◌&&◌, ◌||◌, map, list_any, list_all, AllByRecursion, eqb, take-append-drop, length-map, list_any-append, eqb-true, or_parts, cases_lt, and_from, lt-ltb}
use Rattle.oca_pair.proofs.Words.{and_parts, or_from, nat_tests, Entry, window, outside, has_handle, entry_under, Judgement, Fresh, Duplicate, Reused, Old, asks_the_same, duplicate_or_reused}
use Rattle.oca_pair.proofs.Words.{judge_unaccepted, judgement, CommandFields, each_map, each_both, on_bool}
use Rattle.std.specs.List.{IsDistinct}
use Rattle.std.proofs.lemmas.Map.Steps.{length-le_from_distinct_below}
use Rattle.oca_pair.proofs.Lists.{IsIn}

-- a test that none of the list passes
pub none_passes : {X : Type 0} (test : X → Bool) (xs : List X) → list_any test xs ≡ false → AllByRecursion (λ x. test x ≡ false) xs
none_passes test [] e = tt
none_passes test (x ∷ xs) e = let p = or_parts (test x) (list_any test xs) e in (p.0, none_passes test xs p.1)

-- numbers that differ, in an interval of k numbers, are at most k
pub crowd : (k lo : ℕ) (xs : List ℕ) → IsDistinct eqb xs → AllByRecursion (λ z. (lo ≤ z) × (z < lo + k)) xs → length xs ≤ k
unfolding IsDistinct
crowd k lo xs d b =
    let lowered = map (λ z. z - lo) xs in
    let h : length lowered ≤ k = length-le_from_distinct_below lowered k (differ lo xs b d) (λ q t. below lo xs b q t) in
    rw length-map at h
  where
    other : (lo x : ℕ) → lo ≤ x → (ys : List ℕ) → AllByRecursion (λ z. (lo ≤ z) × (z < lo + k)) ys → AllByRecursion (λ y. eqb x y ≡ false) ys →
        AllByRecursion (λ y. eqb (x - lo) y ≡ false) (map (λ z. z - lo) ys)
    other lo x l [] b d = tt
    other lo x l (y ∷ ys) b d = (apart lo x y l b.0.0 d.0, other lo x l ys b.1 d.1)
      where
        apart : (lo x y : ℕ) → lo ≤ x → lo ≤ y → eqb x y ≡ false → eqb (x - lo) (y - lo) ≡ false
        apart lo x y p q e = grind (arith, nat_tests)

    differ : (lo : ℕ) (xs : List ℕ) → AllByRecursion (λ z. (lo ≤ z) × (z < lo + k)) xs → IsDistinct eqb xs → IsDistinct eqb (map (λ z. z - lo) xs)
    differ lo [] b d = tt
    differ lo (x ∷ xs) b d = (other lo x b.0.0 xs b.1 d.0, differ lo xs b.1 d.1)

    below : (lo : ℕ) (xs : List ℕ) → AllByRecursion (λ z. (lo ≤ z) × (z < lo + k)) xs → (q : ℕ) → list_any (eqb q) (map (λ z. z - lo) xs) ≡ true → q < k
    below lo [] b q t = cc
    below lo (x ∷ xs) b q t = by_test (below lo xs b.1 q) (eqb q (x - lo)) refl t
      where
        by_test : (list_any (eqb q) (map (λ z. z - lo) xs) ≡ true → q < k) → (c : Bool) → eqb q (x - lo) ≡ c → (c || list_any (eqb q) (map (λ z. z - lo) xs)) ≡ true → q < k
        by_test rest true e u = let same : q ≡ x - lo = eqb-true q (x - lo) e in let l = b.0 in omega arith
        by_test rest false e u = rest u

-- a command of this handle is among them
abbrev pub has : ℕ → List Entry → Bool
has h A = list_any (has_handle h) A

-- Each handle, after those before, is new, and all from f on that lie s or more below it stand before it.
abbrev pub Ordered : ℕ → ℕ → List Entry → List Entry → Type 0
Ordered f s before [] = Unit {0}
Ordered f s before (e ∷ es) =
    (has e.command.handle before ≡ false) × ((x : ℕ) → f ≤ x → x + s ≤ e.command.handle → has x before ≡ true) × Ordered f s (before ++ e ∷ []) es

one_more : (h : ℕ) (before : List Entry) (e : Entry) → has h (before ++ e ∷ []) ≡ false → (has h before ≡ false) × (eqb e.command.handle h ≡ false)
one_more h before e q =
    let p = or_parts (has h before) (has h (e ∷ [])) (sym (list_any-append (has_handle h) before (e ∷ [])) ∙ q) in
    (p.0, (or_parts (eqb e.command.handle h) false p.1).0)

-- what comes later is not before
pub later_new : (f s : ℕ) (before es : List Entry) → Ordered f s before es → AllByRecursion (λ e. has e.command.handle before ≡ false) es
later_new f s before [] o = tt
later_new f s before (e ∷ es) o =
    (o.0, each_map (λ z q. (one_more z.command.handle before e q).0) es (later_new f s (before ++ e ∷ []) es o.2))

-- the handles
abbrev pub handles_of : List Entry → List ℕ
handles_of es = map (λ e. e.command.handle) es

each_handle : (P : ℕ → Type 0) (es : List Entry) → AllByRecursion (λ e. P e.command.handle) es → AllByRecursion P (handles_of es)
each_handle P [] p = tt
each_handle P (e ∷ es) p = (p.0, each_handle P es p.1)

pub distinct : (f s : ℕ) (before es : List Entry) → Ordered f s before es → IsDistinct eqb (handles_of es)
unfolding IsDistinct
distinct f s before [] o = tt
distinct f s before (e ∷ es) o = (
  each_handle (λ y. eqb e.command.handle y ≡ false) es (each_map (λ z q. (one_more z.command.handle before e q).1) es (later_new f s (before ++ e ∷ []) es o.2)),
  distinct f s (before ++ e ∷ []) es o.2,
)

-- the list without this number
abbrev without : ℕ → List ℕ → List ℕ
without y [] = []
without y (x ∷ xs) = cond (eqb x y) (without y xs) (x ∷ without y xs)

each_without : (P : ℕ → Type 0) (y : ℕ) (xs : List ℕ) → AllByRecursion P xs → AllByRecursion P (without y xs)
each_without P y [] p = tt
each_without P y (x ∷ xs) p = on_bool (eqb x y) (λ b. AllByRecursion P (without y xs) → AllByRecursion P (cond b (without y xs) (x ∷ without y xs)))
    (λ rest. rest) (λ rest. (p.0, rest)) (each_without P y xs p.1)

not_in_without : (y : ℕ) (xs : List ℕ) → AllByRecursion (λ z. eqb z y ≡ false) (without y xs)
not_in_without y [] = tt
not_in_without y (x ∷ xs) =
    on_bool (eqb x y) (λ b. eqb x y ≡ b → AllByRecursion (λ z. eqb z y ≡ false) (without y xs) → AllByRecursion (λ z. eqb z y ≡ false) (cond b (without y xs) (x ∷ without y xs)))
    (λ e rest. rest) (λ e rest. (e, rest)) refl (not_in_without y xs)

distinct_without : (y : ℕ) (xs : List ℕ) → IsDistinct eqb xs → IsDistinct eqb (without y xs)
unfolding IsDistinct
distinct_without y [] d = tt
distinct_without y (x ∷ xs) d = on_bool (eqb x y) (λ b. IsDistinct eqb (without y xs) → IsDistinct eqb (cond b (without y xs) (x ∷ without y xs)))
    (λ rest. rest) (λ rest. (each_without (λ z. eqb x z ≡ false) y xs d.0, rest)) (distinct_without y xs d.1)

-- where no two are equal, it is at most one shorter
one_fewer : (y : ℕ) (xs : List ℕ) → IsDistinct eqb xs → length xs ≤ suc (length (without y xs))
unfolding IsDistinct
one_fewer y [] d = omega arith
one_fewer y (x ∷ xs) d = on_bool (eqb x y) (λ b. eqb x y ≡ b → length xs ≤ suc (length (without y xs)) → suc (length xs) ≤ suc (length (cond b (without y xs) (x ∷ without y xs))))
    (λ e rest. let same : length (without y xs) ≡ length xs = all_left xs e d.0 in omega arith) (λ e rest. omega arith) refl (one_fewer y xs d.1)
  where
    unequal : (z : ℕ) → eqb x y ≡ true → eqb x z ≡ false → eqb z y ≡ false
    unequal z p q = grind (arith, nat_tests)

    all_left : (zs : List ℕ) → eqb x y ≡ true → AllByRecursion (λ z. eqb x z ≡ false) zs → length (without y zs) ≡ length zs
    all_left [] e a = refl
    all_left (z ∷ zs) e a = ap (λ b. length (cond b (without y zs) (z ∷ without y zs))) (unequal z e a.0) ∙ ap suc (all_left zs e a.1)

-- numbers that differ, each in an interval of k numbers or one of these, are at most k and as many as these
crowd_and : (k lo : ℕ) (late xs : List ℕ) → IsDistinct eqb xs → AllByRecursion (λ z. ((lo ≤ z) × (z < lo + k)) ⊎ IsIn z late) xs → length xs ≤ k + length late
crowd_and k lo [] xs d b =
    let few : length xs ≤ k = crowd k lo xs d (each_map (λ z q. elim q [ inl near ↦ near | inr none ↦ absurd none ]) xs b) in
    omega arith
crowd_and k lo (y ∷ late) xs d b =
    let few : length (without y xs) ≤ k + length late =
    crowd_and k lo late (without y xs) (distinct_without y xs d)
    (each_both (λ z q r. other z q r) (without y xs) (each_without (λ z. ((lo ≤ z) × (z < lo + k)) ⊎ IsIn z (y ∷ late)) y xs b) (not_in_without y xs)) in
    let one : length xs ≤ suc (length (without y xs)) = one_fewer y xs d in
    omega arith
  where
    differ : (z : ℕ) → y ≡ z → eqb z y ≡ false → ⊥
    differ z p q = grind (arith, nat_tests)

    other : (z : ℕ) → ((lo ≤ z) × (z < lo + k)) ⊎ IsIn z (y ∷ late) → eqb z y ≡ false → ((lo ≤ z) × (z < lo + k)) ⊎ IsIn z late
    other z (inl near) apart = inl near
    other z (inr (inl same)) apart = absurd (differ z same apart)
    other z (inr (inr more)) apart = inr more

-- The handle is below the next one; and it is from f on, or one of those that earlier links left behind.
abbrev pub IsOfLink : ℕ → ℕ → List ℕ → Entry → Type 0
IsOfLink f n late e = (e.command.handle < n) × ((f ≤ e.command.handle) ⊎ IsIn e.command.handle late)

-- A handle at or above h has few after it.
few_after : (f s w n h : ℕ) (late : List ℕ) → 2 * s + length late ≤ w + 1 → h < n → n ≤ h + s → (before : List Entry) (e : Entry) (es : List Entry) →
    e.command.handle < n → AllByRecursion (IsOfLink f n late) es → Ordered f s before (e ∷ es) → h ≤ e.command.handle → length es < w
few_after f s w n h late wide small near before e es below own o above =
    let near_all : AllByRecursion (IsNear (suc h - s)) (handles_of (e ∷ es)) =
    each_handle (IsNear (suc h - s)) (e ∷ es) (
      inl (at e.command.handle above below),
      each_both (λ z q r. at_later z.command.handle q.0 q.1 r) es own (later_new_now es (later_new f s (before ++ e ∷ []) es o.2)),
    ) in
    let few : length (handles_of (e ∷ es)) ≤ (2 * s - 1) + length late = crowd_and (2 * s - 1) (suc h - s) late (handles_of (e ∷ es)) (distinct f s before (e ∷ es) o) near_all in
    let few' : length (e ∷ es) ≤ (2 * s - 1) + length late = rw length-map at few in
    omega arith
  where
    IsNear : ℕ → ℕ → Type 0
    IsNear lo z = ((lo ≤ z) × (z < lo + (2 * s - 1))) ⊎ IsIn z late

    at : (z : ℕ) → h ≤ z → z < n → ((suc h - s) ≤ z) × (z < (suc h - s) + (2 * s - 1))
    at z p q = (omega arith, omega arith)

    at_later : (z : ℕ) → z < n → (f ≤ z) ⊎ IsIn z late → has z before ≡ false → IsNear (suc h - s) z
    at_later z q (inr left) r = inr left
    at_later z q (inl p) r = elim (cases_lt e.command.handle (z + s)) [
      | inl later ↦ inl (omega arith, omega arith)
      | inr earlier ↦ let wrong : has z before ≡ true = o.1 z p earlier in let no : true ≡ false = sym wrong ∙ r in absurd (differs no)
    ]
      where
        differs : true ≡ false → ⊥
        differs x = cc

    later_new_now : (es : List Entry) → AllByRecursion (λ z. has z.command.handle (before ++ e ∷ []) ≡ false) es → AllByRecursion (λ z. has z.command.handle before ≡ false) es
    later_new_now es p = each_map (λ z q. (one_more z.command.handle before e q).0) es p

-- After each of these commands that lies at or above h, those of the handles `late` that stand behind it are of the handles `few`.
abbrev pub Trails : ℕ → List ℕ → List ℕ → List Entry → Type 0
Trails h late few [] = Unit {0}
Trails h late few (e ∷ es) = (h ≤ e.command.handle → AllByRecursion (λ x. IsIn x.command.handle late → IsIn x.command.handle few) es) × Trails h late few es

pub trails_behind : (h : ℕ) (late few : List ℕ) (before es : List Entry) → Trails h late few (before ++ es) → Trails h late few es
trails_behind h late few [] es t = t
trails_behind h late few (e ∷ before) es t = trails_behind h late few before es t.1

-- all of them are few
pub trails_all : (h : ℕ) (late : List ℕ) (es : List Entry) → Trails h late late es
trails_all h late [] = tt
trails_all h late (e ∷ es) = ((λ above. each es), trails_all h late es)
  where
    each : (xs : List Entry) → AllByRecursion (λ x. IsIn x.command.handle late → IsIn x.command.handle late) xs
    each [] = tt
    each (x ∷ xs) = ((λ i. i), each xs)

-- all of these lie below h
abbrev pub AllBelow : ℕ → List Entry → Type 0
AllBelow h es = list_all (λ (e : Entry). nat_lt e.command.handle h) es ≡ true

none_below : (k h : ℕ) → AllBelow h (take k [])
none_below zero h = refl
none_below (suc k) h = refl

-- the first of a list is outside the window where the others fill it
below_first : (h w : ℕ) (e : Entry) (es : List Entry) → (w ≤ length es → nat_lt e.command.handle h ≡ true) → AllBelow h (take (length es - w) es) → AllBelow h (take (length (e ∷ es) - w) (e ∷ es))
below_first h w e es head rest = elim (cases_lt (length es) w) [
  | inl short ↦ let all : length (e ∷ es) - w ≡ 0 = omega arith in ap (λ k. list_all (λ (e : Entry). nat_lt e.command.handle h) (take k (e ∷ es))) all
  | inr long ↦
      let one : length (e ∷ es) - w ≡ suc (length es - w) = omega arith in
      ap (λ k. list_all (λ (e : Entry). nat_lt e.command.handle h) (take k (e ∷ es))) one
      ∙ and_from (nat_lt e.command.handle h) _ (head long) rest
]

-- Where h lies less than s below the next handle n, whatever is at or above h is among the last w.
pub below_all : (f s w n h : ℕ) (late few : List ℕ) → 2 * s + length few ≤ w + 1 → h < n → n ≤ h + s → (before es : List Entry) →
    AllByRecursion (IsOfLink f n late) es → Ordered f s before es → Trails h late few es → AllBelow h (take (length es - w) es)
below_all f s w n h late few wide small near before [] own o trails = none_below (0 - w) h
below_all f s w n h late few wide small near before (e ∷ es) own o trails =
    below_first h w e es head (below_all f s w n h late few wide small near (before ++ e ∷ []) es own.1 o.2 trails.1)
  where
    of_few : (x : Entry) → IsOfLink f n late x → (IsIn x.command.handle late → IsIn x.command.handle few) → IsOfLink f n few x
    of_few x q t = (q.0, elim q.1 [ inl mine ↦ inl mine | inr left ↦ inr (t left) ])

    head : w ≤ length es → nat_lt e.command.handle h ≡ true
    head long = elim (cases_lt e.command.handle h) [
      | inl low ↦ lt-ltb e.command.handle h low
      | inr high ↦ absurd (contra (few_after f s w n h few wide small near before e es own.0.0 (each_both of_few es own.1 (trails.0 high)) o high) long)
    ]
      where
        contra : {a b : ℕ} → a < b → b ≤ a → ⊥
        contra p q = omega arith

-- the same with others before that lie below h
pub below_whole : (h w : ℕ) (earlier es : List Entry) → AllByRecursion (λ e. e.command.handle < h) earlier → AllBelow h (take (length es - w) es) →
    AllBelow h (take (length (earlier ++ es) - w) (earlier ++ es))
below_whole h w [] es low rest = rest
below_whole h w (e ∷ earlier) es low rest =
    below_first h w e (earlier ++ es) (λ long. lt-ltb e.command.handle h low.0) (below_whole h w earlier es low.1 rest)

-- the same of the last of them
pub below_last : (h w : ℕ) (before es : List Entry) → AllBelow h (take (length (before ++ es) - w) (before ++ es)) → AllBelow h (take (length es - w) es)
below_last h w [] es low = low
below_last h w (e ∷ before) es low = elim (cases_lt (length (before ++ es)) w) [
  | inl short ↦
      let fewer : length es ≤ length (before ++ es) = shorter before in
      let all : length es - w ≡ 0 = omega arith in
      ap (λ k. list_all (λ (e : Entry). nat_lt e.command.handle h) (take k es)) all
  | inr long ↦
      let one : length (e ∷ before ++ es) - w ≡ suc (length (before ++ es) - w) = omega arith in
      below_last h w before es (second (nat_lt e.command.handle h) _ (sym (ap (λ k. list_all (λ (e : Entry). nat_lt e.command.handle h) (take k (e ∷ before ++ es))) one) ∙ low))
]
  where
    shorter : (xs : List Entry) → length es ≤ length (xs ++ es)
    shorter [] = omega arith
    shorter (x ∷ xs) = let rest : length es ≤ length (xs ++ es) = shorter xs in omega arith

    second : (a b : Bool) → (a && b) ≡ true → b ≡ true
    second true b q = q
    second false b q = cc

-- what is under a handle that an entry has
pub found : (h : ℕ) (es : List Entry) → has h es ≡ true → (e : Entry) × (entry_under h es ≡ Some e)
found h [] e = absurd (wrong e)
  where
    wrong : false ≡ true → ⊥
    wrong x = cc
found h (e ∷ es) q = by_test (found h es) (has_handle h e) q
  where
    by_test : (has h es ≡ true → (x : Entry) × (entry_under h es ≡ Some x)) → (b : Bool) → (b || has h es) ≡ true → (x : Entry) × (cond b (Some e) (entry_under h es) ≡ Some x)
    by_test rest true p = (e, refl)
    by_test rest false p = rest p

-- none of what lies below h has the handle h
pub none_has : (es : List Entry) (h : ℕ) → list_all (λ (e : Entry). nat_lt e.command.handle h) es ≡ true → has h es ≡ false
none_has [] h p = refl
none_has (e ∷ es) h p =
    let parts = and_parts (nat_lt e.command.handle h) (list_all (λ (x : Entry). nat_lt x.command.handle h) es) p in
    or_from (has_handle h e) (has h es) (other e.command.handle h parts.0) (none_has es h parts.1)
  where
    other : (n k : ℕ) → nat_lt n k ≡ true → nat_eq n k ≡ false
    other n k q = grind (arith, nat_tests)

-- A judgement by which a command is answered.
abbrev pub IsServed : Judgement → Type 0
IsServed Fresh = Unit {0}
IsServed (Duplicate reply) = Unit {0}
IsServed _ = ⊥

-- what an accepted command under the same handle makes of a command that asks the same
same_served : (e : Entry) (c : CommandFields) → asks_the_same e.command c ≡ true → IsServed (duplicate_or_reused e c)
same_served e c same = on_bool (asks_the_same e.command c) (λ b. b ≡ true → IsServed (cond b (Duplicate e.reply) Reused)) (λ q. tt) (λ q. cc) same

-- With nothing at or above its handle outside the window, a command is fresh, or a duplicate where what the window has under
-- the handle asks the same.
pub never_old : (w : ℕ) (c : CommandFields) (A : List Entry) → list_all (λ (e : Entry). nat_lt e.command.handle c.handle) (outside w A) ≡ true →
    ((e : Entry) → entry_under c.handle (window w A) ≡ Some e → asks_the_same e.command c ≡ true) → IsServed (judgement w A c)
never_old w c A low same = on_bool (has c.handle A) (λ b. has c.handle A ≡ b → IsServed (judgement w A c))
    (λ p. let r = found c.handle (window w A) (in_window p) in moved (judged true true p low ∙ ap (λ o. judge_unaccepted o c) r.1) (same_served r.0 c (same r.0 r.1)))
    (λ p. moved (judged false true p low) tt) refl
  where
    whole : has c.handle A ≡ (has c.handle (outside w A) || has c.handle (window w A))
    whole = sym (ap (has c.handle) (take-append-drop (length A - w) A)) ∙ list_any-append (has_handle c.handle) (outside w A) (window w A)

    in_window : has c.handle A ≡ true → has c.handle (window w A) ≡ true
    in_window p = sym (sym p ∙ whole ∙ ap (λ b. b || has c.handle (window w A)) (none_has (outside w A) c.handle low))

    judged : (b d : Bool) → has c.handle A ≡ b → list_all (λ (e : Entry). nat_lt e.command.handle c.handle) (outside w A) ≡ d →
        judgement w A c ≡ cond (not b && d) Fresh (judge_unaccepted (entry_under c.handle (window w A)) c)
    judged b d p q = ap (λ x. cond (not x && list_all (λ (e : Entry). nat_lt e.command.handle c.handle) (outside w A)) Fresh (judge_unaccepted (entry_under c.handle (window w A)) c)) p
        ∙ ap (λ x. cond (not b && x) Fresh (judge_unaccepted (entry_under c.handle (window w A)) c)) q

    moved : {j k : Judgement} → j ≡ k → IsServed k → IsServed j
    moved {j} {k} e p = rw e p

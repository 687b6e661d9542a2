-- What a write to one slot does to the untaken commands.
use Rattle.oca_control.proofs.Words.{◌≡◌, ℕ, zero, suc, ◌+◌, ◌-◌, ◌%◌, ◌<◌, ◌≤◌, ◌≢◌, Bool, true, false, cond, List, [], ◌∷◌, ◌++◌, length, map, get_or, set, refl, sym, ap, ◌∙◌, arith, subst, Option}
use Rattle.oca_control.proofs.Words.{Some, None, append_assoc, append-nil, length-append, ◌⊎◌, inl, inr, nat_lt, nat_eq, list_any, get_or-set_same, get_or-set_other, get_or_default, map-append}
use Rattle.oca_control.proofs.Words.{list_any-append, list_all-append, nat_tests, zero-add, add-zero, ne_eqb, lt-ltb, eq-eqb, ltb-true, or-false, Untaken, first_due, waits, answer_under}
use Rattle.oca_control.proofs.Words.{without_handle, span_has_room, Held, held_at, held_is_due, held_waits, held_answer, untaken_at, on_bool}
use Rattle.std.specs.Prelude.{not, is_some, is_none, ◌&&◌, ◌||◌}
use Rattle.std.proofs.lemmas.List.Elements.{filter-append}
use Rattle.oca_control.specs.PrivateSlots.{untaken_from}
use Rattle.oca_control.proofs.Following.{equal_self, unequal}

-- handles less than 32 apart have slots of their own
pub apart : (h k : ℕ) → h < k → k < h + 32 → k % 32 ≢ h % 32
apart h k above near e = omega arith

apart_below : (h k : ℕ) → k < h → h < k + 32 → k % 32 ≢ h % 32
apart_below h k below near e = omega arith

-- slots of other handles may be written
pub others : (h lo n : ℕ) (slots : List (Option Held)) (x : Option Held) →
    ((k : ℕ) → lo ≤ k → k < lo + n → k % 32 ≢ h % 32) → untaken_from lo n (set slots (h % 32) x) ≡ untaken_from lo n slots
unfolding untaken_from
others h lo zero slots x far = refl
others h lo (suc n) slots x far =
    ap (λ o. untaken_at lo o ++ untaken_from (lo + 1) n (set slots (h % 32) x)) (get_or-set_other slots (h % 32) (lo % 32) x None (far lo (omega arith) (omega arith)))
    ∙ ap (λ us. untaken_at lo (held_at lo slots) ++ us) (others h (lo + 1) n slots x (λ k l u. far k (omega arith) (omega arith)))

-- The commands of m + n handles are those of the first m and then those of the n others.
pub split : (lo m n : ℕ) (slots : List (Option Held)) → untaken_from lo (m + n) slots ≡ untaken_from lo m slots ++ untaken_from (lo + m) n slots
unfolding untaken_from
split lo zero n slots = ap (λ i. untaken_from lo i slots) (zero-add n) ∙ ap (λ i. untaken_from i n slots) (sym (add-zero lo))
split lo (suc m) n slots =
    ap (λ i. untaken_from lo i slots) (suc_plus m n)
    ∙ ap (λ us. untaken_at lo (held_at lo slots) ++ us) (split (lo + 1) m n slots ∙ ap (λ i. untaken_from (lo + 1) m slots ++ untaken_from i n slots) (one_on lo m))
    ∙ sym (append_assoc (untaken_at lo (held_at lo slots)) (untaken_from (lo + 1) m slots) (untaken_from (lo + suc m) n slots))
  where
    suc_plus : (m n : ℕ) → suc m + n ≡ suc (m + n)
    suc_plus m n = omega arith

    one_on : (lo m : ℕ) → lo + 1 + m ≡ lo + suc m
    one_on lo m = omega arith

first_of_more : (a n : ℕ) (slots : List (Option Held)) → untaken_from a (n + 1) slots ≡ untaken_at a (held_at a slots) ++ untaken_from (a + 1) n slots
unfolding untaken_from
first_of_more a n slots = ap (λ i. untaken_from a i slots) (plus_one n)
  where
    plus_one : (n : ℕ) → n + 1 ≡ suc n
    plus_one n = omega arith

-- the handle h stands behind m others and before n others
pub parts : (lo m n : ℕ) (slots : List (Option Held)) →
    untaken_from lo (m + (n + 1)) slots ≡ untaken_from lo m slots ++ (untaken_at (lo + m) (held_at (lo + m) slots) ++ untaken_from (lo + m + 1) n slots)
parts lo m n slots = split lo m (n + 1) slots ∙ ap (λ us. untaken_from lo m slots ++ us) (first_of_more (lo + m) n slots)

-- the slot of h is written
pub written : (lo m n : ℕ) (slots : List (Option Held)) (x : Option Held) → m + (n + 1) ≤ 32 → length slots ≡ 32 →
    untaken_from lo (m + (n + 1)) (set slots ((lo + m) % 32) x)
    ≡ untaken_from lo m slots ++ (untaken_at (lo + m) x ++ untaken_from (lo + m + 1) n slots)
written lo m n slots x few all =
    parts lo m n (set slots ((lo + m) % 32) x)
    ∙ ap (λ us. us ++ (untaken_at (lo + m) (held_at (lo + m) (set slots ((lo + m) % 32) x)) ++ untaken_from (lo + m + 1) n (set slots ((lo + m) % 32) x)))
    (others (lo + m) lo m slots x (λ k l u. apart_below (lo + m) k (omega arith) (omega arith)))
    ∙ ap (λ us. untaken_from lo m slots ++ (untaken_at (lo + m) (held_at (lo + m) (set slots ((lo + m) % 32) x)) ++ us))
    (others (lo + m) (lo + m + 1) n slots x (λ k l u. apart (lo + m) k (omega arith) (omega arith)))
    ∙ ap (λ o. untaken_from lo m slots ++ (untaken_at (lo + m) o ++ untaken_from (lo + m + 1) n slots))
    (get_or-set_same slots ((lo + m) % 32) x None (within (lo + m)))
  where
    within : (a : ℕ) → a % 32 < length slots
    within a = omega arith

-- Each command from lo on has a handle from lo on, and below the end.
pub unchanged : (f : Untaken → Untaken) (h lo n : ℕ) (slots : List (Option Held)) → ((u : Untaken) → u.command.handle ≢ h → f u ≡ u) →
    ((k : ℕ) → lo ≤ k → k < lo + n → k ≢ h) → map f (untaken_from lo n slots) ≡ untaken_from lo n slots
unfolding untaken_from
unchanged f h lo zero slots same far = refl
unchanged f h lo (suc n) slots same far =
    map-append f (untaken_at lo (held_at lo slots)) (untaken_from (lo + 1) n slots)
    ∙ ap (λ us. us ++ map f (untaken_from (lo + 1) n slots)) (one (held_at lo slots))
    ∙ ap (λ us. untaken_at lo (held_at lo slots) ++ us) (unchanged f h (lo + 1) n slots same (λ k l u. far k (omega arith) (omega arith)))
  where
    one : (o : Option Held) → map f (untaken_at lo o) ≡ untaken_at lo o
    one None = refl
    one (Some k) = ap (λ u. u ∷ []) (same (record { command = record { handle = lo; target = k.request.target; level = k.request.level; index = k.request.index; count = k.request.count; params = k.request.params }; submitted = k.submitted; times = k.times; last = k.last; answer = k.answer }) (far lo (omega arith) (omega arith)))

map_parts : (f : Untaken → Untaken) (front mid back mid' : List Untaken) → map f front ≡ front → map f back ≡ back → mid' ≡ map f mid →
    front ++ (mid' ++ back) ≡ map f (front ++ (mid ++ back))
map_parts f front mid back mid' same_front same_back here =
    sym (map-append f front (mid ++ back)
    ∙ ap (λ us. map f front ++ us) (map-append f mid back)
    ∙ ap (λ us. us ++ (map f mid ++ map f back)) same_front
    ∙ ap (λ us. front ++ (map f mid ++ us)) same_back
    ∙ ap (λ us. front ++ (us ++ back)) (sym here))

-- the command of h changes as its slot does
pub changed : (f : Untaken → Untaken) (lo m n : ℕ) (slots : List (Option Held)) (x : Option Held) → m + (n + 1) ≤ 32 → length slots ≡ 32 →
    ((u : Untaken) → u.command.handle ≢ lo + m → f u ≡ u) → untaken_at (lo + m) x ≡ map f (untaken_at (lo + m) (held_at (lo + m) slots)) →
    untaken_from lo (m + (n + 1)) (set slots ((lo + m) % 32) x) ≡ map f (untaken_from lo (m + (n + 1)) slots)
changed f lo m n slots x few all same here =
    written lo m n slots x few all
    ∙ map_parts f (untaken_from lo m slots) (untaken_at (lo + m) (held_at (lo + m) slots)) (untaken_from (lo + m + 1) n slots) (untaken_at (lo + m) x)
    (unchanged f (lo + m) lo m slots same (λ k l u e. omega arith))
    (unchanged f (lo + m) (lo + m + 1) n slots same (λ k l u e. omega arith))
    here
    ∙ ap (map f) (sym (parts lo m n slots))

-- the same, by handles: those from lo on and below hi
pub changed_at : (f : Untaken → Untaken) (lo hi h : ℕ) (slots : List (Option Held)) (x : Option Held) → lo ≤ h → h < hi → hi ≤ lo + 32 → length slots ≡ 32 →
    ((u : Untaken) → u.command.handle ≢ h → f u ≡ u) → untaken_at h x ≡ map f (untaken_at h (held_at h slots)) →
    untaken_from lo (hi - lo) (set slots (h % 32) x) ≡ map f (untaken_from lo (hi - lo) slots)
changed_at f lo hi h slots x above below near all same here = by (h - lo) (hi - (h + 1)) (omega arith) (omega arith)
  where
    by : (m n : ℕ) → lo + m ≡ h → m + (n + 1) ≡ hi - lo → untaken_from lo (hi - lo) (set slots (h % 32) x) ≡ map f (untaken_from lo (hi - lo) slots)
    by m n e1 e2 =
        subst (λ (w : ℕ). untaken_from lo w (set slots (h % 32) x) ≡ map f (untaken_from lo w slots)) e2
        (subst (λ (k : ℕ). ((u : Untaken) → u.command.handle ≢ k → f u ≡ u) → untaken_at k x ≡ map f (untaken_at k (held_at k slots)) →
        untaken_from lo (m + (n + 1)) (set slots (k % 32) x) ≡ map f (untaken_from lo (m + (n + 1)) slots)) e1
        (λ s t. changed f lo m n slots x (omega arith) all s t) same here)

-- Commands of other handles stay.
other_handles : (h lo n : ℕ) (slots : List (Option Held)) → ((k : ℕ) → lo ≤ k → k < lo + n → k ≢ h) →
    without_handle h (untaken_from lo n slots) ≡ untaken_from lo n slots
unfolding untaken_from
other_handles h lo zero slots far = refl
other_handles h lo (suc n) slots far =
    filter-append (λ (u : Untaken). not (nat_eq u.command.handle h)) (untaken_at lo (held_at lo slots)) (untaken_from (lo + 1) n slots)
    ∙ ap (λ us. us ++ without_handle h (untaken_from (lo + 1) n slots)) (one (held_at lo slots))
    ∙ ap (λ us. untaken_at lo (held_at lo slots) ++ us) (other_handles h (lo + 1) n slots (λ k l u. far k (omega arith) (omega arith)))
  where
    one : (o : Option Held) → without_handle h (untaken_at lo o) ≡ untaken_at lo o
    one None = refl
    one (Some k) = ap (λ b. cond (not b) (untaken_at lo (Some k)) []) (ne_eqb lo h (far lo (omega arith) (omega arith)))

without_parts : (h : ℕ) (front mid back : List Untaken) → without_handle h front ≡ front → without_handle h back ≡ back → without_handle h mid ≡ [] →
    front ++ ([] ++ back) ≡ without_handle h (front ++ (mid ++ back))
without_parts h front mid back same_front same_back here =
    let p : Untaken → Bool = λ u. not (nat_eq u.command.handle h) in
    sym (filter-append p front (mid ++ back)
    ∙ ap (λ us. without_handle h front ++ us) (filter-append p mid back)
    ∙ ap (λ us. us ++ (without_handle h mid ++ without_handle h back)) same_front
    ∙ ap (λ us. front ++ (without_handle h mid ++ us)) same_back
    ∙ ap (λ us. front ++ (us ++ back)) here)

-- The command of h goes as its slot is emptied.
pub removed_at : (lo hi h : ℕ) (slots : List (Option Held)) → lo ≤ h → h < hi → hi ≤ lo + 32 → length slots ≡ 32 →
    untaken_from lo (hi - lo) (set slots (h % 32) None) ≡ without_handle h (untaken_from lo (hi - lo) slots)
removed_at lo hi h slots above below near all = by (h - lo) (hi - (h + 1)) (omega arith) (omega arith)
  where
    gone : (a : ℕ) (o : Option Held) → without_handle a (untaken_at a o) ≡ []
    gone a None = refl
    gone a (Some k) = ap (λ b. cond (not b) (untaken_at a (Some k)) []) (equal_self a)

    by : (m n : ℕ) → lo + m ≡ h → m + (n + 1) ≡ hi - lo → untaken_from lo (hi - lo) (set slots (h % 32) None) ≡ without_handle h (untaken_from lo (hi - lo) slots)
    by m n e1 e2 =
        subst (λ (w : ℕ). untaken_from lo w (set slots (h % 32) None) ≡ without_handle h (untaken_from lo w slots)) e2
        (subst (λ (k : ℕ). untaken_from lo (m + (n + 1)) (set slots (k % 32) None) ≡ without_handle k (untaken_from lo (m + (n + 1)) slots)) e1
        (written lo m n slots None (omega arith) all
        ∙ without_parts (lo + m) (untaken_from lo m slots) (untaken_at (lo + m) (held_at (lo + m) slots)) (untaken_from (lo + m + 1) n slots)
        (other_handles (lo + m) lo m slots (λ k l u e. omega arith))
        (other_handles (lo + m) (lo + m + 1) n slots (λ k l u e. omega arith))
        (gone (lo + m) (held_at (lo + m) slots))
        ∙ ap (without_handle (lo + m)) (sym (parts lo m n slots))))

nothing_behind : (a : ℕ) (slots : List (Option Held)) (us vs : List Untaken) → us ++ (vs ++ untaken_from a 0 slots) ≡ us ++ vs
unfolding untaken_from
nothing_behind a slots us vs = ap (λ zs. us ++ zs) (append-nil vs)

-- A command is put behind the others.
pub put_at : (lo hi : ℕ) (slots : List (Option Held)) (x : Option Held) → lo ≤ hi → hi < lo + 32 → length slots ≡ 32 →
    untaken_from lo (hi + 1 - lo) (set slots (hi % 32) x) ≡ untaken_from lo (hi - lo) slots ++ untaken_at hi x
put_at lo hi slots x above near all = by (hi - lo) (omega arith) (omega arith)
  where
    by : (m : ℕ) → lo + m ≡ hi → m + (0 + 1) ≡ hi + 1 - lo → untaken_from lo (hi + 1 - lo) (set slots (hi % 32) x) ≡ untaken_from lo (hi - lo) slots ++ untaken_at hi x
    by m e1 e2 =
        subst (λ (w : ℕ). untaken_from lo w (set slots (hi % 32) x) ≡ untaken_from lo (hi - lo) slots ++ untaken_at hi x) e2
        (subst (λ (k : ℕ). untaken_from lo (m + (0 + 1)) (set slots (k % 32) x) ≡ untaken_from lo (k - lo) slots ++ untaken_at k x) e1
        (written lo m 0 slots x (omega arith) all
        ∙ nothing_behind (lo + m + 1) slots (untaken_from lo m slots) (untaken_at (lo + m) x)
        ∙ ap (λ w. untaken_from lo w slots ++ untaken_at (lo + m) x) (back_off lo m)))
      where
        back_off : (a m : ℕ) → m ≡ a + m - a
        back_off a m = omega arith

-- one handle less is left to go through
pub step : (lo hi : ℕ) (slots : List (Option Held)) → lo < hi → untaken_from lo (hi - lo) slots ≡ untaken_at lo (held_at lo slots) ++ untaken_from (lo + 1) (hi - (lo + 1)) slots
step lo hi slots below = ap (λ w. untaken_from lo w slots) (less lo hi below) ∙ first_of_more lo (hi - (lo + 1)) slots
  where
    less : (lo hi : ℕ) → lo < hi → hi - lo ≡ hi - (lo + 1) + 1
    less lo hi p = omega arith

-- From a handle on up to one that is not above it there are no commands.
pub done : (lo hi : ℕ) (slots : List (Option Held)) → hi ≤ lo → untaken_from lo (hi - lo) slots ≡ []
unfolding untaken_from
done lo hi slots p = ap (λ w. untaken_from lo w slots) (none lo hi p)
  where
    none : (lo hi : ℕ) → hi ≤ lo → hi - lo ≡ 0
    none lo hi p = omega arith

-- What is known of a handle, from its slot.
pub waits_none : (h lo n : ℕ) (slots : List (Option Held)) → ((k : ℕ) → lo ≤ k → k < lo + n → k ≢ h) → list_any (waits h) (untaken_from lo n slots) ≡ false
unfolding untaken_from
waits_none h lo zero slots far = refl
waits_none h lo (suc n) slots far =
    list_any-append (waits h) (untaken_at lo (held_at lo slots)) (untaken_from (lo + 1) n slots)
    ∙ ap (λ b. b || list_any (waits h) (untaken_from (lo + 1) n slots)) (one (held_at lo slots))
    ∙ waits_none h (lo + 1) n slots (λ k l u. far k (omega arith) (omega arith))
  where
    one : (o : Option Held) → list_any (waits h) (untaken_at lo o) ≡ false
    one None = refl
    one (Some k) = ap (λ b. (b && is_none k.answer) || false) (ne_eqb lo h (far lo (omega arith) (omega arith)))

-- No answer is held under a handle that is none of those looked at.
pub answer_none : (h lo n : ℕ) (slots : List (Option Held)) → ((k : ℕ) → lo ≤ k → k < lo + n → k ≢ h) → answer_under h (untaken_from lo n slots) ≡ None
unfolding untaken_from
answer_none h lo zero slots far = refl
answer_none h lo (suc n) slots far = one (held_at lo slots) (answer_none h (lo + 1) n slots (λ k l u. far k (omega arith) (omega arith)))
  where
    one : (o : Option Held) → answer_under h (untaken_from (lo + 1) n slots) ≡ None → answer_under h (untaken_at lo o ++ untaken_from (lo + 1) n slots) ≡ None
    one None rest = rest
    one (Some k) rest = ap (λ b. cond b k.answer (answer_under h (untaken_from (lo + 1) n slots))) (ne_eqb lo h (far lo (omega arith) (omega arith))) ∙ rest

-- in the range of handles, what the slot says
pub waits_at : (lo hi h : ℕ) (slots : List (Option Held)) → lo ≤ h → h < hi → list_any (waits h) (untaken_from lo (hi - lo) slots) ≡ held_waits (held_at h slots)
waits_at lo hi h slots above below = by (h - lo) (hi - (h + 1)) (omega arith) (omega arith)
  where
    one : (a : ℕ) (o : Option Held) → list_any (waits a) (untaken_at a o) ≡ held_waits o
    one a None = refl
    one a (Some k) = ap (λ b. (b && is_none k.answer) || false) (equal_self a) ∙ or-false (is_none k.answer)

    by : (m n : ℕ) → lo + m ≡ h → m + (n + 1) ≡ hi - lo → list_any (waits h) (untaken_from lo (hi - lo) slots) ≡ held_waits (held_at h slots)
    by m n e1 e2 =
        subst (λ (w : ℕ). list_any (waits h) (untaken_from lo w slots) ≡ held_waits (held_at h slots)) e2
        (subst (λ (k : ℕ). list_any (waits k) (untaken_from lo (m + (n + 1)) slots) ≡ held_waits (held_at k slots)) e1
        (ap (list_any (waits (lo + m))) (parts lo m n slots)
        ∙ list_any-append (waits (lo + m)) (untaken_from lo m slots) (untaken_at (lo + m) (held_at (lo + m) slots) ++ untaken_from (lo + m + 1) n slots)
        ∙ ap (λ b. b || list_any (waits (lo + m)) (untaken_at (lo + m) (held_at (lo + m) slots) ++ untaken_from (lo + m + 1) n slots)) (waits_none (lo + m) lo m slots (λ k l u e. omega arith))
        ∙ list_any-append (waits (lo + m)) (untaken_at (lo + m) (held_at (lo + m) slots)) (untaken_from (lo + m + 1) n slots)
        ∙ ap (λ b. list_any (waits (lo + m)) (untaken_at (lo + m) (held_at (lo + m) slots)) || b) (waits_none (lo + m) (lo + m + 1) n slots (λ k l u e. omega arith))
        ∙ or-false (list_any (waits (lo + m)) (untaken_at (lo + m) (held_at (lo + m) slots)))
        ∙ one (lo + m) (held_at (lo + m) slots)))

answer_behind : (h : ℕ) (us vs : List Untaken) → answer_under h us ≡ None → list_any (λ u. nat_eq u.command.handle h) us ≡ false → answer_under h (us ++ vs) ≡ answer_under h vs
answer_behind h [] vs none other = refl
answer_behind h (u ∷ us) vs none other =
    on_bool (nat_eq u.command.handle h) (λ b. cond b u.answer (answer_under h us) ≡ None → (b || list_any (λ (u : Untaken). nat_eq u.command.handle h) us) ≡ false → (answer_under h us ≡ None → list_any (λ
    (u : Untaken). nat_eq u.command.handle h) us ≡ false → answer_under h (us ++ vs) ≡ answer_under h vs) → cond b u.answer (answer_under h (us ++ vs)) ≡ answer_under h vs)
    (λ none other more. cc) (λ none other more. more none other) none other (answer_behind h us vs)

no_handle : (h lo n : ℕ) (slots : List (Option Held)) → ((k : ℕ) → lo ≤ k → k < lo + n → k ≢ h) → list_any (λ (u : Untaken). nat_eq u.command.handle h) (untaken_from lo n slots) ≡ false
unfolding untaken_from
no_handle h lo zero slots far = refl
no_handle h lo (suc n) slots far =
    list_any-append (λ (u : Untaken). nat_eq u.command.handle h) (untaken_at lo (held_at lo slots)) (untaken_from (lo + 1) n slots)
    ∙ ap (λ b. b || list_any (λ (u : Untaken). nat_eq u.command.handle h) (untaken_from (lo + 1) n slots)) (one (held_at lo slots))
    ∙ no_handle h (lo + 1) n slots (λ k l u. far k (omega arith) (omega arith))
  where
    one : (o : Option Held) → list_any (λ (u : Untaken). nat_eq u.command.handle h) (untaken_at lo o) ≡ false
    one None = refl
    one (Some k) = ap (λ b. b || false) (ne_eqb lo h (far lo (omega arith) (omega arith)))

-- The answer that is held under a handle in the range is that in its slot.
pub answer_at : (lo hi h : ℕ) (slots : List (Option Held)) → lo ≤ h → h < hi → answer_under h (untaken_from lo (hi - lo) slots) ≡ held_answer (held_at h slots)
answer_at lo hi h slots above below = by (h - lo) (hi - (h + 1)) (omega arith) (omega arith)
  where
    one : (a : ℕ) (o : Option Held) (vs : List Untaken) → answer_under a vs ≡ None → answer_under a (untaken_at a o ++ vs) ≡ held_answer o
    one a None vs none = none
    one a (Some k) vs none = ap (λ b. cond b k.answer (answer_under a vs)) (equal_self a)

    by : (m n : ℕ) → lo + m ≡ h → m + (n + 1) ≡ hi - lo → answer_under h (untaken_from lo (hi - lo) slots) ≡ held_answer (held_at h slots)
    by m n e1 e2 =
        subst (λ (w : ℕ). answer_under h (untaken_from lo w slots) ≡ held_answer (held_at h slots)) e2
        (subst (λ (k : ℕ). answer_under k (untaken_from lo (m + (n + 1)) slots) ≡ held_answer (held_at k slots)) e1
        (ap (answer_under (lo + m)) (parts lo m n slots)
        ∙ answer_behind (lo + m) (untaken_from lo m slots) (untaken_at (lo + m) (held_at (lo + m) slots) ++ untaken_from (lo + m + 1) n slots)
        (answer_none (lo + m) lo m slots (λ k l u e. omega arith)) (no_handle (lo + m) lo m slots (λ k l u e. omega arith))
        ∙ one (lo + m) (held_at (lo + m) slots) (untaken_from (lo + m + 1) n slots) (answer_none (lo + m) (lo + m + 1) n slots (λ k l u e. omega arith))))

-- All handles from lo on are below the span where lo is.
all_near : (s h lo n : ℕ) (slots : List (Option Held)) → h < lo + s → span_has_room s h (untaken_from lo n slots) ≡ true
unfolding untaken_from
all_near s h lo zero slots near = refl
all_near s h lo (suc n) slots near =
    list_all-append (λ (u : Untaken). nat_lt h (u.command.handle + s)) (untaken_at lo (held_at lo slots)) (untaken_from (lo + 1) n slots)
    ∙ ap (λ b. b && span_has_room s h (untaken_from (lo + 1) n slots)) (one (held_at lo slots))
    ∙ all_near s h (lo + 1) n slots (omega arith)
  where
    one : (o : Option Held) → span_has_room s h (untaken_at lo o) ≡ true
    one None = refl
    one (Some k) = ap (λ b. b && true) (lt-ltb h (lo + s) near)

-- The lowest decides whether there is room.
pub room_by_lowest : (s h lo hi : ℕ) (slots : List (Option Held)) → lo ≤ hi → (lo < hi → held_at lo slots ≡ None → ⊥) →
    span_has_room s h (untaken_from lo (hi - lo) slots) ≡ (nat_eq lo hi || nat_lt h (lo + s))
room_by_lowest s h lo hi slots ordered held = elim (cases lo hi ordered) [
  | inl same ↦ ap (span_has_room s h) (done lo hi slots (omega arith)) ∙ sym (ap (λ b. b || nat_lt h (lo + s)) (eq-eqb lo hi same))
  | inr below ↦ ap (span_has_room s h) (step lo hi slots below) ∙ by_slot (held_at lo slots) (held below) ∙ sym (ap (λ b. b || nat_lt h (lo + s)) (unequal lo hi below))
]
  where
    cases : (a b : ℕ) → a ≤ b → (a ≡ b) ⊎ (a < b)
    cases a b p = grind arith

    by_test : (b : Bool) → nat_lt h (lo + s) ≡ b → (b && span_has_room s h (untaken_from (lo + 1) (hi - (lo + 1)) slots)) ≡ b
    by_test true p = all_near s h (lo + 1) (hi - (lo + 1)) slots (let q : h < lo + s = ltb-true h (lo + s) p in omega arith)
    by_test false p = refl

    by_slot : (o : Option Held) → (o ≡ None → ⊥) → span_has_room s h (untaken_at lo o ++ untaken_from (lo + 1) (hi - (lo + 1)) slots) ≡ nat_lt h (lo + s)
    by_slot None some = absurd (some refl)
    by_slot (Some k) some = by_test (nat_lt h (lo + s)) refl

-- One slot of a walk through the handles.
pub not_due : (now lo hi : ℕ) (slots : List (Option Held)) → lo < hi → held_is_due now (held_at lo slots) ≡ false →
    first_due now (untaken_from lo (hi - lo) slots) ≡ first_due now (untaken_from (lo + 1) (hi - (lo + 1)) slots)
not_due now lo hi slots below not_so = ap (first_due now) (step lo hi slots below) ∙ by (held_at lo slots) not_so
  where
    by : (o : Option Held) → held_is_due now o ≡ false → first_due now (untaken_at lo o ++ untaken_from (lo + 1) (hi - (lo + 1)) slots) ≡ first_due now (untaken_from (lo + 1) (hi - (lo + 1)) slots)
    by None not_so = refl
    by (Some k) not_so = ap (λ b. cond b (Some (record { command = record { handle = lo; target = k.request.target; level = k.request.level; index = k.request.index; count = k.request.count; params = k.request.params }; submitted = k.submitted; times = k.times; last = k.last; answer = k.answer })) (first_due now (untaken_from (lo + 1) (hi - (lo + 1)) slots))) not_so

-- The first due command is that of the first handle where that one is due.
pub due_here : (now lo hi : ℕ) (slots : List (Option Held)) → lo < hi → held_is_due now (held_at lo slots) ≡ true →
    first_due now (untaken_from lo (hi - lo) slots) ≡ first_due now (untaken_at lo (held_at lo slots))
due_here now lo hi slots below due = ap (first_due now) (step lo hi slots below) ∙ by (held_at lo slots) due
  where
    by : (o : Option Held) → held_is_due now o ≡ true → first_due now (untaken_at lo o ++ untaken_from (lo + 1) (hi - (lo + 1)) slots) ≡ first_due now (untaken_at lo o)
    by None due = cc
    by (Some k) due =
        let u : Untaken = record { command = record { handle = lo; target = k.request.target; level = k.request.level; index = k.request.index; count = k.request.count; params = k.request.params }; submitted = k.submitted; times = k.times; last = k.last; answer = k.answer } in
        ap (λ b. cond b (Some u) (first_due now (untaken_from (lo + 1) (hi - (lo + 1)) slots))) due ∙ sym (ap (λ b. cond b (Some u) None) due)

-- Where the first handle's slot is empty, the commands are those above it.
pub not_held : (lo hi : ℕ) (slots : List (Option Held)) → lo < hi → is_some (held_at lo slots) ≡ false →
    untaken_from lo (hi - lo) slots ≡ untaken_from (lo + 1) (hi - (lo + 1)) slots
not_held lo hi slots below not_so = step lo hi slots below ∙ by (held_at lo slots) not_so
  where
    by : (o : Option Held) → is_some o ≡ false → untaken_at lo o ++ untaken_from (lo + 1) (hi - (lo + 1)) slots ≡ untaken_from (lo + 1) (hi - (lo + 1)) slots
    by None not_so = refl
    by (Some k) not_so = cc

-- Among no handles none is due.
pub none_due : (now lo hi : ℕ) (slots : List (Option Held)) → hi ≤ lo → first_due now (untaken_from lo (hi - lo) slots) ≡ None
none_due now lo hi slots p = ap (first_due now) (done lo hi slots p)

-- a slot that was read
pub slot_read : (h p : ℕ) (slots : List (Option Held)) (d : Option Held) → length slots ≡ 32 → p ≡ h % 32 → held_at h slots ≡ get_or slots p d
slot_read h p slots d all place = get_or_default slots (h % 32) None d (within h) ∙ sym (ap (λ i. get_or slots i d) place)
  where
    within : (a : ℕ) → a % 32 < length slots
    within a = omega arith

-- at most as many are untaken as there are handles
pub length_from : (lo n : ℕ) (slots : List (Option Held)) → length (untaken_from lo n slots) ≤ n
unfolding untaken_from
length_from lo zero slots = omega arith
length_from lo (suc n) slots =
    rw (length-append (untaken_at lo (held_at lo slots)) (untaken_from (lo + 1) n slots)) (one_more (length (untaken_at lo (held_at lo slots))) (length (untaken_from (lo + 1) n slots)) (at_most_one (held_at lo slots)) (length_from (lo + 1) n slots))
  where
    at_most_one : (o : Option Held) → length (untaken_at lo o) ≤ 1
    at_most_one None = omega arith
    at_most_one (Some k) = omega arith

    one_more : (a b : ℕ) → a ≤ 1 → b ≤ n → a + b ≤ suc n
    one_more a b p q = omega arith

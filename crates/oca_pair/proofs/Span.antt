-- What holds of one link whose commands were executed once: what it holds lies within the span, and its commands were accepted in nearly
-- rising order.
use Rattle.oca_pair.proofs.Words.{append-nil, ◌≡◌, ℕ, ◌+◌, ◌*◌, ◌<◌, ◌≤◌, ◌≢◌, Bool, true, false, cond, List, [], ◌∷◌, ◌++◌, length, Option, Some, refl, sym, ap, ◌∙◌, arith, append_assoc, ◌⊎◌, inl}
use Rattle.oca_pair.proofs.Words.{inr, nat_eq, not, ◌&&◌, ◌||◌, map, filter, is_none, AllByRecursion, eqb, list_any-append, nat_tests, eqb-false, or_parts, or_from, eqb-true, Peer, CommandFields}
use Rattle.oca_pair.proofs.Words.{Entry, window, outside, has_handle, entry_under, asks_the_same, judgement, AnswerFields, Untaken, new_untaken, end_of, marked_sent, answered, without_handle, holds}
use Rattle.oca_pair.proofs.Words.{Request, command_under, handle_after, SubmittedCommand, unanswered, each_map, each_both, each_append, equal_self, end_after, holds_marked_sent, holds_answered}
use Rattle.oca_pair.proofs.Words.{on_bool}
use Rattle.std.specs.Cmp.Lexicographic.{pointwise}
use Rattle.oca_pair.proofs.Core.{has, Ordered, IsOfLink, AllBelow, Trails, trails_behind, below_all, below_whole, below_last, never_old, IsServed}
use Rattle.oca_pair.proofs.Lists.{IsIn, in_more, in_behind}

pub record Near (s f n : ℕ) (u : Untaken) : Type 0 where
  pub from : f ≤ u.command.handle
  pub below : u.command.handle < n
  pub near : n ≤ u.command.handle + s

-- a submitted command is of this link, or was accepted, or is one that an earlier link left behind
abbrev pub IsKnown : ℕ → List ℕ → List Entry → ℕ → Type 0
IsKnown f late A h = (f ≤ h) ⊎ ((has h A ≡ true) ⊎ IsIn h late)

-- of all commands that were accepted of the peer `earlier` were accepted before the link was made, `since` after it; of these
-- some are of earlier links, whose handles are `late`
pub record Good (s f : ℕ) (late : List ℕ) (p : Peer) (next : Option ℕ) (us : List Untaken) (submitted : List SubmittedCommand) (A : List Entry) : Type 0 where
  pub start : f ≤ end_of next
  pub low : AllByRecursion (λ h. h < f) late
  pub untaken : AllByRecursion (Near s f (end_of next)) us
  pub taken : (x : ℕ) → f ≤ x → x < end_of next → holds x us ≡ false → has x A ≡ true
  pub earlier : List Entry
  pub since : List Entry
  pub accepted : A ≡ earlier ++ since
  pub below : AllByRecursion (λ e. e.command.handle < f) earlier
  pub own : AllByRecursion (IsOfLink f (end_of next) late) since
  pub order : Ordered f s earlier since
  pub from : AllByRecursion (λ x. x.peer ≡ p → IsKnown f late A x.command.handle) submitted

-- the same of a link with some first handle
pub record GoodSince (s : ℕ) (late : List ℕ) (p : Peer) (next : Option ℕ) (us : List Untaken) (submitted : List SubmittedCommand) (A : List Entry) : Type 0 where
  pub first : ℕ
  pub good : Good s first late p next us submitted A

pub since_by : {s : ℕ} {late : List ℕ} {p : Peer} {next next' : Option ℕ} {us us' : List Untaken} {submitted submitted' : List SubmittedCommand} {A A' : List Entry} →
    ((f : ℕ) → Good s f late p next us submitted A → Good s f late p next' us' submitted' A') → GoodSince s late p next us submitted A → GoodSince s late p next' us' submitted' A'
since_by go g = record { first = g.first; good = go g.first g.good }

-- ---- the link submits

pub good_submit : (s f : ℕ) (late : List ℕ) (p : Peer) (next : Option ℕ) (us : List Untaken) (submitted : List SubmittedCommand) (A : List Entry) (h at : ℕ) (r : Request) → 0 < s →
    next ≡ Some h → AllByRecursion (λ u. h < u.command.handle + s) us → Good s f late p next us submitted A →
    let new : SubmittedCommand = record { peer = p; command = command_under h r } in
    Good s f late p (handle_after h) (us ++ new_untaken at (command_under h r) ∷ []) (submitted ++ new ∷ []) A
good_submit s f late p next us submitted A h at r some next_is room g =
    let was : end_of next ≡ h = ap end_of next_is in
    let is : end_of (handle_after h) ≡ h + 1 = end_after h in
    let more : end_of next ≤ end_of (handle_after h) = omega arith in
    let start : f ≤ end_of next = g.start in
    let u' : Untaken = new_untaken at (command_under h r) in
    let new : SubmittedCommand = record { peer = p; command = command_under h r } in
    record {
      start = omega arith;
      low = g.low;
      untaken = each_append _ us (u' ∷ [])
          (each_both (λ u a (b : h < u.command.handle + s). let a1 = a.from in let a2 = a.below in record { from = a1; below = below_more u.command.handle a2 more; near = nearer u.command.handle is b })
          us g.untaken room)
          (record { from = omega arith; below = omega arith; near = omega arith }, tt);
      taken = λ x from below free.
          let free' : (holds x us ≡ false) × (holds x (u' ∷ []) ≡ false) =
          or_parts (holds x us) (holds x (u' ∷ [])) (sym (list_any-append (λ (u : Untaken). eqb u.command.handle x) us (u' ∷ [])) ∙ free) in
          let other : h ≢ x = eqb-false h x (or_parts (eqb h x) false free'.1).0 in
          g.taken x from (omega arith) free'.0;
      earlier = g.earlier;
      since = g.since;
      accepted = g.accepted;
      below = g.below;
      own = each_map (λ e q. (below_more e.command.handle q.0 more, q.1)) g.since g.own;
      order = g.order;
      from = each_append _ submitted (new ∷ []) g.from ((λ same. inl (starts f h (end_of next) start was)), tt);
    }
  where
    below_more : (x : ℕ) {n m : ℕ} → x < n → n ≤ m → x < m
    below_more x p q = omega arith

    nearer : (x : ℕ) → end_of (handle_after h) ≡ h + 1 → h < x + s → end_of (handle_after h) ≤ x + s
    nearer x p q = omega arith

    starts : (f h n : ℕ) → f ≤ n → n ≡ h → f ≤ h
    starts f h n p q = omega arith

-- the link of another peer submits
pub good_submitted : (s f : ℕ) (late : List ℕ) (p : Peer) (next : Option ℕ) (us : List Untaken) (submitted more : List SubmittedCommand) (A : List Entry) →
    AllByRecursion (λ (x : SubmittedCommand). x.peer ≡ p → ⊥) more → Good s f late p next us submitted A → Good s f late p next us (submitted ++ more) A
good_submitted s f late p next us submitted more A none g = record {
  start = g.start;
  low = g.low;
  untaken = g.untaken;
  taken = g.taken;
  earlier = g.earlier;
  since = g.since;
  accepted = g.accepted;
  below = g.below;
  own = g.own;
  order = g.order;
  from = each_append _ submitted more g.from (each_map (λ x n same. absurd (n same)) more none);
}

-- ---- the list of untaken commands changes

-- other times, moments or answers
pub good_same : (s f : ℕ) (late : List ℕ) (p : Peer) (next : Option ℕ) (us vs : List Untaken) (submitted : List SubmittedCommand) (A : List Entry) →
    AllByRecursion (Near s f (end_of next)) vs → ((x : ℕ) → holds x vs ≡ holds x us) → Good s f late p next us submitted A → Good s f late p next vs submitted A
good_same s f late p next us vs submitted A near same g = record {
  start = g.start;
  low = g.low;
  untaken = near;
  taken = λ x a b free. g.taken x a b (sym (same x) ∙ free);
  earlier = g.earlier;
  since = g.since;
  accepted = g.accepted;
  below = g.below;
  own = g.own;
  order = g.order;
  from = g.from;
}

near_marked_sent : (s f n t h : ℕ) (us : List Untaken) → AllByRecursion (Near s f n) us → AllByRecursion (Near s f n) (map (marked_sent t h) us)
near_marked_sent s f n t h [] g = tt
near_marked_sent s f n t h (u ∷ us) g = (record { from = g.0.from; below = g.0.below; near = g.0.near }, near_marked_sent s f n t h us g.1)

pub good_marked_sent : (s f : ℕ) (late : List ℕ) (p : Peer) (next : Option ℕ) (us : List Untaken) (submitted : List SubmittedCommand) (A : List Entry) (t h : ℕ) →
    Good s f late p next us submitted A → Good s f late p next (map (marked_sent t h) us) submitted A
good_marked_sent s f late p next us submitted A t h g =
    good_same s f late p next us (map (marked_sent t h) us) submitted A (near_marked_sent s f (end_of next) t h us g.untaken) (λ x. holds_marked_sent t h x us) g

near_answered : (s f n h : ℕ) (a : AnswerFields) (us : List Untaken) → AllByRecursion (Near s f n) us → AllByRecursion (Near s f n) (map (answered h a) us)
near_answered s f n h a [] g = tt
near_answered s f n h a (u ∷ us) g = (record { from = g.0.from; below = g.0.below; near = g.0.near }, near_answered s f n h a us g.1)

pub good_answered : (s f : ℕ) (late : List ℕ) (p : Peer) (next : Option ℕ) (us : List Untaken) (submitted : List SubmittedCommand) (A : List Entry) (h : ℕ) (a : AnswerFields) →
    Good s f late p next us submitted A → Good s f late p next (map (answered h a) us) submitted A
good_answered s f late p next us submitted A h a g =
    good_same s f late p next us (map (answered h a) us) submitted A (near_answered s f (end_of next) h a us g.untaken) (λ x. holds_answered h x a us) g

-- an answered command is taken, which was executed
near_without : (s f n h : ℕ) (us : List Untaken) → AllByRecursion (Near s f n) us → AllByRecursion (Near s f n) (without_handle h us)
near_without s f n h [] g = tt
near_without s f n h (u ∷ us) g =
    on_bool (eqb u.command.handle h) (λ b. AllByRecursion (Near s f n) (without_handle h us) → AllByRecursion (Near s f n) (cond (not b) (u ∷ without_handle h us) (without_handle h us)))
    (λ rest. rest) (λ rest. (g.0, rest)) (near_without s f n h us g.1)

pub holds_without : (h x : ℕ) (us : List Untaken) → holds x (without_handle h us) ≡ false → (h ≡ x) ⊎ (holds x us ≡ false)
holds_without h x [] e = inr refl
holds_without h x (u ∷ us) e = by_test (eqb u.command.handle h) refl e (holds_without h x us)
  where
    same_then : (a b c : ℕ) → eqb a b ≡ true → (b ≡ c) ⊎ (eqb a c ≡ false)
    same_then a b c q = grind (arith, nat_tests)

    by_test : (b : Bool) → eqb u.command.handle h ≡ b → holds x (cond (not b) (u ∷ without_handle h us) (without_handle h us)) ≡ false →
        (holds x (without_handle h us) ≡ false → (h ≡ x) ⊎ (holds x us ≡ false)) → (h ≡ x) ⊎ ((eqb u.command.handle x || holds x us) ≡ false)
    by_test true q free rest = elim (same_then u.command.handle h x q) [
      | inl same ↦ inl same
      | inr other ↦ elim (rest free) [ inl same ↦ inl same | inr none ↦ inr (or_from (eqb u.command.handle x) (holds x us) other none) ]
    ]
    by_test false q free rest =
        let p = or_parts (eqb u.command.handle x) (holds x (without_handle h us)) free in
        elim (rest p.1) [ inl same ↦ inl same | inr none ↦ inr (or_from (eqb u.command.handle x) (holds x us) p.0 none) ]

pub good_without : (s f : ℕ) (late : List ℕ) (p : Peer) (next : Option ℕ) (us : List Untaken) (submitted : List SubmittedCommand) (A : List Entry) (h : ℕ) → has h A ≡ true →
    Good s f late p next us submitted A → Good s f late p next (without_handle h us) submitted A
good_without s f late p next us submitted A h there g = record {
  start = g.start;
  low = g.low;
  untaken = near_without s f (end_of next) h us g.untaken;
  taken = λ x from below free. elim (holds_without h x us free) [ inl same ↦ rw same at there | inr none ↦ g.taken x from below none ];
  earlier = g.earlier;
  since = g.since;
  accepted = g.accepted;
  below = g.below;
  own = g.own;
  order = g.order;
  from = g.from;
}

-- ---- a command is accepted

has_more : (h : ℕ) (A : List Entry) (e : Entry) → has h A ≡ true → has h (A ++ e ∷ []) ≡ true
has_more h A e q = list_any-append (has_handle h) A (e ∷ []) ∙ ap (λ b. b || has h (e ∷ [])) q

order_more : (f s : ℕ) (before es : List Entry) (e : Entry) → Ordered f s before es → has e.command.handle (before ++ es) ≡ false →
    ((x : ℕ) → f ≤ x → x + s ≤ e.command.handle → has x (before ++ es) ≡ true) → Ordered f s before (es ++ e ∷ [])
order_more f s before [] e o new all = (rw append-nil at new, (λ x a b. rw append-nil at (all x a b)), tt)
order_more f s before (y ∷ ys) e o new all =
    (o.0, o.1, order_more f s (before ++ y ∷ []) ys e o.2 (rw regroup new) (λ x a b. rw regroup (all x a b)))
  where
    regroup : (before ++ y ∷ []) ++ ys ≡ before ++ y ∷ ys
    regroup = append_assoc before (y ∷ []) ys

pub good_grown : (s f : ℕ) (late : List ℕ) (p : Peer) (next : Option ℕ) (us : List Untaken) (submitted : List SubmittedCommand) (A : List Entry) (e : Entry) →
    IsOfLink f (end_of next) late e → has e.command.handle A ≡ false → Good s f late p next us submitted A → Good s f late p next us submitted (A ++ e ∷ [])
good_grown s f late p next us submitted A e own new g = record {
  start = g.start;
  low = g.low;
  untaken = g.untaken;
  taken = λ x a b free. has_more x A e (g.taken x a b free);
  earlier = g.earlier;
  since = g.since ++ e ∷ [];
  accepted = ap (λ B. B ++ e ∷ []) g.accepted ∙ append_assoc g.earlier g.since (e ∷ []);
  below = g.below;
  own = each_append _ g.since (e ∷ []) g.own (own, tt);
  order = order_more f s g.earlier g.since e g.order (rw g.accepted at new)
      (λ x a b. rw g.accepted at (g.taken x a (nearer x b own.0) (far x us g.untaken b)));
  from = each_map (λ x k same. elim (k same) [
    | inl mine ↦ inl mine
    | inr (inl there) ↦ inr (inl (has_more x.command.handle A e there))
    | inr (inr left) ↦ inr (inr left)
  ]) submitted g.from;
}
  where
    nearer : (x : ℕ) → x + s ≤ e.command.handle → e.command.handle < end_of next → x < end_of next
    nearer x a b = omega arith

    apart : (x h : ℕ) → x + s ≤ e.command.handle → end_of next ≤ h + s → e.command.handle < end_of next → eqb h x ≡ false
    apart x h a b c = grind (arith, nat_tests)

    far : (x : ℕ) (us : List Untaken) → AllByRecursion (Near s f (end_of next)) us → x + s ≤ e.command.handle → holds x us ≡ false
    far x [] q b = refl
    far x (u ∷ us) q b = or_from (eqb u.command.handle x) (holds x us) (apart x u.command.handle b q.0.near own.0) (far x us q.1 b)

-- ---- the link is renewed

-- what is untaken was accepted, or has no answer
held_or_left : (A : List Entry) (x : ℕ) (us : List Untaken) → AllByRecursion (λ u. is_none u.answer ≡ false → has u.command.handle A ≡ true) us → holds x us ≡ true →
    (has x A ≡ true) ⊎ IsIn x (unanswered us)
held_or_left A x [] own e = cc
held_or_left A x (u ∷ us) own e = by_test (held_or_left A x us own.1) (eqb u.command.handle x) refl e (is_none u.answer) refl
  where
    by_test : (holds x us ≡ true → (has x A ≡ true) ⊎ IsIn x (unanswered us)) → (b : Bool) → eqb u.command.handle x ≡ b → (b || holds x us) ≡ true → (c : Bool) → is_none u.answer ≡ c →
        (has x A ≡ true) ⊎ IsIn x (map (λ (u : Untaken). u.command.handle) (cond c (u ∷ filter (λ (u : Untaken). is_none u.answer) us) (filter (λ (u : Untaken). is_none u.answer) us)))
    by_test rest true same e true none = inr (inl (eqb-true u.command.handle x same))
    by_test rest true same e false some = let there : has u.command.handle A ≡ true = own.0 some in inl (rw (eqb-true u.command.handle x same) at there)
    by_test rest false other e true none = elim (rest e) [ inl there ↦ inl there | inr left ↦ inr (inr left) ]
    by_test rest false other e false some = rest e

pub good_renewed : (s s' : ℕ) (late : List ℕ) (p : Peer) (next : Option ℕ) (us : List Untaken) (submitted : List SubmittedCommand) (A : List Entry) (first : ℕ) → end_of next ≤ first →
    AllByRecursion (λ u. is_none u.answer ≡ false → has u.command.handle A ≡ true) us → AllByRecursion (λ x. x.peer ≡ p → x.command.handle < end_of next) submitted →
    GoodSince s late p next us submitted A → GoodSince s' (unanswered us ++ late) p (Some first) [] submitted A
good_renewed s s' late p next us submitted A first above taken_in low g = record {
  first = first;
  good = record {
    start = omega arith;
    low = each_append _ (unanswered us) late (left_low us good.untaken) (each_map (λ h q. lower h q) late good.low);
    untaken = tt;
    taken = λ x a b free. absurd (contra x a b);
    earlier = A;
    since = [];
    accepted = sym (append-nil A);
    below = rw good.accepted (each_append _ good.earlier good.since (each_map (λ e q. lower e.command.handle q) good.earlier good.below) (each_map (λ e q. higher e.command.handle q.0) good.since good.own));
    own = tt;
    order = tt;
    from = each_both (λ x k b same. by_known x.command.handle (k same) (b same)) submitted good.from low;
  };
}
  where
    good : Good s g.first late p next us submitted A
    good = g.good

    contra : (x : ℕ) → first ≤ x → x < first → ⊥
    contra x a b = omega arith

    start : g.first ≤ end_of next
    start = good.start

    lower : (x : ℕ) → x < g.first → x < first
    lower x q = omega arith

    higher : (x : ℕ) → x < end_of next → x < first
    higher x q = omega arith

    left_low : (us : List Untaken) → AllByRecursion (Near s g.first (end_of next)) us → AllByRecursion (λ h. h < first) (unanswered us)
    left_low [] a = tt
    left_low (u ∷ us) a =
        on_bool (is_none u.answer) (λ b. AllByRecursion (λ h. h < first) (unanswered us) → AllByRecursion (λ h. h < first) (map (λ (u : Untaken). u.command.handle) (cond b (u ∷ filter (λ
        (u : Untaken). is_none u.answer) us) (filter (λ (u : Untaken). is_none u.answer) us))))
        (λ rest. (higher u.command.handle a.0.below, rest)) (λ rest. rest) (left_low us a.1)

    by_held : (h : ℕ) → g.first ≤ h → h < end_of next → (b : Bool) → holds h us ≡ b → IsKnown first (unanswered us ++ late) A h
    by_held h a b true q = elim (held_or_left A h us taken_in q) [ inl there ↦ inr (inl there) | inr left ↦ inr (inr (in_more h (unanswered us) late left)) ]
    by_held h a b false q = inr (inl (good.taken h a b q))

    by_known : (h : ℕ) → IsKnown g.first late A h → h < end_of next → IsKnown first (unanswered us ++ late) A h
    by_known h (inl mine) b = by_held h mine b (holds h us) refl
    by_known h (inr (inl there)) b = inr (inl there)
    by_known h (inr (inr left)) b = inr (inr (in_behind h (unanswered us) late left))

-- ---- no untaken command is too old

near_of : (s f n : ℕ) (u : Untaken) (us : List Untaken) → AllByRecursion (Near s f n) us → IsIn u us → (f ≤ u.command.handle) × (u.command.handle < n) × (n ≤ u.command.handle + s)
near_of s f n u [] g i = absurd i
near_of s f n u (x ∷ us) g (inl e) = let all : (f ≤ x.command.handle) × (x.command.handle < n) × (n ≤ x.command.handle + s) = (g.0.from, g.0.below, g.0.near) in rw e at all
near_of s f n u (x ∷ us) g (inr i) = near_of s f n u us g.1 i

all_same : (xs : List ℕ) → pointwise nat_eq xs xs ≡ true
all_same [] = refl
all_same (x ∷ xs) = ap (λ b. b && pointwise nat_eq xs xs) (equal_self x) ∙ all_same xs

asks_itself : (c : CommandFields) → asks_the_same c c ≡ true
asks_itself c =
    five (nat_eq c.target c.target) (nat_eq c.level c.level) (nat_eq c.index c.index) (nat_eq c.count c.count) (pointwise nat_eq c.params c.params)
    (equal_self c.target) (equal_self c.level) (equal_self c.index) (equal_self c.count) (all_same c.params)
  where
    five : (a b c d e : Bool) → a ≡ true → b ≡ true → c ≡ true → d ≡ true → e ≡ true → ((((a && b) && c) && d) && e) ≡ true
    five a b c d e p q r s t = cc

-- Nothing at or above the handle of an untaken command is outside the window, where few of those that earlier links left
-- behind were accepted after one that is: of the peer's commands, and of those of its session, which are the last of them.
pub untaken_low : (w s : ℕ) (late few : List ℕ) (p : Peer) (next : Option ℕ) (us : List Untaken) (submitted : List SubmittedCommand) (before A : List Entry) (u : Untaken) → 2 * s + length few ≤ w + 1 →
    Trails u.command.handle late few (before ++ A) → GoodSince s late p next us submitted (before ++ A) → IsIn u us → AllBelow u.command.handle (outside w A)
untaken_low w s late few p next us submitted before A u wide trails g i =
    let good : Good s g.first late p next us submitted (before ++ A) = g.good in
    let n = near_of s g.first (end_of next) u us good.untaken i in
    let behind : Trails u.command.handle late few good.since = trails_behind u.command.handle late few good.earlier good.since (rw good.accepted at trails) in
    let low : AllBelow u.command.handle (outside w (good.earlier ++ good.since)) =
    below_whole u.command.handle w good.earlier good.since (each_map (λ e q. lower e.command.handle q n.0) good.earlier good.below)
    (below_all g.first s w (end_of next) u.command.handle late few wide n.1 n.2 good.earlier good.since good.own good.order behind) in
    below_last u.command.handle w before A (rw (← good.accepted) at low)
  where
    lower : (x : ℕ) → x < g.first → g.first ≤ u.command.handle → x < u.command.handle
    lower x a b = omega arith

-- the peer's accepted commands have handles that its link gave
pub below_next : {s : ℕ} {late : List ℕ} {p : Peer} {next : Option ℕ} {us : List Untaken} {submitted : List SubmittedCommand} {A : List Entry} → GoodSince s late p next us submitted A →
    AllByRecursion (λ e. e.command.handle < end_of next) A
below_next {next} g =
    let start : g.first ≤ end_of next = g.good.start in
    rw g.good.accepted (each_append _ g.good.earlier g.good.since (each_map (λ e q. lower e.command.handle start q) g.good.earlier g.good.below) (each_map (λ e q. q.0) g.good.since g.good.own))
  where
    lower : (x : ℕ) → g.first ≤ end_of next → x < g.first → x < end_of next
    lower x a b = omega arith

-- and what earlier links left behind has handles below those of the link
pub low_handles : {s : ℕ} {late : List ℕ} {p : Peer} {next : Option ℕ} {us : List Untaken} {submitted : List SubmittedCommand} {A : List Entry} (u : Untaken) → GoodSince s late p next us submitted A → IsIn u us →
    AllByRecursion (λ h. h < u.command.handle) late
low_handles {s} {late} {next} {us} u g i =
    let n = near_of s g.first (end_of next) u us g.good.untaken i in
    each_map (λ h q. lower h q n.0) late g.good.low
  where
    lower : (x : ℕ) → x < g.first → g.first ≤ u.command.handle → x < u.command.handle
    lower x a b = omega arith

pub untaken_served : (w : ℕ) (A : List Entry) (u : Untaken) → AllBelow u.command.handle (outside w A) →
    ((e : Entry) → entry_under u.command.handle (window w A) ≡ Some e → e.command ≡ u.command) → IsServed (judgement w A u.command)
untaken_served w A u low same = never_old w u.command A low (λ e q. rw (same e q) (asks_itself u.command))

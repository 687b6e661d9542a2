-- From which moment on something is due, and which answer is there first.
use Rattle.oca_control.proofs.Words.{◌≡◌, ℕ, ◌+◌, ◌-◌, ◌^◌, ◌<◌, ◌≤◌, Bool, true, false, cond, ◌||◌, max, List, [], ◌∷◌, ◌++◌, Option, Some, None, refl, sym, ap, ◌∙◌, subst, arith, append-nil, nat_lt}
use Rattle.oca_control.proofs.Words.{nat_le, list_any, le-leb, lt-leb, HoldsFrom, Untaken, is_due, is_late, first_due, first_answered, LinkState, command_under, GivesCommand, GivesKeepAlive}
use Rattle.oca_control.proofs.Words.{GivesNothing, IsLost, decision_among, decision, IsNextDue, NeverIsDue, Held, held_at, held_is_due, held_is_late, held_answer, untaken_at, some_due, on_bool}
use Rattle.std.specs.Prelude.{is_some}
use Rattle.oca_types.proofs.MomentTests.{same_test}
use Rattle.oca_control.specs.PrivateSlots.{untaken_from}
use Rattle.oca_control.proofs.Places.{split, step, done}

-- ---- a walk through the handles

-- one handle more was gone through
grown : (lo h : ℕ) (slots : List (Option Held)) → lo ≤ h → untaken_from lo (h + 1 - lo) slots ≡ untaken_from lo (h - lo) slots ++ untaken_at h (held_at h slots)
unfolding untaken_from
grown lo h slots above = by (h - lo) (omega arith) (omega arith)
  where
    by : (m : ℕ) → lo + m ≡ h → h + 1 - lo ≡ m + 1 → untaken_from lo (h + 1 - lo) slots ≡ untaken_from lo m slots ++ untaken_at h (held_at h slots)
    by m e f =
        ap (λ n. untaken_from lo n slots) f
        ∙ split lo m 1 slots
        ∙ ap (λ us. untaken_from lo m slots ++ us) (append-nil (untaken_at (lo + m) (held_at (lo + m) slots)))
        ∙ ap (λ k. untaken_from lo m slots ++ untaken_at k (held_at k slots)) e

due_more : (s : ℕ) (us vs : List Untaken) → some_due (us ++ vs) s ≡ (some_due us s || some_due vs s)
due_more s [] vs = refl
due_more s (u ∷ us) vs =
    on_bool (is_due s u) (λ b. is_some (first_due s (us ++ vs)) ≡ (is_some (first_due s us) || is_some (first_due s vs)) → is_some (cond b (Some u) (first_due s (us ++ vs))) ≡ (is_some (cond b (Some u) (first_due s us)) || is_some (first_due s vs)))
    (λ rest. refl) (λ rest. rest) (due_more s us vs)

one_due : (h s : ℕ) (o : Option Held) → some_due (untaken_at h o) s ≡ held_is_due s o
one_due h s None = refl
one_due h s (Some k) =
    by_test (held_is_due s (Some k)) (record { command = command_under h k.request; submitted = k.submitted; times = k.times; last = k.last; answer = k.answer })
  where
    by_test : (b : Bool) (u : Untaken) → is_some (cond b (Some u) None) ≡ b
    by_test true u = refl
    by_test false u = refl

-- Among no handles none is due, at any moment.
pub none_from : (lo : ℕ) (slots : List (Option Held)) → HoldsFrom (some_due (untaken_from lo (lo - lo) slots)) None
none_from lo slots = λ s below. ap (λ us. some_due us s) (done lo lo slots (omega arith))

-- From which moment on one of the handles up to h is due, is from which on one of those before h is, or h itself.
pub from_more : (lo h : ℕ) (slots : List (Option Held)) (k : Option Held) (o : Option ℕ) → lo ≤ h → held_at h slots ≡ k →
    HoldsFrom (λ s. some_due (untaken_from lo (h - lo) slots) s || held_is_due s k) o → HoldsFrom (some_due (untaken_from lo (h + 1 - lo) slots)) o
from_more lo h slots k o above read =
    same_test (λ s. some_due (untaken_from lo (h - lo) slots) s || held_is_due s k) (some_due (untaken_from lo (h + 1 - lo) slots)) o
    (λ s. ap (λ us. some_due us s) (grown lo h slots above)
    ∙ due_more s (untaken_from lo (h - lo) slots) (untaken_at h (held_at h slots))
    ∙ ap (λ x. some_due (untaken_from lo (h - lo) slots) s || x) (one_due h s (held_at h slots) ∙ ap (held_is_due s) read))

-- Where the first handle has no answer, the lowest answered one is that of the handles above it.
pub not_answered : (lo hi : ℕ) (slots : List (Option Held)) → lo < hi → is_some (held_answer (held_at lo slots)) ≡ false →
    first_answered (untaken_from lo (hi - lo) slots) ≡ first_answered (untaken_from (lo + 1) (hi - (lo + 1)) slots)
not_answered lo hi slots below not_so = ap first_answered (step lo hi slots below) ∙ by (held_at lo slots) not_so
  where
    by : (o : Option Held) → is_some (held_answer o) ≡ false → first_answered (untaken_at lo o ++ untaken_from (lo + 1) (hi - (lo + 1)) slots) ≡ first_answered (untaken_from (lo + 1) (hi - (lo + 1)) slots)
    by None not_so = refl
    by (Some k) not_so = ap (λ b. cond b (Some lo) (first_answered (untaken_from (lo + 1) (hi - (lo + 1)) slots))) not_so

-- The lowest answered handle is the first one where that has its answer.
pub answered_here : (lo hi : ℕ) (slots : List (Option Held)) → lo < hi → is_some (held_answer (held_at lo slots)) ≡ true →
    first_answered (untaken_from lo (hi - lo) slots) ≡ Some lo
answered_here lo hi slots below so = ap first_answered (step lo hi slots below) ∙ by (held_at lo slots) so
  where
    by : (o : Option Held) → is_some (held_answer o) ≡ true → first_answered (untaken_at lo o ++ untaken_from (lo + 1) (hi - (lo + 1)) slots) ≡ Some lo
    by None so = cc
    by (Some k) so = ap (λ b. cond b (Some lo) (first_answered (untaken_from (lo + 1) (hi - (lo + 1)) slots))) so

-- Among no handles none is answered.
pub none_answered : (lo hi : ℕ) (slots : List (Option Held)) → hi ≤ lo → first_answered (untaken_from lo (hi - lo) slots) ≡ None
none_answered lo hi slots p = ap first_answered (done lo hi slots p)

-- Where the first handle is not late, one is late just where one of those above it is.
pub not_late : (now lo hi : ℕ) (slots : List (Option Held)) → lo < hi → held_is_late now (held_at lo slots) ≡ false →
    list_any (is_late now) (untaken_from lo (hi - lo) slots) ≡ list_any (is_late now) (untaken_from (lo + 1) (hi - (lo + 1)) slots)
not_late now lo hi slots below not_so = ap (list_any (is_late now)) (step lo hi slots below) ∙ by (held_at lo slots) not_so
  where
    by : (o : Option Held) → held_is_late now o ≡ false →
        list_any (is_late now) (untaken_at lo o ++ untaken_from (lo + 1) (hi - (lo + 1)) slots) ≡ list_any (is_late now) (untaken_from (lo + 1) (hi - (lo + 1)) slots)
    by None not_so = refl
    by (Some k) not_so = ap (λ b. b || list_any (is_late now) (untaken_from (lo + 1) (hi - (lo + 1)) slots)) not_so

-- One is late where the first is.
pub late_here : (now lo hi : ℕ) (slots : List (Option Held)) → lo < hi → held_is_late now (held_at lo slots) ≡ true →
    list_any (is_late now) (untaken_from lo (hi - lo) slots) ≡ true
late_here now lo hi slots below so = ap (list_any (is_late now)) (step lo hi slots below) ∙ by (held_at lo slots) so
  where
    by : (o : Option Held) → held_is_late now o ≡ true → list_any (is_late now) (untaken_at lo o ++ untaken_from (lo + 1) (hi - (lo + 1)) slots) ≡ true
    by None so = cc
    by (Some k) so = ap (λ b. b || list_any (is_late now) (untaken_from (lo + 1) (hi - (lo + 1)) slots)) so

-- Among no handles none is late.
pub none_late : (now lo hi : ℕ) (slots : List (Option Held)) → hi ≤ lo → list_any (is_late now) (untaken_from lo (hi - lo) slots) ≡ false
none_late now lo hi slots p = ap (list_any (is_late now)) (done lo hi slots p)

-- ---- what is decided at a moment

module _ (l : LinkState) (going : l.lost ≡ false) where
  decided_at : (s : ℕ) → l.moment ≤ s → decision s l ≡ decision_among s l.sent (first_due s l.untaken)
  decided_at s own =
      ap (λ b. cond b IsLost (decision_among (max l.moment s) l.sent (first_due (max l.moment s) l.untaken))) going
      ∙ ap (λ t. decision_among t l.sent (first_due t l.untaken)) (greater l.moment s own)
    where
      greater : (m s : ℕ) → m ≤ s → max m s ≡ s
      greater m s p = omega arith

  quiet : (s : ℕ) → l.moment ≤ s → (some_due l.untaken s || nat_le 2500 (s - l.sent)) ≡ false → decision s l ≡ GivesNothing
  quiet s own none = decided_at s own ∙ by (first_due s l.untaken) none
    where
      by : (o : Option Untaken) → (is_some o || nat_le 2500 (s - l.sent)) ≡ false → decision_among s l.sent o ≡ GivesNothing
      by None e = ap (λ b. cond b GivesKeepAlive GivesNothing) e
      by (Some u) e = cc

  loud : (s : ℕ) → l.moment ≤ s → (some_due l.untaken s || nat_le 2500 (s - l.sent)) ≡ true → decision s l ≡ GivesNothing → ⊥
  loud s own some nothing = by (first_due s l.untaken) some (sym (decided_at s own) ∙ nothing)
    where
      by_times : (b : Bool) (u : Untaken) → cond b (GivesCommand u.command) IsLost ≡ GivesNothing → ⊥
      by_times true u e = cc
      by_times false u e = cc

      by_silence : (b : Bool) → b ≡ true → cond b GivesKeepAlive GivesNothing ≡ GivesNothing → ⊥
      by_silence true p e = cc
      by_silence false p e = cc

      by : (o : Option Untaken) → (is_some o || nat_le 2500 (s - l.sent)) ≡ true → decision_among s l.sent o ≡ GivesNothing → ⊥
      by None p e = by_silence (nat_le 2500 (s - l.sent)) p e
      by (Some u) p e = by_times (nat_lt u.times 20) u e

  pub next_some : (o : Option ℕ) (first t : ℕ) → HoldsFrom (λ s. some_due l.untaken s || nat_le 2500 (s - l.sent)) o → o ≡ Some first → t ≡ max first l.moment → t < 2 ^ 64 → IsNextDue l t
  next_some o first t p is latest fits = record {
    own = omega arith;
    due = loud t (omega arith) (at t fits ∙ le-leb first t (omega arith));
    earlier = λ s own below. quiet s own (at s (omega arith) ∙ lt-leb first s (omega arith));
  }
    where
      at : (s : ℕ) → s < 2 ^ 64 → (some_due l.untaken s || nat_le 2500 (s - l.sent)) ≡ nat_le first s
      at = subst (HoldsFrom (λ s. some_due l.untaken s || nat_le 2500 (s - l.sent))) is p

  pub next_none : (o : Option ℕ) → HoldsFrom (λ s. some_due l.untaken s || nat_le 2500 (s - l.sent)) o → o ≡ None → NeverIsDue l
  next_none o p is = record { never = λ s own fits. quiet s own (subst (HoldsFrom (λ s. some_due l.untaken s || nat_le 2500 (s - l.sent))) is p s fits) }

-- When all that is due was sent, nothing is left.
use Rattle.oca_control.proofs.Words.{◌≡◌, ℕ, zero, suc, ◌+◌, ◌-◌, ◌<◌, ◌≤◌, Bool, true, false, cond, ◌&&◌, ◌||◌, max, List, [], ◌∷◌, length, map, Option, Some, None, is_none, refl, sym, ap, ◌∙◌}
use Rattle.oca_control.proofs.Words.{arith, subst, nat_eq, nat_lt, nat_le, list_any, eqb, nat_tests, and-false, le_refl, zero-lt-suc, CommandFields, Untaken, is_due, first_due, marked_sent, LinkState}
use Rattle.oca_control.proofs.Words.{present_moment, Decision, GivesCommand, GivesKeepAlive, GivesNothing, IsLost, decision, decision_among, after_due, EndState, DriveReport, decides_lost, goes_on}
use Rattle.oca_control.proofs.Words.{NothingIsLeft, on_bool}
use Rattle.oca_control.specs.Driving.{decisions_from, link_from, SendsDue}
use Rattle.oca_control.proofs.Following.{equal_self}
use Rattle.oca_control.proofs.Calls.{is_given}

-- ---- how many are due

-- How many commands are due at a moment.
abbrev pub due_count : ℕ → List Untaken → ℕ
due_count t [] = 0
due_count t (u ∷ us) = cond (is_due t u) 1 0 + due_count t us

-- No more commands are due than there are.
pub count_length : (t : ℕ) (us : List Untaken) → due_count t us ≤ length us
count_length t [] = omega arith
count_length t (u ∷ us) = one_more (is_due t u) (due_count t us) (length us) (count_length t us)
  where
    one_more : (b : Bool) (n k : ℕ) → n ≤ k → cond b 1 0 + n ≤ suc k
    one_more true n k p = omega arith
    one_more false n k p = omega arith

-- Where no command is the first due one, the count of due ones is 0.
pub none_counted : (t : ℕ) (us : List Untaken) → first_due t us ≡ None → due_count t us ≡ 0
none_counted t [] e = refl
none_counted t (u ∷ us) e = on_bool (is_due t u) (λ b. cond b (Some u) (first_due t us) ≡ None → (first_due t us ≡ None → due_count t us ≡ 0) → cond b 1 0 + due_count t us ≡ 0)
    (λ e rest. cc) (λ e rest. let z : due_count t us ≡ 0 = rest e in omega arith) e (none_counted t us)

-- what was just sent is not due
rested : (t : ℕ) (u : Untaken) → (is_none u.answer && (nat_eq (u.times + 1) 0 || nat_le 250 (t - t))) ≡ false
rested t u = ap (λ b. is_none u.answer && b) (young t u.times) ∙ and-false (is_none u.answer)
  where
    young : (t n : ℕ) → (nat_eq (n + 1) 0 || nat_le 250 (t - t)) ≡ false
    young t n = ap (λ b. b || nat_le 250 (t - t)) (never n) ∙ no_time t
      where
        never : (n : ℕ) → nat_eq (n + 1) 0 ≡ false
        never n = grind (arith, nat_tests)

        no_time : (t : ℕ) → nat_le 250 (t - t) ≡ false
        no_time t = grind (arith, nat_tests)

given_is_due : (t h : ℕ) (u : Untaken) → cond (is_due t (marked_sent t h u)) 1 0 ≤ cond (is_due t u) 1 0
given_is_due t h u = on_bool (eqb u.command.handle h) (λ b. cond (is_none u.answer && (nat_eq (cond b (u.times + 1) u.times) 0 || nat_le 250 (t - cond b t u.last))) 1 0 ≤ cond (is_due t u) 1 0)
    (subst (λ (z : Bool). cond z 1 0 ≤ cond (is_due t u) 1 0) (sym (rested t u)) (least (cond (is_due t u) 1 0))) (le_refl (cond (is_due t u) 1 0))
  where
    least : (n : ℕ) → 0 ≤ n
    least n = omega arith

not_more : (t h : ℕ) (us : List Untaken) → due_count t (map (marked_sent t h) us) ≤ due_count t us
not_more t h [] = omega arith
not_more t h (u ∷ us) =
    both (cond (is_due t (marked_sent t h u)) 1 0) (cond (is_due t u) 1 0) (due_count t (map (marked_sent t h) us)) (due_count t us) (given_is_due t h u) (not_more t h us)
  where
    both : (a b c d : ℕ) → a ≤ b → c ≤ d → a + c ≤ b + d
    both a b c d p q = omega arith

-- Sending the first due command leaves fewer due at that moment.
pub fewer_given : (t : ℕ) (us : List Untaken) (u : Untaken) → first_due t us ≡ Some u → due_count t (map (marked_sent t u.command.handle) us) < due_count t us
fewer_given t [] u e = cc
fewer_given t (v ∷ us) u e = by (is_due t v) refl e (fewer_given t us u)
  where
    h : ℕ
    h = u.command.handle

    here : eqb v.command.handle h ≡ true → is_due t (marked_sent t h v) ≡ false
    here same = ap (λ b. is_none v.answer && (nat_eq (cond b (v.times + 1) v.times) 0 || nat_le 250 (t - cond b t v.last))) same ∙ rested t v

    by : (b : Bool) → is_due t v ≡ b → cond b (Some v) (first_due t us) ≡ Some u →
        (first_due t us ≡ Some u → due_count t (map (marked_sent t h) us) < due_count t us) →
        cond (is_due t (marked_sent t h v)) 1 0 + due_count t (map (marked_sent t h) us) < cond b 1 0 + due_count t us
    by true q e rest =
        let same : v ≡ u = cc in
        let its : eqb v.command.handle h ≡ true = ap (λ (w : Untaken). eqb w.command.handle h) same ∙ equal_self h in
        subst (λ (z : Bool). cond z 1 0 + due_count t (map (marked_sent t h) us) < 1 + due_count t us) (sym (here its))
        (below (due_count t (map (marked_sent t h) us)) (due_count t us) (not_more t h us))
      where
        below : (a b : ℕ) → a ≤ b → 0 + a < 1 + b
        below a b p = omega arith
    by false q e rest =
        let none : cond (is_due t (marked_sent t h v)) 1 0 ≤ 0 = subst (λ (z : Bool). cond (is_due t (marked_sent t h v)) 1 0 ≤ cond z 1 0) q (given_is_due t h v) in
        below (cond (is_due t (marked_sent t h v)) 1 0) (due_count t (map (marked_sent t h) us)) (due_count t us) none (rest e)
      where
        below : (a b c : ℕ) → a ≤ 0 → b < c → a + b < 0 + c
        below a b c p q = omega arith

-- ---- what is decided

-- Nothing is to be sent where the link is not lost, no command is due, and less than 2,500 ms passed since
-- something was sent.
pub decided_nothing : (l : LinkState) (now t : ℕ) → present_moment now l ≡ t → l.lost ≡ false → first_due t l.untaken ≡ None → nat_le 2500 (t - l.sent) ≡ false → decision now l ≡ GivesNothing
decided_nothing l now t at going none silent =
    ap (λ k. cond l.lost IsLost (decision_among k l.sent (first_due k l.untaken))) at
    ∙ ap (λ b. cond b IsLost (decision_among t l.sent (first_due t l.untaken))) going
    ∙ ap (λ o. decision_among t l.sent o) none
    ∙ ap (λ b. cond b GivesKeepAlive GivesNothing) silent

-- what is decided where no command is sent, and where nothing is
pub record IsQuiet (t sent : ℕ) (lost : Bool) (us : List Untaken) (keeps : Bool) : Type 0 where
  pub going : lost ≡ false
  pub none : first_due t us ≡ None
  pub silent : nat_le 2500 (t - sent) ≡ keeps

abbrev quiet_decision : Bool → Decision
quiet_decision keeps = cond keeps GivesKeepAlive GivesNothing

-- Where a keep-alive or nothing is to be sent, the link is not lost, no command is due, and the time since
-- something was sent decides which.
pub is_quiet : (t sent : ℕ) (lost : Bool) (us : List Untaken) (keeps : Bool) → cond lost IsLost (decision_among t sent (first_due t us)) ≡ quiet_decision keeps → IsQuiet t sent lost us keeps
is_quiet t sent true us true e = cc
is_quiet t sent true us false e = cc
is_quiet t sent false us keeps e = by_first (first_due t us) refl e
  where
    by_times : (b : Bool) (u : Untaken) → (keeps : Bool) → cond b (GivesCommand u.command) IsLost ≡ quiet_decision keeps → IsQuiet t sent false us keeps
    by_times true u true e = cc
    by_times true u false e = cc
    by_times false u true e = cc
    by_times false u false e = cc

    by_silence : (b : Bool) → nat_le 2500 (t - sent) ≡ b → first_due t us ≡ None → (keeps : Bool) → quiet_decision b ≡ quiet_decision keeps → IsQuiet t sent false us keeps
    by_silence true q none true e = record { going = refl; none = none; silent = q }
    by_silence true q none false e = cc
    by_silence false q none true e = cc
    by_silence false q none false e = record { going = refl; none = none; silent = q }

    by_first : (o : Option Untaken) → first_due t us ≡ o → decision_among t sent o ≡ quiet_decision keeps → IsQuiet t sent false us keeps
    by_first None q e = by_silence (nat_le 2500 (t - sent)) refl q keeps e
    by_first (Some u) q e = by_times (nat_lt u.times 20) u keeps e

-- ---- all that is due

pub some_more : (n : ℕ) → 0 < n + 1
some_more n = omega arith

-- A moment that was taken in already changes nothing.
pub again : (m now : ℕ) → max (max m now) now ≡ max m now
again m now = omega arith

-- The link's own moment changes nothing.
pub own : (m : ℕ) → max m m ≡ m
own m = omega arith

pub no_silence : (t : ℕ) → nat_le 2500 (t - t) ≡ false
no_silence t = grind (arith, nat_tests)

-- so many calls of `due` suffice where fewer commands are due
pub left_from : (n now : ℕ) (l : LinkState) → due_count (present_moment now l) l.untaken < n → (link_from now n l).lost ≡ false → NothingIsLeft (link_from now n l)
unfolding link_from
left_from zero now l few going = absurd (never (due_count (present_moment now l) l.untaken) few)
  where
    never : (n : ℕ) → n < 0 → ⊥
    never n p = omega arith
left_from (suc n) now l few going = by (decision now l) refl going (λ x. left_from n now x)
  where
    t : ℕ
    t = present_moment now l

    fewer : (a b c : ℕ) → a < b → b < suc c → a < c
    fewer a b c p q = omega arith

    at_zero : (m : ℕ) (x : LinkState) → decision now x ≡ GivesNothing → x.moment ≡ max l.moment now → (link_from now m x).lost ≡ false → NothingIsLeft (link_from now m x)
    at_zero m x e at going = by_calls m
      where
        here : (y : LinkState) → y ≡ (let z : LinkState = record x { moment = present_moment now x } in z) → NothingIsLeft y
        here y is = let q = is_quiet (present_moment now x) x.sent x.lost x.untaken false e in
            subst NothingIsLeft (sym is) (decided_nothing (record x { moment = present_moment now x }) (present_moment now x) (present_moment now x) (own (present_moment now x)) q.going q.none q.silent)

        by_calls : (m : ℕ) → NothingIsLeft (link_from now m x)
        by_calls zero = here x (ap (λ k. let z : LinkState = record x { moment = k } in z) (sym (ap (λ k. max k now) at ∙ again l.moment now ∙ sym at)))
        by_calls (suc m) = subst (λ (d : Decision). NothingIsLeft (cond (goes_on d) (link_from now m (after_due d (present_moment now x) x)) (after_due d (present_moment now x) x))) (sym e) (here (after_due GivesNothing (present_moment now x) x) refl)

    by : (d : Decision) → decision now l ≡ d → (cond (goes_on d) (link_from now n (after_due d t l)) (after_due d t l)).lost ≡ false →
        ((x : LinkState) → due_count (present_moment now x) x.untaken < n → (link_from now n x).lost ≡ false → NothingIsLeft (link_from now n x)) →
        NothingIsLeft (cond (goes_on d) (link_from now n (after_due d t l)) (after_due d t l))
    by (GivesCommand c) e going rest =
        let i = is_given t l.sent l.lost c l.untaken e in
        let handle : i.given.command.handle ≡ c.handle = ap (λ (x : CommandFields). x.handle) i.command_is in
        let less : due_count t (map (marked_sent t c.handle) l.untaken) < due_count t l.untaken =
        subst (λ (k : ℕ). due_count t (map (marked_sent t k) l.untaken) < due_count t l.untaken) handle (fewer_given t l.untaken i.given i.first_is) in
        rest (after_due (GivesCommand c) t l)
        (subst (λ (k : ℕ). due_count k (map (marked_sent t c.handle) l.untaken) < n) (sym (again l.moment now))
        (fewer (due_count t (map (marked_sent t c.handle) l.untaken)) (due_count t l.untaken) n less few)) going
    by GivesKeepAlive e going rest =
        let q = is_quiet t l.sent l.lost l.untaken true e in
        at_zero n (after_due GivesKeepAlive t l) (decided_nothing (after_due GivesKeepAlive t l) now t (again l.moment now) q.going q.none (no_silence t)) refl going
    by GivesNothing e going rest =
        let q = is_quiet t l.sent l.lost l.untaken false e in
        decided_nothing (after_due GivesNothing t l) t t (own t) q.going q.none q.silent
    by IsLost e going rest = let never : true ≡ false = going in cc

-- a link that is lost stays so
pub lost_stays : (n now : ℕ) (l : LinkState) → l.lost ≡ true → (link_from now n l).lost ≡ true
unfolding link_from
lost_stays zero now l e = e
lost_stays (suc n) now l e = subst (λ (d : Decision). (cond (goes_on d) (link_from now n (after_due d (present_moment now l) l)) (after_due d (present_moment now l) l)).lost ≡ true) (sym is) refl
  where
    is : decision now l ≡ IsLost
    is = ap (λ b. cond b IsLost (decision_among (present_moment now l) l.sent (first_due (present_moment now l) l.untaken))) e

-- A link that is not lost after calls of `due` was not lost before.
pub not_lost_before : (n now : ℕ) (l : LinkState) → (link_from now n l).lost ≡ false → l.lost ≡ false
not_lost_before n now l e = on_bool l.lost (λ b. l.lost ≡ b → b ≡ false) (λ q. let never : true ≡ false = sym (lost_stays n now l q) ∙ e in cc) (λ q. refl) refl

-- whether a call found the link lost, it shows
pub lost_from : (n now : ℕ) (l : LinkState) → 0 < n → list_any decides_lost (decisions_from now n l) ≡ (link_from now n l).lost
unfolding decisions_from link_from
lost_from zero now l p = absurd (never p)
  where
    never : 0 < 0 → ⊥
    never p = omega arith
lost_from (suc n) now l p = by (decision now l) refl (λ x some. lost_from n now x some)
  where
    going : (d : Decision) → decision now l ≡ d → decides_lost d ≡ false → l.lost ≡ false
    going d e not = on_bool l.lost (λ b. l.lost ≡ b → b ≡ false) (λ q. let same : d ≡ IsLost = sym e ∙ is q in let z : true ≡ false = sym (ap decides_lost same) ∙ not in cc) (λ q. refl) refl
      where
        is : l.lost ≡ true → decision now l ≡ IsLost
        is q = ap (λ b. cond b IsLost (decision_among (present_moment now l) l.sent (first_due (present_moment now l) l.untaken))) q

    rest : (m : ℕ) (x : LinkState) → m ≡ n → x.lost ≡ false → ((y : LinkState) → 0 < n → list_any decides_lost (decisions_from now n y) ≡ (link_from now n y).lost) →
        list_any decides_lost (decisions_from now m x) ≡ (link_from now m x).lost
    rest zero x same e further = sym e
    rest (suc m) x same e further = subst (λ (k : ℕ). list_any decides_lost (decisions_from now k x) ≡ (link_from now k x).lost) (sym same) (further x (subst (λ (k : ℕ). 0 < k) same (zero-lt-suc m)))

    by : (d : Decision) → decision now l ≡ d → ((y : LinkState) → 0 < n → list_any decides_lost (decisions_from now n y) ≡ (link_from now n y).lost) →
        (decides_lost d || list_any decides_lost (cond (goes_on d) (decisions_from now n (after_due d (present_moment now l) l)) []))
        ≡ (cond (goes_on d) (link_from now n (after_due d (present_moment now l) l)) (after_due d (present_moment now l) l)).lost
    by (GivesCommand c) e further = rest n (after_due (GivesCommand c) (present_moment now l) l) refl (going (GivesCommand c) e refl) further
    by GivesKeepAlive e further = rest n (after_due GivesKeepAlive (present_moment now l) l) refl (going GivesKeepAlive e refl) further
    by GivesNothing e further = sym (going GivesNothing e refl)
    by IsLost e further = refl

-- the moment after it
pub moment_from : (n now : ℕ) (l : LinkState) → 0 < n → (link_from now n l).moment ≡ present_moment now l
unfolding link_from
moment_from zero now l p = absurd (never p)
  where
    never : 0 < 0 → ⊥
    never p = omega arith
moment_from (suc n) now l p = by (decision now l) (λ x some. moment_from n now x some)
  where
    rest : (m : ℕ) (x : LinkState) → m ≡ n → x.moment ≡ present_moment now l → ((y : LinkState) → 0 < n → (link_from now n y).moment ≡ present_moment now y) → (link_from now m x).moment ≡ present_moment now l
    rest zero x same e further = e
    rest (suc m) x same e further =
        subst (λ (k : ℕ). (link_from now k x).moment ≡ present_moment now l) (sym same) (further x (subst (λ (k : ℕ). 0 < k) same (zero-lt-suc m)) ∙ ap (λ k. max k now) e ∙ again l.moment now)

    by : (d : Decision) → ((y : LinkState) → 0 < n → (link_from now n y).moment ≡ present_moment now y) → (cond (goes_on d) (link_from now n (after_due d (present_moment now l) l)) (after_due d (present_moment now l) l)).moment ≡ present_moment now l
    by (GivesCommand c) further = rest n (after_due (GivesCommand c) (present_moment now l) l) refl refl further
    by GivesKeepAlive further = rest n (after_due GivesKeepAlive (present_moment now l) l) refl refl further
    by _ further = refl

-- ---- what was sent

-- What was sent is reported as lost just where the link is lost, if `due` was called at all.
pub gave_lost : {now n : ℕ} {old new : LinkState} {e f : EndState} {r : DriveReport} → SendsDue now n old new e f r → 0 < n → r.lost ≡ new.lost
gave_lost {now} {n} {old} g some = ap (λ (x : DriveReport). x.lost) g.reported ∙ lost_from n now old some ∙ sym (ap (λ (l : LinkState). l.lost) g.link)

-- Where no more commands are untaken than the span has handles, nothing is left to send after one call of `due`
-- more than that, unless the link is reported lost.
pub gave_left : {now : ℕ} {old new : LinkState} {e f : EndState} {r : DriveReport} → SendsDue now (old.span + 1) old new e f r → length old.untaken ≤ old.span → r.lost ≡ false → NothingIsLeft new
gave_left {now} {old} {new} g few going =
    subst NothingIsLeft (sym g.link)
    (left_from (old.span + 1) now old (small (due_count (present_moment now old) old.untaken) (length old.untaken) (count_length (present_moment now old) old.untaken) few)
    (sym (ap (λ (l : LinkState). l.lost) g.link) ∙ sym (gave_lost g (some_more old.span)) ∙ going))
  where
    small : (a b : ℕ) → a ≤ b → b ≤ old.span → a < old.span + 1
    small a b p q = omega arith

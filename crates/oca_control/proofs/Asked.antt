-- A link that runs is asked in time.
use Rattle.oca_control.proofs.Words.{◌≡◌, ℕ, zero, suc, ◌+◌, ◌-◌, ◌*◌, ◌<◌, ◌≤◌, Bool, true, false, cond, not, max, List, [], ◌∷◌, ◌++◌, length, map, Option, Some, None, Ok, Err, is_some, refl, sym}
use Rattle.oca_control.proofs.Words.{ap, ◌∙◌, arith, subst, append_assoc, append-nil, nat_le, AllByRecursion, eqb, leb-true, leb-false, le_refl, Peer, Handle, CommandFields, RequestFields, same_peer}
use Rattle.oca_control.proofs.Words.{Delivery, Datagram, Quiet, Failed, AnswerFields, Untaken, is_due, first_due, marked_sent, answer_under, without_handle, LinkState, present_moment, late_at}
use Rattle.oca_control.proofs.Words.{submission, submitted, after_submission, Decision, GivesCommand, GivesKeepAlive, GivesNothing, IsLost, decision, due_answer, due_bytes, after_due, taken, Call}
use Rattle.oca_control.proofs.Words.{Submits, SendsDue, Receives, TakesAnswer, IsCall, IsHistory, clock_of_calls, commands, sendings, last_asked, IsAskedEvery, IsWaiting, IsSentInTime, goes_on}
use Rattle.oca_control.proofs.Words.{HearsDelivery, DrivesTurn, TurnsInTime, beginning, NothingIsLeft, HasTimeLeft, HaveTimeLeft, HasTimeAt, delivered_at, AreWithin, IsRun, NothingDone, DroveATurn}
use Rattle.oca_control.proofs.Words.{TookATurn, SentAllDue, SentAllInTime, Began, Took, BecomesBy, IsAsked, CommandIsInTime, on_bool}
use Rattle.oca_control.specs.declared.fault.ControlFault.TheVariants as faults
use Rattle.oca_control.specs.Driving.{link_from}
use Rattle.oca_control.proofs.Following.{each_map}
use Rattle.oca_control.proofs.Calls.{is_given, each_without}
use Rattle.oca_control.proofs.Dues.{Rises}
use Rattle.oca_control.proofs.Histories.{holds_after}
use Rattle.oca_control.proofs.InTime.{in_time}
use Rattle.oca_control.proofs.Lifetimes.{few_sendings, Fits, fits_soon, fits_received, fits_from, fits_submitted, fits_at, calm_fits, time_of}
use Rattle.oca_control.proofs.Settling.{due_count, count_length, none_counted, fewer_given, decided_nothing, is_quiet, again, some_more, left_from, not_lost_before, moment_from}

-- ---- moments

abbrev latest : ℕ → List ℕ → ℕ
latest since [] = since
latest since (t ∷ ts) = latest (max since t) ts

within_more : (ms since : ℕ) (ts : List ℕ) (t : ℕ) → AreWithin ms since (ts ++ t ∷ []) → AreWithin ms since ts × (t ≤ latest since ts + ms)
within_more ms since [] t w = (tt, w.0)
within_more ms since (x ∷ ts) t w = let r = within_more ms (max since x) ts t w.1 in ((w.0, r.0), r.1)

latest_more : (since : ℕ) (ts : List ℕ) (t : ℕ) → latest since (ts ++ t ∷ []) ≡ max (latest since ts) t
latest_more since [] t = refl
latest_more since (x ∷ ts) t = latest_more (max since x) ts t

-- ---- calls

made_more : (a b c : LinkState) (xs ys : List Call) → BecomesBy a xs b → BecomesBy b ys c → BecomesBy a (ys ++ xs) c
made_more a b c xs [] m n = subst (λ (l : LinkState). BecomesBy a xs l) (sym n) m
made_more a b c xs (call ∷ ys) m n = (n.0, made_more a b n.0 xs ys m n.1, n.2)

pub history_more : (device : Peer) (first opened s : ℕ) (before : List Call) (l new : LinkState) (calls : List Call) → IsHistory device first opened s before l → BecomesBy l calls new →
    IsHistory device first opened s (calls ++ before) new
history_more device first opened s before l new [] p m = subst (λ (x : LinkState). IsHistory device first opened s before x) (sym m) p
history_more device first opened s before l new (call ∷ calls) p m = (m.0, history_more device first opened s before l m.0 calls p m.1, m.2)

-- at most as many commands are untaken as the span has handles
few_rising : (lo n : ℕ) (us : List Untaken) → Rises us → AllByRecursion (λ u. lo ≤ u.command.handle) us → AllByRecursion (λ u. u.command.handle < n) us → length us ≤ n - lo
few_rising lo n [] r a b = omega arith
few_rising lo n (u ∷ us) r a b =
    one_more u.command.handle (length us) a.0 b.0 (few_rising (u.command.handle + 1) n us r.1 (each_map (λ v p. above u.command.handle v.command.handle p) us r.0) b.1)
  where
    above : (h k : ℕ) → h < k → h + 1 ≤ k
    above h k p = omega arith

    one_more : (h k : ℕ) → lo ≤ h → h < n → k ≤ n - (h + 1) → suc k ≤ n - lo
    one_more h k p q r = omega arith

few_untaken : (device : Peer) (first opened s : ℕ) (calls : List Call) (l : LinkState) → 0 < s → IsHistory device first opened s calls l → length l.untaken ≤ l.span
few_untaken device first opened s calls l some p =
    let g = holds_after device first opened s calls l some p in
    let n : ℕ = first + length (commands calls) in
    within n (length l.untaken) g.now.span_is
    (few_rising (n - s) n l.untaken g.others_are.rises
    (each_map (λ u q. from n u.command.handle q.near) l.untaken g.now.are_sent) (each_map (λ u q. q.below) l.untaken g.now.are_sent))
  where
    from : (n h : ℕ) → n ≤ h + s → n - s ≤ h
    from n h p = omega arith

    within : (n k : ℕ) → l.span ≡ s → k ≤ n - (n - s) → k ≤ l.span
    within n k e p = omega arith

-- fewer commands are due than the span has handles, and one
few_due : (device : Peer) (first opened s now : ℕ) (calls : List Call) (l : LinkState) → 0 < s → IsHistory device first opened s calls l → due_count (present_moment now l) l.untaken < l.span + 1
few_due device first opened s now calls l some p = few (due_count (present_moment now l) l.untaken) (length l.untaken) (count_length (present_moment now l) l.untaken) (few_untaken device first opened s calls l some p)
  where
    few : (a b : ℕ) → a ≤ b → b ≤ l.span → a < l.span + 1
    few a b p q = omega arith

-- ---- what is due is sent

record Gave (ms since : ℕ) (calls : List Call) (l new : LinkState) : Type 0 where
  pub more : List Call
  pub made : BecomesBy l more new
  pub every : IsAskedEvery ms since (more ++ calls)
  pub clock_is : clock_of_calls since (more ++ calls) ≡ new.moment
  pub asked_is : last_asked since (more ++ calls) ≡ new.moment

gave_from : (ms since n now : ℕ) (calls : List Call) (l : LinkState) → due_count (present_moment now l) l.untaken < n → clock_of_calls since calls ≡ l.moment → present_moment now l ≤ last_asked since calls + ms → IsAskedEvery ms since calls →
    Gave ms since calls l (link_from now n l)
unfolding link_from
gave_from ms since zero now calls l few at soon every = absurd (never (due_count (present_moment now l) l.untaken) few)
  where
    never : (n : ℕ) → n < 0 → ⊥
    never n p = omega arith
gave_from ms since (suc n) now calls l few at soon every = by (decision now l) refl (λ xs x. gave_from ms since n now xs x)
  where
    t : ℕ
    t = present_moment now l

    one : (d : Decision) → decision now l ≡ d → IsCall l (SendsDue now (due_answer d) (due_bytes d)) (after_due d t l)
    one d e = (ap due_answer (sym e), ap due_bytes (sym e), ap (λ x. after_due x t l) (sym e))

    clock_now : max (clock_of_calls since calls) now ≡ t
    clock_now = ap (λ m. max m now) at

    later : (a b : ℕ) → a ≡ b → a ≤ a + ms
    later a b e = omega arith

    ends : (d : Decision) → decision now l ≡ d → (after_due d t l).moment ≡ t → last_asked since (SendsDue now (due_answer d) (due_bytes d) ∷ calls) ≡ max (clock_of_calls since calls) now →
        Gave ms since calls l (after_due d t l)
    ends d e moment asked = record {
      more = SendsDue now (due_answer d) (due_bytes d) ∷ [];
      made = (l, refl, one d e);
      every = (subst (λ (k : ℕ). max (clock_of_calls since calls) now ≤ k + ms) (sym asked) (later (max (clock_of_calls since calls) now) t clock_now), every);
      clock_is = clock_now ∙ sym moment;
      asked_is = asked ∙ clock_now ∙ sym moment;
    }

    goes : (d : Decision) → decision now l ≡ d → (new : LinkState) → max (clock_of_calls since calls) now ≤ last_asked since (SendsDue now (due_answer d) (due_bytes d) ∷ calls) + ms →
        Gave ms since (SendsDue now (due_answer d) (due_bytes d) ∷ calls) (after_due d t l) new → Gave ms since calls l new
    goes d e new p r =
        let c : Call = SendsDue now (due_answer d) (due_bytes d) in
        let same = sym (append_assoc r.more (c ∷ []) calls) in
        record {
          more = r.more ++ c ∷ [];
          made = made_more l (after_due d t l) new (c ∷ []) r.more (l, refl, one d e) r.made;
          every = subst (IsAskedEvery ms since) same r.every;
          clock_is = sym (ap (clock_of_calls since) same) ∙ r.clock_is;
          asked_is = sym (ap (last_asked since) same) ∙ r.asked_is;
        }

    fewer : (a b : ℕ) → a < b → b < suc n → a < n
    fewer a b p q = omega arith

    at_t : (k : ℕ) → t ≤ k → max (clock_of_calls since calls) now ≤ k
    at_t k p = subst (λ (x : ℕ). x ≤ k) (sym clock_now) p

    by : (d : Decision) → decision now l ≡ d →
        ((xs : List Call) (x : LinkState) → due_count (present_moment now x) x.untaken < n → clock_of_calls since xs ≡ x.moment → present_moment now x ≤ last_asked since xs + ms → IsAskedEvery ms since xs → Gave ms since xs x (link_from now n x)) →
        Gave ms since calls l (cond (goes_on d) (link_from now n (after_due d t l)) (after_due d t l))
    by (GivesCommand c) e further =
        let i = is_given t l.sent l.lost c l.untaken e in
        let handle : i.given.command.handle ≡ c.handle = ap (λ (x : CommandFields). x.handle) i.command_is in
        let less : due_count t (map (marked_sent t c.handle) l.untaken) < due_count t l.untaken =
        subst (λ (k : ℕ). due_count t (map (marked_sent t k) l.untaken) < due_count t l.untaken) handle (fewer_given t l.untaken i.given i.first_is) in
        let near : max (clock_of_calls since calls) now ≤ last_asked since calls + ms = at_t (last_asked since calls + ms) soon in
        goes (GivesCommand c) e (link_from now n (after_due (GivesCommand c) t l)) near
        (further (SendsDue now (due_answer (GivesCommand c)) (due_bytes (GivesCommand c)) ∷ calls) (after_due (GivesCommand c) t l)
        (subst (λ (k : ℕ). due_count k (map (marked_sent t c.handle) l.untaken) < n) (sym (again l.moment now))
        (fewer (due_count t (map (marked_sent t c.handle) l.untaken)) (due_count t l.untaken) less few))
        clock_now (subst (λ (k : ℕ). k ≤ last_asked since calls + ms) (sym (again l.moment now)) soon) (near, every))
    by GivesKeepAlive e further = by_calls n refl
      where
        k : LinkState
        k = after_due GivesKeepAlive t l

        by_calls : (m : ℕ) → m ≡ n → Gave ms since calls l (link_from now n k)
        by_calls zero same = subst (λ (m : ℕ). Gave ms since calls l (link_from now m k)) same (ends GivesKeepAlive e refl refl)
        by_calls (suc m) same =
            let q = is_quiet t l.sent l.lost l.untaken true e in
            let near : max (clock_of_calls since calls) now ≤ max (clock_of_calls since calls) now + ms = later (max (clock_of_calls since calls) now) t clock_now in
            goes GivesKeepAlive e (link_from now n k) near
            (further (SendsDue now (due_answer GivesKeepAlive) (due_bytes GivesKeepAlive) ∷ calls) k
            (subst (λ (x : ℕ). due_count x l.untaken < n) (sym (again l.moment now)) (none m (due_count t l.untaken) same (none_counted t l.untaken q.none)))
            clock_now (last (max (max l.moment now) now) (max (clock_of_calls since calls) now) (again l.moment now) clock_now) (near, every))
          where
            none : (m c : ℕ) → suc m ≡ n → c ≡ 0 → c < n
            none m c p q = omega arith

            last : (a b : ℕ) → a ≡ t → b ≡ t → a ≤ b + ms
            last a b p q = omega arith
    by GivesNothing e further = ends GivesNothing e refl refl
    by IsLost e further = ends IsLost e refl refl

-- ---- the steps of a run

none_without : (t h : ℕ) (us : List Untaken) → first_due t us ≡ None → first_due t (without_handle h us) ≡ None
none_without t h [] e = refl
none_without t h (u ∷ us) e = by (eqb u.command.handle h) (is_due t u) refl e (none_without t h us)
  where
    by : (b d : Bool) → is_due t u ≡ d → cond d (Some u) (first_due t us) ≡ None → (first_due t us ≡ None → first_due t (without_handle h us) ≡ None) →
        first_due t (cond (not b) (u ∷ without_handle h us) (without_handle h us)) ≡ None
    by true true q e rest = cc
    by false true q e rest = cc
    by true false q e rest = rest e
    by false false q e rest = ap (λ c. cond c (Some u) (first_due t (without_handle h us))) q ∙ rest e

left_taken : (h : ℕ) (l : LinkState) → NothingIsLeft l → NothingIsLeft (taken h l)
left_taken h l left =
    let q = is_quiet (max l.moment l.moment) l.sent l.lost l.untaken false left in
    decided_nothing (taken h l) l.moment (max l.moment l.moment) refl q.going (by (answer_under h l.untaken) q.none) q.silent
  where
    by : (o : Option AnswerFields) → first_due (max l.moment l.moment) l.untaken ≡ None → first_due (max l.moment l.moment) (cond (is_some o) (without_handle h l.untaken) l.untaken) ≡ None
    by (Some a) e = none_without (max l.moment l.moment) h l.untaken e
    by None e = e

-- what is heard keeps the moment, and changes nothing of being lost
lost_heard : (d : Delivery) (l between : LinkState) (n : ℕ) → HearsDelivery d l between n → between.lost ≡ l.lost
lost_heard (Datagram from bytes now) l between n x = on_bool (nat_le (length bytes) 1472) (λ b. nat_le (length bytes) 1472 ≡ b → between.lost ≡ l.lost)
    (λ q. ap (λ (k : LinkState). k.lost) (x.short (leb-true (length bytes) 1472 q)).1.link_is) (λ q. ap (λ (k : LinkState). k.lost) (x.long (leb-false (length bytes) 1472 q)).0) refl
lost_heard _ l between n x = ap (λ (k : LinkState). k.lost) x.0

moment_heard : (d : Delivery) (l between : LinkState) (n : ℕ) → HearsDelivery d l between n → l.moment ≤ between.moment
moment_heard (Datagram from bytes now) l between n x = on_bool (nat_le (length bytes) 1472) (λ b. nat_le (length bytes) 1472 ≡ b → l.moment ≤ between.moment)
    (λ q. let e : between.moment ≡ max l.moment now = ap (λ (k : LinkState). k.moment) (x.short (leb-true (length bytes) 1472 q)).1.link_is in omega arith)
    (λ q. let e : between.moment ≡ l.moment = ap (λ (k : LinkState). k.moment) (x.long (leb-false (length bytes) 1472 q)).0 in omega arith) refl
moment_heard _ l between n x = let e : between.moment ≡ l.moment = ap (λ (k : LinkState). k.moment) x.0 in omega arith

lost_in_time : (now : ℕ) (l : LinkState) (b : Bool) → (cond b l (link_from now (l.span + 1) l)).lost ≡ false → l.lost ≡ false
lost_in_time now l true e = e
lost_in_time now l false e = not_lost_before (l.span + 1) now l e

-- each command fits after what was heard, as soon
fits_between : (ms now : ℕ) (l between : LinkState) (d : Delivery) (n : ℕ) → delivered_at d ≡ now ∷ [] → HearsDelivery d l between n → AllByRecursion (Fits ms (present_moment now l)) l.untaken → AllByRecursion (Fits ms (present_moment now between)) between.untaken
fits_between ms now l between (Datagram from bytes t) n same x fits =
    on_bool (nat_le (length bytes) 1472) (λ b. nat_le (length bytes) 1472 ≡ b → AllByRecursion (Fits ms (present_moment now between)) between.untaken)
    (λ q.
    let link = (x.short (leb-true (length bytes) 1472 q)).1.link_is in
    let content = (x.short (leb-true (length bytes) 1472 q)).1.content in
    subst (λ (k : ℕ). AllByRecursion (Fits ms k) between.untaken) (at_now moment between.moment (ap (λ (k : LinkState). k.moment) link)) (subst (λ (us : List Untaken). AllByRecursion (Fits ms
    (present_moment now l)) us) (sym (ap (λ (k : LinkState). k.untaken) link)) (fits_received ms (present_moment now l) (same_peer from l.device) content l.untaken fits)))
    (λ q. subst (λ (k : LinkState). AllByRecursion (Fits ms (present_moment now k)) k.untaken) (sym (x.long (leb-false (length bytes) 1472 q)).0) fits) refl
  where
    moment : t ≡ now
    moment = cc

    at_now : t ≡ now → (m : ℕ) → m ≡ max l.moment t → max l.moment now ≡ max m now
    at_now r m e = omega arith
fits_between ms now l between (Quiet t) n same x fits = subst (λ (k : LinkState). AllByRecursion (Fits ms (present_moment now k)) k.untaken) (sym x.0) fits
fits_between ms now l between Failed n same x fits = cc

-- a command that was begun
accepted_now : (request : RequestFields) (now : ℕ) (l : LinkState) (h : Handle) → beginning request now l ≡ Ok h → submission request l ≡ Ok h
accepted_now request now l h e = on_bool (late_at now l) (λ b. cond b (Err faults.Lost) (submission request l) ≡ Ok h → submission request l ≡ Ok h) (λ e. cc) (λ e. e) e

moment_submitted : (request : RequestFields) (now : ℕ) (l : LinkState) (h : Handle) → submission request l ≡ Ok h → (submitted request now l).moment ≡ max l.moment now
moment_submitted request now l h e = ap (λ a. (after_submission a request now l).moment) e

lost_submitted : (request : RequestFields) (now : ℕ) (l : LinkState) (h : Handle) → submission request l ≡ Ok h → (submitted request now l).lost ≡ l.lost
lost_submitted request now l h e = ap (λ a. (after_submission a request now l).lost) e

module _ (device : Peer) (first opened s : ℕ) (some : 0 < s) (ms : ℕ) (short : 20 * (250 + ms) ≤ 15000) (before : List Call) (base : LinkState) (p : IsHistory device first opened s before base) (since : ℕ) where
  fits_then : (l : LinkState) (now : ℕ) → AllByRecursion (Fits ms (present_moment now l)) l.untaken → AllByRecursion (Fits ms (link_from now (l.span + 1) l).moment) (link_from now (l.span + 1) l).untaken
  fits_then l now fits =
      subst (λ (k : ℕ). AllByRecursion (Fits ms k) (link_from now (l.span + 1) l).untaken) (sym (moment_from (l.span + 1) now l (some_more l.span)))
      (fits_from ms now (l.span + 1) l fits)

  -- of a link that is asked, soon after
  fits_on : (l : LinkState) (now : ℕ) → IsAsked ms since base l → now ≤ l.moment + ms → AllByRecursion (Fits ms (present_moment now l)) l.untaken
  fits_on l now g soon = fits_soon ms now l g.left soon (few_sendings device first opened s (g.calls ++ before) l some (history_more device first opened s before base l g.calls p g.made)) g.time

  give_step : (calls : List Call) (l : LinkState) (now : ℕ) → BecomesBy base calls l → IsAskedEvery ms since calls → clock_of_calls since calls ≡ l.moment → present_moment now l ≤ last_asked since calls + ms →
      AllByRecursion (Fits ms (present_moment now l)) l.untaken → (link_from now (l.span + 1) l).lost ≡ false → IsAsked ms since base (link_from now (l.span + 1) l)
  give_step calls l now made every at soon fits going =
      let small = few_due device first opened s now (calls ++ before) l some (history_more device first opened s before base l calls p made) in
      let r = gave_from ms since (l.span + 1) now calls l small at soon every in
      record {
        calls = r.more ++ calls;
        made = made_more base l (link_from now (l.span + 1) l) calls r.more made r.made;
        every = r.every;
        clock_is = r.clock_is;
        asked_is = r.asked_is;
        left = left_from (l.span + 1) now l small going;
        time = time_of ms (link_from now (l.span + 1) l) (left_from (l.span + 1) now l small going) (fits_then l now fits);
      }

  at_once : (now : ℕ) (l : LinkState) (asked : ℕ) → asked ≡ l.moment → now ≤ l.moment + ms → present_moment now l ≤ asked + ms
  at_once now l asked e soon = omega arith

  quiet_on : (l new : LinkState) (now : ℕ) → IsAsked ms since base l → now ≤ l.moment + ms → new ≡ link_from now (l.span + 1) l → new.lost ≡ false → IsAsked ms since base new
  quiet_on l new now g soon is going =
      subst (IsAsked ms since base) (sym is) (give_step g.calls l now g.made g.every g.clock_is (at_once now l (last_asked since g.calls) g.asked_is soon) (fits_on l now g soon) (sym (ap (λ (x : LinkState). x.lost) is) ∙ going))

  -- a datagram, or silence, and what is due after it
  hear_on : (d : Delivery) (now : ℕ) (l between new : LinkState) (n : ℕ) → delivered_at d ≡ now ∷ [] → HearsDelivery d l between n → IsAsked ms since base l → now ≤ l.moment + ms →
      new ≡ link_from now (between.span + 1) between → new.lost ≡ false → IsAsked ms since base new
  hear_on (Datagram from bytes t) now l between new n same x g soon is going = on_bool (nat_le (length bytes) 1472) (λ b. nat_le (length bytes) 1472 ≡ b → IsAsked ms since base new)
      (λ q.
      let h = x.short (leb-true (length bytes) 1472 q) in
      let at : between.moment ≡ max l.moment t = ap (λ (k : LinkState). k.moment) h.1.link_is in
      let calls : List Call = Receives from bytes h.1.content t h.0 ∷ g.calls in
      subst (IsAsked ms since base) (sym is) (give_step calls between now (l, g.made, (h.1.holds, h.1.answer_is, h.1.link_is)) (
        behind moment (clock_of_calls since g.calls)
            (last_asked since g.calls) g.clock_is g.asked_is,
        g.every,
      ) (ap (λ k. max k t) g.clock_is ∙ sym at) (after moment between.moment at (last_asked since g.calls) g.asked_is)
      (fits_between ms now l between (Datagram from bytes t) n same x (fits_on l now g soon)) (sym (ap (λ (k : LinkState). k.lost) is) ∙ going)))
      (λ q. let same_link : between ≡ l = (x.long (leb-false (length bytes) 1472 q)).0 in quiet_on l new now g soon (is ∙ ap (λ (k : LinkState). link_from now (k.span + 1) k) same_link) going) refl
    where
      moment : t ≡ now
      moment = cc

      behind : t ≡ now → (a b : ℕ) → a ≡ l.moment → b ≡ l.moment → max a t ≤ b + ms
      behind r a b p q = omega arith

      after : t ≡ now → (m : ℕ) → m ≡ max l.moment t → (b : ℕ) → b ≡ l.moment → max m now ≤ b + ms
      after r m e b q = omega arith
  hear_on (Quiet t) now l between new n same x g soon is going = quiet_on l new now g soon (is ∙ ap (λ (k : LinkState). link_from now (k.span + 1) k) x.0) going
  hear_on Failed now l between new n same x g soon is going = cc

  -- the last call was of no moment of its own
  take_on : (l : LinkState) (h : ℕ) → IsAsked ms since base l → IsAsked ms since base (taken h l)
  take_on l h g = record {
    calls = TakesAnswer h (answer_under h l.untaken) ∷ g.calls;
    made = (l, g.made, (refl, refl));
    every = (still (clock_of_calls since g.calls) (last_asked since g.calls) g.clock_is g.asked_is, g.every);
    clock_is = g.clock_is;
    asked_is = g.asked_is;
    left = left_taken h l g.left;
    time = by (is_some (answer_under h l.untaken));
  }
    where
      still : (a b : ℕ) → a ≡ l.moment → b ≡ l.moment → a ≤ b + ms
      still a b p q = omega arith

      by : (b : Bool) → AllByRecursion (HasTimeLeft ms) (cond b (without_handle h l.untaken) l.untaken)
      by true = each_without h (HasTimeLeft ms) l.untaken g.time
      by false = g.time

  begin_on : (l new : LinkState) (request : RequestFields) (now : ℕ) (h : Handle) → IsAsked ms since base l → now ≤ l.moment + ms → beginning request now l ≡ Ok h →
      new ≡ link_from now ((submitted request now l).span + 1) (submitted request now l) → new.lost ≡ false → IsAsked ms since base new
  begin_on l new request now h g soon is made going =
      let accepted = accepted_now request now l h is in
      let x : LinkState = submitted request now l in
      let at : x.moment ≡ max l.moment now = moment_submitted request now l h accepted in
      subst (IsAsked ms since base) (sym made)
      (give_step (Submits request now (Ok h) ∷ g.calls) x now (l, g.made, (sym accepted, refl)) (behind (clock_of_calls since g.calls) (last_asked since g.calls) g.clock_is g.asked_is, g.every)
      (ap (λ k. max k now) g.clock_is ∙ sym at) (after x.moment at (last_asked since g.calls) g.asked_is) (fits_submitted ms request now l h accepted short (fits_on l now g soon)) (sym (ap (λ (k : LinkState). k.lost) made) ∙ going))
    where
      behind : (a b : ℕ) → a ≡ l.moment → b ≡ l.moment → max a now ≤ b + ms
      behind a b p q = omega arith

      after : (m : ℕ) → m ≡ max l.moment now → (b : ℕ) → b ≡ l.moment → max m now ≤ b + ms
      after m e b q = omega arith

  -- what a part of a run makes of a link that is asked in time
  record Goes (old new : LinkState) (ts : List ℕ) : Type 0 where
    pub asked : IsAsked ms since base new
    pub latest_is : latest old.moment ts ≤ new.moment

  one_moment : (old l new : LinkState) (ts : List ℕ) (now : ℕ) → Goes old l ts → IsAsked ms since base new → l.moment ≤ new.moment → now ≤ new.moment → Goes old new (ts ++ now ∷ [])
  one_moment old l new ts now g asked above at = record {
    asked = asked;
    latest_is = subst (λ (k : ℕ). k ≤ new.moment) (sym (latest_more old.moment ts now)) (both (latest old.moment ts) l.moment new.moment g.latest_is above at);
  }
    where
      both : (a b c : ℕ) → a ≤ b → b ≤ c → now ≤ c → max a now ≤ c
      both a b c p q r = omega arith

  soon_after : (ts : List ℕ) (old l : LinkState) (now : ℕ) → Goes old l ts → now ≤ latest old.moment ts + ms → now ≤ l.moment + ms
  soon_after ts old l now g p = further (latest old.moment ts) g.latest_is p
    where
      further : (a : ℕ) → a ≤ l.moment → now ≤ a + ms → now ≤ l.moment + ms
      further a p q = omega arith

  -- a turn with a moment, in which all that is due is sent
  turn_at : (old l between new : LinkState) (ts : List ℕ) (d : Delivery) (now n : ℕ) → delivered_at d ≡ now ∷ [] → HearsDelivery d l between n → new ≡ link_from now (between.span + 1) between →
      (AreWithin ms old.moment ts → l.lost ≡ false → Goes old l ts) → AreWithin ms old.moment (ts ++ delivered_at d) → new.lost ≡ false → Goes old new (ts ++ delivered_at d)
  turn_at old l between new ts d now n same hears made rest within going =
      let w = within_more ms old.moment ts now (subst (λ (us : List ℕ). AreWithin ms old.moment (ts ++ us)) same within) in
      let g = rest w.0 (sym (lost_heard d l between n hears) ∙ not_lost_before (between.span + 1) now between (sym (ap (λ (k : LinkState). k.lost) made) ∙ going)) in
      let at : new.moment ≡ max between.moment now = ap (λ (k : LinkState). k.moment) made ∙ moment_from (between.span + 1) now between (some_more between.span) in
      let heard : l.moment ≤ between.moment = moment_heard d l between n hears in
      subst (λ (us : List ℕ). Goes old new (ts ++ us)) (sym same)
      (one_moment old l new ts now g (hear_on d now l between new n same hears g.asked (soon_after ts old l now g w.1) made going) (omega arith) (omega arith))

  failed_at : (old l new : LinkState) (ts : List ℕ) → new ≡ l → (AreWithin ms old.moment ts → l.lost ≡ false → Goes old l ts) → AreWithin ms old.moment (ts ++ []) → new.lost ≡ false → Goes old new (ts ++ [])
  failed_at old l new ts same rest within going =
      subst (λ (us : List ℕ). Goes old new us) (sym (append-nil ts))
      (subst (λ (k : LinkState). Goes old k ts) (sym same)
      (rest (subst (λ (us : List ℕ). AreWithin ms old.moment us) (append-nil ts) within) (sym (ap (λ (k : LinkState). k.lost) same) ∙ going)))

  drove_on : (d : Delivery) (old l new : LinkState) (ts : List ℕ) (ds : List Decision) (n : ℕ) → DrivesTurn d l new ds n → (AreWithin ms old.moment ts → l.lost ≡ false → Goes old l ts) →
      AreWithin ms old.moment (ts ++ delivered_at d) → new.lost ≡ false → Goes old new (ts ++ delivered_at d)
  drove_on (Datagram from bytes now) old l new ts ds n x rest within going = turn_at old l x.between new ts (Datagram from bytes now) now n refl x.hears x.gives.1 rest within going
  drove_on (Quiet now) old l new ts ds n x rest within going = turn_at old l x.between new ts (Quiet now) now n refl x.hears x.gives.1 rest within going
  drove_on Failed old l new ts ds n x rest within going = failed_at old l new ts (x.gives.1 ∙ x.hears.0) rest within going

  -- a turn in which the link is not late
  took_at : (d : Delivery) (now : ℕ) (old l between new : LinkState) (ts : List ℕ) (n : ℕ) → delivered_at d ≡ now ∷ [] → HearsDelivery d l between n →
      new ≡ cond (late_at now between) between (link_from now (between.span + 1) between) →
      (AreWithin ms old.moment ts → l.lost ≡ false → Goes old l ts) → AreWithin ms old.moment (ts ++ delivered_at d) → new.lost ≡ false → Goes old new (ts ++ delivered_at d)
  took_at d now old l between new ts n same hears made rest within going =
      turn_at old l between new ts d now n same hears (made ∙ ap (λ b. cond b between (link_from now (between.span + 1) between)) calm) rest within going
    where
      calm : late_at now between ≡ false
      calm =
          let w = within_more ms old.moment ts now (subst (λ (us : List ℕ). AreWithin ms old.moment (ts ++ us)) same within) in
          let g = rest w.0 (sym (lost_heard d l between n hears) ∙ lost_in_time now between (late_at now between) (sym (ap (λ (k : LinkState). k.lost) made) ∙ going)) in
          calm_fits ms now between (fits_between ms now l between d n same hears (fits_on l now g.asked (soon_after ts old l now g w.1)))

  took_on : (d : Delivery) (old l new : LinkState) (ts : List ℕ) (ds : List Decision) (n : ℕ) → TurnsInTime d l new ds n → (AreWithin ms old.moment ts → l.lost ≡ false → Goes old l ts) →
      AreWithin ms old.moment (ts ++ delivered_at d) → new.lost ≡ false → Goes old new (ts ++ delivered_at d)
  took_on (Datagram from bytes now) old l new ts ds n x rest within going = took_at (Datagram from bytes now) now old l x.between new ts n refl x.hears x.gives.1 rest within going
  took_on (Quiet now) old l new ts ds n x rest within going = took_at (Quiet now) now old l x.between new ts n refl x.hears x.gives.1 rest within going
  took_on Failed old l new ts ds n x rest within going = failed_at old l new ts (x.gives.1 ∙ x.hears.0) rest within going

  began_on : (old l new : LinkState) (ts : List ℕ) (request : RequestFields) (now : ℕ) (h : Handle) → beginning request now l ≡ Ok h → new ≡ link_from now ((submitted request now l).span + 1) (submitted request now l) →
      (AreWithin ms old.moment ts → l.lost ≡ false → Goes old l ts) → AreWithin ms old.moment (ts ++ now ∷ []) → new.lost ≡ false → Goes old new (ts ++ now ∷ [])
  began_on old l new ts request now h is made rest within going =
      let x : LinkState = submitted request now l in
      let accepted = accepted_now request now l h is in
      let w = within_more ms old.moment ts now within in
      let g = rest w.0 (sym (lost_submitted request now l h accepted) ∙ not_lost_before (x.span + 1) now x (sym (ap (λ (k : LinkState). k.lost) made) ∙ going)) in
      let submitted_at : x.moment ≡ max l.moment now = moment_submitted request now l h accepted in
      let at : new.moment ≡ max x.moment now = ap (λ (k : LinkState). k.moment) made ∙ moment_from (x.span + 1) now x (some_more x.span) in
      one_moment old l new ts now g (begin_on l new request now h g.asked (soon_after ts old l now g w.1) is made going) (omega arith) (omega arith)

  run_on : {ts : List ℕ} {old new : LinkState} → IsRun ts old new → IsAsked ms since base old → AreWithin ms old.moment ts → new.lost ≡ false → Goes old new ts
  run_on (NothingDone {l = l}) g within going = record { asked = g; latest_is = le_refl l.moment }
  run_on (DroveATurn {ts = ts} {old = old} {l = l} {new = new} {decisions = ds} {n = n} d run turn) g within going = drove_on d old l new ts ds n turn (run_on run g) within going
  run_on (TookATurn {ts = ts} {old = old} {l = l} {new = new} {decisions = ds} {n = n} d run turn) g within going = took_on d old l new ts ds n turn (run_on run g) within going
  run_on (SentAllDue {ts = ts} {old = old} {l = l} {new = new} now run made) g within going = turn_at old l l new ts (Quiet now) now 0 refl (refl, refl) made (run_on run g) within going
  run_on (SentAllInTime {ts = ts} {old = old} {l = l} {new = new} now run made) g within going = took_at (Quiet now) now old l l new ts 0 refl (refl, refl) made (run_on run g) within going
  run_on (Began {ts = ts} {old = old} {l = l} {new = new} request now h run is made) g within going = began_on old l new ts request now h is made (run_on run g) within going
  run_on (Took {ts = ts} {old = old} {l = l} {new = new} h run made) g within going =
      let r = run_on run g within (sym (ap (λ (k : LinkState). k.lost) made) ∙ going) in
      subst (λ (k : LinkState). Goes old k ts) (sym made) (record { asked = take_on l h r.asked; latest_is = r.latest_is })

-- ---- the laws

-- A link whose span is not 0 and that has nothing left to send, and then runs at moments that follow one another
-- within `ms`, at most 500, is asked every `ms`, unless it is lost at the end.
pub run_asked : (device : Peer) (first opened span ms : ℕ) (before : List Call) (old new : LinkState) (moments : List ℕ) → 0 < span → 20 * (250 + ms) ≤ 15000 → IsHistory device first opened span before old → NothingIsLeft old →
    HaveTimeLeft ms old → IsRun moments old new → AreWithin ms old.moment moments → new.lost ≡ false → IsAsked ms old.moment old new
run_asked device first opened span ms before old new moments some short p left time run within going =
    (run_on device first opened span some ms short before old p old.moment run (record { calls = []; made = refl; every = tt; clock_is = refl; asked_is = refl; left = left; time = time }) within going).asked

-- a link that is lost stays so, over a run
lost_before_run : {ts : List ℕ} {old new : LinkState} → IsRun ts old new → new.lost ≡ false → old.lost ≡ false
lost_before_run NothingDone going = going
lost_before_run (DroveATurn {l = l} {new = new} {n = n} d run turn) going = lost_before_run run (by d turn going)
  where
    given : (e : Delivery) (now k : ℕ) (between : LinkState) → HearsDelivery e l between k → new ≡ link_from now (between.span + 1) between → new.lost ≡ false → l.lost ≡ false
    given e now k between hears made going = sym (lost_heard e l between k hears) ∙ not_lost_before (between.span + 1) now between (sym (ap (λ (k : LinkState). k.lost) made) ∙ going)

    by : {ds : List Decision} (e : Delivery) → DrivesTurn e l new ds n → new.lost ≡ false → l.lost ≡ false
    by (Datagram from bytes now) x going = given (Datagram from bytes now) now n x.between x.hears x.gives.1 going
    by (Quiet now) x going = given (Quiet now) now n x.between x.hears x.gives.1 going
    by Failed x going = sym (ap (λ (k : LinkState). k.lost) (x.gives.1 ∙ x.hears.0)) ∙ going
lost_before_run (TookATurn {l = l} {new = new} {n = n} d run turn) going = lost_before_run run (by d turn going)
  where
    given : (e : Delivery) (now k : ℕ) (between : LinkState) → HearsDelivery e l between k → new ≡ cond (late_at now between) between (link_from now (between.span + 1) between) → new.lost ≡ false → l.lost ≡ false
    given e now k between hears made going = sym (lost_heard e l between k hears) ∙ lost_in_time now between (late_at now between) (sym (ap (λ (k : LinkState). k.lost) made) ∙ going)

    by : {ds : List Decision} (e : Delivery) → TurnsInTime e l new ds n → new.lost ≡ false → l.lost ≡ false
    by (Datagram from bytes now) x going = given (Datagram from bytes now) now n x.between x.hears x.gives.1 going
    by (Quiet now) x going = given (Quiet now) now n x.between x.hears x.gives.1 going
    by Failed x going = sym (ap (λ (k : LinkState). k.lost) (x.gives.1 ∙ x.hears.0)) ∙ going
lost_before_run (SentAllDue {l = l} now run made) going = lost_before_run run (not_lost_before (l.span + 1) now l (sym (ap (λ (k : LinkState). k.lost) made) ∙ going))
lost_before_run (SentAllInTime {l = l} now run made) going = lost_before_run run (lost_in_time now l (late_at now l) (sym (ap (λ (k : LinkState). k.lost) made) ∙ going))
lost_before_run (Began {l = l} request now h run is made) going =
    lost_before_run run (sym (lost_submitted request now l h (accepted_now request now l h is))
    ∙ not_lost_before ((submitted request now l).span + 1) now (submitted request now l) (sym (ap (λ (k : LinkState). k.lost) made) ∙ going))
lost_before_run (Took run_h run made) going = lost_before_run run (sym (ap (λ (k : LinkState). k.lost) made) ∙ going)

-- A command that was begun is sent in time as long as it is waiting, over a run whose moments follow one another
-- within `ms`, at most 500, unless the link is lost at the end (span not 0).
pub begun_in_time : (device : Peer) (first opened span ms : ℕ) (before : List Call) (old link new : LinkState) (request : RequestFields) (now : ℕ) (h : Handle) (moments : List ℕ) → 0 < span → 20 * (250 + ms) ≤ 15000 →
    IsHistory device first opened span before old → beginning request now old ≡ Ok h → link ≡ link_from now ((submitted request now old).span + 1) (submitted request now old) → HaveTimeLeft ms link →
    IsRun moments link new → AreWithin ms link.moment moments → new.lost ≡ false → CommandIsInTime device first opened span ms before request now h link.moment new
begun_in_time device first opened span ms before old link new request now h moments some short p is made time run within going =
    record { left = r.asked.left; time = r.asked.time; later = r.asked.calls; history = history; in_time = by }
  where
    x : LinkState
    x = submitted request now old

    accepted : submission request old ≡ Ok h
    accepted = accepted_now request now old h is

    base : IsHistory device first opened span (Submits request now (Ok h) ∷ before) x
    base = (old, p, (sym accepted, refl))

    at : x.moment ≡ max old.moment now
    at = moment_submitted request now old h accepted

    no_later : (m : ℕ) → m ≡ max old.moment now → max m now ≡ m
    no_later m e = omega arith

    going_then : link.lost ≡ false
    going_then = lost_before_run run going

    soon : (k : ℕ) → k ≡ max old.moment now → max k now ≤ k + ms
    soon k e = omega arith

    small : due_count (present_moment now x) x.untaken < x.span + 1
    small = few_due device first opened span now (Submits request now (Ok h) ∷ before) x some base

    gave : Gave ms x.moment [] x (link_from now (x.span + 1) x)
    gave = gave_from ms x.moment (x.span + 1) now [] x small refl (soon x.moment at) tt

    started : IsAsked ms x.moment x link
    started = record {
      calls = gave.more;
      made = subst (λ (k : LinkState). BecomesBy x gave.more k) (sym made) gave.made;
      every = subst (IsAskedEvery ms x.moment) (append-nil gave.more) gave.every;
      clock_is = ap (clock_of_calls x.moment) (sym (append-nil gave.more)) ∙ gave.clock_is ∙ ap (λ (k : LinkState). k.moment) (sym made);
      asked_is = ap (last_asked x.moment) (sym (append-nil gave.more)) ∙ gave.asked_is ∙ ap (λ (k : LinkState). k.moment) (sym made);
      left = subst NothingIsLeft (sym made) (left_from (x.span + 1) now x small (sym (ap (λ (k : LinkState). k.lost) made) ∙ going_then));
      time = time;
    }

    r : Goes device first opened span some ms short (Submits request now (Ok h) ∷ before) x base x.moment link new moments
    r = run_on device first opened span some ms short (Submits request now (Ok h) ∷ before) x base x.moment run started within going

    history : IsHistory device first opened span (r.asked.calls ++ Submits request now (Ok h) ∷ before) new
    history = history_more device first opened span (Submits request now (Ok h) ∷ before) x new r.asked.calls base r.asked.made

    since : max (clock_of_calls opened before) now ≡ x.moment
    since = ap (λ k. max k now) (sym (holds_after device first opened span before old some p).now.moment_is) ∙ sym at

    since_link : x.moment ≡ link.moment
    since_link = sym (ap (λ (k : LinkState). k.moment) made ∙ moment_from (x.span + 1) now x (some_more x.span) ∙ no_later x.moment at)

    by : IsWaiting device h.0 (r.asked.calls ++ Submits request now (Ok h) ∷ before) → IsSentInTime ms link.moment new.moment (sendings opened h.0 (r.asked.calls ++ Submits request now (Ok h) ∷ before))
    by w =
        let calls : List Call = r.asked.calls ++ Submits request now (Ok h) ∷ before in
        subst (λ (k : ℕ). IsSentInTime ms k new.moment (sendings opened h.0 calls)) (since ∙ since_link)
        (subst (λ (k : ℕ). IsSentInTime ms (max (clock_of_calls opened before) now) k (sendings opened h.0 calls)) (sym (holds_after device first opened span calls new some history).now.moment_is)
        (in_time device first opened span before r.asked.calls new request now ms h some history (subst (λ (k : ℕ). IsAskedEvery ms k r.asked.calls) (sym since) r.asked.every) w))

-- Once a command was begun, each command of the link has time left, where each that waited before has time at that moment
-- and the link is not lost (span not 0, `ms` at most 500).
pub begun_time : (device : Peer) (first opened span ms : ℕ) (before : List Call) (old link : LinkState) (request : RequestFields) (now : ℕ) (h : Handle) → 0 < span → 20 * (250 + ms) ≤ 15000 →
    IsHistory device first opened span before old → AllByRecursion (HasTimeAt ms (present_moment now old)) old.untaken → beginning request now old ≡ Ok h →
    link ≡ link_from now ((submitted request now old).span + 1) (submitted request now old) → link.lost ≡ false → HaveTimeLeft ms link
begun_time device first opened span ms before old link request now h some short p time is made going =
    subst (HaveTimeLeft ms) (sym made) (time_of ms (link_from now (x.span + 1) x) (left_from (x.span + 1) now x small (sym (ap (λ (k : LinkState). k.lost) made) ∙ going))
    (subst (λ (k : ℕ). AllByRecursion (Fits ms k) (link_from now (x.span + 1) x).untaken) (sym (moment_from (x.span + 1) now x (some_more x.span)))
    (fits_from ms now (x.span + 1) x (fits_submitted ms request now old h accepted short fits))))
  where
    x : LinkState
    x = submitted request now old

    accepted : submission request old ≡ Ok h
    accepted = accepted_now request now old h is

    fits : AllByRecursion (Fits ms (present_moment now old)) old.untaken
    fits = fits_at ms (present_moment now old) old.untaken time

    small : due_count (present_moment now x) x.untaken < x.span + 1
    small = few_due device first opened span now (Submits request now (Ok h) ∷ before) x some (old, p, (sym accepted, refl))

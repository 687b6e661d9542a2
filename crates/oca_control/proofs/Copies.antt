-- No copy of a command is sent too late.
use Rattle.oca_control.proofs.Words.{◌≡◌, ℕ, zero, suc, ◌+◌, ◌-◌, ◌<◌, ◌≤◌, Bool, true, false, cond, ◌&&◌, ◌||◌, max, List, [], ◌∷◌, ◌++◌, length, map, Option, Some, None, Result, Ok, Err, is_none}
use Rattle.oca_control.proofs.Words.{is_some, refl, sym, ap, ◌∙◌, arith, subst, inl, inr, append_assoc, append-nil, ◌==◌, nat_eq, nat_lt, nat_le, AllByRecursion, list_any, flat_map, eqb, nat_tests}
use Rattle.oca_control.proofs.Words.{list_any-append, flat_map-append, or_parts, or_right, or_from, eqb-true, leb-true, and_parts, leb-false, le_refl, Peer, Handle, RequestFields, CommandFields}
use Rattle.oca_control.proofs.Words.{same_peer, Delivery, Datagram, Quiet, Failed, Sent, EndState, SendsAllBut, DeliversAndTakes, Due, ControlFault, Outcome, DriveReport, Msg, Command, Response}
use Rattle.oca_control.proofs.Words.{KeepAlive, AnswerFields, answer_of_response, Untaken, is_late, marked_sent, new_untaken, answered, hears_all, answer_under, without_handle, LinkState, new_link}
use Rattle.oca_control.proofs.Words.{late_at, present_moment, command_under, submission, submitted, after_submission, Decision, GivesCommand, GivesKeepAlive, GivesNothing, IsLost, decision}
use Rattle.oca_control.proofs.Words.{due_answer, due_bytes, after_due, gone_on, hears_content, taken, Call, Submits, SendsDue, Receives, TakesAnswer, IsCall, IsHistory, clock_of_calls, commands}
use Rattle.oca_control.proofs.Words.{Sending, sending_of, sendings, is_among, goes_on, given_to, all_given_to, HearsDelivery, delivered_at, moments_delivered, GivesIf, SendsInTime, GivesAllInTime}
use Rattle.oca_control.proofs.Words.{GivesAfter, Turns, TakesTurns, NoneTaken, OneTaken, Waits, Begins, Asks, HasOutcome, TakesTurnsBefore, WaitsUntil, on_bool}
use Rattle.oca_net.proofs.Running.{runs_none, runs_more, runs_closed}
use Rattle.oca_control.specs.declared.fault.ControlFault.TheVariants as faults
use Rattle.oca_control.specs.declared.outcome.Outcome.TheVariants as outcomes
use Rattle.oca_control.specs.Driving.{decisions_from, link_from}
use Rattle.oca_control.specs.Waiting as waiting
use Rattle.oca_control.specs.Copies.{submitted_at, LeavesInTime, MakesInTime, EveryCallInTimeGoesOn, is_sent_out, datagrams_sent, datagrams_heard, short_datagram, IsAskedAt, IsMadeInTime, EveryStepIsInTime}
use Rattle.oca_control.proofs.Following.{equal_self, unequal, each_map, each_both, each_append, end_of, IsSent}
use Rattle.oca_control.proofs.Calls.{is_accepted, is_given, each_first, each_without}
use Rattle.oca_control.proofs.Histories.{Now, holds_after}
use Rattle.oca_control.proofs.Turns.{device_stays}
use Rattle.oca_control.proofs.Settling.{again}

none_of : (p : Untaken → Bool) (us : List Untaken) → list_any p us ≡ false → AllByRecursion (λ u. p u ≡ false) us
none_of p [] e = tt
none_of p (u ∷ us) e = let b = or_parts (p u) (list_any p us) e in (b.0, none_of p us b.1)

-- ---- when commands were submitted

-- what a link holds of when each untaken command was submitted
-- and last sent
abbrev pub AreDated : ℕ → (ℕ → Option ℕ) → List Untaken → Type 0
AreDated t at us = AllByRecursion (λ u. (at u.command.handle ≡ Some u.submitted) × (u.submitted ≤ t) × (u.last ≤ t)) us

dated_marked_sent : (t h : ℕ) (at : ℕ → Option ℕ) (us : List Untaken) → AreDated t at us → AreDated t at (map (marked_sent t h) us)
dated_marked_sent t h at [] a = tt
dated_marked_sent t h at (u ∷ us) a = ((a.0.0, a.0.1, by_test (eqb u.command.handle h)), dated_marked_sent t h at us a.1)
  where
    by_test : (b : Bool) → cond b t u.last ≤ t
    by_test true = omega arith
    by_test false = a.0.2

dated_answered : (t h : ℕ) (a : AnswerFields) (at : ℕ → Option ℕ) (us : List Untaken) → AreDated t at us → AreDated t at (map (answered h a) us)
dated_answered t h a at [] q = tt
dated_answered t h a at (u ∷ us) q = (q.0, dated_answered t h a at us q.1)

dated_heard : (t : ℕ) (ms : List Msg) (at : ℕ → Option ℕ) (us : List Untaken) → AreDated t at us → AreDated t at (hears_all ms us)
dated_heard t [] at us q = q
dated_heard t (Response x ∷ ms) at us q = dated_heard t ms at (map (answered x.handle (answer_of_response x)) us) (dated_answered t x.handle (answer_of_response x) at us q)
dated_heard t (KeepAlive form ∷ ms) at us q = dated_heard t ms at us q
dated_heard t (Command respond c ∷ ms) at us q = dated_heard t ms at us q

dated_received : (t : ℕ) (b : Bool) (content : Option (List Msg)) (at : ℕ → Option ℕ) (us : List Untaken) → AreDated t at us → AreDated t at (cond b (hears_content content us) us)
dated_received t true None at us q = q
dated_received t true (Some ms) at us q = dated_heard t ms at us q
dated_received t false content at us q = q

dated_later : (t now : ℕ) (at : ℕ → Option ℕ) (us : List Untaken) → AreDated t at us → AreDated (max t now) at us
dated_later t now at us q = each_map (λ u a. (a.0, later u.submitted a.1, later u.last a.2)) us q
  where
    later : (k : ℕ) → k ≤ t → k ≤ max t now
    later k p = omega arith

dated_due : (now : ℕ) (at : ℕ → Option ℕ) (l : LinkState) (d : Decision) → AreDated l.moment at l.untaken → AreDated (max l.moment now) at (after_due d (present_moment now l) l).untaken
dated_due now at l (GivesCommand c) q = dated_marked_sent (max l.moment now) c.handle at l.untaken (dated_later l.moment now at l.untaken q)
dated_due now at l _ q = dated_later l.moment now at l.untaken q

due_moment : (now : ℕ) (l : LinkState) (d : Decision) → (after_due d (present_moment now l) l).moment ≡ max l.moment now
due_moment now l (GivesCommand c) = refl
due_moment now l _ = refl

is_history : (device : Peer) (first opened s : ℕ) (calls : List Call) (after : LinkState) → MakesInTime (new_link device first opened s) calls after → IsHistory device first opened s calls after
is_history device first opened s [] after m = m
is_history device first opened s (call ∷ before) after m = (m.0, is_history device first opened s before m.0 m.1, m.2)

-- By calls of a new link whose span is not 0, each untaken command holds when it was submitted, which is not to come.
pub dated : (device : Peer) (first opened s : ℕ) (calls : List Call) (l : LinkState) → 0 < s → IsHistory device first opened s calls l → AreDated l.moment (λ h. submitted_at opened h calls) l.untaken
dated device first opened s [] l some p = subst (λ (k : LinkState). AreDated k.moment (λ h. None) k.untaken) (sym p) tt
dated device first opened s (Submits r now (Err fault) ∷ before) l some p =
    let old = p.0 in
    subst (λ (k : LinkState). AreDated k.moment (λ h. submitted_at opened h before) k.untaken)
    (sym (p.2.1 ∙ ap (λ a. after_submission a r now old) (sym p.2.0))) (dated device first opened s before old some p.1)
dated device first opened s (Submits r now (Ok x) ∷ before) l some p =
    subst (λ (k : LinkState). AreDated k.moment at k.untaken) (sym (p.2.1 ∙ ap (λ a. after_submission a r now old) (sym p.2.0)))
    (each_append _ old.untaken (new_untaken (present_moment now old) (command_under x.0 r) ∷ [])
    (each_both {R = λ (u : Untaken). (at u.command.handle ≡ Some u.submitted) × (u.submitted ≤ max old.moment now) × (u.last ≤ max old.moment now)}
    (λ u (q : IsSent s (first + length (commands before)) (commands before) (λ h. sendings opened h before) u.command u.times u.last) (a : (submitted_at opened u.command.handle before ≡ Some u.submitted) × (u.submitted ≤ max old.moment now) × (u.last ≤ max old.moment now)).
    (ap (λ b. cond b (Some (max (clock_of_calls opened before) now)) (submitted_at opened u.command.handle before)) (older u.command u.times u.last q) ∙ a.0, a.1, a.2))
    old.untaken g.are_sent (dated_later old.moment now (λ h. submitted_at opened h before) old.untaken (dated device first opened s before old some p.1)))
    ((its, le_refl (max old.moment now), none (max old.moment now)), tt))
  where
    old : LinkState
    old = p.0

    at : ℕ → Option ℕ
    at h = cond (eqb h x.0) (Some (max (clock_of_calls opened before) now)) (submitted_at opened h before)

    g : Now device first opened s before old
    g = (holds_after device first opened s before old some p.1).now

    older : (c : CommandFields) (times last : ℕ) → IsSent s (first + length (commands before)) (commands before) (λ h. sendings opened h before) c times last → eqb c.handle x.0 ≡ false
    older c times last q =
        let b : c.handle < first + length (commands before) = q.below in
        let n : end_of old.next ≡ x.0 = ap end_of (is_accepted r x old (sym p.2.0)).next in
        let m : end_of old.next ≡ first + length (commands before) = g.next_is in
        unequal c.handle x.0 (omega arith)

    its : at x.0 ≡ Some (present_moment now old)
    its = ap (λ b. cond b (Some (max (clock_of_calls opened before) now)) (submitted_at opened x.0 before)) (equal_self x.0) ∙ ap (λ m. Some (max m now)) (sym g.moment_is)

    none : (k : ℕ) → 0 ≤ k
    none k = omega arith
dated device first opened s (SendsDue now returned bytes ∷ before) l some p =
    let old = p.0 in
    subst (λ (k : LinkState). AreDated k.moment (λ h. submitted_at opened h before) k.untaken) (sym p.2.2)
    (subst (λ (m : ℕ). AreDated m (λ h. submitted_at opened h before) (gone_on now old).untaken) (sym (due_moment now old (decision now old)))
    (dated_due now (λ h. submitted_at opened h before) old (decision now old) (dated device first opened s before old some p.1)))
dated device first opened s (Receives from bytes content now returned ∷ before) l some p =
    let old = p.0 in
    subst (λ (k : LinkState). AreDated k.moment (λ h. submitted_at opened h before) k.untaken) (sym p.2.2)
    (dated_received (max old.moment now) (same_peer from old.device) content (λ h. submitted_at opened h before) old.untaken
    (dated_later old.moment now (λ h. submitted_at opened h before) old.untaken (dated device first opened s before old some p.1)))
dated device first opened s (TakesAnswer h answer ∷ before) l some p =
    let old = p.0 in
    subst (λ (k : LinkState). AreDated k.moment (λ x. submitted_at opened x before) k.untaken) (sym p.2.1)
    (by (is_some (answer_under h old.untaken)) (dated device first opened s before old some p.1))
  where
    by : (b : Bool) → AreDated p.0.moment (λ x. submitted_at opened x before) p.0.untaken → AreDated p.0.moment (λ x. submitted_at opened x before) (cond b (without_handle h p.0.untaken) p.0.untaken)
    by true q = each_without h _ p.0.untaken q
    by false q = q

-- ---- the sendings

young : (t submitted : ℕ) (answer : Option AnswerFields) (times last : ℕ) →
    (is_none answer && (nat_eq times 0 || nat_le 250 (t - last))) ≡ true → (is_none answer && nat_lt 15000 (t - submitted)) ≡ false → t ≤ submitted + 15000
young t submitted answer times last due calm =
    close (sym (ap (λ b. b && nat_lt 15000 (t - submitted)) (and_parts (is_none answer) (nat_eq times 0 || nat_le 250 (t - last)) due).0) ∙ calm)
  where
    close : nat_lt 15000 (t - submitted) ≡ false → t ≤ submitted + 15000
    close p = grind (arith, nat_tests)

leaves_now : (device : Peer) (first opened s : ℕ) (before : List Call) (l : LinkState) (now h : ℕ) (bytes : List ℕ) (d : Decision) → 0 < s → IsHistory device first opened s before l →
    late_at now l ≡ false → decision now l ≡ d → AllByRecursion (LeavesInTime (submitted_at opened h before)) (sendings opened h before) →
    AllByRecursion (LeavesInTime (submitted_at opened h before)) (sending_of h (due_answer d) (record { at = max (clock_of_calls opened before) now; bytes = bytes }) (sendings opened h before))
leaves_now device first opened s before l now h bytes GivesKeepAlive some p calm e all = all
leaves_now device first opened s before l now h bytes GivesNothing some p calm e all = all
leaves_now device first opened s before l now h bytes IsLost some p calm e all = all
leaves_now device first opened s before l now h bytes (GivesCommand c) some p calm e all =
    on_bool (eqb h c.handle) (λ b. eqb h c.handle ≡ b → AllByRecursion (LeavesInTime (submitted_at opened h before)) (cond b (it ∷ sendings opened h before) (sendings opened h before)))
    (λ q. (here (eqb-true h c.handle q), all)) (λ q. all) refl
  where
    at_now : present_moment now l ≡ max (clock_of_calls opened before) now
    at_now = ap (λ m. max m now) (holds_after device first opened s before l some p).now.moment_is

    it : Sending
    it = record { at = max (clock_of_calls opened before) now; bytes = bytes }

    here : h ≡ c.handle → LeavesInTime (submitted_at opened h before) it
    here same =
        let i = is_given (present_moment now l) l.sent l.lost c l.untaken e in
        let date = each_first (λ u. (submitted_at opened u.command.handle before ≡ Some u.submitted) × (u.submitted ≤ l.moment) × (u.last ≤ l.moment)) (present_moment now l) l.untaken i.given (dated device first opened s before l some p) i.first_is in
        let quiet = each_first (λ u. is_late (present_moment now l) u ≡ false) (present_moment now l) l.untaken i.given (none_of (is_late (present_moment now l)) l.untaken calm) i.first_is in
        let handle : i.given.command.handle ≡ h = ap (λ (x : CommandFields). x.handle) i.command_is ∙ sym same in
        let known : submitted_at opened h before ≡ Some i.given.submitted = ap (λ x. submitted_at opened x before) (sym handle) ∙ date.0.0 in
        subst (λ (o : Option ℕ). LeavesInTime o it) (sym known)
        (not_before i.given.submitted date.0.1, subst (λ (t : ℕ). t ≤ i.given.submitted + 15000) at_now (young (present_moment now l) i.given.submitted i.given.answer i.given.times i.given.last date.1 quiet.0))
      where
        not_before : (k : ℕ) → k ≤ l.moment → k ≤ max (clock_of_calls opened before) now
        not_before k q = subst (λ (t : ℕ). k ≤ t) at_now (further k q)
          where
            further : (k : ℕ) → k ≤ l.moment → k ≤ max l.moment now
            further k q = omega arith

-- By calls in time of a new link whose span is not 0, each copy of a command leaves not before its submit, and at most
-- 15,000 ms after.
pub copies_in_time : (device : Peer) (first opened s : ℕ) (calls : List Call) (after : LinkState) → 0 < s → MakesInTime (new_link device first opened s) calls after →
    (h : ℕ) → AllByRecursion (LeavesInTime (submitted_at opened h calls)) (sendings opened h calls)
copies_in_time device first opened s [] after some m h = tt
copies_in_time device first opened s (Submits r now (Err fault) ∷ before) after some m h = copies_in_time device first opened s before m.0 some m.1 h
copies_in_time device first opened s (Submits r now (Ok x) ∷ before) after some m h =
    on_bool (eqb h x.0) (λ b. eqb h x.0 ≡ b → AllByRecursion (LeavesInTime (submitted_at opened h before)) (sendings opened h before) → AllByRecursion (LeavesInTime (cond b (Some (max
    (clock_of_calls opened before) now)) (submitted_at opened h before))) (sendings opened h before))
    (λ q rest. subst (AllByRecursion (LeavesInTime (Some (max (clock_of_calls opened before) now)))) (sym (fresh (eqb-true h x.0 q))) tt)
    (λ q rest. rest) refl (copies_in_time device first opened s before m.0 some m.1 h)
  where
    p : IsHistory device first opened s before m.0
    p = is_history device first opened s before m.0 m.1

    g : Now device first opened s before m.0
    g = (holds_after device first opened s before m.0 some p).now

    fresh : h ≡ x.0 → sendings opened h before ≡ []
    fresh same =
        let n : end_of m.0.next ≡ x.0 = ap end_of (is_accepted r x m.0 (sym m.2.0)).next in
        let k : end_of m.0.next ≡ first + length (commands before) = g.next_is in
        g.fresh h (omega arith)
copies_in_time device first opened s (Receives from bytes content now a ∷ before) after some m h = copies_in_time device first opened s before m.0 some m.1 h
copies_in_time device first opened s (TakesAnswer x a ∷ before) after some m h = copies_in_time device first opened s before m.0 some m.1 h
copies_in_time device first opened s (SendsDue now a bytes ∷ before) after some m h =
    subst (λ (x : Due). AllByRecursion (LeavesInTime (submitted_at opened h before)) (sending_of h x (record { at = max (clock_of_calls opened before) now; bytes = bytes }) (sendings opened h before))) (sym m.2.0)
    (leaves_now device first opened s before m.0 now h bytes (decision now m.0) some (is_history device first opened s before m.0 m.1) m.3 refl
    (copies_in_time device first opened s before m.0 some m.1 h))

-- ---- the steps

made_more : (a b c : LinkState) (xs ys : List Call) → MakesInTime a xs b → MakesInTime b ys c → MakesInTime a (ys ++ xs) c
made_more a b c xs [] m n = subst (λ (l : LinkState). MakesInTime a xs l) (sym n) m
made_more a b c xs (call ∷ ys) m n = (n.0, made_more a b n.0 xs ys m n.1, n.2, n.3)

-- Calls in time after calls in time are such calls.
pub goes_on_in_time : EveryCallInTimeGoesOn
goes_on_in_time old l new calls later m n = made_more old l new calls later m n

device_called : (l new : LinkState) (call : Call) → IsCall l call new → new.device ≡ l.device
device_called l new (Submits request now returned) k = ap (λ (x : LinkState). x.device) k.1 ∙ by (submission request l)
  where
    by : (a : Result Handle ControlFault) → (after_submission a request now l).device ≡ l.device
    by (Ok h) = refl
    by (Err fault) = refl
device_called l new (SendsDue now returned bytes) k = ap (λ (x : LinkState). x.device) k.2 ∙ device_stays (decision now l) (present_moment now l) l
device_called l new (Receives from bytes content now returned) k = ap (λ (x : LinkState). x.device) k.2
device_called l new (TakesAnswer h answer) k = ap (λ (x : LinkState). x.device) k.1

device_made : (old new : LinkState) (calls : List Call) → MakesInTime old calls new → new.device ≡ old.device
device_made old new [] m = ap (λ (x : LinkState). x.device) m
device_made old new (call ∷ before) m = device_called m.0 new call m.2 ∙ device_made old m.0 before m.1

sent_both : (p : Peer) (xs ys : List Call) → datagrams_sent p (ys ++ xs) ≡ datagrams_sent p xs ++ datagrams_sent p ys
sent_both p xs [] = sym (append-nil (datagrams_sent p xs))
sent_both p xs (SendsDue now returned bytes ∷ ys) =
    let it : List Sent = cond (is_sent_out returned) ((record { to = p; bytes = bytes }) ∷ []) [] in
    ap (λ zs. zs ++ it) (sent_both p xs ys) ∙ append_assoc (datagrams_sent p xs) (datagrams_sent p ys) it
sent_both p xs (Submits request now returned ∷ ys) = sent_both p xs ys
sent_both p xs (Receives from bytes content now returned ∷ ys) = sent_both p xs ys
sent_both p xs (TakesAnswer h answer ∷ ys) = sent_both p xs ys

heard_both : (xs ys : List Call) → datagrams_heard (ys ++ xs) ≡ datagrams_heard xs ++ datagrams_heard ys
heard_both xs [] = sym (append-nil (datagrams_heard xs))
heard_both xs (Receives from bytes content now returned ∷ ys) =
    ap (λ zs. zs ++ Datagram from bytes now ∷ []) (heard_both xs ys) ∙ append_assoc (datagrams_heard xs) (datagrams_heard ys) (Datagram from bytes now ∷ [])
heard_both xs (Submits request now returned ∷ ys) = heard_both xs ys
heard_both xs (SendsDue now returned bytes ∷ ys) = heard_both xs ys
heard_both xs (TakesAnswer h answer ∷ ys) = heard_both xs ys

asked_more : (ms ns : List ℕ) → ((x : ℕ) → is_among x ms ≡ true → is_among x ns ≡ true) → (calls : List Call) → AllByRecursion (IsAskedAt ms) calls → AllByRecursion (IsAskedAt ns) calls
asked_more ms ns f calls = each_map one calls
  where
    one : (call : Call) → IsAskedAt ms call → IsAskedAt ns call
    one (SendsDue now returned bytes) k = f now k
    one _ k = tt

among_first : (x : ℕ) (ms ns : List ℕ) → is_among x ms ≡ true → is_among x (ms ++ ns) ≡ true
among_first x ms ns k = list_any-append (λ y. y == x) ms ns ∙ ap (λ b. b || is_among x ns) k

among_last : (x : ℕ) (ms ns : List ℕ) → is_among x ns ≡ true → is_among x (ms ++ ns) ≡ true
among_last x ms ns k = list_any-append (λ y. y == x) ms ns ∙ or_right (is_among x ms) (is_among x ns) k

-- one step, and then another that is at no other moments
then_made : {others : List ℕ} {a b c : LinkState} {d e f : EndState} → IsMadeInTime others a b d e → IsMadeInTime [] b c e f → IsMadeInTime others a c d f
then_made {others} {a} {b} {c} {d} {e} {f} m n =
    let same : b.device ≡ a.device = device_made a b m.calls m.made in
    let moments : others ++ moments_delivered (m.deliveries ++ n.deliveries) ≡ (others ++ moments_delivered m.deliveries) ++ moments_delivered n.deliveries =
    ap (λ zs. others ++ zs) (flat_map-append delivered_at m.deliveries n.deliveries) ∙ sym (append_assoc others (moments_delivered m.deliveries) (moments_delivered n.deliveries)) in
    record {
      calls = n.calls ++ m.calls;
      made = made_more a b c m.calls n.calls m.made n.made;
      deliveries = m.deliveries ++ n.deliveries;
      failed_receives = m.failed_receives + n.failed_receives;
      failed_sends = m.failed_sends + n.failed_sends;
      runs = subst (λ (xs : List Sent). DeliversAndTakes (m.deliveries ++ n.deliveries) xs (m.failed_receives + n.failed_receives) (m.failed_sends + n.failed_sends) d f)
          (sym (sent_both a.device m.calls n.calls))
          (runs_more m.runs (subst (λ (p : Peer). DeliversAndTakes n.deliveries (datagrams_sent p n.calls) n.failed_receives n.failed_sends e f) same n.runs));
      heard = heard_both m.calls n.calls ∙ ap (λ zs. zs ++ datagrams_heard n.calls) m.heard ∙ ap (λ zs. flat_map short_datagram m.deliveries ++ zs) n.heard
          ∙ sym (flat_map-append short_datagram m.deliveries n.deliveries);
      asked = subst (λ (ms : List ℕ). AllByRecursion (IsAskedAt ms) (n.calls ++ m.calls)) (sym moments)
          (each_append (IsAskedAt ((others ++ moments_delivered m.deliveries) ++ moments_delivered n.deliveries)) n.calls m.calls
          (asked_more (moments_delivered n.deliveries) ((others ++ moments_delivered m.deliveries) ++ moments_delivered n.deliveries) (λ x k. among_last x (others ++ moments_delivered m.deliveries) (moments_delivered n.deliveries) k) n.calls n.asked)
          (asked_more (others ++ moments_delivered m.deliveries) ((others ++ moments_delivered m.deliveries) ++ moments_delivered n.deliveries) (λ x k. among_first x (others ++ moments_delivered m.deliveries) (moments_delivered n.deliveries) k) m.calls m.asked));
    }

not_changed : (others : List ℕ) {a b : LinkState} {d e : EndState} → b ≡ a → DeliversAndTakes [] [] 0 0 d e → IsMadeInTime others a b d e
not_changed others same runs = record { calls = []; made = same; deliveries = []; failed_receives = 0; failed_sends = 0; runs = runs; heard = refl; asked = tt }

unchanged : (others : List ℕ) {a b : LinkState} {d e : EndState} → b ≡ a → e ≡ d → IsMadeInTime others a b d e
unchanged others {d = d} same same_end = not_changed others same (subst (λ (x : EndState). DeliversAndTakes [] [] 0 0 d x) (sym same_end) (runs_none d))

-- an answer was taken, which is nothing of the end
then_taken : {a l new : LinkState} {d e : EndState} (h : ℕ) → IsMadeInTime [] a l d e → new ≡ taken h l → IsMadeInTime [] a new d e
then_taken {l = l} h m made = record {
  calls = TakesAnswer h (answer_under h l.untaken) ∷ m.calls;
  made = (l, m.made, (refl, made), tt);
  deliveries = m.deliveries;
  failed_receives = m.failed_receives;
  failed_sends = m.failed_sends;
  runs = m.runs;
  heard = m.heard;
  asked = (tt, m.asked);
}

none_marked_sent : (t h : ℕ) (us : List Untaken) → list_any (is_late t) us ≡ false → list_any (is_late t) (map (marked_sent t h) us) ≡ false
none_marked_sent t h [] e = refl
none_marked_sent t h (u ∷ us) e =
    let b = or_parts (is_late t u) (list_any (is_late t) us) e in
    or_from (is_late t u) (list_any (is_late t) (map (marked_sent t h) us)) b.0 (none_marked_sent t h us b.1)

pub calm_after : (now : ℕ) (l : LinkState) → late_at now l ≡ false → late_at now (gone_on now l) ≡ false
calm_after now l calm = by (decision now l)
  where
    by : (d : Decision) → late_at now (after_due d (present_moment now l) l) ≡ false
    by (GivesCommand c) =
        ap (λ k. list_any (is_late k) (map (marked_sent (present_moment now l) c.handle) l.untaken)) (again l.moment now) ∙ none_marked_sent (present_moment now l) c.handle l.untaken calm
    by _ = ap (λ k. list_any (is_late k) l.untaken) (again l.moment now) ∙ calm

-- what is sent by calls in time, at these moments, by what was decided
record SentBy (moments : List ℕ) (old new : LinkState) (ds : List Decision) : Type 0 where
  pub calls : List Call
  pub made : MakesInTime old calls new
  pub sent : (p : Peer) → datagrams_sent p calls ≡ all_given_to p ds
  pub heard : datagrams_heard calls ≡ []
  pub asked : AllByRecursion (IsAskedAt moments) calls

sent_nothing : (moments : List ℕ) {old new : LinkState} {ds : List Decision} → new ≡ old → ((p : Peer) → [] ≡ all_given_to p ds) → SentBy moments old new ds
sent_nothing moments same none = record { calls = []; made = same; sent = none; heard = refl; asked = tt }

sent_out : (d : Decision) → is_sent_out (due_answer d) ≡ goes_on d
sent_out (GivesCommand c) = refl
sent_out _ = refl

made_from : (n now : ℕ) (l : LinkState) → late_at now l ≡ false → SentBy (now ∷ []) l (link_from now n l) (decisions_from now n l)
unfolding link_from decisions_from
made_from zero now l calm = sent_nothing (now ∷ []) refl (λ p. refl)
made_from (suc n) now l calm = by_test (goes_on (decision now l)) (made_from n now (gone_on now l) (calm_after now l calm))
  where
    d : Decision
    d = decision now l

    call : Call
    call = SendsDue now (due_answer d) (due_bytes d)

    one_sent : (p : Peer) → datagrams_sent p (call ∷ []) ≡ given_to p d
    one_sent p = ap (λ b. cond b ((record { to = p; bytes = due_bytes d }) ∷ []) []) (sent_out d)

    made_one : MakesInTime l (call ∷ []) (gone_on now l)
    made_one = (l, refl, (refl, refl, refl), calm)

    at_now : is_among now (now ∷ []) ≡ true
    at_now = ap (λ b. b || false) (equal_self now)

    by_test : (b : Bool) → SentBy (now ∷ []) (gone_on now l) (link_from now n (gone_on now l)) (decisions_from now n (gone_on now l)) →
        SentBy (now ∷ []) l (cond b (link_from now n (gone_on now l)) (gone_on now l)) (d ∷ cond b (decisions_from now n (gone_on now l)) [])
    by_test true rest = record {
      calls = rest.calls ++ call ∷ [];
      made = made_more l (gone_on now l) (link_from now n (gone_on now l)) (call ∷ []) rest.calls made_one rest.made;
      sent = λ p. sent_both p (call ∷ []) rest.calls ∙ ap (λ zs. zs ++ datagrams_sent p rest.calls) (one_sent p) ∙ ap (λ zs. given_to p d ++ zs) (rest.sent p);
      heard = heard_both (call ∷ []) rest.calls ∙ rest.heard;
      asked = each_append (IsAskedAt (now ∷ [])) rest.calls (call ∷ []) rest.asked (at_now, tt);
    }
    by_test false rest = record {
      calls = call ∷ [];
      made = made_one;
      sent = λ p. one_sent p ∙ sym (append-nil (given_to p d));
      heard = refl;
      asked = (at_now, tt);
    }

-- what was sent is a step over an end
step_of : {now : ℕ} {old new : LinkState} {ds : List Decision} {e f : EndState} (failed : ℕ) → SentBy (now ∷ []) old new ds → SendsAllBut failed e f (all_given_to old.device ds) →
    IsMadeInTime (now ∷ []) old new e f
step_of {old = old} {e = e} {f = f} failed x s = record {
  calls = x.calls;
  made = x.made;
  deliveries = [];
  failed_receives = 0;
  failed_sends = failed;
  runs = subst (λ (xs : List Sent). DeliversAndTakes [] xs 0 failed e f) (sym (x.sent old.device))
      (record { telling = s.telling; delivered = λ told. s.delivered told ∙ sym (append-nil e.delivered); taken = s.taken; failures = λ below. omega (arith, s.failures below); sends = s.sends });
  heard = x.heard;
  asked = x.asked;
}

gives_made : (now : ℕ) (old new : LinkState) (e f : EndState) (r : DriveReport) → SendsInTime now old new e f r → IsMadeInTime (now ∷ []) old new e f
gives_made now old new e f r k = on_bool (late_at now old) (λ b. late_at now old ≡ b → GivesIf b now old new e f r → IsMadeInTime (now ∷ []) old new e f)
    (λ q x. unchanged (now ∷ []) x.0 x.1)
    (λ q x. step_of r.failed_sends (subst (λ (l : LinkState). SentBy (now ∷ []) old l (decisions_from now (old.span + 1) old)) (sym x.link) (made_from (old.span + 1) now old q)) x.sends) refl k

all_made : (now : ℕ) (old new : LinkState) (ds : List Decision) → GivesAllInTime now old new ds → SentBy (now ∷ []) old new ds
all_made now old new ds (is, link) =
    on_bool (late_at now old) (λ b. late_at now old ≡ b → ds ≡ cond b (IsLost ∷ []) (decisions_from now (old.span + 1) old) → new ≡ cond b old (link_from now (old.span + 1) old) → SentBy (now ∷ []) old new ds)
    (λ q is link. sent_nothing (now ∷ []) link (λ p. ap (all_given_to p) (sym is)))
    (λ q is link. subst (λ (xs : List Decision). SentBy (now ∷ []) old new xs) (sym is) (subst (λ (l : LinkState). SentBy (now ∷ []) old l (decisions_from now (old.span + 1) old)) (sym link) (made_from (old.span + 1) now old q))) refl is link

-- what is heard of a delivery, by calls in time
record HeardBy (d : Delivery) (old new : LinkState) : Type 0 where
  pub calls : List Call
  pub made : MakesInTime old calls new
  pub sent : (p : Peer) → datagrams_sent p calls ≡ []
  pub heard : datagrams_heard calls ≡ short_datagram d
  pub asked : (moments : List ℕ) → AllByRecursion (IsAskedAt moments) calls

heard_nothing : {d : Delivery} {old new : LinkState} → new ≡ old → [] ≡ short_datagram d → HeardBy d old new
heard_nothing same none = record { calls = []; made = same; sent = λ p. refl; heard = none; asked = λ ms. tt }

heard_made : (d : Delivery) (old new : LinkState) (n : ℕ) → HearsDelivery d old new n → HeardBy d old new
heard_made (Datagram from bytes now) old new n x = by (nat_le (length bytes) 1472) refl
  where
    by : (b : Bool) → nat_le (length bytes) 1472 ≡ b → HeardBy (Datagram from bytes now) old new
    by true q =
        let s = x.short (leb-true (length bytes) 1472 q) in
        record {
          calls = Receives from bytes s.1.content now s.0 ∷ [];
          made = (old, refl, (s.1.holds, s.1.answer_is, s.1.link_is), tt);
          sent = λ p. refl;
          heard = ap (λ b. cond b (Datagram from bytes now ∷ []) []) (sym q);
          asked = λ ms. (tt, tt);
        }
    by false q = heard_nothing (x.long (leb-false (length bytes) 1472 q)).0 (ap (λ b. cond b (Datagram from bytes now ∷ []) []) (sym q))
heard_made _ old new n x = heard_nothing x.0 refl

after_made : (d : Delivery) (old new : LinkState) (ds : List Decision) → GivesAfter d old new ds → SentBy (delivered_at d) old new ds
after_made (Datagram from bytes now) old new ds x = all_made now old new ds x
after_made (Quiet now) old new ds x = all_made now old new ds x
after_made Failed old new ds x = sent_nothing [] x.1 (λ p. ap (all_given_to p) (sym x.0))

turn_made : (old new : LinkState) (e f : EndState) (r : DriveReport) → Turns old new e f r → IsMadeInTime [] old new e f
turn_made old new e f r (inl x) =
    let h = heard_made x.delivery old x.turns.between x.answered x.turns.hears in
    let g = after_made x.delivery x.turns.between new x.decisions x.turns.gives in
    record {
      calls = g.calls ++ h.calls;
      made = made_more old x.turns.between new h.calls g.calls h.made g.made;
      deliveries = x.delivery ∷ [];
      failed_receives = r.failed_receives;
      failed_sends = r.failed_sends;
      runs = subst (λ (xs : List Sent). DeliversAndTakes (x.delivery ∷ []) xs r.failed_receives r.failed_sends e f)
          (sym (sent_both old.device h.calls g.calls ∙ ap (λ zs. zs ++ datagrams_sent old.device g.calls) (h.sent old.device) ∙ g.sent old.device)) x.runs;
      heard = heard_both h.calls g.calls ∙ ap (λ zs. zs ++ datagrams_heard g.calls) h.heard ∙ ap (λ zs. short_datagram x.delivery ++ zs) g.heard;
      asked = subst (λ (ms : List ℕ). AllByRecursion (IsAskedAt ms) (g.calls ++ h.calls)) (sym (append-nil (delivered_at x.delivery)))
          (each_append (IsAskedAt (delivered_at x.delivery)) g.calls h.calls g.asked (h.asked (delivered_at x.delivery)));
    }
turn_made old new e f r (inr x) = not_changed [] x.link (runs_closed (runs_none e) x.received)

turns_made : {h n : ℕ} {lost : Bool} {old new : LinkState} {e f : EndState} → TakesTurns h n lost old new e f → IsMadeInTime [] old new e f
turns_made NoneTaken = unchanged [] refl refl
turns_made (OneTaken {l = l} {new = new} {e = e} {f = f} before none going turn) = then_made (turns_made before) (turn_made l new e f turn.report turn.turns)

waits_made : (h turns : ℕ) (old new : LinkState) (o : Outcome) (e f : EndState) → Waits h turns old o new e f → IsMadeInTime [] old new e f
waits_made h turns old new (outcomes.Answered a) e f w = then_taken h (turns_made w.4) w.6
waits_made h turns old new (outcomes.Refused fault) e f w = absurd w
waits_made h turns old new outcomes.Lost e f w = turns_made w.3
waits_made h turns old new outcomes.Unanswered e f w = turns_made w.0

turns_made_before : {h until n : ℕ} {lost closed : Bool} {old new : LinkState} {e f : EndState} → TakesTurnsBefore h until n lost closed old new e f → IsMadeInTime [] old new e f
turns_made_before waiting.NoTurn = unchanged [] refl refl
turns_made_before (waiting.OneTurn {l = l} {new = new} {e = e} {f = f} before none going time turn) = then_made (turns_made_before before) (turn_made l new e f turn.report turn.turns)

waits_made_until : (h until : ℕ) (old new : LinkState) (o : Outcome) (e f : EndState) → WaitsUntil h until old o new e f → IsMadeInTime [] old new e f
waits_made_until h until old new (outcomes.Answered a) e f w = then_taken h (turns_made_before w.5) w.7
waits_made_until h until old new (outcomes.Refused fault) e f w = absurd w
waits_made_until h until old new outcomes.Lost e f w = turns_made_before w.4
waits_made_until h until old new outcomes.Unanswered e f w = turns_made_before w.3

pub calm_submitted : (request : RequestFields) (now : ℕ) (h : Handle) (l : LinkState) → Ok h ≡ submission request l → late_at now l ≡ false → late_at now (submitted request now l) ≡ false
calm_submitted request now h l is calm =
    ap (λ a. late_at now (after_submission a request now l)) (sym is)
    ∙ ap (λ k. list_any (is_late k) (l.untaken ++ new_untaken (present_moment now l) (command_under h.0 request) ∷ [])) (again l.moment now)
    ∙ list_any-append (is_late (present_moment now l)) l.untaken (new_untaken (present_moment now l) (command_under h.0 request) ∷ [])
    ∙ ap (λ b. b || (nat_lt 15000 (present_moment now l - present_moment now l) || false)) calm ∙ ap (λ b. b || false) (no_time (present_moment now l))
  where
    no_time : (k : ℕ) → nat_lt 15000 (k - k) ≡ false
    no_time k = grind (arith, nat_tests)

begins_made : (request : RequestFields) (returned : Result Handle ControlFault) (old new : LinkState) (e f : EndState) (b : Begins request returned old new e f) → IsMadeInTime (b.now ∷ []) old new e f
begins_made request (Err fault) old new e f b = unchanged (b.now ∷ []) b.gives.0 b.gives.1
begins_made request (Ok h) old new e f b = by (late_at b.now old) refl b.answer
  where
    by : (late : Bool) → late_at b.now old ≡ late → Ok h ≡ cond late (Err faults.Lost) (submission request old) → IsMadeInTime (b.now ∷ []) old new e f
    by true q is = cc
    by false q is =
        let first = submitted request b.now old in
        let call = Submits request b.now (Ok h) in
        let report : DriveReport = b.gives.0 in
        let given = b.gives.1 in
        let x = subst (λ (l : LinkState). SentBy (b.now ∷ []) first l (decisions_from b.now (first.span + 1) first)) (sym given.link)
        (made_from (first.span + 1) b.now first (calm_submitted request b.now h old is q)) in
        let same : first.device ≡ old.device = device_called old first call (is, refl) in
        step_of {now = b.now} {old = old} {new = new} {ds = decisions_from b.now (first.span + 1) first} {e = e} {f = f} report.failed_sends (record {
          calls = x.calls ++ call ∷ [];
          made = made_more old first new (call ∷ []) x.calls (old, refl, (is, refl), tt) x.made;
          sent = λ p. sent_both p (call ∷ []) x.calls ∙ x.sent p;
          heard = heard_both (call ∷ []) x.calls ∙ x.heard;
          asked = each_append (IsAskedAt (b.now ∷ [])) x.calls (call ∷ []) x.asked (tt, tt);
        }) (subst (λ (p : Peer). SendsAllBut report.failed_sends e f (all_given_to p (decisions_from b.now (first.span + 1) first))) same given.sends)

asks_made : (request : RequestFields) (turns : ℕ) (old new : LinkState) (o : Outcome) (e f : EndState) (a : Asks request turns old o new e f) → IsMadeInTime (a.begins.now ∷ []) old new e f
asks_made request turns old new o e f a = then_made (begins_made request a.returned old a.link e a.end_then a.begins) (by a.returned a.outcome_is)
  where
    by : (returned : Result Handle ControlFault) → HasOutcome turns returned a.link o new a.end_then f → IsMadeInTime [] a.link new a.end_then f
    by (Ok h) w = waits_made h.0 turns a.link new o a.end_then f w
    by (Err fault) w = unchanged [] w.1 w.2

-- What each step over an end makes of a link and sends, it does by calls in time.
pub every_step : EveryStepIsInTime
every_step = record { giving = gives_made; turning = turn_made; beginning = begins_made; waiting = waits_made; waiting_until = waits_made_until; asking = asks_made }

-- ---- once late, late ever after

-- A link that is late at a moment is late at each later one.
pub stays_late : (now later : ℕ) (l : LinkState) → now ≤ later → late_at now l ≡ true → late_at later l ≡ true
stays_late now later l le late = by l.untaken late
  where
    more : (at : ℕ) → nat_lt 15000 (max l.moment now - at) ≡ true → nat_lt 15000 (max l.moment later - at) ≡ true
    more at p = grind (arith, nat_tests)

    one : (a c d : Bool) → (c ≡ true → d ≡ true) → (a && c) ≡ true → (a && d) ≡ true
    one true c d f p = f p
    one false c d f p = p

    either : (a b x y : Bool) → (a ≡ true → x ≡ true) → (b ≡ true → y ≡ true) → (a || b) ≡ true → (x || y) ≡ true
    either true b x y f g p = ap (λ z. z || y) (f refl)
    either false b x y f g p = or_right x y (g p)

    by : (us : List Untaken) → list_any (is_late (present_moment now l)) us ≡ true → list_any (is_late (present_moment later l)) us ≡ true
    by [] p = cc
    by (u ∷ us) p =
        either (is_late (present_moment now l) u) (list_any (is_late (present_moment now l)) us) (is_late (present_moment later l) u) (list_any (is_late (present_moment later l)) us)
        (one (is_none u.answer) (nat_lt 15000 (present_moment now l - u.submitted)) (nat_lt 15000 (present_moment later l - u.submitted)) (more u.submitted)) (by us) p

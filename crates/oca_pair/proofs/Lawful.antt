-- The laws of networks.
use Rattle.oca_pair.proofs.Words.{◌≡◌, ℕ, ◌+◌, ◌*◌, ◌<◌, ◌≤◌, true, false, cond, List, [], ◌∷◌, ◌++◌, length, Option, Some, refl, sym, ap, ◌∙◌, subst, arith, ◌⊎◌, inl, inr, map, Ok, AllByRecursion}
use Rattle.oca_pair.proofs.Words.{slice_get, list_any, eqb, eq-eqb, eqb-true, Peer, Reply, same_peer, CommandFields, DeviceSizes, Msg, Command, Commands, pdu_encoding, read_datagram}
use Rattle.oca_pair.proofs.Words.{WrittenIsReadBack, Object, Entry, window, outside, entry_under, Judgement, Fresh, Duplicate, Reused, Old, Verdict, Event, Datagram, Tick, changes, Admitted, Executed}
use Rattle.oca_pair.proofs.Words.{run, accepted, State, admits, judged_in, reply_of, after_command, response, answer_to_command, answers_to_reading, packets_of, count_of_command, counts, plus, served}
use Rattle.oca_pair.proofs.Words.{verdict_of_reading, verdict, AnswerFields, Untaken, Start, Network, PeerLink, SentDatagram, SubmittedCommand, TakenAnswer, Setup, Renewal, opening, left_by, Step}
use Rattle.oca_pair.proofs.Words.{sendings_in, after_steps, happenings, are_apart, Fit, KeepsItsSession, FindsRoom, SpanFits, Execution, executions_in, executions_for, executions_under}
use Rattle.oca_pair.proofs.Words.{IsAnswerOfItsCommand, handles_of, EachToNext, AnswersItsCommands, CarriesUntaken, IsAnswered, AnswersUntaken, ExecutesOnce, OnlyRenewalsRenew}
use Rattle.oca_pair.proofs.Words.{EveryFirstLinkIsAsSetUp, end_of}
use Rattle.std.specs.List.{IsDistinct}
use Rattle.oca_device.specs.declared.verdict.Verdict.TheVariants as verdicts
use Rattle.oca_pair.specs.declared.outcome.Outcome.TheVariants as outcomes
use Rattle.oca_pair.proofs.Fixed.{sizes_kept}
use Rattle.oca_pair.proofs.Core.{AllBelow, Trails, trails_all, IsServed}
use Rattle.oca_pair.proofs.Lists.{IsIn, contains_in, in_contains, each_at, each_in, flipped}
use Rattle.oca_pair.proofs.Arrivals.{Keeps, keeps_before, looked_at, found_room}
use Rattle.oca_pair.proofs.ByEvents.{stands_by}
use Rattle.oca_pair.proofs.Executions.{executed_for, executions_are}
use Rattle.oca_pair.proofs.Wire.{IsSendable, read_command}
use Rattle.oca_pair.proofs.Truths.{Past, past, and_then, state_of, IsSubmitted, IsTrueAnswer, window_executed}
use Rattle.oca_pair.proofs.Fair.{IsFair, AreOwn, Fair, owns_then, judged_duplicate}
use Rattle.oca_pair.proofs.Delivering.{let_in, after_read, answers_read, held_answer}
use Rattle.oca_pair.proofs.Keeping.{accepted_by, Kept, Once, executed_noted, accepted_let_in}
use Rattle.oca_pair.proofs.Span.{GoodSince, untaken_low, untaken_served}
use Rattle.oca_pair.proofs.Renewing.{renew_nothing, nothing_left}
use Rattle.oca_pair.proofs.Networks.{one_or, LinkSound, Sound, sound_after}

-- ---- the law of answers

-- where no two have one handle, an execution is the only one under its handle
none_under : (h : ℕ) (xs : List Execution) → AllByRecursion (λ y. eqb h y ≡ false) (map (λ (x : Execution). x.command.handle) xs) → executions_under h xs ≡ []
none_under h [] a = refl
none_under h (x ∷ xs) a = ap (λ b. cond b (x ∷ executions_under h xs) (executions_under h xs)) (flipped h x.command.handle a.0) ∙ none_under h xs a.1

pub only_one : (h : ℕ) (x : Execution) (xs : List Execution) → IsDistinct eqb (map (λ (y : Execution). y.command.handle) xs) → IsIn x xs → x.command.handle ≡ h → executions_under h xs ≡ x ∷ []
unfolding IsDistinct
only_one h x [] d i e = absurd i
only_one h x (y ∷ ys) d (inl q) e =
    let his : y.command.handle ≡ h = ap (λ (z : Execution). z.command.handle) q ∙ e in
    ap (λ b. cond b (y ∷ executions_under h ys) (executions_under h ys)) (eq-eqb y.command.handle h his)
    ∙ ap (λ zs. y ∷ zs) (none_under h ys (rw his at d.0)) ∙ ap (λ z. z ∷ []) q
only_one h x (y ∷ ys) d (inr i) e =
    let other : eqb y.command.handle h ≡ false = rw e at (member (λ z. eqb y.command.handle z ≡ false) ys d.0 i) in
    ap (λ b. cond b (y ∷ executions_under h ys) (executions_under h ys)) other ∙ only_one h x ys d.1 i e
  where
    member : (P : ℕ → Type 0) (zs : List Execution) → AllByRecursion P (map (λ (z : Execution). z.command.handle) zs) → IsIn x zs → P x.command.handle
    member P [] a i = absurd i
    member P (z ∷ zs) a (inl q) = let his : z.command.handle ≡ x.command.handle = ap (λ (w : Execution). w.command.handle) q in rw his at a.0
    member P (z ∷ zs) a (inr i) = member P zs a.1 i

pub true_answer : (p : Peer) (h : ℕ) (a : AnswerFields) (n : Network) → (KeepsItsSession p n → Kept p (past n)) → IsTrueAnswer p h a (past n) → IsAnswerOfItsCommand p h a n
true_answer p h a n kept t =
    let are : executions_for p n ≡ executed_for p (state_of (past n)).notes = executions_are n.sizes p n.tree n.events in
    record {
      execution = t.execution;
      executed = in_contains t.execution (executions_for p n) (subst (λ (xs : List Execution). IsIn t.execution xs) (sym are) t.executed);
      came = record {
        later = t.honest.came.later;
        before = t.honest.came.before;
        now = t.honest.came.now;
        events = t.honest.came.events;
        objects = t.honest.came.objects ∙ (stands_by n.sizes n.tree (Tick t.honest.came.now ∷ t.honest.came.before)).tree_is;
      };
      submitted = in_contains _ n.submitted t.honest.submitted;
      handle = t.handle;
      reply = t.honest.reply;
      answer_is = t.answer_is;
      only = λ keeps. subst (λ (xs : List Execution). executions_under h xs ≡ t.execution ∷ []) (sym are)
          (only_one h t.execution (executed_for p (state_of (past n)).notes) (kept keeps).once t.executed t.handle);
    }

-- without the last
before_last : (Is : ℕ → ℕ → Type 0) (xs : List ℕ) (h : ℕ) → EachToNext Is (xs ++ h ∷ []) → EachToNext Is xs
before_last Is [] h a = tt
before_last Is (x ∷ []) h a = tt
before_last Is (x ∷ y ∷ xs) h a = (a.0, before_last Is (y ∷ xs) h a.1)

pub answers_law : WrittenIsReadBack → (w : DeviceSizes) (s : Setup) (tree : List Object) (starts : List Start) (es : List Step) → are_apart s.address starts ≡ true → Fit starts es →
    AnswersItsCommands (after_steps es (opening w s tree starts))
answers_law law w s tree starts es apart fit =
    let n : Network = after_steps es (opening w s tree starts) in
    let sound : Sound s.span n = sound_after law w s tree starts es apart fit in
    record {
      held = λ i l h a own held.
          let of : LinkSound s.span n l = each_at (LinkSound s.span n) n.links i l sound.each own in
          true_answer l.peer h a n of.kept (rw held at (held_answer l.peer (past n) h l.link.untaken of.fair.untaken));
      was_taken = λ i l h a own was.
          let of : LinkSound s.span n l = each_at (LinkSound s.span n) n.links i l sound.each own in
          true_answer l.peer h a n of.kept (each_in (λ (t : TakenAnswer). t.peer ≡ l.peer → IsTrueAnswer l.peer t.handle t.answer (past n)) _ n.taken of.fair.was_taken (contains_in _ n.taken was) refl);
      rising = λ i l own.
          let of : LinkSound s.span n l = each_at (LinkSound s.span n) n.links i l sound.each own in
          before_last (λ x y. x < y) (handles_of l.peer n.submitted) (end_of l.link.next) of.fair.rising;
      handles = λ i l own never.
          let of : LinkSound s.span n l = each_at (LinkSound s.span n) n.links i l sound.each own in
          before_last (λ x y. y ≡ x + 1) (handles_of l.peer n.submitted) (end_of l.link.next) (of.consecutive never);
    }

-- ---- each command is executed once

pub once_law : WrittenIsReadBack → (w : DeviceSizes) (s : Setup) (tree : List Object) (starts : List Start) (es : List Step) → are_apart s.address starts ≡ true → Fit starts es →
    ExecutesOnce (after_steps es (opening w s tree starts))
once_law law w s tree starts es apart fit i l own keeps =
    let n : Network = after_steps es (opening w s tree starts) in
    let sound : Sound s.span n = sound_after law w s tree starts es apart fit in
    let of : LinkSound s.span n l = each_at (LinkSound s.span n) n.links i l sound.each own in
    subst (λ (xs : List Execution). IsDistinct eqb (map (λ (x : Execution). x.command.handle) xs)) (sym (executions_are n.sizes l.peer n.tree n.events)) (of.kept keeps).once

-- ---- the law of commands in hand

-- a delivery at the moment is answered
answered_now : WrittenIsReadBack → (s : ℕ) (late few : List ℕ) (n : Network) (k now : ℕ) (d : SentDatagram) (next : Option ℕ) (us : List Untaken) (u : Untaken) (c : CommandFields) →
    2 * s + length few ≤ n.sizes.window + 1 → slice_get n.to_device k ≡ Some d → (fair : Fair d.peer next us (past n) n.to_device n.to_links n.taken) →
    Trails u.command.handle late few (accepted_by d.peer (past n)) → GoodSince s late d.peer next us n.submitted (accepted_by d.peer (past n)) →
    IsIn u us → u.command ≡ c → d.bytes ≡ pdu_encoding (Commands true (c ∷ [])) → FindsRoom d.peer now n → IsAnswered k now n d c
answered_now law s late few n k now d next us u c wide there fair trails good held command bytes finds =
    by_judgement (judged_in n.sizes s2 p c) refl served_by
  where
    p : Peer
    p = d.peer

    g : Past
    g = past n

    e : Event
    e = Datagram d.peer d.bytes now

    m : Msg
    m = Command true c

    s2 : State
    s2 = let_in p m now g

    its : IsFair p g u
    its = each_in (IsFair p g) u us fair.untaken held

    sub : IsSubmitted p c g.submitted
    sub = rw command at (each_in (IsFair p g) u us fair.untaken held).0

    sendable : IsSendable c
    sendable = (each_in (λ (x : SubmittedCommand). x.peer ≡ p → IsSendable x.command × (x.command.handle < end_of next)) _ g.submitted fair.sendable sub refl).0

    read : read_datagram d.bytes ≡ Ok (m ∷ [])
    read = ap read_datagram bytes ∙ read_command law c sendable

    room : admits n.sizes (looked_at now g) p ≡ true
    room = found_room p now g finds

    own2 : AreOwn p (and_then e g) s2.notes
    own2 = ((λ same. tt), owns_then p g e (state_of g).notes fair.own)

    -- the commands of the peer's session are the last of all that were accepted
    A : List Entry
    A = accepted (run p s2.notes)

    in_session : (before : List Entry) × (accepted_by p g ≡ before ++ A)
    in_session = accepted_let_in p m now g

    -- what the window has under the handle is the command
    same_command : (x : Entry) → entry_under c.handle (window n.sizes.window A) ≡ Some x → x.command ≡ c
    same_command x q =
        let a = window_executed n.sizes p (and_then e g) c.handle x s2.notes own2 q in
        fair.unique x.command c a.0.honest.submitted sub (eqb-true x.command.handle c.handle a.1)

    low : AllBelow u.command.handle (outside n.sizes.window A)
    low = untaken_low n.sizes.window s late few p next us n.submitted in_session.0 A u wide (rw in_session.1 at trails) (rw in_session.1 at good) held

    served_by : IsServed (judged_in n.sizes s2 p c)
    served_by = rw command at (untaken_served n.sizes.window A u low (λ x q. same_command x (rw command at q) ∙ sym command))

    was : executions_for p n ≡ executed_for p (state_of g).notes
    was = executions_are n.sizes p n.tree n.events

    -- admitting it executes nothing
    let_in_none : executed_for p s2.notes ≡ executed_for p (state_of g).notes
    let_in_none = executed_noted p (Admitted (m ∷ [])) (looked_at now g)

    -- from the state and the answers
    made : (s' : State) (reply : Reply) (x : Execution) (v : Verdict) → state_of (and_then e g) ≡ s' →
        answers_to_reading g.sizes p (read_datagram d.bytes) (looked_at now g) ≡ response c.handle reply ∷ [] →
        verdict n.sizes n.tree n.events d.peer d.bytes now ≡ v →
        ((v ≡ verdicts.Served 1 0 0 0) × (executed_for p s'.notes ≡ x ∷ executed_for p (state_of g).notes))
        ⊎ ((v ≡ verdicts.Served 0 1 0 0) × (executed_for p s'.notes ≡ executed_for p (state_of g).notes) × IsIn x (executed_for p (state_of g).notes)) →
        x.command ≡ c → reply ≡ x.reply → IsAnswered k now n d c
    made s' reply x v state_is answers_are verdict_is kind command reply_is =
        let after : executions_in p n.tree (changes n.sizes (happenings (e ∷ n.events))) ≡ executed_for p s'.notes =
        executions_are n.sizes p n.tree (e ∷ n.events) ∙ ap (λ (s : State). executed_for p s.notes) state_is in
        record {
          execution = x;
          command = command;
          executed = rw there (elim kind [
            | inl q ↦ inl (ap (λ y. outcomes.Device y ∷ []) (verdict_is ∙ q.0), after ∙ q.1 ∙ ap (λ (xs : List Execution). x ∷ xs) (sym was))
            | inr q ↦ inr (
              ap (λ y. outcomes.Device y ∷ []) (verdict_is ∙ q.0),
              after ∙ q.1 ∙ sym was,
              in_contains x (executions_for p n) (subst (λ (xs : List Execution). IsIn x xs) (sym was) q.2),
            )
          ]);
          sent = rw there (ap (λ ps. n.to_links ++ sendings_in p ps) (ap packets_of answers_are ∙ ap (λ r. packets_of (response c.handle r ∷ [])) reply_is));
        }

    verdict_read : verdict n.sizes n.tree n.events d.peer d.bytes now ≡ served (plus (count_of_command (judged_in n.sizes s2 p c)) (counts 0 0 0 0))
    verdict_read =
        ap (λ r. verdict_of_reading n.sizes p r (looked_at now g)) read
        ∙ ap (λ b. cond b (served (plus (count_of_command (judged_in n.sizes s2 p c)) (counts 0 0 0 0))) verdicts.NoRoom) room

    by_judgement : (j : Judgement) → judged_in n.sizes s2 p c ≡ j → IsServed j → IsAnswered k now n d c
    by_judgement Fresh q t =
        let x : Execution = record { objects = s2.tree; command = c; reply = reply_of s2.tree p c } in
        made (after_command Fresh p c s2) x.reply x (verdicts.Served 1 0 0 0)
        (after_read n.sizes p m d.bytes now g true read room ∙ ap (λ j. after_command j p c s2) q)
        (answers_read n.sizes p m d.bytes now g true read room ∙ ap (λ j. answer_to_command j p c s2 ++ []) q)
        (verdict_read ∙ ap (λ j. served (plus (count_of_command j) (counts 0 0 0 0))) q)
        (inl (refl, executed_noted p (Executed s2.tree c x.reply) s2 ∙ ap (λ (xs : List Execution). x ∷ xs) let_in_none)) refl refl
    by_judgement (Duplicate r) q t =
        let f = judged_duplicate n.sizes.window (accepted (run p s2.notes)) c r q in
        let a = window_executed n.sizes p (and_then e g) c.handle f.0 s2.notes own2 f.1 in
        let x : Execution = record { objects = a.0.objects; command = f.0.command; reply = f.0.reply } in
        made s2 r x (verdicts.Served 0 1 0 0)
        (after_read n.sizes p m d.bytes now g true read room ∙ ap (λ j. after_command j p c s2) q)
        (answers_read n.sizes p m d.bytes now g true read room ∙ ap (λ j. answer_to_command j p c s2 ++ []) q)
        (verdict_read ∙ ap (λ j. served (plus (count_of_command j) (counts 0 0 0 0))) q)
        (inr (refl, let_in_none, subst (λ (xs : List Execution). IsIn x xs) let_in_none a.0.executed))
        (fair.unique f.0.command c a.0.honest.submitted sub (eqb-true f.0.command.handle c.handle a.1)) (sym f.2)
    by_judgement _ q t = absurd t

pub delivered : WrittenIsReadBack → (s : Peer → ℕ) (few : List ℕ) (n : Network) (k now : ℕ) (d : SentDatagram) (l : PeerLink) (c : CommandFields) → 0 < l.link.span → 2 * l.link.span + length few ≤ n.sizes.window + 1 →
    slice_get n.to_device k ≡ Some d → LinkSound s n l → (of : CarriesUntaken d l c) → Trails of.untaken.command.handle (left_by n.renewed l.peer) few (accepted_by l.peer (past n)) → FindsRoom d.peer now n → Once l.peer (past n) →
    IsAnswered k now n d c
delivered law s few n k now d l c some wide there of of_untaken trails finds once =
    let FairAs : Peer → Type 0 = λ x. Fair x l.link.next l.link.untaken (past n) n.to_device n.to_links n.taken in
    let TrailsAs : Peer → Type 0 = λ x. Trails of_untaken.untaken.command.handle (left_by n.renewed l.peer) few (accepted_by x (past n)) in
    let GoodAs : Peer → Type 0 = λ x. GoodSince (one_or l.link.span) (left_by n.renewed l.peer) x l.link.next l.link.untaken n.submitted (accepted_by x (past n)) in
    answered_now law (one_or l.link.span) (left_by n.renewed l.peer) few n k now d l.link.next l.link.untaken of_untaken.untaken c (as_wide l.link.span (length few) n.sizes.window some wide) there
    (subst FairAs of_untaken.peer of.fair) (subst TrailsAs of_untaken.peer trails) (subst GoodAs of_untaken.peer (of.good once)) (contains_in of_untaken.untaken l.link.untaken of_untaken.held) of_untaken.command of_untaken.bytes finds
  where
    as_wide : (s k w : ℕ) → 0 < s → 2 * s + k ≤ w + 1 → 2 * one_or s + k ≤ w + 1
    as_wide s k w p q = omega arith

pub never_old_law : WrittenIsReadBack → (w : DeviceSizes) (s : Setup) (tree : List Object) (starts : List Start) (es : List Step) (i : ℕ) (l : PeerLink) →
    slice_get (after_steps es (opening w s tree starts)).links i ≡ Some l → SpanFits w l (after_steps es (opening w s tree starts)) → are_apart s.address starts ≡ true → Fit starts es →
    AnswersUntaken l (after_steps es (opening w s tree starts))
never_old_law law w s tree starts es i l own fits apart fit k now d c there of_untaken finds keeps =
    let n : Network = after_steps es (opening w s tree starts) in
    let sound : Sound s.span n = sound_after law w s tree starts es apart fit in
    let of : LinkSound s.span n l = each_at (LinkSound s.span n) n.links i l sound.each own in
    let sizes : n.sizes ≡ w = sizes_kept es (opening w s tree starts) in
    let fits' : SpanFits n.sizes l n = subst (λ (x : DeviceSizes). SpanFits x l n) (sym sizes) fits in
    let As : Peer → Type 0 = λ x. Keeps x (past n) in
    let before : Keeps l.peer (past n) = subst As (sym of_untaken.peer) (keeps_before d.peer (Datagram d.peer d.bytes now) (past n) (rw there at keeps)) in
    delivered law s.span (left_by n.renewed l.peer) n k now d l c fits'.some fits'.wide there of of_untaken (trails_all of_untaken.untaken.command.handle (left_by n.renewed l.peer) (accepted_by l.peer (past n)))
    finds (of.kept before).once

-- ---- what is left of these premises where a link was never renewed

pub only_renewals_renew : OnlyRenewalsRenew
only_renewals_renew w s tree starts es p none =
    ap (λ rs. list_any (λ (x : Renewal). same_peer x.peer p) rs) (renew_nothing es (opening w s tree starts) none)

pub first_links_are_as_set_up : WrittenIsReadBack → EveryFirstLinkIsAsSetUp
first_links_are_as_set_up law w s tree starts es i l apart fit own never =
    let n : Network = after_steps es (opening w s tree starts) in
    let sound : Sound s.span n = sound_after law w s tree starts es apart fit in
    let of : LinkSound s.span n l = each_at (LinkSound s.span n) n.links i l sound.each own in
    record { nothing_left = ap length (nothing_left l.peer n.renewed never); span = of.span never }

-- Each answer that is in time is that of an execution after the call.
use Rattle.oca_pair.proofs.Words.{◌≡◌, ℕ, ◌<◌, ◌≢◌, Bool, true, false, cond, List, [], ◌∷◌, ◌++◌, Option, Some, None, refl, sym, ap, ◌∙◌, subst, arith, ◌⊎◌, inl, inr, nat_eq, Ok, AllByRecursion}
use Rattle.oca_pair.proofs.Words.{slice_get, option_map, slice_get-map, same_Some, eqb-true, Peer, Handle, status_number, same_peer, CommandFields, DeviceSizes, Seconds, Msg, Command, KeepAlive}
use Rattle.oca_pair.proofs.Words.{read_datagram, WrittenIsReadBack, Object, object_of, status_of, class_of_ono, Judgement, Fresh, Duplicate, Reused, Old, Event, Datagram, Tick, Local, Admitted}
use Rattle.oca_pair.proofs.Words.{Heartbeat, Executed, Note, changes, State, noted, admits, judged_in, reply_of, after_command, time_of, count_of_command, counts, plus, served, verdict_of_reading}
use Rattle.oca_pair.proofs.Words.{verdict, AnswerFields, Untaken, answer_under, Request, command_under, submission, Start, Network, PeerLink, SentDatagram, SubmittedCommand, Setup, opening, Step}
use Rattle.oca_pair.proofs.Words.{Submit, ToDevice, submitted_by, submit_outcome, after_submit, after_delivery, after_step, after_steps, on_link, delivery_outcome, outcome_of_step, happenings}
use Rattle.oca_pair.proofs.Words.{are_apart, StepFits, Fit, Execution, executions_for, executions_under, WasTaken, copy_of, AreInTime, IsAnswerOfOneExecution, objects_held, HappensWith, HappensIn}
use Rattle.oca_pair.proofs.Words.{IsOfOneExecutionSince, RefusalsChangeNothing, ClassesStay, OfEachAnswer, same_is, same_turned, end_of, on_bool}
use Rattle.oca_device.specs.declared.verdict.Verdict.TheVariants as verdicts
use Rattle.oca_pair.specs.declared.outcome.Outcome.TheVariants as outcomes
use Rattle.oca_pair.proofs.Fixed.{tree_kept, peers_of, peers_step, peers_steps, link_before}
use Rattle.oca_pair.proofs.Core.{none_passes}
use Rattle.oca_pair.proofs.EachStep.{after_each}
use Rattle.oca_pair.proofs.Lists.{IsIn, contains_in, in_more, in_last, each_at, each_in, mapped_at}
use Rattle.oca_pair.proofs.Wire.{IsSendable, read_command, read_keep_alive}
use Rattle.oca_pair.proofs.Clocks.{Grows, grows_reading}
use Rattle.oca_pair.proofs.ByEvents.{stands_by}
use Rattle.oca_pair.proofs.Executions.{executed_in, executed_for, executions_are}
use Rattle.oca_pair.proofs.Truths.{Past, past, and_then, state_of, IsSubmitted}
use Rattle.oca_pair.proofs.Fair.{IsOut, Fair}
use Rattle.oca_pair.proofs.Arrivals.{looked_at}
use Rattle.oca_pair.proofs.Delivering.{let_in, after_read, granted}
use Rattle.oca_pair.proofs.Keeping.{executed_noted}
use Rattle.oca_pair.proofs.Networks.{LinkSound, Sound, sound_step, sound_steps, sound_opening}
use Rattle.oca_pair.proofs.RoundTrip.{grown_steps, honest_of}
use Rattle.oca_pair.proofs.GettingThrough.{after_more, took}
use Rattle.oca_pair.proofs.InTime.{answers_in_time}
use Rattle.oca_tree.proofs.TypesKept.{execution_status, execution_refuses}
use Rattle.oca_pair.proofs.ObjectsKept.{class_stays}

-- ---- what a step executes for a peer

executed_elsewhere : (p q : Peer) (t : ℕ) (ns ms : List Note) → same_peer q p ≡ false → Grows q t ns ms → executed_for p ms ≡ executed_for p ns
executed_elsewhere p q t ns ms other g = ap (λ (xs : List Note). executed_for p xs) g.is ∙ skipped g.more g.own
  where
    skipped : (more : List Note) → AllByRecursion (λ (n : Note). (n.peer ≡ q) × (n.at ≡ t)) more → executed_for p (more ++ ns) ≡ executed_for p ns
    skipped [] own = refl
    skipped (n ∷ more) own =
        ap (λ b. cond b (executed_in n.what) [] ++ executed_for p (more ++ ns)) (ap (λ x. same_peer x p) own.0.0 ∙ other) ∙ skipped more own.1

copy_is : (d : SentDatagram) (b : List ℕ) → d.bytes ≡ b → Some d ≡ (let y : SentDatagram = record { peer = d.peer; bytes = b } in Some y)
copy_is d b e = ap (λ (x : List ℕ). let y : SentDatagram = record { peer = d.peer; bytes = x } in Some y) e

-- of a delivery: nothing is executed for the peer, or one command
abbrev Delivers : ℕ → ℕ → Peer → Network → Network → Type 0
Delivers k now p n m = (executions_for p m ≡ executions_for p n) ⊎ ((x : Execution) × HappensWith k now p x n)

delivers_own : WrittenIsReadBack → (n : Network) (k now : ℕ) (d : SentDatagram) (next : Option ℕ) (us : List Untaken) → slice_get n.to_device k ≡ Some d →
    Fair d.peer next us (past n) n.to_device n.to_links n.taken → Delivers k now d.peer n (after_delivery now (Some d) n)
delivers_own law n k now d next us there fair = by_kind (each_at (λ (x : SentDatagram). x.peer ≡ d.peer → IsOut d.peer n.submitted x.bytes) n.to_device k d fair.outgoing there refl)
  where
    p : Peer
    p = d.peer

    g : Past
    g = past n

    e : Event
    e = Datagram d.peer d.bytes now

    s1 : State
    s1 = looked_at now g

    was : executions_for p n ≡ executed_for p (state_of g).notes
    was = executions_are n.sizes p n.tree n.events

    after : executions_for p (after_delivery now (Some d) n) ≡ executed_for p (state_of (and_then e g)).notes
    after = executions_are n.sizes p n.tree (e ∷ n.events)

    let_in_none : (m : Msg) → executed_for p (let_in p m now g).notes ≡ executed_for p (state_of g).notes
    let_in_none m = executed_noted p (Admitted (m ∷ [])) s1

    stays : (s' : State) → state_of (and_then e g) ≡ s' → executed_for p s'.notes ≡ executed_for p (state_of g).notes → Delivers k now p n (after_delivery now (Some d) n)
    stays s' is same = inl (after ∙ ap (λ (s : State). executed_for p s.notes) is ∙ same ∙ sym was)

    keep_alive : read_datagram d.bytes ≡ Ok (KeepAlive (Seconds 5) ∷ []) → (b : Bool) → admits n.sizes s1 p ≡ b → Delivers k now p n (after_delivery now (Some d) n)
    keep_alive read true room =
        stays (noted p (Heartbeat (time_of (Seconds 5))) (let_in p (KeepAlive (Seconds 5)) now g)) (after_read n.sizes p (KeepAlive (Seconds 5)) d.bytes now g true read room)
        (executed_noted p (Heartbeat (time_of (Seconds 5))) (let_in p (KeepAlive (Seconds 5)) now g) ∙ let_in_none (KeepAlive (Seconds 5)))
    keep_alive read false room = stays s1 (after_read n.sizes p (KeepAlive (Seconds 5)) d.bytes now g false read room) refl

    by_judgement : (c : CommandFields) → d.bytes ≡ (copy_of p c).bytes → read_datagram d.bytes ≡ Ok (Command true c ∷ []) → admits n.sizes s1 p ≡ true → (j : Judgement) →
        judged_in n.sizes (let_in p (Command true c) now g) p c ≡ j → Delivers k now p n (after_delivery now (Some d) n)
    by_judgement c is read room Fresh q =
        let s2 : State = let_in p (Command true c) now g in
        let x : Execution = record { objects = s2.tree; command = c; reply = reply_of s2.tree p c } in
        let state_is : state_of (and_then e g) ≡ after_command Fresh p c s2 = after_read n.sizes p (Command true c) d.bytes now g true read room ∙ ap (λ j. after_command j p c s2) q in
        let verdict_is : verdict n.sizes n.tree n.events d.peer d.bytes now ≡ verdicts.Served 1 0 0 0 =
        ap (λ r. verdict_of_reading n.sizes p r s1) read
        ∙ ap (λ b. cond b (served (plus (count_of_command (judged_in n.sizes s2 p c)) (counts 0 0 0 0))) verdicts.NoRoom) room
        ∙ ap (λ j. served (plus (count_of_command j) (counts 0 0 0 0))) q in
        inr (
          x,
          record {
            copy = there ∙ copy_is d (copy_of p c).bytes is;
            met = (stands_by n.sizes n.tree (Tick now ∷ n.events)).tree_is;
            executed = (
              ap (λ (o : Option SentDatagram). delivery_outcome now o n) there ∙ ap (λ y. outcomes.Device y ∷ []) verdict_is,
              ap (λ (o : Option SentDatagram). executions_for p (after_delivery now o n)) there ∙ after ∙ ap (λ (s : State). executed_for p s.notes) state_is
                  ∙ executed_noted p (Executed s2.tree c x.reply) s2 ∙ ap (λ (xs : List Execution). x ∷ xs) (let_in_none (Command true c)) ∙ ap (λ (xs : List Execution). x ∷ xs) (sym was),
            );
            reply = refl;
            left = sym (ap (λ (s : State). s.tree) state_is) ∙ (stands_by n.sizes n.tree (e ∷ n.events)).tree_is
                ∙ sym (ap (λ (o : Option SentDatagram). objects_held (after_delivery now o n)) there);
          },
        )
    by_judgement c is read room (Duplicate r) q =
        stays (let_in p (Command true c) now g) (after_read n.sizes p (Command true c) d.bytes now g true read room ∙ ap (λ j. after_command j p c (let_in p (Command true c) now g)) q) (let_in_none (Command true c))
    by_judgement c is read room Reused q =
        stays (let_in p (Command true c) now g) (after_read n.sizes p (Command true c) d.bytes now g true read room ∙ ap (λ j. after_command j p c (let_in p (Command true c) now g)) q) (let_in_none (Command true c))
    by_judgement c is read room Old q =
        stays (let_in p (Command true c) now g) (after_read n.sizes p (Command true c) d.bytes now g true read room ∙ ap (λ j. after_command j p c (let_in p (Command true c) now g)) q) (let_in_none (Command true c))

    by_room : (c : CommandFields) → d.bytes ≡ (copy_of p c).bytes → read_datagram d.bytes ≡ Ok (Command true c ∷ []) → (b : Bool) → admits n.sizes s1 p ≡ b → Delivers k now p n (after_delivery now (Some d) n)
    by_room c is read true room = by_judgement c is read room (judged_in n.sizes (let_in p (Command true c) now g) p c) refl
    by_room c is read false room = stays s1 (after_read n.sizes p (Command true c) d.bytes now g false read room) refl

    by_kind : IsOut p n.submitted d.bytes → Delivers k now p n (after_delivery now (Some d) n)
    by_kind (inl (c, sub, is)) =
        let sendable : IsSendable c = (each_in (λ (x : SubmittedCommand). x.peer ≡ p → IsSendable x.command × (x.command.handle < end_of next)) _ n.submitted fair.sendable sub refl).0 in
        by_room c is (ap read_datagram is ∙ read_command law c sendable) (admits n.sizes s1 p) refl
    by_kind (inr is) = keep_alive (ap read_datagram is ∙ read_keep_alive law) (admits n.sizes s1 p) refl

-- what comes from another peer executes nothing for this one
elsewhere : (p q : Peer) (bytes : List ℕ) (now : ℕ) (n : Network) → same_peer q p ≡ false → executions_for p (record n { events = Datagram q bytes now ∷ n.events }) ≡ executions_for p n
elsewhere p q bytes now n other =
    executions_are n.sizes p n.tree (Datagram q bytes now ∷ n.events)
    ∙ executed_elsewhere p q (looked_at now (past n)).moment (state_of (past n)).notes (state_of (and_then (Datagram q bytes now) (past n))).notes other (grows_reading n.sizes q (read_datagram bytes) (looked_at now (past n)))
    ∙ sym (executions_are n.sizes p n.tree n.events)

-- a step
record Happens (p : Peer) (step : Step) (n : Network) : Type 0 where
  pub k : ℕ
  pub now : ℕ
  pub execution : Execution
  pub step_is : step ≡ ToDevice k now
  pub happens : HappensWith k now p execution n

abbrev Does : Peer → Step → Network → Network → Type 0
Does p step n m = (executions_for p m ≡ executions_for p n) ⊎ Happens p step n

does_step : WrittenIsReadBack → (s : Peer → ℕ) (i : ℕ) (l : PeerLink) (step : Step) (n : Network) → Sound s n → slice_get n.links i ≡ Some l → Does l.peer step n (after_step step n)
does_step law s i l step n sound own = after_each (λ e m. Does p e n m) n (record {
  stays = λ _. inl refl;
  submits = λ _ _ _ _ _. inl refl;
  asks = λ _ _ _ _. inl refl;
  delivers = λ k now d there. by_peer k now d there (same_peer d.peer p) refl;
  receives = λ _ _ _ _. inl refl;
  hears = λ from bytes now q.
      inl (elsewhere p from bytes now n (same_turned from p ∙ each_at (λ (z : PeerLink). same_peer z.peer from ≡ false) n.links i l (none_passes (λ (z : PeerLink). same_peer z.peer from) n.links q) own));
  ticks = λ now. inl (executions_are n.sizes p n.tree (Tick now ∷ n.events) ∙ sym (executions_are n.sizes p n.tree n.events));
  changes = λ ono change. inl (executions_are n.sizes p n.tree (Local ono change ∷ n.events) ∙ sym (executions_are n.sizes p n.tree n.events));
  takes = λ _ _ _ _. inl refl;
  renews = λ _ _ _ _ _ _ _. inl refl;
  keeps_alive = λ _ _ _ _. inl refl;
}) step
  where
    p : Peer
    p = l.peer

    of : LinkSound s n l
    of = each_at (LinkSound s n) n.links i l sound.each own

    delivered : (k now : ℕ) (m : Network) → Delivers k now p n m → Does p (ToDevice k now) n m
    delivered k now m (inl same) = inl same
    delivered k now m (inr (x, happens)) = inr (record { k = k; now = now; execution = x; step_is = refl; happens = happens })

    by_peer : (k now : ℕ) (d : SentDatagram) → slice_get n.to_device k ≡ Some d → (b : Bool) → same_peer d.peer p ≡ b → Does p (ToDevice k now) n (after_delivery now (Some d) n)
    by_peer k now d there true q =
        let same : d.peer ≡ p = same_is d.peer p q in
        let FairAs : Peer → Type 0 = λ x. Fair x l.link.next l.link.untaken (past n) n.to_device n.to_links n.taken in
        delivered k now (after_delivery now (Some d) n)
        (subst (λ (x : Peer). Delivers k now x n (after_delivery now (Some d) n)) same (delivers_own law n k now d l.link.next l.link.untaken there (subst FairAs (sym same) of.fair)))
    by_peer k now d there false q = inl (elsewhere p d.peer d.bytes now n q)

-- what is among the executions after steps was before them, or happens in one of them
executed_in_steps : WrittenIsReadBack → (s : Peer → ℕ) (i : ℕ) (p : Peer) (es : List Step) (n : Network) → AllByRecursion StepFits es → Sound s n →
    slice_get (peers_of n.links) i ≡ Some p → (x : Execution) → IsIn x (executions_for p (after_steps es n)) → IsIn x (executions_for p n) ⊎ HappensIn p x es n
executed_in_steps law s i p [] n fits sound own x is = inl is
executed_in_steps law s i p (e ∷ es) n fits sound own x is =
    by_rest (executed_in_steps law s i p es (after_step e n) fits.1 (sound_step law s e n fits.0 sound) (ap (λ (ps : List Peer). slice_get ps i) (peers_step e n) ∙ own) x is)
  where
    at : (z : PeerLink) × (slice_get n.links i ≡ Some z) × (z.peer ≡ p)
    at = mapped_at (λ (z : PeerLink). z.peer) n.links i p own

    does : Does p e n (after_step e n)
    does = subst (λ (q : Peer). Does q e n (after_step e n)) at.2 (does_step law s i at.0 e n sound at.1)

    by_first : Does p e n (after_step e n) → IsIn x (executions_for p (after_step e n)) → IsIn x (executions_for p n) ⊎ HappensIn p x (e ∷ es) n
    by_first (inl same) here = inl (subst (λ (xs : List Execution). IsIn x xs) same here)
    by_first (inr h) here = by_which (subst (λ (xs : List Execution). IsIn x xs) grown here)
      where
        grown : executions_for p (after_step e n) ≡ h.execution ∷ executions_for p n
        grown = ap (λ (step : Step). executions_for p (after_step step n)) h.step_is ∙ h.happens.executed.1

        by_which : IsIn x (h.execution ∷ executions_for p n) → IsIn x (executions_for p n) ⊎ HappensIn p x (e ∷ es) n
        by_which (inl same) = inr (record {
          first = [];
          k = h.k;
          now = h.now;
          last = es;
          steps_are = ap (λ (step : Step). step ∷ es) h.step_is;
          happens = subst (λ (y : Execution). HappensWith h.k h.now p y n) same h.happens;
        })
        by_which (inr i) = inl i

    by_rest : IsIn x (executions_for p (after_step e n)) ⊎ HappensIn p x es (after_step e n) → IsIn x (executions_for p n) ⊎ HappensIn p x (e ∷ es) n
    by_rest (inl here) = by_first does here
    by_rest (inr h) = inr (record { first = e ∷ h.first; k = h.k; now = h.now; last = h.last; steps_are = ap (λ (xs : List Step). e ∷ xs) h.steps_are; happens = h.happens })

-- ---- executions under a handle

in_under : (h : ℕ) (x : Execution) (xs : List Execution) → IsIn x (executions_under h xs) → IsIn x xs × (x.command.handle ≡ h)
in_under h x [] i = absurd i
in_under h x (y ∷ ys) i = by_test (nat_eq y.command.handle h) refl i (in_under h x ys)
  where
    by_test : (b : Bool) → nat_eq y.command.handle h ≡ b → IsIn x (cond b (y ∷ executions_under h ys) (executions_under h ys)) → (IsIn x (executions_under h ys) → IsIn x ys × (x.command.handle ≡ h)) →
        IsIn x (y ∷ ys) × (x.command.handle ≡ h)
    by_test true q (inl same) rest = (inl same, ap (λ (z : Execution). z.command.handle) (sym same) ∙ eqb-true y.command.handle h q)
    by_test true q (inr i) rest = let r = rest i in (inr r.0, r.1)
    by_test false q i rest = let r = rest i in (inr r.0, r.1)

none_is_under : (h : ℕ) (xs : List Execution) → ((x : Execution) → IsIn x xs → x.command.handle ≢ h) → executions_under h xs ≡ []
none_is_under h [] none = refl
none_is_under h (y ∷ ys) none = on_bool (nat_eq y.command.handle h) (λ b. nat_eq y.command.handle h ≡ b → executions_under h ys ≡ [] → cond b (y ∷ executions_under h ys) (executions_under h ys) ≡ [])
    (λ q rest. absurd (none y (inl refl) (eqb-true y.command.handle h q))) (λ q rest. rest) refl (none_is_under h ys (λ x i. none x (inr i)))

each_parts : {X : Type 0} (P : X → Type 0) (xs ys : List X) → AllByRecursion P (xs ++ ys) → AllByRecursion P xs × AllByRecursion P ys
each_parts P [] ys a = (tt, a)
each_parts P (x ∷ xs) ys a = let rest = each_parts P xs ys a.1 in ((a.0, rest.0), rest.1)

-- what was executed before a submit has another handle
older : (s : Peer → ℕ) (n : Network) (z : PeerLink) (h : ℕ) (x : Execution) → LinkSound s n z → z.link.next ≡ Some h → IsIn x (executions_for z.peer n) → x.command.handle ≢ h
older s n z h x of next i e =
    let its = honest_of z.peer (past n) x (state_of (past n)).notes of.fair.own (subst (λ (xs : List Execution). IsIn x xs) (executions_are n.sizes z.peer n.tree n.events) i) in
    let sendable = each_in (λ (y : SubmittedCommand). y.peer ≡ z.peer → IsSendable y.command × (y.command.handle < end_of z.link.next)) _ n.submitted of.fair.sendable its.submitted refl in
    not_less x.command.handle (end_of z.link.next) sendable.1 (ap end_of next) e
  where
    not_less : (a b : ℕ) → a < b → b ≡ h → a ≡ h → ⊥
    not_less a b q is same = omega arith

-- ---- between

-- the link of the number took the request under the handle
record Took (i : ℕ) (r : Request) (h : Handle) (n : Network) : Type 0 where
  pub link : PeerLink
  pub there : slice_get n.links i ≡ Some link
  pub answer : submission r link.link ≡ Ok h

took_by : (i : ℕ) (r : Request) (now : ℕ) (h : Handle) (n : Network) → outcome_of_step (Submit i r now) n ≡ outcomes.Submitted h ∷ [] → Took i r h n
took_by i r now h n e = by (slice_get n.links i) refl e
  where
    by : (o : Option PeerLink) → slice_get n.links i ≡ o → on_link (λ l. submit_outcome (submission r l.link)) o ≡ outcomes.Submitted h ∷ [] → Took i r h n
    by None there q = cc
    by (Some l) there q = record { link = l; there = there; answer = took r h l.link q }

module _ (law : WrittenIsReadBack) (w : DeviceSizes) (s : Setup) (tree : List Object) (starts : List Start) (before later : List Step) (i : ℕ)
    (l : PeerLink) (request : Request) (now : ℕ) (h : Handle) (answer : AnswerFields) where
  abbrev start : Network
  start = opening w s tree starts

  abbrev old : Network
  old = after_steps before start

  abbrev call : Step
  call = Submit i request now

  abbrev called : Network
  called = after_step call old

  abbrev end : Network
  end = after_steps later called

  abbrev c : CommandFields
  c = command_under h.0 request

  module _ (apart : are_apart s.address starts ≡ true) (fit : Fit starts (before ++ call ∷ later)) (in_time : AreInTime s i [] (before ++ call ∷ later) start)
      (accepted : outcome_of_step call old ≡ outcomes.Submitted h ∷ []) (own : slice_get end.links i ≡ Some l)
      (which : (answer_under h.0 l.link.untaken ≡ Some answer) ⊎ WasTaken l.peer h.0 answer end.taken) where
    whole : after_steps (before ++ call ∷ later) start ≡ end
    whole = after_more before (call ∷ later) start

    abbrev OneAt : Network → Type 0
    OneAt n = slice_get n.links i ≡ Some l → (answer_under h.0 l.link.untaken ≡ Some answer) ⊎ WasTaken l.peer h.0 answer n.taken → IsAnswerOfOneExecution l.peer h.0 answer n

    one : IsAnswerOfOneExecution l.peer h.0 answer end
    one = subst OneAt whole (answers_in_time law w s tree starts (before ++ call ∷ later) i l h.0 answer apart fit in_time) own which

    fits : AllByRecursion StepFits before × AllByRecursion StepFits (call ∷ later)
    fits = each_parts StepFits before (call ∷ later) fit.1

    sound_old : Sound s.span old
    sound_old = sound_steps law s.span before start fits.0 (sound_opening w s tree starts apart fit.0)

    sound_called : Sound s.span called
    sound_called = sound_step law s.span call old fits.1.0 sound_old

    sound_end : Sound s.span end
    sound_end = sound_steps law s.span later called fits.1.1 sound_called

    its : Took i request h old
    its = took_by i request now h old accepted

    at_called : (z : PeerLink) × (slice_get called.links i ≡ Some z) × (z.peer ≡ l.peer)
    at_called = link_before i called end l (peers_steps later called) own

    at_old : (z : PeerLink) × (slice_get old.links i ≡ Some z) × (z.peer ≡ l.peer)
    at_old = link_before i old end l (peers_steps later called ∙ peers_step call old) own

    its_peer : its.link.peer ≡ l.peer
    its_peer = ap (λ (z : PeerLink). z.peer) (same_Some its.link at_old.0 (sym its.there ∙ at_old.1)) ∙ at_old.2

    -- the call executes nothing
    quiet : executions_for l.peer called ≡ executions_for l.peer old
    quiet = ap (λ (o : Option PeerLink). executions_for l.peer (after_submit i request now o old)) its.there

    new_handle : (x : Execution) → IsIn x (executions_for l.peer called) → x.command.handle ≢ h.0
    new_handle x i' =
        older s.span old its.link h.0 x (each_at (LinkSound s.span old) old.links i its.link sound_old.each its.there) (granted request its.link.link h its.answer).0
        (subst (λ (q : Peer). IsIn x (executions_for q old)) (sym its_peer) (subst (λ (xs : List Execution). IsIn x xs) quiet i'))

    found : IsIn one.execution (executions_for l.peer end) × (one.execution.command.handle ≡ h.0)
    found = in_under h.0 one.execution (executions_for l.peer end) (subst (λ (xs : List Execution). IsIn one.execution xs) (sym one.only) (inl refl))

    happens : HappensIn l.peer one.execution later called
    happens =
        elim (executed_in_steps law s.span i l.peer later called fits.1.1 sound_called
        (ap (λ (ps : List Peer). slice_get ps i) (sym (peers_steps later called)) ∙ slice_get-map (λ (z : PeerLink). z.peer) end.links i ∙ ap (λ (o : Option PeerLink). option_map (λ (z : PeerLink). z.peer) o) own)
        one.execution found.0) [
          | inl early ↦ absurd (new_handle one.execution early found.1)
          | inr later' ↦ later'
        ]

    -- the command that was submitted
    submitted_then : IsSubmitted l.peer c end.submitted
    submitted_then =
        let grown = grown_steps later called in
        let added : called.submitted ≡ old.submitted ++ submitted_by its.link.peer request (submission request its.link.link) =
        ap (λ (o : Option PeerLink). (after_submit i request now o old).submitted) its.there in
        let taken_under : called.submitted ≡ old.submitted ++ submitted_by l.peer request (Ok h) =
        added ∙ ap (λ (q : Peer). old.submitted ++ submitted_by q request (submission request its.link.link)) its_peer
        ∙ ap (λ a. old.submitted ++ submitted_by l.peer request a) its.answer in
        subst (λ (xs : List SubmittedCommand). IsSubmitted l.peer c xs) (sym grown.submitted)
        (in_more _ called.submitted grown.more (subst (λ (xs : List SubmittedCommand). IsSubmitted l.peer c xs) (sym taken_under) (in_last _ old.submitted)))

    command_is : one.execution.command ≡ c
    command_is =
        (each_at (LinkSound s.span end) end.links i l sound_end.each own).fair.unique one.execution.command c (contains_in _ end.submitted one.submitted) submitted_then found.1

    pub said_so : IsOfOneExecutionSince l.peer c answer later called
    said_so = record {
      execution = one.execution;
      command = command_is;
      none_before = none_is_under h.0 (executions_for l.peer called) new_handle;
      only = one.only;
      between = happens;
      answer_is = one.answer_is;
    }

pub between_law : WrittenIsReadBack → OfEachAnswer IsOfOneExecutionSince
between_law law w s tree starts before later i l request now h answer apart fit in_time accepted own which =
    said_so law w s tree starts before later i l request now h answer apart fit in_time accepted own which

-- ---- refused

pub refused_law : WrittenIsReadBack → OfEachAnswer RefusalsChangeNothing
refused_law law w s tree starts before later i l request now h answer apart fit in_time accepted own which bad said =
    let x : Execution = said.execution in
    let number : answer.status ≡ status_number (status_of x.objects l.peer (object_of x.objects x.command.target) x.command) =
    ap (λ (a : AnswerFields). a.status) said.answer_is
    ∙ ap (λ r. status_number r.status) said.between.happens.reply ∙ ap status_number (execution_status x.objects l.peer x.command) in
    record {
      same = sym said.between.happens.left ∙ execution_refuses x.objects l.peer x.command (λ ok. bad (number ∙ ap status_number ok));
      status = number;
    }

-- ---- class

pub class_law : ClassesStay
class_law w s tree starts es number =
    let n : Network = after_steps es (opening w s tree starts) in
    class_stays n.tree (changes n.sizes (happenings n.events)) number ∙ ap (λ (t : List Object). class_of_ono t number) (tree_kept es (opening w s tree starts))

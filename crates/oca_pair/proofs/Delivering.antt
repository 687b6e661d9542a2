-- What holds of one link, when its own datagram comes to the device, and when the link does something.
use Rattle.oca_pair.proofs.Words.{append-nil, ◌≡◌, ℕ, ◌+◌, ◌-◌, ◌^◌, ◌<◌, ◌≤◌, Bool, true, false, cond, List, [], ◌∷◌, ◌++◌, length, Option, Some, None, refl, sym, ap, ◌∙◌, subst, arith, inl, inr}
use Rattle.oca_pair.proofs.Words.{nat_eq, nat_lt, nat_le, not, ◌&&◌, map, filter, is_some, is_none, Result, Ok, Err, AllByRecursion, nat_tests, map-append, filter-append, eqb-true, Peer, Handle}
use Rattle.oca_pair.proofs.Words.{Reply, same_peer, CommandFields, DeviceSizes, most_command_parameter_bytes, Seconds, ResponseFields, Msg, Command, Response, KeepAlive, Commands, OneKeepAlive}
use Rattle.oca_pair.proofs.Words.{pdu_encoding, ResponseFits, read_datagram, WrittenIsReadBack, Object, Judgement, Fresh, Duplicate, Reused, Old, Event, Datagram, Admitted, Heartbeat, Executed, Note}
use Rattle.oca_pair.proofs.Words.{run, accepted, State, noted, admits, judged_in, reply_of, after_command, after_message, after_reading, time_of, response, answer_to_command, answers_to_messages}
use Rattle.oca_pair.proofs.Words.{answers_to_reading, packets_of, packets, AnswerFields, answer_of_response, Untaken, new_untaken, span_has_room, is_due, first_due, marked_sent, answered, each_append}
use Rattle.oca_pair.proofs.Words.{answer_under, without_handle, ControlFault, LinkState, Request, command_under, submission_under, submission, handle_after, after_submission, submitted, Decision}
use Rattle.oca_pair.proofs.Words.{GivesCommand, GivesKeepAlive, GivesNothing, IsLost, decision_among, decision, after_due, gone_on, hears_content, received, taken, present_moment, SentDatagram}
use Rattle.oca_pair.proofs.Words.{SubmittedCommand, TakenAnswer, sendings_in, submitted_by, given_by, content_read, taken_by, RequestFits, Execution, answer_of, handles_of, EachToNext, each_map}
use Rattle.oca_pair.proofs.Words.{same_self, end_of, end_after, on_bool}
use Rattle.std.proofs.lemmas.List.{append_assoc}
use Rattle.oca_control.specs.declared.fault.ControlFault.TheVariants as faults
use Rattle.oca_pair.proofs.Lists.{IsIn, in_parts, in_last, each_in, same_of, other_is}
use Rattle.oca_pair.proofs.Executions.{executed_for}
use Rattle.oca_pair.proofs.Arrivals.{looked_at}
use Rattle.oca_pair.proofs.Wire.{IsSendable, read_command, read_keep_alive, read_response}
use Rattle.oca_pair.proofs.Fitting.{response_to, reply_fits}
use Rattle.oca_pair.proofs.Truths.{Past, and_then, and_submitted, state_of, IsSubmitted, IsHonest, IsTrueAnswer, window_executed}
use Rattle.oca_pair.proofs.Fair.{none_for, NextFits, IsOut, IsBack, IsHeld, IsFair, AreSendable, AreUnique, AreOwn, Fair, fair_more, fair_then, owns_then, judged_duplicate}

-- ---- a datagram of the link itself

-- the state when the datagram is admitted
abbrev pub let_in : Peer → Msg → ℕ → Past → State
let_in p m now g = noted p (Admitted (m ∷ [])) (looked_at now g)

pub executed_now : (p : Peer) (at : ℕ) (objects : List Object) (c : CommandFields) (r : Reply) (ns : List Note) →
    let x : Execution = record { objects = objects; command = c; reply = r } in
    let n : Note = record { peer = p; at = at; what = Executed objects c r } in IsIn x (executed_for p (n ∷ ns))
executed_now p at objects c r ns = on_bool (same_peer p p) (λ b. b ≡ true → IsIn x (cond b (x ∷ []) [] ++ executed_for p ns)) (λ q. inl refl) (λ q. cc) (same_self p)
  where
    x : Execution
    x = record { objects = objects; command = c; reply = r }

-- what is sent back for these answers
back_of : (law : WrittenIsReadBack) (p : Peer) (g : Past) (r : ResponseFields) → ResponseFits r → length r.params ≤ 1452 → IsTrueAnswer p r.handle (answer_of_response r) g →
    AllByRecursion (λ (d : SentDatagram). d.peer ≡ p → IsBack p g d.bytes) (sendings_in p (packets_of (Response r ∷ [])))
back_of law p g r fits short t = ((λ same. inl (r, t, read_response law r fits short)), tt)

-- what the state and the answers are, and what follows from that
settled : (p : Peer) (next : Option ℕ) (us : List Untaken) (g : Past) (out back : List SentDatagram) (handed : List TakenAnswer) (bytes : List ℕ) (now : ℕ)
    (s : State) (answers : List Msg) → state_of (and_then (Datagram p bytes now) g) ≡ s →
    answers_to_reading g.sizes p (read_datagram bytes) (looked_at now g) ≡ answers →
    AreOwn p (and_then (Datagram p bytes now) g) s.notes →
    AllByRecursion (λ (d : SentDatagram). d.peer ≡ p → IsBack p (and_then (Datagram p bytes now) g) d.bytes) (sendings_in p (packets_of answers)) →
    Fair p next us g out back handed →
    Fair p next us (and_then (Datagram p bytes now) g) out (back ++ sendings_in p (packets g.sizes g.tree g.events (Datagram p bytes now))) handed
settled p next us g out back handed bytes now s answers state_is answers_are own new f =
    fair_then p next us g out back handed (Datagram p bytes now) (sendings_in p (packets g.sizes g.tree g.events (Datagram p bytes now)))
    (owned ((state_of (and_then (Datagram p bytes now) g)).notes) (ap (λ (x : State). x.notes) state_is) own)
    (sent (packets g.sizes g.tree g.events (Datagram p bytes now)) (ap packets_of answers_are) new) f
  where
    owned : (ns : List Note) → ns ≡ s.notes → AreOwn p (and_then (Datagram p bytes now) g) s.notes → AreOwn p (and_then (Datagram p bytes now) g) ns
    owned ns e a = rw e a

    sent : (ps : List (List ℕ)) → ps ≡ packets_of answers →
        AllByRecursion (λ (d : SentDatagram). d.peer ≡ p → IsBack p (and_then (Datagram p bytes now) g) d.bytes) (sendings_in p (packets_of answers)) →
        AllByRecursion (λ (d : SentDatagram). d.peer ≡ p → IsBack p (and_then (Datagram p bytes now) g) d.bytes) (sendings_in p ps)
    sent ps e a = rw e a

-- the state after a message that was read, and the answers to it
pub after_read : (w : DeviceSizes) (p : Peer) (m : Msg) (bytes : List ℕ) (now : ℕ) (g : Past) (room : Bool) → read_datagram bytes ≡ Ok (m ∷ []) → admits w (looked_at now g) p ≡ room →
    after_reading w p (read_datagram bytes) (looked_at now g) ≡ cond room (after_message w p m (let_in p m now g)) (looked_at now g)
after_read w p m bytes now g room read admitted =
    ap (λ r. after_reading w p r (looked_at now g)) read
    ∙ ap (λ b. cond b (after_message w p m (let_in p m now g)) (looked_at now g)) admitted

pub answers_read : (w : DeviceSizes) (p : Peer) (m : Msg) (bytes : List ℕ) (now : ℕ) (g : Past) (room : Bool) → read_datagram bytes ≡ Ok (m ∷ []) → admits w (looked_at now g) p ≡ room →
    answers_to_reading w p (read_datagram bytes) (looked_at now g) ≡ cond room (answers_to_messages w p (m ∷ []) (let_in p m now g)) []
answers_read w p m bytes now g room read admitted =
    ap (λ r. answers_to_reading w p r (looked_at now g)) read
    ∙ ap (λ b. cond b (answers_to_messages w p (m ∷ []) (let_in p m now g)) []) admitted

pub fair_command : (law : WrittenIsReadBack) (p : Peer) (next : Option ℕ) (us : List Untaken) (g : Past) (out back : List SentDatagram) (handed : List TakenAnswer) (c : CommandFields) (now : ℕ) →
    IsSendable c → IsSubmitted p c g.submitted → Fair p next us g out back handed →
    let e : Event = Datagram p (pdu_encoding (Commands true (c ∷ []))) now in
    Fair p next us (and_then e g) out (back ++ sendings_in p (packets g.sizes g.tree g.events e)) handed
fair_command law p next us g out back handed c now sendable sub f =
    on_bool (admits g.sizes (looked_at now g) p) (λ b. admits g.sizes (looked_at now g) p ≡ b → Fair p next us g' out (back ++ sendings_in p (packets g.sizes g.tree g.events e)) handed)
    (λ room. by_judgement (judged_in g.sizes s2 p c) refl room)
    (λ room. settled p next us g out back handed bytes now (looked_at now g) [] (after_read g.sizes p m bytes now g false read room) (answers_read g.sizes p m bytes now g false read room) (owns_then p g e (state_of g).notes f.own) tt f) refl
  where
    bytes : List ℕ
    bytes = pdu_encoding (Commands true (c ∷ []))

    m : Msg
    m = Command true c

    e : Event
    e = Datagram p bytes now

    g' : Past
    g' = and_then e g

    s2 : State
    s2 = let_in p m now g

    read : read_datagram bytes ≡ Ok (m ∷ [])
    read = read_command law c sendable

    own2 : AreOwn p g' s2.notes
    own2 = ((λ same. tt), owns_then p g e (state_of g).notes f.own)

    -- executed now
    x : Execution
    x = record { objects = s2.tree; command = c; reply = reply_of s2.tree p c }

    honest : IsHonest p x g'
    honest = record { came = record { later = []; before = g.events; now = now; events = refl; objects = refl }; submitted = sub; reply = refl }

    by_judgement : (j : Judgement) → judged_in g.sizes s2 p c ≡ j → admits g.sizes (looked_at now g) p ≡ true →
        Fair p next us g' out (back ++ sendings_in p (packets g.sizes g.tree g.events e)) handed
    by_judgement Fresh q room =
        let state_is : state_of g' ≡ after_command Fresh p c s2 = after_read g.sizes p m bytes now g true read room ∙ ap (λ j. after_command j p c s2) q in
        let answers_are : answers_to_reading g.sizes p (read_datagram bytes) (looked_at now g) ≡ response c.handle x.reply ∷ [] =
        answers_read g.sizes p m bytes now g true read room ∙ ap (λ j. answer_to_command j p c s2 ++ []) q in
        let small = reply_fits s2.tree p c c.handle sendable.fits.handle in
        let t : IsTrueAnswer p c.handle (answer_of x.reply) g' = record {
          execution = x;
          executed = rw state_is (executed_now p s2.moment s2.tree c x.reply s2.notes);
          honest = honest;
          handle = refl;
          answer_is = refl;
        } in
        settled p next us g out back handed bytes now (after_command Fresh p c s2) (response c.handle x.reply ∷ []) state_is answers_are
        ((λ same. honest), own2)
        (back_of law p g' (response_to c.handle x.reply) small.0 small.1 t) f
    by_judgement (Duplicate r) q room =
        let state_is : state_of g' ≡ s2 = after_read g.sizes p m bytes now g true read room ∙ ap (λ j. after_command j p c s2) q in
        let answers_are : answers_to_reading g.sizes p (read_datagram bytes) (looked_at now g) ≡ response c.handle r ∷ [] =
        answers_read g.sizes p m bytes now g true read room ∙ ap (λ j. answer_to_command j p c s2 ++ []) q in
        let d = judged_duplicate g.sizes.window (accepted (run p s2.notes)) c r q in
        let k = window_executed g.sizes p g' c.handle d.0 s2.notes own2 d.1 in
        let y : Execution = record { objects = k.0.objects; command = d.0.command; reply = d.0.reply } in
        let gave : r ≡ reply_of k.0.objects p d.0.command = sym d.2 ∙ k.0.honest.reply in
        let small = reply_fits k.0.objects p d.0.command c.handle sendable.fits.handle in
        let t : IsTrueAnswer p c.handle (answer_of r) g' = record {
          execution = y;
          executed = rw state_is k.0.executed;
          honest = k.0.honest;
          handle = eqb-true d.0.command.handle c.handle k.1;
          answer_is = ap answer_of (sym d.2);
        } in
        settled p next us g out back handed bytes now s2 (response c.handle r ∷ []) state_is answers_are own2
        (back_of law p g' (response_to c.handle r) (rw gave small.0) (rw gave small.1) t) f
    by_judgement Reused q room =
        settled p next us g out back handed bytes now s2 [] (after_read g.sizes p m bytes now g true read room ∙ ap (λ j. after_command j p c s2) q)
        (answers_read g.sizes p m bytes now g true read room ∙ ap (λ j. answer_to_command j p c s2 ++ []) q) own2 tt f
    by_judgement Old q room =
        settled p next us g out back handed bytes now s2 [] (after_read g.sizes p m bytes now g true read room ∙ ap (λ j. after_command j p c s2) q)
        (answers_read g.sizes p m bytes now g true read room ∙ ap (λ j. answer_to_command j p c s2 ++ []) q) own2 tt f

pub fair_keep_alive : (law : WrittenIsReadBack) (p : Peer) (next : Option ℕ) (us : List Untaken) (g : Past) (out back : List SentDatagram) (handed : List TakenAnswer) (now : ℕ) →
    Fair p next us g out back handed →
    let e : Event = Datagram p (pdu_encoding (OneKeepAlive (Seconds 5))) now in
    Fair p next us (and_then e g) out (back ++ sendings_in p (packets g.sizes g.tree g.events e)) handed
fair_keep_alive law p next us g out back handed now f =
    on_bool (admits g.sizes (looked_at now g) p) (λ b. admits g.sizes (looked_at now g) p ≡ b → Fair p next us (and_then e g) out (back ++ sendings_in p (packets g.sizes g.tree g.events e)) handed)
    (λ room. settled p next us g out back handed bytes now (noted p (Heartbeat (time_of (Seconds 5))) (let_in p m now g)) (m ∷ []) (after_read g.sizes p m bytes now g true read room)
    (answers_read g.sizes p m bytes now g true read room) ((λ same. tt), ((λ same. tt), owns_then p g e (state_of g).notes f.own)) ((λ same. inr read), tt) f)
    (λ room. settled p next us g out back handed bytes now (looked_at now g) [] (after_read g.sizes p m bytes now g false read room) (answers_read g.sizes p m bytes now g false read room) (owns_then p g e (state_of g).notes f.own) tt f) refl
  where
    bytes : List ℕ
    bytes = pdu_encoding (OneKeepAlive (Seconds 5))

    m : Msg
    m = KeepAlive (Seconds 5)

    e : Event
    e = Datagram p bytes now

    read : read_datagram bytes ≡ Ok (m ∷ [])
    read = read_keep_alive law

-- ---- the link's own steps

pub granted : (r : Request) (l : LinkState) (h : Handle) → submission r l ≡ Ok h → (l.next ≡ Some h.0) × (span_has_room l.span h.0 l.untaken ≡ true) × (length r.params ≤ 1445)
granted r l h e =
    on_bool l.lost (λ b. cond b (Err faults.Lost) (submission_under most_command_parameter_bytes r l.next l) ≡ Ok h → (l.next ≡ Some h.0) × (span_has_room l.span h.0 l.untaken ≡ true) × (length r.params ≤ 1445))
    (λ q. cc) (λ q. by_next l.next q) e
  where
    within : (n : ℕ) → nat_lt 1445 n ≡ false → n ≤ 1445
    within n q = grind (arith, nat_tests)

    got : (n : ℕ) → let a : Result Handle ControlFault = Ok (record { 0 = n }) in a ≡ Ok h → n ≡ h.0
    got n q = let same : (let a : Handle = record { 0 = n } in a ≡ h) = cc in ap (λ (a : Handle). a.0) same

    by_long : (n : ℕ) (b : Bool) → nat_lt 1445 (length r.params) ≡ b → cond b (Err faults.TooLong) (Ok (record { 0 = n })) ≡ Ok h → (n ≡ h.0) × (length r.params ≤ 1445)
    by_long n true k q = cc
    by_long n false k q = (got n q, within (length r.params) k)

    by_room : (n : ℕ) (b : Bool) → span_has_room l.span n l.untaken ≡ b →
        cond b (cond (nat_lt 1445 (length r.params)) (Err faults.TooLong) (Ok (record { 0 = n }))) (Err faults.SpanFull) ≡ Ok h →
        (n ≡ h.0) × (span_has_room l.span h.0 l.untaken ≡ true) × (length r.params ≤ 1445)
    by_room n true k q = let a = by_long n (nat_lt 1445 (length r.params)) refl q in (a.0, sym (ap (λ i. span_has_room l.span i l.untaken) a.0) ∙ k, a.1)
    by_room n false k q = cc

    by_next : (o : Option ℕ) → submission_under most_command_parameter_bytes r o l ≡ Ok h → (o ≡ Some h.0) × (span_has_room l.span h.0 l.untaken ≡ true) × (length r.params ≤ 1445)
    by_next None q = cc
    by_next (Some n) q = let a = by_room n (span_has_room l.span n l.untaken) refl q in (ap Some a.0, a.1, a.2)

next_fits : (h : ℕ) → h < 2 ^ 32 → NextFits (handle_after h)
next_fits h low = on_bool (nat_eq h 4294967295) (λ b. nat_eq h 4294967295 ≡ b → NextFits (cond b None (Some (h + 1)))) (λ q. tt) (λ q. higher q) refl
  where
    higher : nat_eq h 4294967295 ≡ false → h + 1 < 2 ^ 32
    higher q = grind (arith, nat_tests)

-- one command more
next_more : (Is : ℕ → ℕ → Type 0) (xs : List ℕ) (h k : ℕ) → Is h k → EachToNext Is (xs ++ h ∷ []) → EachToNext Is (xs ++ h ∷ k ∷ [])
next_more Is [] h k e a = (e, tt)
next_more Is (x ∷ []) h k e a = (a.0, (e, tt))
next_more Is (x ∷ y ∷ xs) h k e a = (a.0, next_more Is (y ∷ xs) h k e a.1)

handles_more : (p : Peer) (xs : List SubmittedCommand) (new : SubmittedCommand) → handles_of p (xs ++ new ∷ []) ≡ handles_of p xs ++ handles_of p (new ∷ [])
handles_more p xs new =
    ap (λ ys. map (λ (x : SubmittedCommand). x.command.handle) ys) (filter-append (λ (x : SubmittedCommand). same_peer x.peer p) xs (new ∷ []))
    ∙ map-append (λ (x : SubmittedCommand). x.command.handle) (filter (λ (x : SubmittedCommand). same_peer x.peer p) xs) (filter (λ (x : SubmittedCommand). same_peer x.peer p) (new ∷ []))

own_handle : (p : Peer) (new : SubmittedCommand) (b : Bool) → same_peer new.peer p ≡ b →
    handles_of p (new ∷ []) ≡ map (λ (x : SubmittedCommand). x.command.handle) (cond b (new ∷ []) [])
own_handle p new b e = ap (λ t. map (λ (x : SubmittedCommand). x.command.handle) (cond t (new ∷ []) [])) e

own_more : (Is : ℕ → ℕ → Type 0) (p : Peer) (xs : List SubmittedCommand) (new : SubmittedCommand) (h n k : ℕ) → new.peer ≡ p → new.command.handle ≡ h → n ≡ h → Is h k →
    EachToNext Is (handles_of p xs ++ n ∷ []) → EachToNext Is (handles_of p (xs ++ new ∷ []) ++ k ∷ [])
own_more Is p xs new h n k same own was is a =
    let one : handles_of p (new ∷ []) ≡ h ∷ [] = own_handle p new true (same_of new.peer p same) ∙ ap (λ m. m ∷ []) own in
    let all : handles_of p (xs ++ new ∷ []) ++ k ∷ [] ≡ handles_of p xs ++ h ∷ k ∷ [] =
    ap (λ ys. ys ++ k ∷ []) (handles_more p xs new ∙ ap (λ ys. handles_of p xs ++ ys) one) ∙ append_assoc (handles_of p xs) (h ∷ []) (k ∷ []) in
    subst (EachToNext Is) (sym all) (next_more Is (handles_of p xs) h k is (subst (λ m. EachToNext Is (handles_of p xs ++ m ∷ [])) was a))

more_of_another : (Is : ℕ → ℕ → Type 0) (p q : Peer) (n : ℕ) (xs : List SubmittedCommand) (new : SubmittedCommand) → (q ≡ p → ⊥) → new.peer ≡ q →
    EachToNext Is (handles_of p xs ++ n ∷ []) → EachToNext Is (handles_of p (xs ++ new ∷ []) ++ n ∷ [])
more_of_another Is p q n xs new other its a =
    let none : handles_of p (new ∷ []) ≡ [] = own_handle p new false (other_is new.peer p (λ e. other (sym its ∙ e))) in
    let all : handles_of p (xs ++ new ∷ []) ≡ handles_of p xs = handles_more p xs new ∙ ap (λ ys. handles_of p xs ++ ys) none ∙ append-nil (handles_of p xs) in
    subst (λ ys. EachToNext Is (ys ++ n ∷ [])) (sym all) a

-- the handles of the link of the peer, up to the next one, where it submits, or another link does
pub handles_submit : (Is : ℕ → ℕ → Type 0) → ((h : ℕ) → Is h (h + 1)) → (p : Peer) (r : Request) (now : ℕ) (l : LinkState) (xs : List SubmittedCommand) →
    EachToNext Is (handles_of p xs ++ end_of l.next ∷ []) → EachToNext Is (handles_of p (xs ++ submitted_by p r (submission r l)) ++ end_of (submitted r now l).next ∷ [])
handles_submit Is one p r now l xs was = by_answer (submission r l) refl
  where
    by_answer : (a : Result Handle ControlFault) → submission r l ≡ a → EachToNext Is (handles_of p (xs ++ submitted_by p r a) ++ end_of (after_submission a r now l).next ∷ [])
    by_answer (Err fault) e = rw append-nil was
    by_answer (Ok h) e =
        let new : SubmittedCommand = record { peer = p; command = command_under h.0 r } in
        own_more Is p xs new h.0 (end_of l.next) (end_of (handle_after h.0)) refl refl (ap end_of (granted r l h e).0) (subst (Is h.0) (sym (end_after h.0)) (one h.0)) was

pub handles_submitted_by : (Is : ℕ → ℕ → Type 0) (p q : Peer) (r : Request) (a : Result Handle ControlFault) (n : ℕ) (xs : List SubmittedCommand) → (q ≡ p → ⊥) →
    EachToNext Is (handles_of p xs ++ n ∷ []) → EachToNext Is (handles_of p (xs ++ submitted_by q r a) ++ n ∷ [])
handles_submitted_by Is p q r (Ok h) n xs other was = more_of_another Is p q n xs (record { peer = q; command = command_under h.0 r }) other refl was
handles_submitted_by Is p q r (Err fault) n xs other was = rw append-nil was

-- the link of the peer submits
pub fair_submit : (p : Peer) (r : Request) (now : ℕ) (l : LinkState) (g : Past) (out back : List SentDatagram) (handed : List TakenAnswer) → RequestFits r →
    Fair p l.next l.untaken g out back handed →
    Fair p (submitted r now l).next (submitted r now l).untaken (and_submitted (submitted_by p r (submission r l)) g) out back handed
fair_submit p r now l g out back handed fits f = by_answer (submission r l) refl
  where
    by_answer : (a : Result Handle ControlFault) → submission r l ≡ a →
        Fair p (after_submission a r now l).next (after_submission a r now l).untaken (and_submitted (submitted_by p r a) g) out back handed
    by_answer (Err fault) e =
        fair_more p l.next l.next l.untaken l.untaken g out back handed [] f.fits (rw append-nil f.sendable) (rw append-nil f.unique) (rw append-nil f.rising) (λ a. a) f
    by_answer (Ok h) e =
        let t = granted r l h e in
        let was : end_of l.next ≡ h.0 = ap end_of t.0 in
        let is : end_of (handle_after h.0) ≡ h.0 + 1 = end_after h.0 in
        let low : h.0 < 2 ^ 32 = rw t.0 at f.fits in
        let c : CommandFields = command_under h.0 r in
        let new : SubmittedCommand = record { peer = p; command = c } in
        fair_more p l.next (handle_after h.0) l.untaken (l.untaken ++ new_untaken (present_moment now l) c ∷ []) g out back handed (new ∷ []) (next_fits h.0 low)
        (each_append _ g.submitted (new ∷ [])
        (each_map (λ x a same. ((a same).0, higher x.command.handle (end_of l.next) (end_of (handle_after h.0)) h.0 was is (a same).1)) g.submitted f.sendable) (
          (λ same. (
            record { fits = record { handle = low; target = fits.target; level = fits.level; index = fits.index; count = fits.count; size = room (length r.params) t.2 }; short = t.2 },
            last h.0 (end_of (handle_after h.0)) is,
          )),
          tt,
        ))
        (unique new h.0 was refl)
        (own_more (λ x y. x < y) p g.submitted new h.0 (end_of l.next) (end_of (handle_after h.0)) refl refl was (last h.0 (end_of (handle_after h.0)) is) f.rising)
        (λ a. each_append _ l.untaken (new_untaken (present_moment now l) c ∷ []) a ((in_last new g.submitted, tt), tt)) f
      where
        higher : (x a b h : ℕ) → a ≡ h → b ≡ h + 1 → x < a → x < b
        higher x a b h e q k = omega arith

        last : (h b : ℕ) → b ≡ h + 1 → h < b
        last h b q = omega arith

        room : (n : ℕ) → n ≤ 1445 → 17 + n < 2 ^ 32
        room n k = omega arith

        below : (c : CommandFields) → IsSubmitted p c g.submitted → c.handle < end_of l.next
        below c i = (each_in (λ (x : SubmittedCommand). x.peer ≡ p → IsSendable x.command × (x.command.handle < end_of l.next)) _ g.submitted f.sendable i refl).1

        never : {X : Type 0} (a b n : ℕ) → a < n → n ≡ b → a ≡ b → X
        never a b n q r s = absurd (omega arith)

        command_is : (new : SubmittedCommand) (c : CommandFields) → (let it : SubmittedCommand = record { peer = p; command = c } in new ≡ it) → new.command ≡ c
        command_is new c e = ap (λ (x : SubmittedCommand). x.command) e

        handle_is : (c d : CommandFields) → c ≡ d → c.handle ≡ d.handle
        handle_is c d e = ap (λ (x : CommandFields). x.handle) e

        unique : (new : SubmittedCommand) (h : ℕ) → end_of l.next ≡ h → new.command.handle ≡ h → AreUnique p (g.submitted ++ new ∷ [])
        unique new h was own c d i j e = elim (in_parts _ g.submitted (new ∷ []) i) [
          | inl a ↦ elim (in_parts _ g.submitted (new ∷ []) j) [
            | inl b ↦ f.unique c d a b e
            | inr b ↦ elim b [ inl q ↦ never c.handle h (end_of l.next) (below c a) was (e ∙ sym (handle_is new.command d (command_is new d q)) ∙ own) | inr n ↦ absurd n ]
          ]
          | inr a ↦ elim a [
            | inl q ↦ elim (in_parts _ g.submitted (new ∷ []) j) [
              | inl b ↦ never d.handle h (end_of l.next) (below d b) was (sym e ∙ sym (handle_is new.command c (command_is new c q)) ∙ own)
              | inr b ↦ elim b [ inl t ↦ sym (command_is new c q) ∙ command_is new d t | inr n ↦ absurd n ]
            ]
            | inr n ↦ absurd n
          ]
        ]

-- the link of another peer submits
pub fair_submitted_by : (p q : Peer) (r : Request) (a : Result Handle ControlFault) (next : Option ℕ) (us : List Untaken) (g : Past) (out back : List SentDatagram) (handed : List TakenAnswer) →
    (q ≡ p → ⊥) → Fair p next us g out back handed → Fair p next us (and_submitted (submitted_by q r a) g) out back handed
fair_submitted_by p q r a next us g out back handed other f =
    fair_more p next next us us g out back handed (submitted_by q r a) f.fits
    (each_append _ g.submitted (submitted_by q r a) f.sendable (none a))
    (λ c d i j e. f.unique c d (old c a i) (old d a j) e) (handles_submitted_by (λ x y. x < y) p q r a (end_of next) g.submitted other f.rising) (λ x. x) f
  where
    none : (a : Result Handle ControlFault) → AreSendable p next (submitted_by q r a)
    none (Ok h) = ((λ same. absurd (other same)), tt)
    none (Err fault) = tt

    not_his : (c : CommandFields) (a : Result Handle ControlFault) → IsSubmitted p c (submitted_by q r a) → ⊥
    not_his c (Ok h) i = elim i [ inl e ↦ other (ap (λ (x : SubmittedCommand). x.peer) e) | inr n ↦ n ]
    not_his c (Err fault) i = i

    old : (c : CommandFields) (a : Result Handle ControlFault) → IsSubmitted p c (g.submitted ++ submitted_by q r a) → IsSubmitted p c g.submitted
    old c a i = elim (in_parts _ g.submitted (submitted_by q r a) i) [ inl b ↦ b | inr n ↦ absurd (not_his c a n) ]

fair_marked_sent : (p : Peer) (g : Past) (t h : ℕ) (us : List Untaken) → AllByRecursion (IsFair p g) us → AllByRecursion (IsFair p g) (map (marked_sent t h) us)
fair_marked_sent p g t h [] a = tt
fair_marked_sent p g t h (u ∷ us) a = ((a.0.0, a.0.1), fair_marked_sent p g t h us a.1)

submitted_due : (p : Peer) (g : Past) (t : ℕ) (us : List Untaken) → AllByRecursion (IsFair p g) us → (u : Untaken) → first_due t us ≡ Some u → IsSubmitted p u.command g.submitted
submitted_due p g t [] a u e = cc
submitted_due p g t (x ∷ xs) a u e = by_test (submitted_due p g t xs a.1 u) (is_due t x) e
  where
    by_test : (first_due t xs ≡ Some u → IsSubmitted p u.command g.submitted) → (b : Bool) → cond b (Some x) (first_due t xs) ≡ Some u → IsSubmitted p u.command g.submitted
    by_test rest true q = let same : x ≡ u = cc in rw same at a.0.0
    by_test rest false q = rest q

abbrev Outs : Peer → Past → Decision → Type 0
Outs p g d = AllByRecursion (λ (x : SentDatagram). x.peer ≡ p → IsOut p g.submitted x.bytes) (sendings_in p (given_by d))

marked_sent_is : (p : Peer) (now : ℕ) (l : LinkState) (g : Past) → AllByRecursion (IsFair p g) l.untaken →
    AllByRecursion (λ (d : SentDatagram). d.peer ≡ p → IsOut p g.submitted d.bytes) (sendings_in p (given_by (decision now l)))
marked_sent_is p now l g a = on_bool l.lost (λ b. Outs p g (cond b IsLost (decision_among (present_moment now l) l.sent (first_due (present_moment now l) l.untaken))))
    tt (by_first (first_due (present_moment now l) l.untaken) refl)
  where
    by_many : (u : Untaken) → IsSubmitted p u.command g.submitted → (b : Bool) → Outs p g (cond b (GivesCommand u.command) IsLost)
    by_many u q true = ((λ same. inl (u.command, q, refl)), tt)
    by_many u q false = tt

    by_quiet : (b : Bool) → Outs p g (cond b GivesKeepAlive GivesNothing)
    by_quiet true = ((λ same. inr refl), tt)
    by_quiet false = tt

    by_first : (o : Option Untaken) → first_due (present_moment now l) l.untaken ≡ o → Outs p g (decision_among (present_moment now l) l.sent o)
    by_first None e = by_quiet (nat_le 2500 (present_moment now l - l.sent))
    by_first (Some u) e = by_many u (submitted_due p g (present_moment now l) l.untaken a u e) (nat_lt u.times 20)

pub fair_gone_on : (p : Peer) (now : ℕ) (l : LinkState) (g : Past) (out back : List SentDatagram) (handed : List TakenAnswer) → Fair p l.next l.untaken g out back handed →
    Fair p (gone_on now l).next (gone_on now l).untaken g (out ++ sendings_in p (given_by (decision now l))) back handed
fair_gone_on p now l g out back handed f = by_decision (decision now l) (marked_sent_is p now l g f.untaken)
  where
    with_untaken : (us : List Untaken) (more : List SentDatagram) → AllByRecursion (IsFair p g) us → AllByRecursion (λ (d : SentDatagram). d.peer ≡ p → IsOut p g.submitted d.bytes) more →
        Fair p l.next us g (out ++ more) back handed
    with_untaken us more a new = record { fits = f.fits; own = f.own; outgoing = each_append _ out more f.outgoing new; incoming = f.incoming; untaken = a; was_taken = f.was_taken; sendable = f.sendable; unique = f.unique; rising = f.rising }

    by_decision : (d : Decision) → AllByRecursion (λ (x : SentDatagram). x.peer ≡ p → IsOut p g.submitted x.bytes) (sendings_in p (given_by d)) →
        Fair p (after_due d (present_moment now l) l).next (after_due d (present_moment now l) l).untaken g (out ++ sendings_in p (given_by d)) back handed
    by_decision (GivesCommand c) new = with_untaken (map (marked_sent (present_moment now l) c.handle) l.untaken) (sendings_in p (given_by (GivesCommand c))) (fair_marked_sent p g (present_moment now l) c.handle l.untaken f.untaken) new
    by_decision GivesKeepAlive new = with_untaken l.untaken (sendings_in p (given_by GivesKeepAlive)) f.untaken new
    by_decision _ new = with_untaken l.untaken [] f.untaken new

-- a keep-alive is sent beside a link, its own or another one
pub fair_alive : (p q : Peer) (next : Option ℕ) (us : List Untaken) (g : Past) (out back : List SentDatagram) (handed : List TakenAnswer) →
    Fair p next us g out back handed → Fair p next us g (out ++ sendings_in q (given_by GivesKeepAlive)) back handed
fair_alive p q next us g out back handed f = record {
  fits = f.fits;
  own = f.own;
  outgoing = each_append _ out (sendings_in q (given_by GivesKeepAlive)) f.outgoing ((λ same. inr refl), tt);
  incoming = f.incoming;
  untaken = f.untaken;
  was_taken = f.was_taken;
  sendable = f.sendable;
  unique = f.unique;
  rising = f.rising;
}

-- another sends to the device
pub fair_sent : (p q : Peer) (next : Option ℕ) (us : List Untaken) (g : Past) (out back : List SentDatagram) (handed : List TakenAnswer) (packets : List (List ℕ)) →
    (q ≡ p → ⊥) → Fair p next us g out back handed → Fair p next us g (out ++ sendings_in q packets) back handed
fair_sent p q next us g out back handed packets other f = record {
  fits = f.fits;
  own = f.own;
  outgoing = each_append _ out (sendings_in q packets) f.outgoing (none_for (IsOut p g.submitted) p q other packets);
  incoming = f.incoming;
  untaken = f.untaken;
  was_taken = f.was_taken;
  sendable = f.sendable;
  unique = f.unique;
  rising = f.rising;
}

-- ---- a datagram comes to the link

fair_answered : (p : Peer) (g : Past) (h : ℕ) (a : AnswerFields) → IsTrueAnswer p h a g → (us : List Untaken) → AllByRecursion (IsFair p g) us → AllByRecursion (IsFair p g) (map (answered h a) us)
fair_answered p g h a t [] f = tt
fair_answered p g h a t (u ∷ us) f = ((f.0.0, by_test (nat_eq u.command.handle h) (is_none u.answer) refl), fair_answered p g h a t us f.1)
  where
    by_test : (b c : Bool) → nat_eq u.command.handle h ≡ b → IsHeld p g u.command.handle (cond (b && c) (Some a) u.answer)
    by_test true true q = let same : u.command.handle ≡ h = eqb-true u.command.handle h q in rw same t
    by_test true false q = f.0.1
    by_test false c q = f.0.1

pub fair_hears : (p : Peer) (bytes : List ℕ) (g : Past) (us : List Untaken) → IsBack p g bytes → AllByRecursion (IsFair p g) us → AllByRecursion (IsFair p g) (hears_content (content_read bytes) us)
fair_hears p bytes g us (inl (r, t, read)) f = rw read (fair_answered p g r.handle (answer_of_response r) t us f)
fair_hears p bytes g us (inr read) f = rw read f

pub fair_untaken : (p : Peer) (next : Option ℕ) (us vs : List Untaken) (g : Past) (out back : List SentDatagram) (handed more : List TakenAnswer) →
    AllByRecursion (IsFair p g) vs → AllByRecursion (λ (t : TakenAnswer). t.peer ≡ p → IsTrueAnswer p t.handle t.answer g) more →
    Fair p next us g out back handed → Fair p next vs g out back (handed ++ more)
fair_untaken p next us vs g out back handed more a new f = record {
  fits = f.fits;
  own = f.own;
  outgoing = f.outgoing;
  incoming = f.incoming;
  untaken = a;
  was_taken = each_append _ handed more f.was_taken new;
  sendable = f.sendable;
  unique = f.unique;
  rising = f.rising;
}

pub fair_received : (from p : Peer) (bytes : List ℕ) (now : ℕ) (l : LinkState) (g : Past) (out back : List SentDatagram) (handed : List TakenAnswer) → IsBack p g bytes →
    Fair p l.next l.untaken g out back handed →
    Fair p l.next (received from (content_read bytes) now l).untaken g out back handed
fair_received from p bytes now l g out back handed b f = by_from (same_peer from l.device)
  where
    with_us : (us : List Untaken) → AllByRecursion (IsFair p g) us → Fair p l.next us g out back handed
    with_us us a = record { fits = f.fits; own = f.own; outgoing = f.outgoing; incoming = f.incoming; untaken = a; was_taken = f.was_taken; sendable = f.sendable; unique = f.unique; rising = f.rising }

    by_from : (b : Bool) → Fair p l.next (cond b (hears_content (content_read bytes) l.untaken) l.untaken) g out back handed
    by_from true = with_us (hears_content (content_read bytes) l.untaken) (fair_hears p bytes g l.untaken b f.untaken)
    by_from false = f

-- ---- an answer is taken

fair_without : (p : Peer) (g : Past) (h : ℕ) (us : List Untaken) → AllByRecursion (IsFair p g) us → AllByRecursion (IsFair p g) (without_handle h us)
fair_without p g h [] a = tt
fair_without p g h (u ∷ us) a =
    on_bool (nat_eq u.command.handle h) (λ b. AllByRecursion (IsFair p g) (without_handle h us) → AllByRecursion (IsFair p g) (cond (not b) (u ∷ without_handle h us) (without_handle h us)))
    (λ rest. rest) (λ rest. (a.0, rest)) (fair_without p g h us a.1)

pub held_answer : (p : Peer) (g : Past) (h : ℕ) (us : List Untaken) → AllByRecursion (IsFair p g) us → IsHeld p g h (answer_under h us)
held_answer p g h [] a = tt
held_answer p g h (u ∷ us) a = on_bool (nat_eq u.command.handle h) (λ b. nat_eq u.command.handle h ≡ b → IsHeld p g h (answer_under h us) → IsHeld p g h (cond b u.answer (answer_under h us)))
    (λ q rest. let same : u.command.handle ≡ h = eqb-true u.command.handle h q in rw same at a.0.1) (λ q rest. rest) refl (held_answer p g h us a.1)

pub fair_taken : (p : Peer) (h : ℕ) (l : LinkState) (g : Past) (out back : List SentDatagram) (handed : List TakenAnswer) → Fair p l.next l.untaken g out back handed →
    Fair p l.next (taken h l).untaken g out back (handed ++ taken_by p h (answer_under h l.untaken))
fair_taken p h l g out back handed f = by_answer (answer_under h l.untaken) (held_answer p g h l.untaken f.untaken)
  where
    by_answer : (o : Option AnswerFields) → IsHeld p g h o →
        Fair p l.next (cond (is_some o) (without_handle h l.untaken) l.untaken) g out back (handed ++ taken_by p h o)
    by_answer None a = fair_untaken p l.next l.untaken l.untaken g out back handed [] f.untaken tt f
    by_answer (Some x) a = fair_untaken p l.next l.untaken (without_handle h l.untaken) g out back handed (taken_by p h (Some x)) (fair_without p g h l.untaken f.untaken) ((λ same. a), tt) f

-- another's answer is taken
pub fair_taken_by : (p q : Peer) (h : ℕ) (o : Option AnswerFields) (next : Option ℕ) (us : List Untaken) (g : Past) (out back : List SentDatagram) (handed : List TakenAnswer) →
    (q ≡ p → ⊥) → Fair p next us g out back handed → Fair p next us g out back (handed ++ taken_by q h o)
fair_taken_by p q h o next us g out back handed other f = fair_untaken p next us us g out back handed (taken_by q h o) f.untaken (none o) f
  where
    none : (o : Option AnswerFields) → AllByRecursion (λ (t : TakenAnswer). t.peer ≡ p → IsTrueAnswer p t.handle t.answer g) (taken_by q h o)
    none None = tt
    none (Some a) = ((λ same. absurd (other same)), tt)

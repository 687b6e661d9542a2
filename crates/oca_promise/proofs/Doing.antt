-- What the calls of a panel do with its link.
use Rattle.oca_pair.proofs.Words.{on_bool}
use Rattle.std.proofs.Common.{◌≡◌, ℕ, ◌+◌, ◌<◌, ◌≤◌, ◌⊎◌, Bool, true, false, List, [], ◌∷◌, ◌++◌, length, Option, Some, None, Result, Ok, Err, refl, sym, ap, ◌∙◌, subst, arith, zero, suc, inl, inr, append_assoc, append-nil}
use Rattle.std.specs.Prelude.{IsTrue, if◌then◌else◌, nat_le}
use Rattle.std.specs.List.{filter, flat_map, list_any}
use Rattle.oca_promise.specs.Words.{Answer, AnswerFields, AsksIn, BeginsIn, ControlFault, EndState, FinishesIn, Handle}
use Rattle.oca_promise.specs.Words.{LinkState, Outcome, PanelState, Peer, RequestFields, SettlesIn, answer_fields}
use Rattle.oca_promise.specs.Words.{content_read, decision, gone_on, late_at, received, submission, submitted, taken}
use Rattle.std.proofs.lemmas.Grind.{flat_map-append}
use Rattle.std.proofs.lemmas.List.Elements.{filter-append}
use Rattle.oca_net.specs.Deliveries.{Delivery, Datagram, Quiet, Failed, Sent}
use Rattle.oca_net.specs.Ends.{last_u64, TakesAllBut}
use Rattle.oca_net.proofs.Sending.{takes_none, takes_more, counts_more}
use Rattle.oca_pdu.specs.Laws.{AreBytes, ReadingIsExact}
use Rattle.oca_pdu.specs.Messages.{Msg}
use Rattle.oca_pdu.specs.Reading.{read_datagram}
use Rattle.oca_pdu.specs.declared.fault.PduFault.{PduFault}
use Rattle.oca_control.specs.declared.fault.ControlFault.TheVariants as faults
use Rattle.oca_control.specs.declared.outcome.Outcome.TheVariants as outcomes
use Rattle.oca_control.specs.declared.report.DriveReport.{DriveReport}
use Rattle.oca_control.specs.Contents.{IsContent}
use Rattle.oca_control.specs.Untaken.{answer_under}
use Rattle.oca_control.specs.Links.{Decision, GivesCommand, IsLost, after_due, after_submission, present_moment}
use Rattle.oca_control.specs.Driving.{HearsDelivery, HearsDatagram, all_given_to, decisions_from, given_to, goes_on, link_from}
use Rattle.oca_control.specs.Turning.{Turns, GivesAfter, decisions_in_time, link_in_time}
use Rattle.oca_control.specs.Asking.{Begins, TakesTurns, Waits, beginning}
use Rattle.oca_control.specs.Asking as asking
use Rattle.oca_control.specs.Waiting.{TakesTurnsBefore, WaitsUntil}
use Rattle.oca_control.specs.Waiting as waiting
use Rattle.oca_pair.specs.Steps.{messages_read}
use Rattle.oca_panel.specs.Panels.{EndsIn}
use Rattle.oca_promise.specs.Doings.{Doing, Submits, Sends, Hears, Takes, done, all_done, hearing_of, is_hearing, hearings, IsOfDevice, AreOfDevice, WasDone, sent_by, is_begun_or_taken, is_taking, AreSentInTime}
use Rattle.oca_control.proofs.Copies.{calm_after, calm_submitted}
use Rattle.oca_promise.specs.Calls.{IsDoneByCall, IsAll, NothingIsSentLate, EveryCallIsInTime}
use Rattle.oca_promise.specs.Flights.{begun_by, takes_by, AreMade, WasInFlight, EveryFlightIsInTime}
use Rattle.oca_promise.specs.Flights as flights
use Rattle.oca_promise.proofs.Handles.{AreHeld, held_both, held_of_none, held_behind_submit, held_one, above_own, none_took}

-- ---- lists of doings

pub all_after : (xs ys : List Doing) (l : LinkState) → all_done (xs ++ ys) l ≡ all_done ys (all_done xs l)
unfolding all_done
all_after [] ys l = refl
all_after (x ∷ xs) ys l = all_after xs ys (done x l)

hearings_both : (xs ys : List Doing) → hearings (xs ++ ys) ≡ hearings xs ++ hearings ys
hearings_both xs ys = filter-append is_hearing xs ys

first_of_both : (device : Peer) (ds es : List Delivery) → AreOfDevice device (ds ++ es) → AreOfDevice device ds
first_of_both device [] es a = tt
first_of_both device (d ∷ ds) es a = (a.0, first_of_both device ds es a.1)

last_of_both : (device : Peer) (ds es : List Delivery) → AreOfDevice device (ds ++ es) → AreOfDevice device es
last_of_both device [] es a = a
last_of_both device (d ∷ ds) es a = last_of_both device ds es a.1

-- what is done with a link leaves its device's address
after_due_device : (d : Decision) (now : ℕ) (l : LinkState) → (after_due d now l).device ≡ l.device
after_due_device (GivesCommand c) now l = refl
after_due_device _ now l = refl

done_device : (x : Doing) (l : LinkState) → (done x l).device ≡ l.device
done_device (Submits request now) l = by (submission request l)
  where
    by : (o : Result Handle ControlFault) → (after_submission o request now l).device ≡ l.device
    by (Ok h) = refl
    by (Err fault) = refl
done_device (Sends now) l = after_due_device (decision now l) (present_moment now l) l
done_device _ l = refl

all_done_device : (xs : List Doing) (l : LinkState) → (all_done xs l).device ≡ l.device
unfolding all_done
all_done_device [] l = refl
all_done_device (x ∷ xs) l = all_done_device xs (done x l) ∙ done_device x l

-- the deliveries of the second of two, where the link became another by the first
then_of_device : {xs : List Doing} {a b : LinkState} {e f : EndState} (x : WasDone xs a b e f) (es : List Delivery) → AreOfDevice a.device (x.deliveries ++ es) → AreOfDevice b.device es
then_of_device {xs} {a} {b} x es are =
    subst (λ (p : Peer). AreOfDevice p es)
    (sym (ap (λ (l : LinkState). l.device) (x.link (first_of_both a.device x.deliveries es are)) ∙ all_done_device xs a))
    (last_of_both a.device x.deliveries es are)

sent_both : (xs ys : List Doing) (l : LinkState) → sent_by (xs ++ ys) l ≡ sent_by xs l ++ sent_by ys (all_done xs l)
unfolding sent_by all_done
sent_both [] ys l = refl
sent_both (Sends now ∷ xs) ys l = ap (λ zs. given_to l.device (decision now l) ++ zs) (sent_both xs ys (gone_on now l)) ∙ sym (append_assoc (given_to l.device (decision now l)) (sent_by xs (gone_on now l)) (sent_by ys (all_done xs (gone_on now l))))
sent_both (Submits request now ∷ xs) ys l = sent_both xs ys (submitted request now l)
sent_both (Hears bytes now ∷ xs) ys l = sent_both xs ys (received l.device (content_read bytes) now l)
sent_both (Takes h ∷ xs) ys l = sent_both xs ys (taken h l)

-- what is begun and taken, in time
abbrev asked_in : List Doing → List Doing
asked_in xs = filter is_begun_or_taken xs

asked_both : (xs ys us vs : List Doing) → asked_in xs ≡ us → asked_in ys ≡ vs → asked_in (xs ++ ys) ≡ us ++ vs
asked_both xs ys us vs a b = filter-append is_begun_or_taken xs ys ∙ ap (λ zs. zs ++ asked_in ys) a ∙ ap (λ zs. us ++ zs) b

in_time_both : (xs ys : List Doing) (l : LinkState) → AreSentInTime xs l → AreSentInTime ys (all_done xs l) → AreSentInTime (xs ++ ys) l
unfolding all_done AreSentInTime
in_time_both [] ys l a b = b
in_time_both (Sends now ∷ xs) ys l a b = (a.0, in_time_both xs ys (gone_on now l) a.1 b)
in_time_both (Submits request now ∷ xs) ys l a b = in_time_both xs ys (submitted request now l) a b
in_time_both (Hears bytes now ∷ xs) ys l a b = in_time_both xs ys (received l.device (content_read bytes) now l) a b
in_time_both (Takes h ∷ xs) ys l a b = in_time_both xs ys (taken h l) a b

none_in_time_sent : (l : LinkState) → AreSentInTime [] l
unfolding AreSentInTime
none_in_time_sent l = tt

taken_in_time : (h : ℕ) (l : LinkState) → AreSentInTime (Takes h ∷ []) l
unfolding AreSentInTime
taken_in_time h l = tt

no_more : (n : ℕ) → n ≡ n + 0
no_more n = omega arith

-- counts of failures: none is added, some are, or two are one after another
none_fails : (n : ℕ) → n + 0 ≤ n
none_fails n = omega arith

some_fail : (n received sent after : ℕ) → after ≡ n + (received + sent) → n + sent ≤ after
some_fail n received sent after is = omega (arith, is)

sends_fail : (n sent after : ℕ) → after ≡ n + sent → n + sent ≤ after
sends_fail n sent after is = omega (arith, is)

fail_both : (a b c first second limit : ℕ) → (b < limit → a + first ≤ b) → (c < limit → b + second ≤ c) → c < limit → a + (first + second) ≤ c
fail_both a b c first second limit one two below =
    let later : b + second ≤ c = two below in
    let inside : b < limit = omega (arith, later, below) in
    let earlier : a + first ≤ b = one inside in
    omega (arith, earlier, later)

-- nothing was done
nothing : (l : LinkState) (e : EndState) → WasDone [] l l e e
unfolding all_done sent_by
nothing l e = record {
  deliveries = [];
  telling = refl;
  delivered = λ tells. sym (append-nil e.delivered);
  heard = refl;
  link = λ of_device. refl;
  failed = 0;
  failures = λ below. none_fails e.failures;
  sent = λ of_device tells. takes_none e.taken e.taken refl;
  sends = λ of_device below. no_more e.sends;
}

-- one thing and then the other
pub both : {xs ys : List Doing} {a b c : LinkState} {d e f : EndState} → WasDone xs a b d e → WasDone ys b c e f → WasDone (xs ++ ys) a c d f
both {xs} {ys} {a} {b} {c} {d} {e} {f} x y = record {
  deliveries = x.deliveries ++ y.deliveries;
  telling = y.telling ∙ x.telling;
  delivered = λ tells. y.delivered (subst IsTrue (sym x.telling) tells) ∙ ap (λ zs. zs ++ y.deliveries) (x.delivered tells) ∙ append_assoc d.delivered x.deliveries y.deliveries;
  heard = hearings_both xs ys ∙ ap (λ zs. zs ++ hearings ys) x.heard ∙ ap (λ zs. flat_map hearing_of x.deliveries ++ zs) y.heard ∙ sym (flat_map-append hearing_of x.deliveries y.deliveries);
  link = λ of_device. y.link (then_of_device x y.deliveries of_device) ∙ ap (all_done ys) (x.link (first_of_both a.device x.deliveries y.deliveries of_device)) ∙ sym (all_after xs ys a);
  failed = x.failed + y.failed;
  failures = λ below. fail_both d.failures e.failures f.failures x.failed y.failed last_u64 x.failures y.failures below;
  sent = λ of_device tells.
      let before = first_of_both a.device x.deliveries y.deliveries of_device in
      subst (λ (zs : List Sent). TakesAllBut (x.failed + y.failed) d.taken f.taken zs)
      (ap (λ (l : LinkState). sent_by xs a ++ sent_by ys l) (x.link before) ∙ sym (sent_both xs ys a))
      (takes_more (x.sent before tells) (y.sent (then_of_device x y.deliveries of_device) (subst IsTrue (sym x.telling) tells)));
  sends = λ of_device below.
      let before = first_of_both a.device x.deliveries y.deliveries of_device in
      counts_more (sent_by xs a) (sent_by ys b) d.sends e.sends f.sends (x.sends before) (y.sends (then_of_device x y.deliveries of_device)) below
      ∙ ap (λ (zs : List Sent). d.sends + length zs) (ap (λ (l : LinkState). sent_by xs a ++ sent_by ys l) (x.link before) ∙ sym (sent_both xs ys a));
}

-- ---- what is due is sent

abbrev pub sends : ℕ → ℕ → LinkState → List Doing
sends now zero l = []
sends now (suc n) l = Sends now ∷ (if goes_on (decision now l) then sends now n (gone_on now l) else [])

pub all_sent : (now n : ℕ) (l : LinkState) → link_from now n l ≡ all_done (sends now n l) l
unfolding all_done link_from
all_sent now zero l = refl
all_sent now (suc n) l =
    on_bool (goes_on (decision now l)) (λ b. link_from now n (gone_on now l) ≡ all_done (sends now n (gone_on now l)) (gone_on now l) → (if b then link_from now n
    (gone_on now l) else gone_on now l) ≡ all_done (if b then sends now n (gone_on now l) else []) (gone_on now l))
    (λ e. e) (λ e. refl) (all_sent now n (gone_on now l))

pub none_heard : (now n : ℕ) (l : LinkState) → hearings (sends now n l) ≡ []
none_heard now zero l = refl
none_heard now (suc n) l = on_bool (goes_on (decision now l)) (λ b. hearings (sends now n (gone_on now l)) ≡ [] → hearings (if b then sends now n (gone_on now l) else []) ≡ [])
    (λ e. e) (λ e. refl) (none_heard now n (gone_on now l))

-- what is sent is what was decided
all_given : (now n : ℕ) (l : LinkState) → sent_by (sends now n l) l ≡ all_given_to l.device (decisions_from now n l)
unfolding sent_by decisions_from
all_given now zero l = refl
all_given now (suc n) l = ap (λ zs. given_to l.device (decision now l) ++ zs) (by_test (goes_on (decision now l)) (all_given now n (gone_on now l) ∙ ap (λ (p : Peer). all_given_to p (decisions_from now n (gone_on now l))) (after_due_device (decision now l) (present_moment now l) l)))
  where
    by_test : (b : Bool) → sent_by (sends now n (gone_on now l)) (gone_on now l) ≡ all_given_to l.device (decisions_from now n (gone_on now l)) →
        sent_by (if b then sends now n (gone_on now l) else []) (gone_on now l) ≡ all_given_to l.device (if b then decisions_from now n (gone_on now l) else [])
    by_test true e = e
    by_test false e = refl

only_sends : (now n : ℕ) (l : LinkState) → asked_in (sends now n l) ≡ []
only_sends now zero l = refl
only_sends now (suc n) l = on_bool (goes_on (decision now l)) (λ b. asked_in (sends now n (gone_on now l)) ≡ [] → asked_in (if b then sends now n (gone_on now l) else []) ≡ [])
    (λ e. e) (λ e. refl) (only_sends now n (gone_on now l))

calm_sends : (now n : ℕ) (l : LinkState) → late_at now l ≡ false → AreSentInTime (sends now n l) l
unfolding AreSentInTime
calm_sends now zero l calm = tt
calm_sends now (suc n) l calm = (calm, by_test (goes_on (decision now l)) (calm_sends now n (gone_on now l) (calm_after now l calm)))
  where
    by_test : (b : Bool) → AreSentInTime (sends now n (gone_on now l)) (gone_on now l) → AreSentInTime (if b then sends now n (gone_on now l) else []) (gone_on now l)
    by_test true a = a
    by_test false a = tt

abbrev sends_in_time : ℕ → LinkState → List Doing
sends_in_time now l = if late_at now l then [] else sends now (l.span + 1) l

sent_in_time : (now : ℕ) (l : LinkState) → link_in_time now l ≡ all_done (sends_in_time now l) l
unfolding all_done
sent_in_time now l = on_bool (late_at now l) (λ b. (if b then l else link_from now (l.span + 1) l) ≡ all_done (if b then [] else sends now (l.span + 1) l) l) refl (all_sent now (l.span + 1) l)

none_in_time : (now : ℕ) (l : LinkState) → hearings (sends_in_time now l) ≡ []
none_in_time now l = on_bool (late_at now l) (λ b. hearings (if b then [] else sends now (l.span + 1) l) ≡ []) refl (none_heard now (l.span + 1) l)

taken_in_time_by_end : (now : ℕ) (l : LinkState) → sent_by (sends_in_time now l) l ≡ all_given_to l.device (decisions_in_time now l)
unfolding sent_by
taken_in_time_by_end now l =
    on_bool (late_at now l) (λ b. sent_by (if b then [] else sends now (l.span + 1) l) l ≡ all_given_to l.device (if b then IsLost ∷ [] else decisions_from now (l.span + 1) l))
    refl (all_given now (l.span + 1) l)

only_in_time : (now : ℕ) (l : LinkState) → asked_in (sends_in_time now l) ≡ []
only_in_time now l = on_bool (late_at now l) (λ b. asked_in (if b then [] else sends now (l.span + 1) l) ≡ []) refl (only_sends now (l.span + 1) l)

calm_in_time : (now : ℕ) (l : LinkState) → AreSentInTime (sends_in_time now l) l
calm_in_time now l = on_bool (late_at now l) (λ b. late_at now l ≡ b → AreSentInTime (if b then [] else sends now (l.span + 1) l) l)
    (λ e. none_in_time_sent l) (λ e. calm_sends now (l.span + 1) l e) refl

-- what is sent after a delivery
abbrev sends_after : Delivery → LinkState → List Doing
sends_after (Datagram from bytes now) l = sends_in_time now l
sends_after (Quiet now) l = sends_in_time now l
sends_after Failed l = []

sent_after : (d : Delivery) (old new : LinkState) (decisions : List Decision) → GivesAfter d old new decisions → new ≡ all_done (sends_after d old) old
unfolding all_done
sent_after (Datagram from bytes now) old new decisions g = g.1 ∙ sent_in_time now old
sent_after (Quiet now) old new decisions g = g.1 ∙ sent_in_time now old
sent_after Failed old new decisions g = g.1

given_after : (d : Delivery) (old new : LinkState) (decisions : List Decision) → GivesAfter d old new decisions → sent_by (sends_after d old) old ≡ all_given_to old.device decisions
unfolding sent_by
given_after (Datagram from bytes now) old new decisions g = taken_in_time_by_end now old ∙ ap (all_given_to old.device) (sym g.0)
given_after (Quiet now) old new decisions g = taken_in_time_by_end now old ∙ ap (all_given_to old.device) (sym g.0)
given_after Failed old new decisions g = ap (all_given_to old.device) (sym g.0)

none_after : (d : Delivery) (l : LinkState) → hearings (sends_after d l) ≡ []
none_after (Datagram from bytes now) l = none_in_time now l
none_after (Quiet now) l = none_in_time now l
none_after Failed l = refl

only_after : (d : Delivery) (l : LinkState) → asked_in (sends_after d l) ≡ []
only_after (Datagram from bytes now) l = only_in_time now l
only_after (Quiet now) l = only_in_time now l
only_after Failed l = refl

calm_after_delivery : (d : Delivery) (l : LinkState) → AreSentInTime (sends_after d l) l
calm_after_delivery (Datagram from bytes now) l = calm_in_time now l
calm_after_delivery (Quiet now) l = calm_in_time now l
calm_after_delivery Failed l = none_in_time_sent l

-- ---- what is heard

-- bytes have one content
read_is : ReadingIsExact → (bytes : List ℕ) (content : Option (List Msg)) → AreBytes bytes → IsContent content bytes → content ≡ content_read bytes
read_is law bytes (Some messages) are c = ap messages_read (sym (((law bytes are).messages messages).1 c))
read_is law bytes None are c = by (read_datagram bytes) refl
  where
    by : (r : Result (List Msg) PduFault) → read_datagram bytes ≡ r → None ≡ messages_read r
    by (Ok ms) e = let x = ((law bytes are).messages ms).0 e in absurd (c x.0 x.1)
    by (Err f) e = refl

-- the test of a length decides
hears_by_length : ReadingIsExact → (b : Bool) (from : Peer) (bytes : List ℕ) (now : ℕ) (old new : LinkState) (answered : ℕ) → nat_le (length bytes) 1472 ≡ b → HearsDatagram from bytes now old new answered → IsOfDevice old.device (Datagram from bytes now) → new ≡ all_done (if b then Hears bytes now ∷ [] else []) old
unfolding all_done
hears_by_length law true from bytes now old new answered fits h is =
    let x = h.short (grind (arith)) in
    x.1.link_is ∙ ap (λ (c : Option (List Msg)). received from c now old) (read_is law bytes x.1.content is.1 x.1.holds) ∙ ap (λ (q : Peer). received q (content_read bytes) now old) is.0
hears_by_length law false from bytes now old new answered long h is = (h.long (grind (arith))).0

hears : ReadingIsExact → (d : Delivery) (old new : LinkState) (answered : ℕ) → HearsDelivery d old new answered → IsOfDevice old.device d → new ≡ all_done (hearing_of d) old
unfolding all_done
hears law (Datagram from bytes now) old new answered h is = hears_by_length law (nat_le (length bytes) 1472) from bytes now old new answered refl h is
hears law _ old new answered h is = h.0

all_heard : (d : Delivery) → hearings (hearing_of d) ≡ hearing_of d
all_heard (Datagram from bytes now) = on_bool (nat_le (length bytes) 1472) (λ b. hearings (if b then Hears bytes now ∷ [] else []) ≡ (if b then Hears bytes now ∷ [] else [])) refl refl
all_heard _ = refl

-- ---- turns

abbrev turn_doings : Delivery → LinkState → LinkState → List Doing
turn_doings d old between = hearing_of d ++ sends_after d between

one_delivery : (d : Delivery) (old between new : LinkState) (decisions : List Decision) (answered : ℕ) → ReadingIsExact → HearsDelivery d old between answered → GivesAfter d between new decisions → AreOfDevice old.device (d ∷ []) → new ≡ all_done (turn_doings d old between) old
one_delivery d old between new decisions answered law heard gives are =
    sent_after d between new decisions gives ∙ ap (all_done (sends_after d between)) (hears law d old between answered heard are.0) ∙ sym (all_after (hearing_of d) (sends_after d between) old)

-- hearing sends nothing
none_sent : (d : Delivery) (l : LinkState) → sent_by (hearing_of d) l ≡ []
unfolding sent_by
none_sent (Datagram from bytes now) l = on_bool (nat_le (length bytes) 1472) (λ b. sent_by (if b then Hears bytes now ∷ [] else []) l ≡ []) refl refl
none_sent _ l = refl

sent_in_turn : (d : Delivery) (old between new : LinkState) (decisions : List Decision) (answered : ℕ) → ReadingIsExact → HearsDelivery d old between answered → GivesAfter d between new decisions → AreOfDevice old.device (d ∷ []) → all_given_to old.device decisions ≡ sent_by (turn_doings d old between) old
sent_in_turn d old between new decisions answered law heard gives are =
    let between_is : between ≡ all_done (hearing_of d) old = hears law d old between answered heard are.0 in
    let same : between.device ≡ old.device = ap (λ (l : LinkState). l.device) between_is ∙ all_done_device (hearing_of d) old in
    ap (λ (p : Peer). all_given_to p decisions) (sym same)
    ∙ sym (given_after d between new decisions gives)
    ∙ ap (λ (l : LinkState). sent_by (sends_after d between) l) between_is
    ∙ ap (λ zs. zs ++ sent_by (sends_after d between) (all_done (hearing_of d) old)) (sym (none_sent d old))
    ∙ sym (sent_both (hearing_of d) (sends_after d between) old)

heard_in_turn : (d : Delivery) (old between : LinkState) → hearings (turn_doings d old between) ≡ flat_map hearing_of (d ∷ [])
heard_in_turn d old between =
    hearings_both (hearing_of d) (sends_after d between) ∙ ap (λ zs. zs ++ hearings (sends_after d between)) (all_heard d) ∙ ap (λ zs. hearing_of d ++ zs) (none_after d between)

only_hearing : (d : Delivery) → asked_in (hearing_of d) ≡ []
only_hearing (Datagram from bytes now) = on_bool (nat_le (length bytes) 1472) (λ b. asked_in (if b then Hears bytes now ∷ [] else []) ≡ []) refl refl
only_hearing _ = refl

calm_hearing : (d : Delivery) (l : LinkState) → AreSentInTime (hearing_of d) l
unfolding AreSentInTime
calm_hearing (Datagram from bytes now) l = on_bool (nat_le (length bytes) 1472) (λ b. AreSentInTime (if b then Hears bytes now ∷ [] else []) l) tt tt
calm_hearing _ l = tt

turn_in_time : ReadingIsExact → (d : Delivery) (old between : LinkState) (answered : ℕ) → HearsDelivery d old between answered → AreOfDevice old.device (d ∷ []) → AreSentInTime (turn_doings d old between) old
turn_in_time law d old between answered heard are =
    in_time_both (hearing_of d) (sends_after d between) old (calm_hearing d old)
    (subst (λ (l : LinkState). AreSentInTime (sends_after d between) l) (hears law d old between answered heard are.0) (calm_after_delivery d between))

-- Some doings make a link another, over an end, in time; this is what of them is begun and taken, and each answer that
-- is taken is there.
abbrev Does : List Doing → LinkState → LinkState → EndState → EndState → Type 0
Does asked old new before after =
    (doings : List Doing) × (done : WasDone doings old new before after) × (asked_in doings ≡ asked)
    × (AreOfDevice old.device done.deliveries → AreSentInTime doings old) × (AreOfDevice old.device done.deliveries → AreHeld doings old)

sent_none : (l : LinkState) → [] ≡ sent_by [] l
unfolding sent_by
sent_none l = refl

done_none : (l : LinkState) → l ≡ all_done [] l
unfolding all_done
done_none l = refl

only_turn : (d : Delivery) (old between : LinkState) → asked_in (turn_doings d old between) ≡ []
only_turn d old between = asked_both (hearing_of d) (sends_after d between) [] [] (only_hearing d) (only_after d between)

turn_does : ReadingIsExact → (old new : LinkState) (e f : EndState) (r : DriveReport) → Turns old new e f r → Does [] old new e f
turn_does law old new e f r (inl x) = (
  turn_doings x.delivery old x.turns.between,
  record {
    deliveries = x.delivery ∷ [];
    telling = x.runs.telling;
    delivered = x.runs.delivered;
    heard = heard_in_turn x.delivery old x.turns.between;
    link = λ are. one_delivery x.delivery old x.turns.between new x.decisions x.answered law x.turns.hears x.turns.gives are;
    failed = r.failed_sends;
    failures = λ below. some_fail e.failures r.failed_receives r.failed_sends f.failures (x.runs.failures below);
    sent = λ are tells.
        subst (λ (zs : List Sent). TakesAllBut r.failed_sends e.taken f.taken zs)
        (sent_in_turn x.delivery old x.turns.between new x.decisions x.answered law x.turns.hears x.turns.gives are) (x.runs.taken tells);
    sends = λ are below. x.runs.sends below ∙ ap (λ (zs : List Sent). e.sends + length zs) (sent_in_turn x.delivery old x.turns.between new x.decisions x.answered law x.turns.hears x.turns.gives are);
  },
  only_turn x.delivery old x.turns.between,
  λ are. turn_in_time law x.delivery old x.turns.between x.answered x.turns.hears are,
  λ are. held_of_none (turn_doings x.delivery old x.turns.between) old (only_turn x.delivery old x.turns.between),
)
turn_does law old new e f r (inr x) = (
  [],
  record {
    deliveries = [];
    telling = x.received.telling;
    delivered = λ tells. x.received.delivered tells ∙ sym (append-nil e.delivered);
    heard = refl;
    link = λ are. x.link ∙ done_none old;
    failed = 0;
    failures = λ below. sends_fail e.failures 0 f.failures (x.received.failures ∙ no_more e.failures);
    sent = λ are tells. subst (λ (zs : List Sent). TakesAllBut 0 e.taken f.taken zs) (sent_none old) (takes_none e.taken f.taken (x.received.taken tells));
    sends = λ are below. x.received.sends ∙ no_more e.sends ∙ ap (λ (zs : List Sent). e.sends + length zs) (sent_none old);
  },
  refl,
  λ are. none_in_time_sent old,
  λ are. held_of_none [] old refl,
)

nothing_does : (l : LinkState) (e : EndState) → Does [] l l e e
nothing_does l e = ([], nothing l e, refl, λ are. none_in_time_sent l, λ are. held_of_none [] l refl)

does_both : {us vs : List Doing} {a b c : LinkState} {d e f : EndState} → Does us a b d e → Does vs b c e f → Does (us ++ vs) a c d f
unfolding both
does_both {us} {vs} {a} {b} {c} {d} {e} {f} x y = (
  x.0 ++ y.0,
  both x.1 y.1,
  asked_both x.0 y.0 us vs x.2 y.2,
  λ are.
      let before = first_of_both a.device x.1.deliveries y.1.deliveries are in
      in_time_both x.0 y.0 a (x.3 before)
      (subst (λ (l : LinkState). AreSentInTime y.0 l) (x.1.link before) (y.3 (then_of_device x.1 y.1.deliveries are))),
  λ are.
      let before = first_of_both a.device x.1.deliveries y.1.deliveries are in
      held_both x.0 y.0 a (x.4 before)
      (subst (λ (l : LinkState). AreHeld y.0 l) (x.1.link before) (y.4 (then_of_device x.1 y.1.deliveries are))),
)

turns_do : ReadingIsExact → {h until n : ℕ} {lost closed : Bool} {old new : LinkState} {e f : EndState} → TakesTurnsBefore h until n lost closed old new e f → Does [] old new e f
turns_do law (waiting.NoTurn {l = l} {e = e}) = nothing_does l e
turns_do law (waiting.OneTurn {l = l} {new = new} {e = e} {f = f} before none going time turn) = does_both (turns_do law before) (turn_does law l new e f turn.report turn.turns)

looks_do : ReadingIsExact → {h n : ℕ} {lost : Bool} {old new : LinkState} {e f : EndState} → TakesTurns h n lost old new e f → Does [] old new e f
looks_do law (asking.NoneTaken {l = l} {e = e}) = nothing_does l e
looks_do law (asking.OneTaken {l = l} {new = new} {e = e} {f = f} before none going turn) = does_both (looks_do law before) (turn_does law l new e f turn.report turn.turns)

-- ---- a command is begun

submission_of : (request : RequestFields) (now : ℕ) (l : LinkState) (h : Handle) → Ok h ≡ beginning request now l → submission request l ≡ Ok h
submission_of request now l h e = on_bool (late_at now l) (λ b. Ok h ≡ (if b then Err faults.Lost else submission request l) → submission request l ≡ Ok h) (λ e. cc) (λ e. sym e) e

not_late : (request : RequestFields) (now : ℕ) (l : LinkState) (h : Handle) → Ok h ≡ beginning request now l → late_at now l ≡ false
not_late request now l h e = on_bool (late_at now l) (λ b. late_at now l ≡ b → Ok h ≡ (if b then Err faults.Lost else submission request l) → late_at now l ≡ false) (λ q e. cc) (λ q e. q) refl e

abbrev begin_doings : RequestFields → ℕ → LinkState → List Doing
begin_doings request now l = sends now ((submitted request now l).span + 1) (submitted request now l)

begin_does : (request : RequestFields) (h : Handle) (old new : LinkState) (e f : EndState) (b : Begins request (Ok h) old new e f) → WasDone (Submits request b.now ∷ begin_doings request b.now old) old new e f
unfolding all_done sent_by
begin_does request h old new e f b =
    let l = submitted request b.now old in
    record {
      deliveries = [];
      telling = b.gives.1.sends.telling;
      delivered = λ tells. b.gives.1.sends.delivered tells ∙ sym (append-nil e.delivered);
      heard = none_heard b.now (l.span + 1) l;
      link = λ are. b.gives.1.link ∙ all_sent b.now (l.span + 1) l;
      failed = b.gives.0.failed_sends;
      failures = λ below. sends_fail e.failures b.gives.0.failed_sends f.failures (b.gives.1.sends.failures below);
      sent = λ are tells.
          subst (λ (zs : List Sent). TakesAllBut b.gives.0.failed_sends e.taken f.taken zs)
          (sym (all_given b.now (l.span + 1) l)) (b.gives.1.sends.taken tells);
      sends = λ are below. b.gives.1.sends.sends below ∙ ap (λ (zs : List Sent). e.sends + length zs) (sym (all_given b.now (l.span + 1) l));
    }

-- ---- an answer is taken

take_done : (h : ℕ) (xs : List Doing) (old l new : LinkState) (e f : EndState) → WasDone xs old l e f → new ≡ taken h l → WasDone (xs ++ Takes h ∷ []) old new e f
unfolding all_done sent_by
take_done h xs old l new e f d is = record {
  deliveries = d.deliveries;
  telling = d.telling;
  delivered = d.delivered;
  heard = hearings_both xs (Takes h ∷ []) ∙ append-nil (hearings xs) ∙ d.heard;
  link = λ are. is ∙ ap (taken h) (d.link are) ∙ sym (all_after xs (Takes h ∷ []) old);
  failed = d.failed;
  failures = d.failures;
  sent = λ are tells.
      subst (λ (zs : List Sent). TakesAllBut d.failed e.taken f.taken zs)
      (sym (sent_both xs (Takes h ∷ []) old ∙ append-nil (sent_by xs old))) (d.sent are tells);
  sends = λ are below. d.sends are below ∙ ap (λ (zs : List Sent). e.sends + length zs) (sym (sent_both xs (Takes h ∷ []) old ∙ append-nil (sent_by xs old)));
}

-- ---- a command is begun, or waited for

-- a command was begun, or refused
begun_does : (request : RequestFields) (returned : Result Handle ControlFault) (old new : LinkState) (e f : EndState) (b : Begins request returned old new e f) → Does (begun_by request b.now returned) old new e f
unfolding AreSentInTime
begun_does request (Ok h) old new e f b =
    let called : LinkState = submitted request b.now old in (
      Submits request b.now ∷ begin_doings request b.now old,
      begin_does request h old new e f b,
      ap (λ zs. Submits request b.now ∷ zs) (only_sends b.now (called.span + 1) called),
      λ are. calm_sends b.now (called.span + 1) called (calm_submitted request b.now h old (sym (submission_of request b.now old h b.answer)) (not_late request b.now old h b.answer)),
      λ are. held_behind_submit request b.now (begin_doings request b.now old) old (only_sends b.now (called.span + 1) called),
    )
begun_does request (Err fault) old new e f b =
    subst (λ (l : LinkState). Does [] old l e f) (sym b.gives.0) (subst (λ (x : EndState). Does [] old old e x) (sym b.gives.1) (nothing_does old e))

-- The answer under a handle, which the link then held, was taken after this.
record TakesAnswer (h : ℕ) (a : AnswerFields) (old new : LinkState) (e f : EndState) : Type 0 where
  pub link : LinkState
  pub before : Does [] old link e f
  pub held : answer_under h link.untaken ≡ Some a
  pub taken : new ≡ taken h link

waited_takes : ReadingIsExact → (h until : ℕ) (a : Answer) (old new : LinkState) (e f : EndState) → WaitsUntil h until old (outcomes.Answered a) new e f → TakesAnswer h (answer_fields a) old new e f
waited_takes law h until a old new e f w = record { link = w.0; before = turns_do law w.5; held = w.6; taken = w.7 }

looked_takes : ReadingIsExact → (h n : ℕ) (a : Answer) (old new : LinkState) (e f : EndState) → Waits h n old (outcomes.Answered a) new e f → TakesAnswer h (answer_fields a) old new e f
looked_takes law h n a old new e f w = record { link = w.0; before = looks_do law w.4; held = w.5; taken = w.6 }

takes_does : {h : ℕ} {a : AnswerFields} {old new : LinkState} {e f : EndState} → TakesAnswer h a old new e f → Does (Takes h ∷ []) old new e f
unfolding take_done
takes_does {h} {a} {old} {new} {e} {f} t = (
  t.before.0 ++ Takes h ∷ [],
  take_done h t.before.0 old t.link new e f t.before.1 t.taken,
  asked_both t.before.0 (Takes h ∷ []) [] (Takes h ∷ []) t.before.2 refl,
  λ are. in_time_both t.before.0 (Takes h ∷ []) old (t.before.3 are) (taken_in_time h (all_done t.before.0 old)),
  λ are.
      held_both t.before.0 (Takes h ∷ []) old (t.before.4 are)
      (held_one h a (all_done t.before.0 old) (ap (λ (l : LinkState). answer_under h l.untaken) (sym (t.before.1.link are)) ∙ t.held)),
)

waited_does : ReadingIsExact → (h until : ℕ) (o : Outcome) (old new : LinkState) (e f : EndState) → WaitsUntil h until old o new e f → Does (takes_by h o) old new e f
waited_does law h until (outcomes.Answered a) old new e f w = takes_does (waited_takes law h until a old new e f w)
waited_does law h until (outcomes.Refused fault) old new e f w = absurd w
waited_does law h until outcomes.Lost old new e f w = turns_do law w.4
waited_does law h until outcomes.Unanswered old new e f w = turns_do law w.3

looked_does : ReadingIsExact → (h n : ℕ) (o : Outcome) (old new : LinkState) (e f : EndState) → Waits h n old o new e f → Does (takes_by h o) old new e f
looked_does law h n (outcomes.Answered a) old new e f w = takes_does (looked_takes law h n a old new e f w)
looked_does law h n (outcomes.Refused fault) old new e f w = absurd w
looked_does law h n outcomes.Lost old new e f w = looks_do law w.3
looked_does law h n outcomes.Unanswered old new e f w = looks_do law w.0

calls_do : ReadingIsExact → {xs : List Doing} {old new : PanelState} → AreMade xs old new → Does xs old.link new.link old.end_state new.end_state
calls_do law (flights.NoCall {s = s}) = nothing_does s.link s.end_state
calls_do law (flights.OneBegins {s = s} {new = new} {request = request} {returned = returned} made b) =
    does_both (calls_do law made) (begun_does request returned s.link new.link s.end_state new.end_state b.begins)
calls_do law (flights.OneWaits {outcome = outcome} made w) = does_both (calls_do law made) (waited_does law _ _ outcome _ _ _ _ w.waits.waits)
calls_do law (flights.OneLooksUp {outcome = outcome} made w) = does_both (calls_do law made) (looked_does law _ _ outcome _ _ _ _ w.waits)
calls_do law (flights.OneTurns {xs = xs} {old = old} {s = s} {new = new} made t) =
    subst (λ (zs : List Doing). Does zs old.link new.link old.end_state new.end_state) (append-nil xs)
    (does_both (calls_do law made) (turn_does law s.link new.link s.end_state new.end_state t.report t.takes))

-- ---- a command in flight

-- the answer was taken by either
ended_takes : ReadingIsExact → (h : ℕ) (a : Answer) (last new : PanelState) → FinishesIn h last new (outcomes.Answered a) ⊎ SettlesIn h last new (outcomes.Answered a) →
    TakesAnswer h (answer_fields a) last.link new.link last.end_state new.end_state
ended_takes law h a last new (inl w) = waited_takes law h _ a last.link new.link last.end_state new.end_state w.waits.waits
ended_takes law h a last new (inr w) = looked_takes law h _ a last.link new.link last.end_state new.end_state w.waits

ended_does : ReadingIsExact → (h : ℕ) (o : Outcome) (last new : PanelState) → FinishesIn h last new o ⊎ SettlesIn h last new o → Does (takes_by h o) last.link new.link last.end_state new.end_state
ended_does law h o last new (inl w) = waited_does law h _ o last.link new.link last.end_state new.end_state w.waits.waits
ended_does law h o last new (inr w) = looked_does law h _ o last.link new.link last.end_state new.end_state w.waits

pub flight_does : ReadingIsExact → (request : RequestFields) (handle : ℕ) (others : List Doing) (old new : PanelState) (a : Answer) → WasInFlight request handle others old new (outcomes.Answered a) →
    (doings : List Doing) × (done : IsDoneByCall request handle (answer_fields a) doings old new) × IsAll others done
unfolding both take_done all_done AreSentInTime begun_does begin_does
flight_does law request handle others old new a f =
    let h : Handle = record { 0 = handle } in
    let b = f.begins.begins in
    let begun = begin_does request h old.link f.begun.link old.end_state f.begun.end_state b in
    let t = ended_takes law handle a f.last new f.ends in
    let meanwhile = does_both (calls_do law f.meanwhile) t.before in
    let xs = begin_doings request b.now old.link ++ meanwhile.0 in
    let called : LinkState = submitted request b.now old.link in
    let before : WasDone (Submits request b.now ∷ xs) old.link t.link old.end_state new.end_state = both begun meanwhile.1 in
    let only : asked_in xs ≡ others =
    asked_both (begin_doings request b.now old.link) meanwhile.0 [] (others ++ []) (only_sends b.now (called.span + 1) called) meanwhile.2 ∙ append-nil others in
    let began = begun_does request (Ok h) old.link f.begun.link old.end_state f.begun.end_state b in (
      Submits request b.now ∷ xs ++ Takes handle ∷ [],
      record {
        now = b.now;
        between = xs;
        doings_are = refl;
        accepted = submission_of request b.now old.link h b.answer;
        done = take_done handle (Submits request b.now ∷ xs) old.link t.link new.link old.end_state new.end_state before t.taken;
        held = λ are. ap (λ (l : LinkState). answer_under handle l.untaken) (sym (before.link are)) ∙ t.held;
      },
      record {
        present = b.present;
        only = only;
        kept = λ are.
            subst (λ (zs : List Doing). list_any (is_taking handle) zs ≡ false) only
            (none_took handle (answer_fields a) xs called (above_own request b.now handle old.link (submission_of request b.now old.link h b.answer))
            (held_both (begin_doings request b.now old.link) meanwhile.0 called
            (held_of_none (begin_doings request b.now old.link) called (only_sends b.now (called.span + 1) called))
            (subst (λ (l : LinkState). AreHeld meanwhile.0 l) (begun.link (first_of_both old.link.device begun.deliveries meanwhile.1.deliveries are)) (meanwhile.4 (then_of_device begun meanwhile.1.deliveries are))))
            (ap (λ (l : LinkState). answer_under handle l.untaken) (sym (before.link are)) ∙ t.held));
        in_time = λ are.
            in_time_both xs (Takes handle ∷ []) called
            (in_time_both (begin_doings request b.now old.link) meanwhile.0 called
            (began.3 (first_of_both old.link.device begun.deliveries meanwhile.1.deliveries are))
            (subst (λ (l : LinkState). AreSentInTime meanwhile.0 l) (begun.link (first_of_both old.link.device begun.deliveries meanwhile.1.deliveries are)) (meanwhile.3 (then_of_device begun meanwhile.1.deliveries are))))
            (taken_in_time handle (all_done xs called));
      },
    )

in_time_of : (us : List Doing) (old new : PanelState) → Does us old.link new.link old.end_state new.end_state → NothingIsSentLate old new
in_time_of us old new d = (d.0, d.1, d.3)

pub every_flight_does : ReadingIsExact → EveryFlightIsInTime
every_flight_does law request handle others old new o f =
    in_time_of _ old new (does_both (begun_does request (Ok (record { 0 = handle })) old.link f.begun.link old.end_state f.begun.end_state f.begins.begins)
    (does_both (calls_do law f.meanwhile) (ended_does law handle o f.last new f.ends)))

-- ---- a call is a command in flight during which no other call is made

call_is_flight : {request : RequestFields} {old mid new : PanelState} {o : Outcome} (h : Handle) → BeginsIn request (Ok h) old mid → FinishesIn h.0 mid new o → WasInFlight request h.0 [] old new o
call_is_flight {mid = mid} h begins ends = record { begun = mid; last = mid; begins = begins; meanwhile = flights.NoCall; ends = inl ends }

pub call_does : (request : RequestFields) (old new : PanelState) (a : Answer) → AsksIn request old new (outcomes.Answered a) → (handle : ℕ) × WasInFlight request handle [] old new (outcomes.Answered a)
call_does request old new a asks = by asks.returned asks.begins asks.ends
  where
    by : (returned : Result Handle ControlFault) → BeginsIn request returned old asks.between → EndsIn returned asks.between new (outcomes.Answered a) → (handle : ℕ) × WasInFlight request handle [] old new (outcomes.Answered a)
    by (Ok h) begins ends = (h.0, call_is_flight h begins ends)
    by (Err fault) begins ends = cc

pub every_call_does : ReadingIsExact → EveryCallIsInTime
every_call_does law request old new o asks = by asks.returned asks.begins asks.ends
  where
    by : (returned : Result Handle ControlFault) → BeginsIn request returned old asks.between → EndsIn returned asks.between new o → NothingIsSentLate old new
    by (Ok h) begins ends = every_flight_does law request h.0 [] old new o (call_is_flight h begins ends)
    by (Err fault) begins ends =
        subst (λ (s : PanelState). NothingIsSentLate old s) (sym ends.1)
        (in_time_of [] old asks.between (begun_does request (Err fault) old.link asks.between.link old.end_state asks.between.end_state begins.begins))

-- Deliveries, what is sent for them, and reports of one turn and of several.
use Rattle.oca_device.proofs.Words.{◌≡◌, ℕ, ◌+◌, ◌≤◌, ◌<◌, Bool, cond, List, [], ◌∷◌, ◌++◌, length, refl, sym, ap, ◌∙◌, subst, arith, take, slice_index_or, IsTrue, min, lt-ltb, le-leb, lt-leb}
use Rattle.oca_device.proofs.Words.{append_assoc, append-nil, map-append, take_more, get_or-map, length-map, take_all, add-zero, zero-add, add_assoc, ArrayVec, Peer, DeviceSizes, Heard, Delivery}
use Rattle.oca_device.proofs.Words.{Datagram, Quiet, Failed, Sent, is_failed, largest_datagram, last_u64, TakesAllBut, EndState, Receives, Sends, SendsAllBut, Object, Report, Verdict, Event, packets}
use Rattle.oca_device.proofs.Words.{verdict, DeviceState, Represents, no_turns, one_turn, verdict_turn, added, capped, turn_report, events_after, events_after_all, report_of, receives_of, Serves}
use Rattle.oca_device.proofs.Words.{ServesEnd, sent_in_all, sent_for, sent_to, bytes_of_packets, state_after, Followed, ElectronicsState, Follows, ServesEndWith, ServesLongWith, handed, handed_of}
use Rattle.oca_device.proofs.Words.{IsAtMostEach, ServesTurn, IsClosed}
use Rattle.std.proofs.Common.{length-append}
use Rattle.oca_net.specs.declared.end.Heard.TheVariants as heard
use Rattle.oca_net.proofs.Sending.{takes_none, takes_more, sends_none, sends_more, sends_one}
use Rattle.oca_net.proofs.Hearing.{oversize_heard}
use Rattle.oca_net.proofs.Running.{Delivered, delivered_none, delivered_more, delivered_one, delivered_closed}
use Rattle.oca_device.specs.declared.verdict.Verdict.TheVariants as verdicts
use Rattle.oca_device.specs.Events as event
use Rattle.oca_device.specs.Written as effects

-- ---- sums of reports

added_none : (r : Report) → added r no_turns ≡ r
added_none r = sums r.turns r.executed r.kept r.old r.reused r.malformed r.no_room r.oversize r.quiet r.failed_receives r.failed_sends
  where
    sums : (a b c d u e f g h i j : ℕ) →
        let x : Report = record { turns = a + 0; executed = b + 0; kept = c + 0; old = d + 0; reused = u + 0; malformed = e + 0; no_room = f + 0; oversize = g + 0; quiet = h + 0; failed_receives = i + 0; failed_sends = j + 0 } in
        let y : Report = record { turns = a; executed = b; kept = c; old = d; reused = u; malformed = e; no_room = f; oversize = g; quiet = h; failed_receives = i; failed_sends = j } in x ≡ y
    sums a b c d u e f g h i j = simp add-zero

none_added : (r : Report) → added no_turns r ≡ r
none_added r = sums r.turns r.executed r.kept r.old r.reused r.malformed r.no_room r.oversize r.quiet r.failed_receives r.failed_sends
  where
    sums : (a b c d u e f g h i j : ℕ) →
        let x : Report = record { turns = 0 + a; executed = 0 + b; kept = 0 + c; old = 0 + d; reused = 0 + u; malformed = 0 + e; no_room = 0 + f; oversize = 0 + g; quiet = 0 + h; failed_receives = 0 + i; failed_sends = 0 + j } in
        let y : Report = record { turns = a; executed = b; kept = c; old = d; reused = u; malformed = e; no_room = f; oversize = g; quiet = h; failed_receives = i; failed_sends = j } in x ≡ y
    sums a b c d u e f g h i j = simp zero-add

added_assoc : (q r s : Report) → added (added q r) s ≡ added q (added r s)
added_assoc q r s = simp add_assoc

-- ---- deliveries one after another

pub later_events : (ds es : List Delivery) (events : List Event) → events_after_all (ds ++ es) events ≡ events_after_all es (events_after_all ds events)
later_events [] es events = refl
later_events (d ∷ ds) es events = later_events ds es (events_after d events)

module _ (w : DeviceSizes) (tree : List Object) where
  later_sent : (ds es : List Delivery) (events : List Event) →
      sent_in_all w tree events (ds ++ es) ≡ sent_in_all w tree events ds ++ sent_in_all w tree (events_after_all ds events) es
  later_sent [] es events = refl
  later_sent (d ∷ ds) es events =
      ap (λ xs. sent_for w tree events d ++ xs) (later_sent ds es (events_after d events))
      ∙ sym (append_assoc (sent_for w tree events d) (sent_in_all w tree (events_after d events) ds) (sent_in_all w tree (events_after_all ds (events_after d events)) es))

  later_reports : (ds es : List Delivery) (events : List Event) →
      report_of w tree events (ds ++ es) ≡ added (report_of w tree events ds) (report_of w tree (events_after_all ds events) es)
  later_reports [] es events = sym (none_added (report_of w tree events es))
  later_reports (d ∷ ds) es events =
      ap (added (turn_report w tree events d)) (later_reports ds es (events_after d events))
      ∙ sym (added_assoc (turn_report w tree events d) (report_of w tree (events_after d events) ds) (report_of w tree (events_after_all ds (events_after d events)) es))

-- ---- what a device serves

pub nothing_served : (d : DeviceState) → Serves [] d d no_turns
nothing_served d = record { turns = refl; represents = λ w tree events h. h; reported = λ w tree events h. refl }

pub one_served : (x : Delivery) (old new : DeviceState) (r : Report) → r.turns ≡ 1 →
    ((w : DeviceSizes) (tree : List Object) (events : List Event) → Represents w old tree events → Represents w new tree (events_after x events)) →
    ((w : DeviceSizes) (tree : List Object) (events : List Event) → Represents w old tree events → r ≡ record (turn_report w tree events x) { failed_sends = r.failed_sends }) →
    Serves (x ∷ []) old new r
one_served x old new r turns represents reported =
    record {
      turns = turns;
      represents = represents;
      reported = λ w tree events h.
          reported w tree events h
          ∙ ap (λ (q : Report). let z : Report = record q { failed_sends = r.failed_sends } in z) (sym (added_none (turn_report w tree events x)));
    }

pub serves_more : (a b c : DeviceState) (ds es : List Delivery) (r s : Report) → Serves ds a b r → Serves es b c s → Serves (ds ++ es) a c (added r s)
serves_more a b c ds es r s f g =
    record {
      turns = omega (arith, f.turns, g.turns, length-append ds es);
      represents = λ w tree events h.
          subst (λ (xs : List Event). Represents w c tree xs) (sym (later_events ds es events))
          (g.represents w tree (events_after_all ds events) (f.represents w tree events h));
      reported = λ w tree events h.
          let x = f.reported w tree events h in
          let y = g.reported w tree (events_after_all ds events) (f.represents w tree events h) in
          let k = r.failed_sends + s.failed_sends in
          ap (λ q. added q s) x ∙ ap (added (record (report_of w tree events ds) { failed_sends = r.failed_sends })) y
          ∙ ap (λ (q : Report). let z : Report = record q { failed_sends = k } in z) (sym (later_reports w tree ds es events));
    }

pub later_handed : (w : DeviceSizes) (tree : List Object) (ds es : List Delivery) (events : List Event) →
    handed w tree events (ds ++ es) ≡ handed w tree events ds ++ handed w tree (events_after_all ds events) es
later_handed w tree [] es events = refl
later_handed w tree (d ∷ ds) es events =
    ap (λ (xs : List Followed). handed_of w tree events d ++ xs) (later_handed w tree ds es (events_after d events))
    ∙ sym (append_assoc (handed_of w tree events d) (handed w tree (events_after d events) ds) (handed w tree (events_after_all ds (events_after d events)) es))

-- what was delivered, and what failed
delivered_of : {a b : DeviceState} {e f : EndState} {r : Report} → (x : ServesEnd a b e f r) → Delivered x.deliveries r.failed_receives r.failed_sends e f
delivered_of x = record { telling = x.telling; grew = x.delivered; failures = x.failures }

-- no turns
turns_none : (d : DeviceState) (e : EndState) → ServesEnd d d e e no_turns
turns_none d e =
    let ends = delivered_none e in
    record {
      deliveries = [];
      serves = nothing_served d;
      telling = ends.telling;
      delivered = ends.grew;
      sent = λ _ w tree events h. takes_none e.taken e.taken refl;
      failures = ends.failures;
      sends = λ _ w tree events h. omega arith;
    }

-- one turn more
turns_more : {a b c : DeviceState} {e f g : EndState} {r s : Report} → ServesEnd a b e f r → ServesEnd b c f g s → ServesEnd a c e g (added r s)
turns_more {a} {b} {c} {e} {f} {g} {r} {s} x y =
    let ends = delivered_more (delivered_of x) (delivered_of y) in
    record {
      deliveries = x.deliveries ++ y.deliveries;
      serves = serves_more a b c x.deliveries y.deliveries r s x.serves y.serves;
      telling = ends.telling;
      delivered = ends.grew;
      sent = λ told w tree events h.
          subst (λ (xs : List Sent). TakesAllBut (r.failed_sends + s.failed_sends) e.taken g.taken xs) (sym (later_sent w tree x.deliveries y.deliveries events))
          (takes_more (x.sent told w tree events h) (y.sent (x.telling ∙ told) w tree (events_after_all x.deliveries events) (x.serves.represents w tree events h)));
      failures = ends.failures;
      sends = λ few w tree events h.
          let behind = y.sends few w tree (events_after_all x.deliveries events) (x.serves.represents w tree events h) in
          let before = x.sends (omega (arith, few, behind)) w tree events h in
          let all = ap length (later_sent w tree x.deliveries y.deliveries events)
          ∙ length-append (sent_in_all w tree events x.deliveries) (sent_in_all w tree (events_after_all x.deliveries events) y.deliveries) in
          omega (arith, behind, before, all);
    }

-- and then Closed
turns_closed : {a b c : DeviceState} {e f g : EndState} {k l : ElectronicsState} {r : Report} → ServesEnd a b e f r → IsClosed b c f g k l → ServesEnd a c e g r
turns_closed {a} {b} {c} {e} {f} {g} {r = r} x y =
    let ends = delivered_closed (delivered_of x) y.received in
    record {
      deliveries = x.deliveries;
      serves = subst (λ (d : DeviceState). Serves x.deliveries a d r) (sym y.device) x.serves;
      telling = ends.telling;
      delivered = ends.grew;
      sent = λ told w tree events h.
          subst (λ (t : List Sent). TakesAllBut r.failed_sends e.taken t (sent_in_all w tree events x.deliveries)) (sym (y.received.taken (x.telling ∙ told))) (x.sent told w tree events h);
      failures = ends.failures;
      sends = λ few w tree events h. y.received.sends ∙ x.sends (omega (arith, few, y.received.sends)) w tree events h;
    }

-- the same with electronics
pub with_none : (d : DeviceState) (e : EndState) (x : ElectronicsState) → ServesEndWith d d e e x x no_turns
unfolding turns_none
with_none d e x = record { serves = turns_none d e; telling = refl; followed = λ told w tree events h. sym (append-nil x.followed) }

pub with_more : {a b c : DeviceState} {e f g : EndState} {x y z : ElectronicsState} {r s : Report} → ServesEndWith a b e f x y r → ServesEndWith b c f g y z s →
    ServesEndWith a c e g x z (added r s)
unfolding turns_more
with_more {x = x} h k = record {
  serves = turns_more h.serves k.serves;
  telling = k.telling ∙ h.telling;
  followed = λ told w tree events rep.
      let ds = h.serves.deliveries in
      let later = events_after_all ds events in
      k.followed (h.telling ∙ told) w tree later (h.serves.serves.represents w tree events rep)
      ∙ ap (λ (xs : List Followed). xs ++ handed w tree later k.serves.deliveries) (h.followed told w tree events rep)
      ∙ append_assoc x.followed (handed w tree events ds) (handed w tree later k.serves.deliveries)
      ∙ ap (λ (xs : List Followed). x.followed ++ xs) (sym (later_handed w tree ds k.serves.deliveries events));
}

pub with_closed : {a b c : DeviceState} {e f g : EndState} {x y z : ElectronicsState} {r : Report} → ServesEndWith a b e f x y r → IsClosed b c f g y z → ServesEndWith a c e g x z r
unfolding turns_closed
with_closed {x = x} h k = record {
  serves = turns_closed h.serves k;
  telling = ap (λ (q : ElectronicsState). q.tells) k.electronics ∙ h.telling;
  followed = λ told w tree events rep. ap (λ (q : ElectronicsState). q.followed) k.electronics ∙ h.followed told w tree events rep;
}

-- ---- the packets of one datagram are sent

-- the first packets, as they are sent to a peer
abbrev pub first_sent : Peer → ℕ → List (List ℕ) → List Sent
first_sent p i packets = sent_to p (take i packets)

pub further : (p : Peer) (i : ℕ) (packets : List (List ℕ)) → i < length packets →
    first_sent p (i + 1) packets ≡ first_sent p i packets ++ (record { to = p; bytes = slice_index_or packets i [] }) ∷ []
further p i packets h =
    ap (sent_to p) (take_more packets i [] h)
    ∙ map-append (λ (bytes : List ℕ). let x : Sent = record { to = p; bytes = bytes } in x) (take i packets) (slice_index_or packets i [] ∷ [])

pub sent_further : (p : Peer) (i k k' : ℕ) (packets : List (List ℕ)) {a b c : EndState} {was_taken : Bool} → i < length packets →
    SendsAllBut k a b (first_sent p i packets) → Sends was_taken p (slice_index_or packets i []) b c → k' ≡ k + cond was_taken 0 1 →
    SendsAllBut k' a c (first_sent p (i + 1) packets)
sent_further p i k k' packets {a} {b} {c} {was_taken} h f s e =
    subst (λ (n : ℕ). SendsAllBut n a c (first_sent p (i + 1) packets)) (sym e)
    (subst (λ (xs : List Sent). SendsAllBut (k + cond was_taken 0 1) a c xs) (sym (further p i packets h)) (sends_more f (sends_one s)))

-- the packet at this index was sent
pub packet_sent : (p : Peer) (i k k' : ℕ) (xs : List (ArrayVec ℕ)) (d : ArrayVec ℕ) (bytes : List ℕ) {a b c : EndState} {was_taken : Bool} → i < length xs →
    bytes ≡ (slice_index_or xs i d).items → SendsAllBut k a b (first_sent p i (bytes_of_packets xs)) → Sends was_taken p bytes b c → k' ≡ k + cond was_taken 0 1 →
    SendsAllBut k' a c (first_sent p (i + 1) (bytes_of_packets xs))
packet_sent p i k k' xs d bytes {a} {b} {c} {was_taken} h is f s e =
    let inside : i < length (bytes_of_packets xs) = omega (arith, length-map xs (λ (x : ArrayVec ℕ). x.items)) in
    sent_further p i k k' (bytes_of_packets xs) inside f
    (subst (λ (y : List ℕ). Sends was_taken p y b c) (is ∙ sym (get_or-map (λ (x : ArrayVec ℕ). x.items) xs i d [] h)) s) e

-- all packets were sent
pub all_sent : (p : Peer) (k i : ℕ) (xs : List (ArrayVec ℕ)) (packets : List (List ℕ)) {a b : EndState} → length xs ≤ i → bytes_of_packets xs ≡ packets →
    SendsAllBut k a b (first_sent p i (bytes_of_packets xs)) → SendsAllBut k a b (sent_to p packets)
all_sent p k i xs packets {a} {b} h e f =
    subst (λ (y : List (List ℕ)). SendsAllBut k a b (sent_to p y))
    (take_all i (bytes_of_packets xs) (omega (arith, h, length-map xs (λ (x : ArrayVec ℕ). x.items))) ∙ e) f

-- ---- one turn

-- a verdict is that of one turn, in which no receive failed
pub verdict_one : (v : Verdict) → ((verdict_turn v).turns ≡ 1) × ((verdict_turn v).failed_receives ≡ 0)
verdict_one (verdicts.Served n k o r) = (refl, refl)
verdict_one _ = (refl, refl)

-- a turn: one delivery was heard, and what it asks for was sent
heard_one : (x : Delivery) {h : Heard} {bytes : List ℕ} {all : List Sent} {old new : DeviceState} {before mid after : EndState} {idle moved : ElectronicsState} {r : Report} →
    Receives h bytes before mid → SendsAllBut r.failed_sends mid after all →
    (IsTrue before.tells → mid.delivered ≡ before.delivered ++ x ∷ []) → r.failed_receives ≡ cond (is_failed h) 1 0 → r.turns ≡ 1 →
    ((w : DeviceSizes) (tree : List Object) (events : List Event) → Represents w old tree events → Represents w new tree (events_after x events)) →
    ((w : DeviceSizes) (tree : List Object) (events : List Event) → Represents w old tree events → r ≡ record (turn_report w tree events x) { failed_sends = r.failed_sends }) →
    ((w : DeviceSizes) (tree : List Object) (events : List Event) → Represents w old tree events → all ≡ sent_for w tree events x) →
    moved.tells ≡ idle.tells →
    (IsTrue idle.tells → (w : DeviceSizes) (tree : List Object) (events : List Event) → Represents w old tree events → moved.followed ≡ idle.followed ++ handed_of w tree events x) →
    ServesTurn old new before after idle moved r
heard_one x {h} {bytes} {all} {old} {new} {before} {mid} {after} {idle} {moved} {r} heard sent grew failed one represents reported replies_are telling followed =
    let ends = delivered_one x heard sent grew failed in
    let served : ServesEnd old new before after r = record {
      deliveries = x ∷ [];
      serves = one_served x old new r one represents reported;
      telling = ends.telling;
      delivered = ends.grew;
      sent = λ told w tree events rep.
          subst (λ (xs : List Sent). TakesAllBut r.failed_sends before.taken after.taken xs) (replies_are w tree events rep ∙ sym (append-nil (sent_for w tree events x)))
          (subst (λ (t : List Sent). TakesAllBut r.failed_sends t after.taken all) (heard.taken told) (sent.taken (heard.telling ∙ told)));
      failures = ends.failures;
      sends = λ few w tree events rep.
          let as_many = ap length (replies_are w tree events rep ∙ sym (append-nil (sent_for w tree events x))) in
          omega (arith, sent.sends few, heard.sends, as_many);
    } in
    record {
      serves = record {
        serves = served;
        telling = telling;
        followed = λ told w tree events rep.
            followed told w tree events rep ∙ ap (λ (xs : List Followed). idle.followed ++ xs) (sym (append-nil (handed_of w tree events x)));
      };
      one = one;
      receives = sent.receives ∙ heard.receives;
    }

-- electronics that were handed nothing
nothing_handed : {idle : ElectronicsState} → IsTrue idle.tells → (w : DeviceSizes) (tree : List Object) (events : List Event) → idle.followed ≡ idle.followed ++ []
nothing_handed {idle} told w tree events = sym (append-nil idle.followed)

module _ {old new : DeviceState} {before mid : EndState} {idle : ElectronicsState} {held : List ℕ} (r : Report) where
  pub quiet_turn : {now : ℕ} → r ≡ record one_turn { quiet = 1 } → Receives (heard.Quiet now) held before mid →
      ((w : DeviceSizes) (tree : List Object) (events : List Event) → Represents w old tree events → Represents w new tree (event.Tick now ∷ events)) →
      ServesTurn old new before mid idle idle r
  quiet_turn {now} e h ticks =
      subst (ServesTurn old new before mid idle idle) (sym e)
      (heard_one (Quiet now) {r = record one_turn { quiet = 1 }} h (sends_none mid) h.delivered refl refl ticks (λ w tree events _. refl) (λ w tree events _. refl) refl (λ told w tree events _. nothing_handed told w tree events))

  pub oversize_turn : {now : ℕ} → r ≡ record one_turn { oversize = 1 } → Receives (heard.Oversize now) held before mid →
      ((w : DeviceSizes) (tree : List Object) (events : List Event) → Represents w old tree events → Represents w new tree (event.Tick now ∷ events)) →
      ServesTurn old new before mid idle idle r
  oversize_turn {now} e h ticks =
      let d = oversize_heard h in
      let no_datagram = lt-leb (length d.long) largest_datagram d.above in
      subst (ServesTurn old new before mid idle idle) (sym e)
      (heard_one (Datagram d.from d.long now) {r = record one_turn { oversize = 1 }} h (sends_none mid) d.grew refl refl
      (λ w tree events rep. subst (λ (b : Bool). Represents w new tree (cond b (event.Datagram d.from d.long now ∷ events) (event.Tick now ∷ events))) (sym no_datagram) (ticks w tree events rep))
      (λ w tree events _. ap (λ b. record (cond b (verdict_turn (verdict w tree events d.from d.long now)) (record one_turn { oversize = 1 })) { failed_sends = 0 }) (sym no_datagram))
      (λ w tree events _. ap (λ b. cond b (sent_to d.from (packets w tree events (event.Datagram d.from d.long now))) []) (sym no_datagram))
      refl
      (λ told w tree events _. sym (append-nil idle.followed) ∙ ap (λ b. idle.followed ++ cond b ((let x : Followed = record { tree = (state_after w tree (event.Datagram d.from d.long now ∷ events)).tree; written = effects.written w tree (event.Datagram d.from d.long now ∷ events) } in x) ∷ []) []) (sym no_datagram)))

  pub failed_turn : r ≡ record one_turn { failed_receives = 1 } → Receives heard.Failed held before mid → new ≡ old → ServesTurn old new before mid idle idle r
  failed_turn e h same =
      subst (ServesTurn old new before mid idle idle) (sym e)
      (heard_one Failed {r = record one_turn { failed_receives = 1 }} h (sends_none mid) h.delivered refl refl
      (λ w tree events rep. subst (λ (d : DeviceState). Represents w d tree events) (sym same) rep) (λ w tree events _. refl) (λ w tree events _. refl) refl (λ told w tree events _. nothing_handed told w tree events))

  pub datagram_turn : {after : EndState} {moved : ElectronicsState} {tree_now : List Object} {numbers : List ℕ} {from : Peer} {now : ℕ} {out : List (List ℕ)} (bytes : List ℕ) (v : Verdict) (q : Report) →
      r ≡ record q { failed_sends = r.failed_sends } → q ≡ verdict_turn v → length bytes ≤ 1472 → bytes ≡ held → Receives (heard.Datagram from now) held before mid →
      ((w : DeviceSizes) (tree : List Object) (events : List Event) → Represents w old tree events → Represents w new tree (event.Datagram from bytes now ∷ events)) →
      ((w : DeviceSizes) (tree : List Object) (events : List Event) → Represents w old tree events → out ≡ packets w tree events (event.Datagram from bytes now)) →
      ((w : DeviceSizes) (tree : List Object) (events : List Event) → Represents w old tree events → v ≡ verdict w tree events from bytes now) →
      SendsAllBut r.failed_sends mid after (sent_to from out) → tree_now ≡ new.tree → numbers ≡ new.written → Follows tree_now numbers idle moved →
      ServesTurn old new before after idle moved r
  datagram_turn {after} {moved} {tree_now} {numbers} {from} {now} {out} bytes v q e f short same h represents packets_are verdict_is sent tree_is written_is follows =
      let fits = le-leb (length bytes) largest_datagram short in
      let one = verdict_one v in
      heard_one (Datagram from bytes now) h sent
      (λ told. h.delivered told ∙ ap (λ (xs : List ℕ). before.delivered ++ Datagram from xs now ∷ []) (sym same))
      (ap (λ (x : Report). x.failed_receives) (e ∙ ap (λ (x : Report). let y : Report = record x { failed_sends = r.failed_sends } in y) f) ∙ one.1)
      (ap (λ (x : Report). x.turns) (e ∙ ap (λ (x : Report). let y : Report = record x { failed_sends = r.failed_sends } in y) f) ∙ one.0)
      (λ w tree events rep. subst (λ (b : Bool). Represents w new tree (cond b (event.Datagram from bytes now ∷ events) (event.Tick now ∷ events))) (sym fits) (represents w tree events rep))
      (λ w tree events rep. e ∙ ap (λ (x : Report). let y : Report = record x { failed_sends = r.failed_sends } in y)
      (f ∙ ap verdict_turn (verdict_is w tree events rep)
      ∙ sym (ap (λ b. cond b (verdict_turn (verdict w tree events from bytes now)) (record one_turn { oversize = 1 })) fits)))
      (λ w tree events rep. ap (sent_to from) (packets_are w tree events rep) ∙ sym (ap (λ b. cond b (sent_to from (packets w tree events (event.Datagram from bytes now))) []) fits))
      follows.telling
      (λ told w tree events rep.
      let there = represents w tree events rep in
      let after = event.Datagram from bytes now ∷ events in
      follows.followed told
      ∙ ap (λ (t : List Object). idle.followed ++ (let x : Followed = record { tree = t; written = numbers } in x) ∷ []) (tree_is ∙ there.state.tree)
      ∙ ap (λ (ns : List ℕ). idle.followed ++ (let x : Followed = record { tree = (state_after w tree after).tree; written = ns } in x) ∷ []) (written_is ∙ there.written)
      ∙ ap (λ b. idle.followed ++ cond b ((let x : Followed = record { tree = (state_after w tree after).tree; written = effects.written w tree after } in x) ∷ []) []) (sym fits))

-- what the electronics were told changes nothing
pub told_turn : {old new : DeviceState} {before after : EndState} {idle moved told : ElectronicsState} {r : Report} → told ≡ moved →
    ServesTurn old new before after idle moved r → ServesTurn old new before after idle told r
told_turn {old} {new} {before} {after} {idle} {r = r} is h = subst (λ (m : ElectronicsState). ServesTurn old new before after idle m r) (sym is) h

-- ---- numbers of reports

pub cap_more : (t b : ℕ) → min (min t last_u64 + b) last_u64 ≡ min (t + b) last_u64
cap_more t b = omega arith

pub capped_more : (t b : Report) → capped (added (capped t) b) ≡ capped (added t b)
capped_more t b = simp cap_more

-- no turn of a long run, and one more
pub long_none : (d : DeviceState) (e : EndState) (x : ElectronicsState) (r : Report) → r ≡ no_turns → ServesLongWith d d e e x x r
long_none d e x r is = record { report = no_turns; serves = with_none d e x; returns = is }

pub long_more : {a b c : DeviceState} {e f g : EndState} {x y z : ElectronicsState} {p n : Report} (s : Report) →
    ServesLongWith a b e f x y p → ServesEndWith b c f g y z n → s ≡ capped (added p n) → ServesLongWith a c e g x z s
long_more {n = n} s h k is = record {
  report = added h.report n;
  serves = with_more h.serves k;
  returns = is ∙ ap (λ (q : Report). capped (added q n)) h.returns ∙ capped_more h.report n;
}

pub long_closed : {a b c : DeviceState} {e f g : EndState} {x y z : ElectronicsState} {r : Report} → ServesLongWith a b e f x y r →
    IsClosed b c f g y z → ServesLongWith a c e g x z r
long_closed h k = record { report = h.report; serves = with_closed h.serves k; returns = h.returns }

pub none_within : (r : Report) (m : ℕ) → r ≡ no_turns → IsAtMostEach m r
none_within r m e =
    let here : IsAtMostEach m no_turns = record { turns = omega arith; executed = omega arith; kept = omega arith; old = omega arith; reused = omega arith; malformed = omega arith; no_room = omega arith; oversize = omega arith; quiet = omega arith; failed_receives = omega arith; failed_sends = omega arith } in
    subst (λ (x : Report). IsAtMostEach m x) (sym e) here

within_both : (m k n : ℕ) (a b : Report) → IsAtMostEach m a → IsAtMostEach k b → m + k ≤ n → IsAtMostEach n (added a b)
within_both m k n a b x y le = record { turns = omega (arith, x.turns, y.turns); executed = omega (arith, x.executed, y.executed); kept = omega (arith, x.kept, y.kept); old = omega (arith, x.old, y.old); reused = omega (arith, x.reused, y.reused); malformed = omega (arith, x.malformed, y.malformed); no_room = omega (arith, x.no_room, y.no_room); oversize = omega (arith, x.oversize, y.oversize); quiet = omega (arith, x.quiet, y.quiet); failed_receives = omega (arith, x.failed_receives, y.failed_receives); failed_sends = omega (arith, x.failed_sends, y.failed_sends) }

capped_within : (n : ℕ) (r : Report) → IsAtMostEach n r → IsAtMostEach n (capped r)
capped_within n r x = record { turns = omega (arith, x.turns); executed = omega (arith, x.executed); kept = omega (arith, x.kept); old = omega (arith, x.old); reused = omega (arith, x.reused); malformed = omega (arith, x.malformed); no_room = omega (arith, x.no_room); oversize = omega (arith, x.oversize); quiet = omega (arith, x.quiet); failed_receives = omega (arith, x.failed_receives); failed_sends = omega (arith, x.failed_sends) }

pub more_within : (m k n : ℕ) (a b r : Report) → r ≡ capped (added a b) → IsAtMostEach m a → IsAtMostEach k b → m + k ≤ n → IsAtMostEach n r
more_within m k n a b r e x y le = subst (λ (q : Report). IsAtMostEach n q) (sym e) (capped_within n _ (within_both m k n a b x y le))

below : (n : ℕ) → n ≤ last_u64 → min n last_u64 ≡ n
below n h = omega (arith, h)

-- short of the last value nothing is cut off
uncapped : (r : Report) → IsAtMostEach last_u64 r → capped r ≡ r
uncapped r x = rw (below r.turns x.turns) (rw (below r.executed x.executed) (rw (below r.kept x.kept) (rw (below r.old x.old) (rw (below r.reused x.reused) (rw (below r.malformed x.malformed) (rw (below r.no_room x.no_room) (rw (below r.oversize x.oversize) (rw (below r.quiet x.quiet) (rw (below r.failed_receives x.failed_receives) (rw (below r.failed_sends x.failed_sends) refl))))))))))

-- a turn more of a run that is not long
pub exact_more : {a b c : DeviceState} {e f g : EndState} {x y z : ElectronicsState} {p n : Report} (m : ℕ) (s : Report) →
    ServesEndWith a b e f x y p → ServesEndWith b c f g y z n → s ≡ capped (added p n) → IsAtMostEach m p → IsAtMostEach 4294967295 n →
    m + 4294967295 ≤ last_u64 → ServesEndWith a c e g x z s
exact_more {a} {b} {c} {e} {f} {g} {x} {y} {z} {p} {n} m s h k is few one le =
    subst (ServesEndWith a c e g x z) (sym (is ∙ uncapped (added p n) (within_both m 4294967295 last_u64 p n few one le))) (with_more h k)

-- ---- receives, short of their last value

pub fewer_turns : (n m : ℕ) → n < m → receives_of n m ≡ n + 1
fewer_turns n m h = ap (λ b. cond b (n + 1) n) (lt-ltb n m h)

-- Deliveries that are taken in, groups of them, and which answers wait.
use Rattle.oca_device.proofs.Words.{◌≡◌, ℕ, ◌+◌, ◌≤◌, ◌<◌, Bool, true, false, cond, List, [], ◌∷◌, ◌++◌, length, refl, sym, ap, ◌∙◌, subst, arith, take, slice_index_or, IsTrue, ◌||◌, ◌&&◌, ◌==◌, not}
use Rattle.oca_device.proofs.Words.{le-leb, lt-leb, ArrayVec, bytes_of_packets, append_assoc, append-nil, take_more, get_or-map, length-map, map-append, Peer, DeviceSizes, Heard, Delivery, Datagram}
use Rattle.oca_device.proofs.Words.{Quiet, Failed, Sent, is_failed, largest_datagram, last_u64, TakesAllBut, EndState, Receives, Sends, SendsAllBut, Object, Report, Verdict, HeldPacket, Event, packets}
use Rattle.oca_device.proofs.Words.{verdict, DeviceState, Represents, no_turns, one_turn, verdict_turn, added, capped, turn_report, events_after, events_after_all, Serves, sent_for, sent_to}
use Rattle.oca_device.proofs.Words.{state_after, Followed, ElectronicsState, Follows, handed, handed_of, KeepingState, Storing, StoreState, Group, is_writing, is_repeating, answers_wait, behind_after}
use Rattle.oca_device.proofs.Words.{behind_all, waiting, at_once, some_wait, behind_group, storings_of, sent_for_group, all_deliveries, behind_groups, storings_in_all, sent_of_all, ServesKeeping}
use Rattle.oca_device.proofs.Words.{packets_held, TakesExactly, TakesIn, SettlesGroup, StaysClosed}
use Rattle.std.proofs.Common.{min, length-append}
use Rattle.oca_net.specs.declared.end.Heard.TheVariants as heard
use Rattle.oca_net.proofs.Sending.{takes_none, takes_more, sends_none, sends_more, sends_one}
use Rattle.oca_net.proofs.Hearing.{oversize_heard}
use Rattle.oca_net.proofs.Running.{Delivered, delivered_none, delivered_more, delivered_one, delivered_closed}
use Rattle.oca_pdu.proofs.Decided.{each-append}
use Rattle.oca_device.specs.Events as event
use Rattle.oca_device.specs.Written as effects
use Rattle.oca_device.proofs.Turns.{cap_more, capped_more, later_events, later_handed, nothing_served, one_served, serves_more, verdict_one, first_sent, further}

-- ---- deliveries one after another

module _ (w : DeviceSizes) (tree : List Object) where
  later_behind : (b : Bool) (ds es : List Delivery) (events : List Event) →
      behind_all b w tree events (ds ++ es) ≡ behind_all (behind_all b w tree events ds) w tree (events_after_all ds events) es
  later_behind b [] es events = refl
  later_behind b (d ∷ ds) es events = later_behind (behind_after b w tree events d) ds es (events_after d events)

  later_waiting : (b : Bool) (ds es : List Delivery) (events : List Event) →
      waiting b w tree events (ds ++ es) ≡ waiting b w tree events ds ++ waiting (behind_all b w tree events ds) w tree (events_after_all ds events) es
  later_waiting b [] es events = refl
  later_waiting b (d ∷ ds) es events =
      let c = behind_after b w tree events d in
      let one : List Sent = cond (answers_wait b w tree events d) (sent_for w tree events d) [] in
      ap (λ (xs : List Sent). one ++ xs) (later_waiting c ds es (events_after d events))
      ∙ sym (append_assoc one (waiting c w tree (events_after d events) ds) (waiting (behind_all c w tree (events_after d events) ds) w tree (events_after_all ds (events_after d events)) es))

  later_at_once : (b : Bool) (ds es : List Delivery) (events : List Event) →
      at_once b w tree events (ds ++ es) ≡ at_once b w tree events ds ++ at_once (behind_all b w tree events ds) w tree (events_after_all ds events) es
  later_at_once b [] es events = refl
  later_at_once b (d ∷ ds) es events =
      let c = behind_after b w tree events d in
      let one : List Sent = cond (answers_wait b w tree events d) [] (sent_for w tree events d) in
      ap (λ (xs : List Sent). one ++ xs) (later_at_once c ds es (events_after d events))
      ∙ sym (append_assoc one (at_once c w tree (events_after d events) ds) (at_once (behind_all c w tree (events_after d events) ds) w tree (events_after_all ds (events_after d events)) es))

  or_assoc : (x y z : Bool) → (x || y) || z ≡ x || (y || z)
  or_assoc true y z = refl
  or_assoc false y z = refl

  later_due : (b : Bool) (ds es : List Delivery) (events : List Event) →
      some_wait b w tree events (ds ++ es) ≡ some_wait b w tree events ds || some_wait (behind_all b w tree events ds) w tree (events_after_all ds events) es
  later_due b [] es events = refl
  later_due b (d ∷ ds) es events =
      let c = behind_after b w tree events d in
      ap (λ (x : Bool). answers_wait b w tree events d || x) (later_due c ds es (events_after d events))
      ∙ sym (or_assoc (answers_wait b w tree events d) (some_wait c w tree (events_after d events) ds) (some_wait (behind_all c w tree (events_after d events) ds) w tree (events_after_all ds (events_after d events)) es))

-- ---- numbers that stay at their last value

cap-more : (t b : ℕ) → min (min t last_u64 + min b last_u64) last_u64 ≡ min (t + b) last_u64
cap-more t b = omega arith

pub capped-more : (t b : Report) → capped (added (capped t) (capped b)) ≡ capped (added t b)
capped-more t b = simp cap-more

-- ---- what is taken in

none_exactly : (d : DeviceState) (e : EndState) (x : ElectronicsState) (k : KeepingState) → TakesExactly false d d e e x x k k no_turns
none_exactly d e x k =
    let ends = delivered_none e in
    record {
      deliveries = [];
      serves = nothing_served d;
      telling = ends.telling;
      delivered = ends.grew;
      failures = ends.failures;
      sent = λ _ w tree events h. takes_none e.taken e.taken refl;
      sends = λ _ w tree events h. omega arith;
      following = refl;
      followed = λ _ w tree events h. sym (append-nil x.followed);
      holding = λ w tree events h. sym (append-nil k.held);
      unstored = λ w tree events h. refl;
      waited = λ w tree events h. refl;
    }

pub in_none : (d : DeviceState) (e : EndState) (x : ElectronicsState) (k : KeepingState) (r : Report) → r ≡ no_turns → TakesIn false d d e e x x k k r
in_none d e x k r is = record { report = no_turns; returns = is; takes = none_exactly d e x k }

delivered_in : {q : Bool} {a b : DeviceState} {e f : EndState} {x y : ElectronicsState} {k l : KeepingState} {r : Report} → (t : TakesExactly q a b e f x y k l r) →
    Delivered t.deliveries r.failed_receives r.failed_sends e f
delivered_in t = record { telling = t.telling; grew = t.delivered; failures = t.failures }

more_exactly : {p q : Bool} {a b c : DeviceState} {e f g : EndState} {x y z : ElectronicsState} {k l m : KeepingState} {r s : Report} →
    TakesExactly p a b e f x y k l r → TakesExactly q b c f g y z l m s → TakesExactly (p || q) a c e g x z k m (added r s)
more_exactly {p} {q} {a} {b} {c} {e} {f} {g} {x} {y} {z} {k} {l} {m} {r} {s} h i =
    let ends = delivered_more (delivered_in h) (delivered_in i) in
    let ds = h.deliveries in
    let es = i.deliveries in
    record {
      deliveries = ds ++ es;
      serves = serves_more a b c ds es r s h.serves i.serves;
      telling = ends.telling;
      delivered = ends.grew;
      failures = ends.failures;
      sent = λ told w tree events rep.
          let later = events_after_all ds events in
          let there = h.serves.represents w tree events rep in
          subst (λ (xs : List Sent). TakesAllBut (r.failed_sends + s.failed_sends) e.taken g.taken xs) (sym (later_at_once w tree k.is_behind ds es events))
          (takes_more (h.sent told w tree events rep)
          (subst (λ (n : Bool). TakesAllBut s.failed_sends f.taken g.taken (at_once n w tree later es)) (h.unstored w tree events rep) (i.sent (h.telling ∙ told) w tree later there)));
      sends = λ few w tree events rep.
          let later = events_after_all ds events in
          let behind = i.sends few w tree later (h.serves.represents w tree events rep) in
          let before = h.sends (omega (arith, few, behind)) w tree events rep in
          let same = ap (λ (n : Bool). length (at_once n w tree later es)) (h.unstored w tree events rep) in
          let all = ap length (later_at_once w tree k.is_behind ds es events)
          ∙ length-append (at_once k.is_behind w tree events ds) (at_once (behind_all k.is_behind w tree events ds) w tree later es) in
          omega (arith, behind, before, same, all);
      following = i.following ∙ h.following;
      followed = λ told w tree events rep.
          let later = events_after_all ds events in
          i.followed (h.following ∙ told) w tree later (h.serves.represents w tree events rep)
          ∙ ap (λ (xs : List Followed). xs ++ handed w tree later es) (h.followed told w tree events rep)
          ∙ append_assoc x.followed (handed w tree events ds) (handed w tree later es)
          ∙ ap (λ (xs : List Followed). x.followed ++ xs) (sym (later_handed w tree ds es events));
      holding = λ w tree events rep.
          let later = events_after_all ds events in
          i.holding w tree later (h.serves.represents w tree events rep)
          ∙ ap (λ (xs : List Sent). xs ++ waiting l.is_behind w tree later es) (h.holding w tree events rep)
          ∙ ap (λ (n : Bool). (k.held ++ waiting k.is_behind w tree events ds) ++ waiting n w tree later es) (h.unstored w tree events rep)
          ∙ append_assoc k.held (waiting k.is_behind w tree events ds) (waiting (behind_all k.is_behind w tree events ds) w tree later es)
          ∙ ap (λ (xs : List Sent). k.held ++ xs) (sym (later_waiting w tree k.is_behind ds es events));
      unstored = λ w tree events rep.
          let later = events_after_all ds events in
          i.unstored w tree later (h.serves.represents w tree events rep)
          ∙ ap (λ (n : Bool). behind_all n w tree later es) (h.unstored w tree events rep)
          ∙ sym (later_behind w tree k.is_behind ds es events);
      waited = λ w tree events rep.
          let later = events_after_all ds events in
          ap (λ (n : Bool). n || q) (h.waited w tree events rep)
          ∙ ap (λ (n : Bool). some_wait k.is_behind w tree events ds || n) (i.waited w tree later (h.serves.represents w tree events rep) ∙ ap (λ (n : Bool). some_wait n w tree later es) (h.unstored w tree events rep))
          ∙ sym (later_due w tree k.is_behind ds es events);
    }

pub in_more : {p q o : Bool} {a b c : DeviceState} {e f g : EndState} {x y z : ElectronicsState} {k l m : KeepingState} {r s t : Report} →
    TakesIn p a b e f x y k l r → TakesExactly q b c f g y z l m s → o ≡ (p || q) → t ≡ capped (added r s) → TakesIn o a c e g x z k m t
in_more {a = a} {c = c} {e = e} {g = g} {x = x} {z = z} {k = k} {m = m} {r = r} {s = s} h i due is = record {
  report = added h.report s;
  returns = is ∙ ap (λ (n : Report). capped (added n s)) h.returns ∙ capped_more h.report s;
  takes = subst (λ (v : Bool). TakesExactly v a c e g x z k m (added h.report s)) (sym due) (more_exactly h.takes i);
}

-- and then Closed
closed_exactly : {q : Bool} {a b c : DeviceState} {e f g : EndState} {x y z : ElectronicsState} {k l m : KeepingState} {r : Report} →
    TakesExactly q a b e f x y k l r → StaysClosed b c f g y z l m → TakesExactly q a c e g x z k m r
closed_exactly {q} {a} {b} {c} {e} {f} {g} {x} {y} {z} {k} {l} {m} {r} h i =
    let ends = delivered_closed (delivered_in h) i.received in
    record {
      deliveries = h.deliveries;
      serves = subst (λ (d : DeviceState). Serves h.deliveries a d r) (sym i.device) h.serves;
      telling = ends.telling;
      delivered = ends.grew;
      failures = ends.failures;
      sent = λ told w tree events rep.
          subst (λ (t : List Sent). TakesAllBut r.failed_sends e.taken t (at_once k.is_behind w tree events h.deliveries)) (sym (i.received.taken (h.telling ∙ told))) (h.sent told w tree events rep);
      sends = λ few w tree events rep. i.received.sends ∙ h.sends (omega (arith, few, i.received.sends)) w tree events rep;
      following = ap (λ (n : ElectronicsState). n.tells) i.electronics ∙ h.following;
      followed = λ told w tree events rep. ap (λ (n : ElectronicsState). n.followed) i.electronics ∙ h.followed told w tree events rep;
      holding = λ w tree events rep. ap (λ (n : KeepingState). n.held) i.keeping ∙ h.holding w tree events rep;
      unstored = λ w tree events rep. ap (λ (n : KeepingState). n.is_behind) i.keeping ∙ h.unstored w tree events rep;
      waited = h.waited;
    }

pub in_closed : {q o : Bool} {a b c : DeviceState} {e f g : EndState} {x y z : ElectronicsState} {k l m : KeepingState} {r t : Report} →
    TakesIn q a b e f x y k l r → StaysClosed b c f g y z l m → o ≡ q → t ≡ r → TakesIn o a c e g x z k m t
in_closed {a = a} {c = c} {e = e} {g = g} {x = x} {z = z} {k = k} {m = m} h i due is = record {
  report = h.report;
  returns = is ∙ h.returns;
  takes = subst (λ (v : Bool). TakesExactly v a c e g x z k m h.report) (sym due) (closed_exactly h.takes i);
}

-- ---- one delivery

or_false : (x : Bool) → x || false ≡ x
or_false true = refl
or_false false = refl

pub in_one : (x : Delivery) {h : Heard} {bytes : List ℕ} {all : List Sent} {old new : DeviceState} {before mid after : EndState} {idle moved : ElectronicsState} {k l : KeepingState} {q : Bool} {r : Report} →
    Receives h bytes before mid → SendsAllBut r.failed_sends mid after all →
    (IsTrue before.tells → mid.delivered ≡ before.delivered ++ x ∷ []) → r.failed_receives ≡ cond (is_failed h) 1 0 → r.turns ≡ 1 →
    ((w : DeviceSizes) (tree : List Object) (events : List Event) → Represents w old tree events → Represents w new tree (events_after x events)) →
    ((w : DeviceSizes) (tree : List Object) (events : List Event) → Represents w old tree events → r ≡ record (turn_report w tree events x) { failed_sends = r.failed_sends }) →
    ((w : DeviceSizes) (tree : List Object) (events : List Event) → Represents w old tree events → all ≡ cond (answers_wait k.is_behind w tree events x) [] (sent_for w tree events x)) →
    moved.tells ≡ idle.tells →
    (IsTrue idle.tells → (w : DeviceSizes) (tree : List Object) (events : List Event) → Represents w old tree events → moved.followed ≡ idle.followed ++ handed_of w tree events x) →
    ((w : DeviceSizes) (tree : List Object) (events : List Event) → Represents w old tree events → l.held ≡ k.held ++ cond (answers_wait k.is_behind w tree events x) (sent_for w tree events x) []) →
    ((w : DeviceSizes) (tree : List Object) (events : List Event) → Represents w old tree events → l.is_behind ≡ behind_after k.is_behind w tree events x) →
    ((w : DeviceSizes) (tree : List Object) (events : List Event) → Represents w old tree events → q ≡ answers_wait k.is_behind w tree events x) →
    TakesExactly q old new before after idle moved k l r
in_one x {all = all} {old = old} {new = new} {before = before} {after = after} {idle = idle} {k = k} {r = r} heard sent grew failed one represents reported at_once_are telling followed held behind due =
    let ends = delivered_one x heard sent grew failed in
    record {
      deliveries = x ∷ [];
      serves = one_served x old new r one represents reported;
      telling = ends.telling;
      delivered = ends.grew;
      failures = ends.failures;
      sent = λ told w tree events rep.
          let now : List Sent = cond (answers_wait k.is_behind w tree events x) [] (sent_for w tree events x) in
          subst (λ (xs : List Sent). TakesAllBut r.failed_sends before.taken after.taken xs) (at_once_are w tree events rep ∙ sym (append-nil now))
          (subst (λ (t : List Sent). TakesAllBut r.failed_sends t after.taken all) (heard.taken told) (sent.taken (heard.telling ∙ told)));
      sends = λ few w tree events rep.
          let now : List Sent = cond (answers_wait k.is_behind w tree events x) [] (sent_for w tree events x) in
          let as_many = ap length (at_once_are w tree events rep ∙ sym (append-nil now)) in
          omega (arith, sent.sends few, heard.sends, as_many);
      following = telling;
      followed = λ told w tree events rep.
          followed told w tree events rep ∙ ap (λ (xs : List Followed). idle.followed ++ xs) (sym (append-nil (handed_of w tree events x)));
      holding = λ w tree events rep.
          let later : List Sent = cond (answers_wait k.is_behind w tree events x) (sent_for w tree events x) [] in
          held w tree events rep ∙ ap (λ (xs : List Sent). k.held ++ xs) (sym (append-nil later));
      unstored = behind;
      waited = λ w tree events rep. due w tree events rep ∙ sym (or_false (answers_wait k.is_behind w tree events x));
    }

module _ {old new : DeviceState} {before mid : EndState} {idle : ElectronicsState} {k : KeepingState} {held : List ℕ} (r : Report) where
  pub quiet_in : {now : ℕ} → r ≡ record one_turn { quiet = 1 } → Receives (heard.Quiet now) held before mid →
      ((w : DeviceSizes) (tree : List Object) (events : List Event) → Represents w old tree events → Represents w new tree (event.Tick now ∷ events)) →
      TakesExactly false old new before mid idle idle k k r
  quiet_in {now} e h ticks =
      subst (TakesExactly false old new before mid idle idle k k) (sym e)
      (in_one (Quiet now) {r = record one_turn { quiet = 1 }} h (sends_none mid) h.delivered refl refl ticks (λ w tree events _. refl) (λ w tree events _. refl) refl
      (λ told w tree events _. sym (append-nil idle.followed)) (λ w tree events _. sym (append-nil k.held)) (λ w tree events _. refl) (λ w tree events _. refl))

  pub failed_in : r ≡ record one_turn { failed_receives = 1 } → Receives heard.Failed held before mid → new ≡ old → TakesExactly false old new before mid idle idle k k r
  failed_in e h same =
      subst (TakesExactly false old new before mid idle idle k k) (sym e)
      (in_one Failed {r = record one_turn { failed_receives = 1 }} h (sends_none mid) h.delivered refl refl
      (λ w tree events rep. subst (λ (d : DeviceState). Represents w d tree events) (sym same) rep) (λ w tree events _. refl) (λ w tree events _. refl) refl
      (λ told w tree events _. sym (append-nil idle.followed)) (λ w tree events _. sym (append-nil k.held)) (λ w tree events _. refl) (λ w tree events _. refl))

  pub oversize_in : {now : ℕ} → r ≡ record one_turn { oversize = 1 } → Receives (heard.Oversize now) held before mid →
      ((w : DeviceSizes) (tree : List Object) (events : List Event) → Represents w old tree events → Represents w new tree (event.Tick now ∷ events)) →
      TakesExactly false old new before mid idle idle k k r
  oversize_in {now} e h ticks =
      let d = oversize_heard h in
      let no_datagram = lt-leb (length d.long) largest_datagram d.above in
      let x = Datagram d.from d.long now in
      let report : Report = record one_turn { oversize = 1 } in
      let turned : (w : DeviceSizes) (tree : List Object) (events : List Event) → turn_report w tree events x ≡ report =
      λ w tree events. ap (λ b. cond b (verdict_turn (verdict w tree events d.from d.long now)) report) no_datagram in
      let unwritten : (w : DeviceSizes) (tree : List Object) (events : List Event) → is_writing w tree events x ≡ false =
      λ w tree events. ap (λ (b : Bool). b && not (length (effects.written w tree (event.Datagram d.from d.long now ∷ events)) == 0)) no_datagram in
      let no_wait : (w : DeviceSizes) (tree : List Object) (events : List Event) → answers_wait k.is_behind w tree events x ≡ false =
      λ w tree events. ap (λ (b : Bool). b || (is_repeating w tree events x && k.is_behind)) (unwritten w tree events) ∙ ap (λ (q : Report). not (q.kept == 0) && k.is_behind) (turned w tree events) in
      let none_sent : (w : DeviceSizes) (tree : List Object) (events : List Event) → sent_for w tree events x ≡ [] =
      λ w tree events. ap (λ b. cond b (sent_to d.from (packets w tree events (event.Datagram d.from d.long now))) []) no_datagram in
      subst (TakesExactly false old new before mid idle idle k k) (sym e)
      (in_one x {r = report} h (sends_none mid) d.grew refl refl
      (λ w tree events rep. subst (λ (b : Bool). Represents w new tree (cond b (event.Datagram d.from d.long now ∷ events) (event.Tick now ∷ events))) (sym no_datagram) (ticks w tree events rep))
      (λ w tree events _. ap (λ (q : Report). let z : Report = record q { failed_sends = 0 } in z) (sym (turned w tree events)))
      (λ w tree events _. sym (none_sent w tree events) ∙ ap (λ (b : Bool). cond b [] (sent_for w tree events x)) (sym (no_wait w tree events)))
      refl
      (λ told w tree events _. sym (append-nil idle.followed) ∙ ap (λ b. idle.followed ++ cond b ((let y : Followed = record { tree = (state_after w tree (event.Datagram d.from d.long now ∷ events)).tree; written = effects.written w tree (event.Datagram d.from d.long now ∷ events) } in y) ∷ []) []) (sym no_datagram))
      (λ w tree events _. sym (append-nil k.held) ∙ ap (λ (b : Bool). k.held ++ cond b (sent_for w tree events x) []) (sym (no_wait w tree events)))
      (λ w tree events _. ap (λ (b : Bool). b || k.is_behind) (sym (unwritten w tree events)))
      (λ w tree events _. sym (no_wait w tree events)))

pub datagram_in : {old new : DeviceState} {before mid after : EndState} {idle moved : ElectronicsState} {k l : KeepingState} {held : List ℕ} (r : Report) {q wrote : Bool} {tree_now : List Object} {numbers : List ℕ} {from : Peer} {now : ℕ} {out : List (List ℕ)} (bytes : List ℕ) (v : Verdict) (n : Report) →
    r ≡ record n { failed_sends = r.failed_sends } → n ≡ verdict_turn v → length bytes ≤ 1472 → bytes ≡ held → Receives (heard.Datagram from now) held before mid →
    ((w : DeviceSizes) (tree : List Object) (events : List Event) → Represents w old tree events → Represents w new tree (event.Datagram from bytes now ∷ events)) →
    ((w : DeviceSizes) (tree : List Object) (events : List Event) → Represents w old tree events → out ≡ packets w tree events (event.Datagram from bytes now)) →
    ((w : DeviceSizes) (tree : List Object) (events : List Event) → Represents w old tree events → v ≡ verdict w tree events from bytes now) →
    SendsAllBut r.failed_sends mid after (cond q [] (sent_to from out)) → tree_now ≡ new.tree → numbers ≡ new.written → Follows tree_now numbers idle moved →
    wrote ≡ not (length new.written == 0) → q ≡ (wrote || (not (n.kept == 0) && k.is_behind)) → l.is_behind ≡ (wrote || k.is_behind) →
    l.held ≡ k.held ++ cond q (sent_to from out) [] →
    TakesExactly q old new before after idle moved k l r
datagram_in {old} {new} {before} {mid} {after} {idle} {moved} {k} {l} r {q} {wrote} {tree_now} {numbers} {from} {now} {out} bytes v n e f short same h represents packets_are verdict_is sent tree_is written_is follows wrote_is q_is behind_is held_is =
    let fits = le-leb (length bytes) largest_datagram short in
    let one = verdict_one v in
    let x = Datagram from bytes now in
    let here : (w : DeviceSizes) (tree : List Object) (events : List Event) → Represents w old tree events → n ≡ turn_report w tree events x =
    λ w tree events rep. f ∙ ap verdict_turn (verdict_is w tree events rep)
    ∙ sym (ap (λ b. cond b (verdict_turn (verdict w tree events from bytes now)) (record one_turn { oversize = 1 })) fits) in
    let writes : (w : DeviceSizes) (tree : List Object) (events : List Event) → Represents w old tree events → wrote ≡ is_writing w tree events x =
    λ w tree events rep. wrote_is ∙ ap (λ (ns : List ℕ). not (length ns == 0)) (represents w tree events rep).written
    ∙ ap (λ (b : Bool). b && not (length (effects.written w tree (event.Datagram from bytes now ∷ events)) == 0)) (sym fits) in
    let waiting_is : (w : DeviceSizes) (tree : List Object) (events : List Event) → Represents w old tree events → q ≡ answers_wait k.is_behind w tree events x =
    λ w tree events rep. q_is ∙ ap (λ (b : Bool). b || (not (n.kept == 0) && k.is_behind)) (writes w tree events rep)
    ∙ ap (λ (m : Report). is_writing w tree events x || (not (m.kept == 0) && k.is_behind)) (here w tree events rep) in
    let sends_are : (w : DeviceSizes) (tree : List Object) (events : List Event) → Represents w old tree events → sent_to from out ≡ sent_for w tree events x =
    λ w tree events rep. ap (sent_to from) (packets_are w tree events rep) ∙ sym (ap (λ b. cond b (sent_to from (packets w tree events (event.Datagram from bytes now))) []) fits) in
    in_one x h sent
    (λ told. h.delivered told ∙ ap (λ (xs : List ℕ). before.delivered ++ Datagram from xs now ∷ []) (sym same))
    (ap (λ (m : Report). m.failed_receives) (e ∙ ap (λ (m : Report). let y : Report = record m { failed_sends = r.failed_sends } in y) f) ∙ one.1)
    (ap (λ (m : Report). m.turns) (e ∙ ap (λ (m : Report). let y : Report = record m { failed_sends = r.failed_sends } in y) f) ∙ one.0)
    (λ w tree events rep. subst (λ (b : Bool). Represents w new tree (cond b (event.Datagram from bytes now ∷ events) (event.Tick now ∷ events))) (sym fits) (represents w tree events rep))
    (λ w tree events rep. e ∙ ap (λ (m : Report). let y : Report = record m { failed_sends = r.failed_sends } in y) (here w tree events rep))
    (λ w tree events rep. ap (λ (b : Bool). cond b [] (sent_to from out)) (waiting_is w tree events rep) ∙ ap (λ (xs : List Sent). cond (answers_wait k.is_behind w tree events x) [] xs) (sends_are w tree events rep))
    follows.telling
    (λ told w tree events rep.
    let there = represents w tree events rep in
    let after = event.Datagram from bytes now ∷ events in
    follows.followed told
    ∙ ap (λ (t : List Object). idle.followed ++ (let y : Followed = record { tree = t; written = numbers } in y) ∷ []) (tree_is ∙ there.state.tree)
    ∙ ap (λ (ns : List ℕ). idle.followed ++ (let y : Followed = record { tree = (state_after w tree after).tree; written = ns } in y) ∷ []) (written_is ∙ there.written)
    ∙ ap (λ b. idle.followed ++ cond b ((let y : Followed = record { tree = (state_after w tree after).tree; written = effects.written w tree after } in y) ∷ []) []) (sym fits))
    (λ w tree events rep. held_is ∙ ap (λ (b : Bool). k.held ++ cond b (sent_to from out) []) (waiting_is w tree events rep) ∙ ap (λ (xs : List Sent). k.held ++ cond (answers_wait k.is_behind w tree events x) xs []) (sends_are w tree events rep))
    (λ w tree events rep. behind_is ∙ ap (λ (b : Bool). b || k.is_behind) (writes w tree events rep))
    waiting_is

-- ---- groups one after another

later_deliveries : (gs hs : List Group) → all_deliveries (gs ++ hs) ≡ all_deliveries gs ++ all_deliveries hs
later_deliveries [] hs = refl
later_deliveries (g ∷ gs) hs = ap (λ (xs : List Delivery). g.deliveries ++ xs) (later_deliveries gs hs) ∙ sym (append_assoc g.deliveries (all_deliveries gs) (all_deliveries hs))

module _ (w : DeviceSizes) (tree : List Object) where
  -- the events behind a group and those behind it
  events_behind : (g : Group) (gs : List Group) (events : List Event) →
      events_after_all (all_deliveries gs) (events_after_all g.deliveries events) ≡ events_after_all (g.deliveries ++ all_deliveries gs) events
  events_behind g gs events = sym (later_events g.deliveries (all_deliveries gs) events)

  later_groups : (b : Bool) (gs hs : List Group) (events : List Event) →
      behind_groups b w tree events (gs ++ hs) ≡ behind_groups (behind_groups b w tree events gs) w tree (events_after_all (all_deliveries gs) events) hs
  later_groups b [] hs events = refl
  later_groups b (g ∷ gs) hs events =
      let c = behind_group b w tree events g in
      let next = events_after_all g.deliveries events in
      later_groups c gs hs next
      ∙ ap (λ (xs : List Event). behind_groups (behind_groups c w tree next gs) w tree xs hs) (events_behind g gs events)

  later_storings : (b : Bool) (gs hs : List Group) (events : List Event) →
      storings_in_all b w tree events (gs ++ hs) ≡ storings_in_all b w tree events gs ++ storings_in_all (behind_groups b w tree events gs) w tree (events_after_all (all_deliveries gs) events) hs
  later_storings b [] hs events = refl
  later_storings b (g ∷ gs) hs events =
      let c = behind_group b w tree events g in
      let next = events_after_all g.deliveries events in
      ap (λ (xs : List Storing). storings_of b w tree events g ++ xs)
      (later_storings c gs hs next
      ∙ ap (λ (ys : List Event). storings_in_all c w tree next gs ++ storings_in_all (behind_groups c w tree next gs) w tree ys hs) (events_behind g gs events))
      ∙ sym (append_assoc (storings_of b w tree events g) (storings_in_all c w tree next gs)
      (storings_in_all (behind_groups c w tree next gs) w tree (events_after_all (all_deliveries (g ∷ gs)) events) hs))

  later_sends : (b : Bool) (gs hs : List Group) (events : List Event) →
      sent_of_all b w tree events (gs ++ hs) ≡ sent_of_all b w tree events gs ++ sent_of_all (behind_groups b w tree events gs) w tree (events_after_all (all_deliveries gs) events) hs
  later_sends b [] hs events = refl
  later_sends b (g ∷ gs) hs events =
      let c = behind_group b w tree events g in
      let next = events_after_all g.deliveries events in
      ap (λ (xs : List Sent). sent_for_group b w tree events g ++ xs)
      (later_sends c gs hs next
      ∙ ap (λ (ys : List Event). sent_of_all c w tree next gs ++ sent_of_all (behind_groups c w tree next gs) w tree ys hs) (events_behind g gs events))
      ∙ sym (append_assoc (sent_for_group b w tree events g) (sent_of_all c w tree next gs)
      (sent_of_all (behind_groups c w tree next gs) w tree (events_after_all (all_deliveries (g ∷ gs)) events) hs))

-- no groups
pub keeps_none : (b : Bool) (d : DeviceState) (e : EndState) (x : ElectronicsState) (s : StoreState) (r : Report) → r ≡ no_turns → ServesKeeping b b d d e e x x s s r
keeps_none b d e x s r is =
    let ends = delivered_none e in
    record {
      groups = [];
      few = tt;
      report = no_turns;
      returns = is;
      serves = nothing_served d;
      telling = ends.telling;
      delivered = ends.grew;
      failures = ends.failures;
      sent = λ _ w tree events h. takes_none e.taken e.taken refl;
      sends = λ _ w tree events h. omega arith;
      following = refl;
      followed = λ _ w tree events h. sym (append-nil x.followed);
      storing = refl;
      stored = λ _ w tree events h. sym (append-nil s.storings);
      unstored = λ w tree events h. refl;
    }

delivered_by : {p q : Bool} {a b : DeviceState} {e f : EndState} {x y : ElectronicsState} {s t : StoreState} {r : Report} → (k : ServesKeeping p q a b e f x y s t r) →
    Delivered (all_deliveries k.groups) k.report.failed_receives k.report.failed_sends e f
delivered_by k = record { telling = k.telling; grew = k.delivered; failures = k.failures }

-- groups after groups
pub keeps_more : {p q o : Bool} {a b c : DeviceState} {e f g : EndState} {x y z : ElectronicsState} {s t u : StoreState} {m n : Report} (r : Report) →
    ServesKeeping p q a b e f x y s t m → ServesKeeping q o b c f g y z t u n → r ≡ capped (added m n) → ServesKeeping p o a c e g x z s u r
keeps_more {p} {q} {o} {a} {b} {c} {e} {f} {g} {x} {y} {z} {s} {t} {u} {m} {n} r h k is =
    let ends = delivered_more (delivered_by h) (delivered_by k) in
    let gs = h.groups in
    let hs = k.groups in
    let ds = all_deliveries gs in
    let es = all_deliveries hs in
    let all = later_deliveries gs hs in
    record {
      groups = gs ++ hs;
      few = each-append (λ g. length g.deliveries ≤ 64) gs hs h.few k.few;
      report = added h.report k.report;
      returns = is ∙ ap (λ (v : Report). capped (added v n)) h.returns ∙ ap (λ (v : Report). capped (added (capped h.report) v)) k.returns ∙ capped-more h.report k.report;
      serves = subst (λ (xs : List Delivery). Serves xs a c (added h.report k.report)) (sym all) (serves_more a b c ds es h.report k.report h.serves k.serves);
      telling = ends.telling;
      delivered = λ told. ends.grew told ∙ ap (λ (xs : List Delivery). e.delivered ++ xs) (sym all);
      failures = ends.failures;
      sent = λ told w tree events rep.
          let later = events_after_all ds events in
          subst (λ (xs : List Sent). TakesAllBut (h.report.failed_sends + k.report.failed_sends) e.taken g.taken xs) (sym (later_sends w tree p gs hs events))
          (takes_more (h.sent told w tree events rep)
          (subst (λ (v : Bool). TakesAllBut k.report.failed_sends f.taken g.taken (sent_of_all v w tree later hs)) (h.unstored w tree events rep)
          (k.sent (h.telling ∙ told) w tree later (h.serves.represents w tree events rep))));
      sends = λ few w tree events rep.
          let later = events_after_all ds events in
          let behind = k.sends few w tree later (h.serves.represents w tree events rep) in
          let before = h.sends (omega (arith, few, behind)) w tree events rep in
          let same = ap (λ (v : Bool). length (sent_of_all v w tree later hs)) (h.unstored w tree events rep) in
          let together = ap length (later_sends w tree p gs hs events)
          ∙ length-append (sent_of_all p w tree events gs) (sent_of_all (behind_groups p w tree events gs) w tree later hs) in
          omega (arith, behind, before, same, together);
      following = k.following ∙ h.following;
      followed = λ told w tree events rep.
          let later = events_after_all ds events in
          k.followed (h.following ∙ told) w tree later (h.serves.represents w tree events rep)
          ∙ ap (λ (xs : List Followed). xs ++ handed w tree later es) (h.followed told w tree events rep)
          ∙ append_assoc x.followed (handed w tree events ds) (handed w tree later es)
          ∙ ap (λ (xs : List Followed). x.followed ++ xs) (sym (later_handed w tree ds es events))
          ∙ ap (λ (xs : List Delivery). x.followed ++ handed w tree events xs) (sym all);
      storing = k.storing ∙ h.storing;
      stored = λ told w tree events rep.
          let later = events_after_all ds events in
          k.stored (h.storing ∙ told) w tree later (h.serves.represents w tree events rep)
          ∙ ap (λ (v : Bool). t.storings ++ storings_in_all v w tree later hs) (h.unstored w tree events rep)
          ∙ ap (λ (xs : List Storing). xs ++ storings_in_all (behind_groups p w tree events gs) w tree later hs) (h.stored told w tree events rep)
          ∙ append_assoc s.storings (storings_in_all p w tree events gs) (storings_in_all (behind_groups p w tree events gs) w tree later hs)
          ∙ ap (λ (xs : List Storing). s.storings ++ xs) (sym (later_storings w tree p gs hs events));
      unstored = λ w tree events rep.
          let later = events_after_all ds events in
          k.unstored w tree later (h.serves.represents w tree events rep)
          ∙ ap (λ (v : Bool). behind_groups v w tree later hs) (h.unstored w tree events rep)
          ∙ sym (later_groups w tree p gs hs events);
    }

-- ---- one group

and_true : (x : Bool) → x ≡ x && true
and_true true = refl
and_true false = refl

few_taken : (returned report : Report) (ds : List Delivery) → returned.turns ≤ 64 → returned ≡ capped report → report.turns ≡ length ds → length ds ≤ 64
few_taken returned report ds few is all = let same : returned.turns ≡ min report.turns last_u64 = ap (λ (r : Report). r.turns) is in omega arith

-- Deliveries were taken in, and none of the answers waits.
pub keeps_undue : {a b : DeviceState} {e f : EndState} {x y : ElectronicsState} {k l : KeepingState} {s t : StoreState} {r : Report} →
    (q : Bool) → q ≡ false → r.turns ≤ 64 → TakesIn q a b e f x y k l r → t ≡ s → ServesKeeping k.is_behind l.is_behind a b e f x y s t r
keeps_undue {a} {b} {e} {f} {x} {y} {k} {l} {s} {t} {r} q undue small h' same =
    let h : TakesIn false a b e f x y k l r = subst (λ (v : Bool). TakesIn v a b e f x y k l r) undue h' in
    let i = h.takes in
    let ds = i.deliveries in
    let g : Group = record { deliveries = ds; stored = false } in
    let all : ds ≡ all_deliveries (g ∷ []) = sym (append-nil ds) in
    record {
      groups = g ∷ [];
      few = (few_taken r h.report ds small h.returns i.serves.turns, tt);
      report = h.report;
      returns = h.returns;
      serves = subst (λ (xs : List Delivery). Serves xs a b h.report) all i.serves;
      telling = i.telling;
      delivered = λ told. i.delivered told ∙ ap (λ (xs : List Delivery). e.delivered ++ xs) all;
      failures = i.failures;
      sent = λ told w tree events rep.
          let xs = at_once k.is_behind w tree events ds in
          subst (λ (ys : List Sent). TakesAllBut h.report.failed_sends e.taken f.taken ys) (sym (append-nil xs) ∙ sym (append-nil (xs ++ []))) (i.sent told w tree events rep);
      sends = λ few w tree events rep.
          let xs = at_once k.is_behind w tree events ds in
          i.sends few w tree events rep ∙ ap (λ (ys : List Sent). e.sends + length ys) (sym (append-nil xs) ∙ sym (append-nil (xs ++ [])));
      following = i.following;
      followed = λ told w tree events rep. i.followed told w tree events rep ∙ ap (λ (xs : List Delivery). x.followed ++ handed w tree events xs) all;
      storing = ap (λ (v : StoreState). v.tells) same;
      stored = λ told w tree events rep.
          ap (λ (v : StoreState). v.storings) same ∙ sym (append-nil s.storings)
          ∙ ap (λ (v : Bool). s.storings ++ (cond v ((let n : Storing = record { tree = (state_after w tree (events_after_all ds events)).tree; stored = false } in n) ∷ []) [] ++ [])) (i.waited w tree events rep);
      unstored = λ w tree events rep.
          i.unstored w tree events rep ∙ and_true (behind_all k.is_behind w tree events ds)
          ∙ ap (λ (v : Bool). behind_all k.is_behind w tree events ds && not (v && false)) (i.waited w tree events rep);
    }

-- Deliveries were taken in, and the objects were handed to the store.
pub keeps_due : {a b : DeviceState} {e f g : EndState} {x y : ElectronicsState} {k l m : KeepingState} {s t : StoreState} {q r : Report} {failed : ℕ} →
    k.held ≡ [] → (v : Bool) → v ≡ true → q.turns ≤ 64 → TakesIn v a b e f x y k l q → SettlesGroup b.tree f g l m s t failed → r ≡ record q { failed_sends = min (q.failed_sends + failed) last_u64 } →
    ServesKeeping k.is_behind m.is_behind a b e g x y s t r
keeps_due {a} {b} {e} {f} {g} {x} {y} {k} {l} {m} {s} {t} {q} {r} {failed} none v due small h' settled is =
    let h : TakesIn true a b e f x y k l q = subst (λ (n : Bool). TakesIn n a b e f x y k l q) due h' in
    let i = h.takes in
    let ds = i.deliveries in
    let group : Group = record { deliveries = ds; stored = settled.stored } in
    let all : ds ≡ all_deliveries (group ∷ []) = sym (append-nil ds) in
    let sends = settled.sends in
    let exact : Report = record h.report { failed_sends = h.report.failed_sends + failed } in
    record {
      groups = group ∷ [];
      few = (few_taken q h.report ds small h.returns i.serves.turns, tt);
      report = exact;
      returns = is ∙ ap (λ (v : Report). let z : Report = record v { failed_sends = min (v.failed_sends + failed) last_u64 } in z) h.returns ∙ capped_failed h.report failed;
      serves = subst (λ (xs : List Delivery). Serves xs a b exact) all (served_failed a b ds h.report failed i.serves);
      telling = sends.telling ∙ i.telling;
      delivered = λ told. sends.delivered (i.telling ∙ told) ∙ i.delivered told ∙ ap (λ (xs : List Delivery). e.delivered ++ xs) all;
      failures = summed e.failures f.failures g.failures h.report.failed_receives h.report.failed_sends failed i.failures sends.failures;
      sent = λ told w tree events rep.
          let xs = at_once k.is_behind w tree events ds in
          let held : l.held ≡ waiting k.is_behind w tree events ds = i.holding w tree events rep ∙ ap (λ (ys : List Sent). ys ++ waiting k.is_behind w tree events ds) none in
          let out : List Sent = cond settled.stored (waiting k.is_behind w tree events ds) [] in
          subst (λ (ys : List Sent). TakesAllBut (h.report.failed_sends + failed) e.taken g.taken ys) (sym (append-nil (xs ++ out)))
          (takes_more (i.sent told w tree events rep) (subst (λ (ys : List Sent). TakesAllBut failed f.taken g.taken (cond settled.stored ys [])) held (sends.taken (i.telling ∙ told))));
      sends = λ few w tree events rep.
          let xs = at_once k.is_behind w tree events ds in
          let held : l.held ≡ waiting k.is_behind w tree events ds = i.holding w tree events rep ∙ ap (λ (ys : List Sent). ys ++ waiting k.is_behind w tree events ds) none in
          let out : List Sent = cond settled.stored (waiting k.is_behind w tree events ds) [] in
          let behind = sends.sends few in
          let before = i.sends (omega (arith, few, behind)) w tree events rep in
          let same = ap (λ (ys : List Sent). length (cond settled.stored ys [])) held in
          let together = ap length (append-nil (xs ++ out)) ∙ length-append xs out in
          omega (arith, behind, before, same, together);
      following = i.following;
      followed = λ told w tree events rep. i.followed told w tree events rep ∙ ap (λ (xs : List Delivery). x.followed ++ handed w tree events xs) all;
      storing = settled.stores.telling;
      stored = λ told w tree events rep.
          let after = events_after_all ds events in
          settled.stores.storings told
          ∙ ap (λ (v : List Object). s.storings ++ (let n : Storing = record { tree = v; stored = settled.stored } in n) ∷ []) (i.serves.represents w tree events rep).state.tree
          ∙ ap (λ (v : Bool). s.storings ++ (cond v ((let n : Storing = record { tree = (state_after w tree after).tree; stored = settled.stored } in n) ∷ []) [] ++ [])) (i.waited w tree events rep);
      unstored = λ w tree events rep.
          settled.behind ∙ ap (λ (v : Bool). v && not settled.stored) (i.unstored w tree events rep)
          ∙ ap (λ (v : Bool). behind_all k.is_behind w tree events ds && not (v && settled.stored)) (i.waited w tree events rep);
    }
  where
    capped_failed : (n : Report) (k : ℕ) →
        (let z : Report = record (capped n) { failed_sends = min ((capped n).failed_sends + k) last_u64 } in z) ≡ capped (record n { failed_sends = n.failed_sends + k })
    capped_failed n k = ap (λ (v : ℕ). let z : Report = record (capped n) { failed_sends = v } in z) (cap_more n.failed_sends k)

    served_failed : (a b : DeviceState) (ds : List Delivery) (n : Report) (k : ℕ) → Serves ds a b n → Serves ds a b (record n { failed_sends = n.failed_sends + k })
    served_failed a b ds n k h = record {
      turns = h.turns;
      represents = h.represents;
      reported = λ w tree events rep. ap (λ (v : Report). let z : Report = record v { failed_sends = n.failed_sends + k } in z) (h.reported w tree events rep);
    }

    summed : (x y z m n k : ℕ) → (y < last_u64 → y ≡ x + (m + n)) → (z < last_u64 → z ≡ y + k) → z < last_u64 → z ≡ x + (m + (n + k))
    summed x y z m n k h i below =
        let last = i below in
        let before : y < last_u64 = omega arith in
        omega (arith, h before, last)

-- ---- what waits is held, and sent

-- one more of them was sent, and all
pub held_further : (i k n : ℕ) (answers : List HeldPacket) (d : HeldPacket) (to : Peer) (bytes : List ℕ) {a b c : EndState} {was_taken : Bool} → i < length answers →
    SendsAllBut k a b (take i (packets_held answers)) → Sends was_taken to bytes b c → to ≡ (slice_index_or answers i d).to → bytes ≡ (slice_index_or answers i d).packet.items → n ≡ k + cond was_taken 0 1 →
    SendsAllBut n a c (take (i + 1) (packets_held answers))
held_further i k n answers d to bytes {a} {b} {c} {was_taken} h f s to_is bytes_is e =
    let one : HeldPacket → Sent = λ x. record { to = x.to; bytes = x.packet.items } in
    let none : Sent = one d in
    let inside : i < length (packets_held answers) = omega (arith, length-map answers one) in
    let this : slice_index_or (packets_held answers) i none ≡ one (slice_index_or answers i d) = get_or-map one answers i d none h in
    let item = slice_index_or answers i d in
    let sends : Sends was_taken item.to item.packet.items b c =
    subst (λ (x : Peer). Sends was_taken x item.packet.items b c) to_is (subst (λ (x : List ℕ). Sends was_taken to x b c) bytes_is s) in
    subst (λ (m : ℕ). SendsAllBut m a c (take (i + 1) (packets_held answers))) (sym e)
    (subst (λ (xs : List Sent). SendsAllBut (k + cond was_taken 0 1) a c xs) (sym (take_more (packets_held answers) i none inside ∙ ap (λ (x : Sent). take i (packets_held answers) ++ x ∷ []) this))
    (sends_more f (sends_one sends)))

-- one answer more is held
pub held_more : (xs : List HeldPacket) (a : HeldPacket) → packets_held (xs ++ a ∷ []) ≡ packets_held xs ++ (record { to = a.to; bytes = a.packet.items }) ∷ []
held_more xs a = map-append (λ (x : HeldPacket). let s : Sent = record { to = x.to; bytes = x.packet.items } in s) xs (a ∷ [])

-- one packet more of them is held
pub held_next : (p : Peer) (i : ℕ) (xs : List (ArrayVec ℕ)) (d : ArrayVec ℕ) (was held now : List Sent) (bytes : List ℕ) → i < length xs → bytes ≡ (slice_index_or xs i d).items →
    held ≡ was ++ first_sent p i (bytes_of_packets xs) → now ≡ held ++ (record { to = p; bytes = bytes }) ∷ [] → now ≡ was ++ first_sent p (i + 1) (bytes_of_packets xs)
held_next p i xs d was held now bytes h is e f =
    let inside : i < length (bytes_of_packets xs) = omega (arith, length-map xs (λ (x : ArrayVec ℕ). x.items)) in
    let one : List ℕ → List Sent = λ b. (record { to = p; bytes = b }) ∷ [] in
    f ∙ ap (λ (ys : List Sent). ys ++ one bytes) e ∙ append_assoc was (first_sent p i (bytes_of_packets xs)) (one bytes)
    ∙ ap (λ (b : List ℕ). was ++ (first_sent p i (bytes_of_packets xs) ++ one b)) (is ∙ sym (get_or-map (λ (x : ArrayVec ℕ). x.items) xs i d [] h))
    ∙ ap (λ (ys : List Sent). was ++ ys) (sym (further p i (bytes_of_packets xs) inside))

pub room_next : (held now : List Sent) (x : Sent) (n i : ℕ) → now ≡ held ++ x ∷ [] → length held ≡ n + i → length now ≡ n + (i + 1)
room_next held now x n i e h = omega (arith, ap (λ (xs : List Sent). length xs) e, length-append held (x ∷ []), h)

pub room_none : (xs : List Sent) → xs ≡ [] → length xs ≤ 244
room_none xs e = omega (arith, ap (λ (ys : List Sent). length ys) e)

-- nothing is sent
pub nothing_sent : (e : EndState) → SendsAllBut 0 e e []
nothing_sent e = sends_none e

pub none_if_true : (b : Bool) (e : EndState) (xs : List Sent) → b ≡ true → SendsAllBut 0 e e (cond b [] xs)
none_if_true b e xs h = subst (λ (v : Bool). SendsAllBut 0 e e (cond v [] xs)) (sym h) (sends_none e)

pub none_if_false : (b : Bool) (e : EndState) (xs : List Sent) → b ≡ false → SendsAllBut 0 e e (cond b xs [])
none_if_false b e xs h = subst (λ (v : Bool). SendsAllBut 0 e e (cond v xs [])) (sym h) (sends_none e)

-- what is behind is told by another name
pub begun : {p q o : Bool} {a b : DeviceState} {e f : EndState} {x y : ElectronicsState} {s t : StoreState} {r : Report} → o ≡ q → ServesKeeping p q a b e f x y s t r → ServesKeeping p o a b e f x y s t r
begun {p} {q} {o} {a} {b} {e} {f} {x} {y} {s} {t} {r} is h = subst (λ (v : Bool). ServesKeeping p v a b e f x y s t r) (sym is) h

-- and so is what a store was before
pub stored_from : {p q : Bool} {a b : DeviceState} {e f : EndState} {x y : ElectronicsState} {s t u : StoreState} {r : Report} → s ≡ u → ServesKeeping p q a b e f x y s t r → ServesKeeping p q a b e f x y u t r
stored_from {p} {q} {a} {b} {e} {f} {x} {y} {s} {t} {u} {r} is h = subst (λ (v : StoreState). ServesKeeping p q a b e f x y v t r) is h

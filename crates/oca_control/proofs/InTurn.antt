-- What is sent in time, and a turn.
use Rattle.oca_control.proofs.Words.{◌≡◌, ℕ, ◌+◌, ◌<◌, ◌≤◌, min, Bool, true, false, cond, List, [], ◌∷◌, ◌++◌, length, refl, sym, ap, ◌∙◌, subst, arith, inl, inr, IsTrue, count_by, Peer, Heard}
use Rattle.oca_control.proofs.Words.{Delivery, Datagram, Quiet, Failed, is_failed, last_u64, EndState, SendsAllBut, DeliversAndTakes, Reception, ReceivesDatagram, DriveReport, LinkState, Decision}
use Rattle.oca_control.proofs.Words.{IsLost, late_at, answered_by, is_failed_delivery, drive_report_of, all_given_to, GivesIf, SendsInTime, decisions_in_time, link_in_time, TurnsInTime, TurnsLinkOnce}
use Rattle.oca_control.proofs.Words.{Turns, given_report}
use Rattle.oca_net.specs.declared.end.Heard.TheVariants as heard
use Rattle.oca_net.specs.EndStates.{Receives}
use Rattle.oca_net.proofs.Sending.{sends_none}
use Rattle.oca_net.proofs.Hearing.{oversize_heard}
use Rattle.oca_net.proofs.Running.{runs_one}
use Rattle.oca_control.specs.Driving.{decisions_from, link_from}
use Rattle.oca_control.proofs.Turns.{datagram_reported, silent_reported, failed_reported, heard_datagram, same_device}

-- what was sent in time, by what was decided
record GaveInTime (now : ℕ) (old new : LinkState) (f g : EndState) (given : DriveReport) : Type 0 where
  pub link : new ≡ link_in_time now old
  pub reported : given ≡ given_report (decisions_in_time now old) given.failed_sends
  pub sends : SendsAllBut given.failed_sends f g (all_given_to old.device (decisions_in_time now old))

gave : {now : ℕ} {old new : LinkState} {f g : EndState} {given : DriveReport} → SendsInTime now old new f g given → GaveInTime now old new f g given
gave {now} {old} {new} {f} {g} {given} k = let w = by (late_at now old) k in record { link = w.0; reported = w.1; sends = w.2 }
  where
    none_sent : (p : Peer) (n : ℕ) (h : EndState) → n ≡ 0 → h ≡ f → SendsAllBut n f h (all_given_to p (IsLost ∷ []))
    none_sent p n h zero same =
        subst (λ (m : ℕ). SendsAllBut m f h (all_given_to p (IsLost ∷ []))) (sym zero)
        (subst (λ (x : EndState). SendsAllBut 0 f x (all_given_to p (IsLost ∷ []))) (sym same) (sends_none f))

    by : (b : Bool) → GivesIf b now old new f g given →
        (new ≡ cond b old (link_from now (old.span + 1) old))
        × (given ≡ given_report (cond b (IsLost ∷ []) (decisions_from now (old.span + 1) old)) given.failed_sends)
        × SendsAllBut given.failed_sends f g (all_given_to old.device (cond b (IsLost ∷ []) (decisions_from now (old.span + 1) old)))
    by true x =
        let zero : given.failed_sends ≡ 0 = ap (λ (r : DriveReport). r.failed_sends) x.2 in
        (x.0, x.2 ∙ ap (given_report (IsLost ∷ [])) (sym zero), none_sent old.device given.failed_sends g zero x.1)
    by false x = (x.link, x.reported, x.sends)

-- one was heard, and what was due then sent in time
heard_one : (x : Delivery) {h : Heard} {held : List ℕ} {old new : LinkState} {e f g : EndState} {ds : List Decision} {n : ℕ} {r : DriveReport} →
    Receives h held e f → (IsTrue e.tells → f.delivered ≡ e.delivered ++ x ∷ []) → count_by is_failed_delivery (x ∷ []) ≡ cond (is_failed h) 1 0 →
    SendsAllBut r.failed_sends f g (all_given_to old.device ds) → TurnsInTime x old new ds n → r ≡ drive_report_of (x ∷ []) ds n r.failed_sends →
    TurnsLinkOnce old new e g r
heard_one x {h} {held} {old} {new} {e} {f} {g} {ds} {n} {r} heard grew failed sent turns reported = record {
  delivery = x;
  decisions = ds;
  answered = n;
  turns = turns;
  reported = reported;
  runs = subst (λ (k : ℕ). DeliversAndTakes (x ∷ []) (all_given_to old.device ds) k r.failed_sends e g) (sym (ap (λ (q : DriveReport). q.failed_receives) reported ∙ failed)) (runs_one x heard sent grew);
  receives = sent.receives ∙ heard.receives;
}

module _ {e f g : EndState} {held : List ℕ} {now : ℕ} (given : DriveReport) where
  pub datagram_turn : {old mid new : LinkState} {from : Peer} (bytes : List ℕ) (answer : Reception) (n : ℕ) → length bytes ≤ 1472 → bytes ≡ held → Receives (heard.Datagram from now) held e f →
      ReceivesDatagram from bytes now old answer mid → n ≡ answered_by answer → SendsInTime now mid new f g given →
      Turns old new e g (record { turns = 1; sent = given.sent; keep_alives = given.keep_alives; answered = n; failed_receives = given.failed_receives; failed_sends = given.failed_sends; lost = given.lost })
  datagram_turn {old} {mid} {new} {from} bytes answer n short same h received count k =
      let device = same_device from bytes now old mid answer received in
      let ds = decisions_in_time now mid in
      let in_time = gave {now = now} {old = mid} k in
      inl (heard_one (Datagram from bytes now) h (λ told. h.delivered told ∙ ap (λ (xs : List ℕ). e.delivered ++ Datagram from xs now ∷ []) (sym same)) refl
      (subst (λ (p : Peer). SendsAllBut given.failed_sends f g (all_given_to p ds)) device in_time.sends)
      (record { between = mid; hears = heard_datagram from bytes now old mid answer n short received count; gives = (refl, in_time.link) })
      (datagram_reported from bytes now ds n given in_time.reported))

  pub quiet_turn : {old new : LinkState} → Receives (heard.Quiet now) held e f → SendsInTime now old new f g given →
      Turns old new e g (record { turns = 1; sent = given.sent; keep_alives = given.keep_alives; answered = given.answered; failed_receives = given.failed_receives; failed_sends = given.failed_sends; lost = given.lost })
  quiet_turn {old} {new} h k =
      let in_time = gave {now = now} {old = old} k in
      inl (heard_one (Quiet now) h h.delivered refl in_time.sends (record { between = old; hears = (refl, refl); gives = (refl, in_time.link) })
      (silent_reported (Quiet now) (decisions_in_time now old) given refl in_time.reported))

  pub oversize_turn : {old new : LinkState} → Receives (heard.Oversize now) held e f → SendsInTime now old new f g given →
      Turns old new e g (record { turns = 1; sent = given.sent; keep_alives = given.keep_alives; answered = given.answered; failed_receives = given.failed_receives; failed_sends = given.failed_sends; lost = given.lost })
  oversize_turn {old} {new} h k =
      let in_time = gave {now = now} {old = old} k in
      let d = oversize_heard h in
      let over = d.above in
      inl (heard_one (Datagram d.from d.long now) h d.grew refl in_time.sends
      (record { between = old; hears = record { short = λ fits. absurd (omega arith); long = λ _. (refl, refl) }; gives = (refl, in_time.link) })
      (silent_reported (Datagram d.from d.long now) (decisions_in_time now old) given refl in_time.reported))

-- A turn at a failed receive leaves the link as it was and counts that receive.
pub failed_turn : {e f : EndState} {held : List ℕ} (given : DriveReport) (l : LinkState) → Receives heard.Failed held e f → given ≡ given_report [] 0 →
    Turns l l e f (record { turns = 1; sent = given.sent; keep_alives = given.keep_alives; answered = given.answered; failed_receives = 1; failed_sends = given.failed_sends; lost = given.lost })
failed_turn {e} {f} given l h none =
    inl (heard_one Failed h h.delivered refl (subst (λ (k : ℕ). SendsAllBut k f f []) (sym (ap (λ (q : DriveReport). q.failed_sends) none)) (sends_none f))
    (record { between = l; hears = (refl, refl); gives = (refl, refl) }) (failed_reported given none))

-- At a closed end no turn is taken, and the link stays as it was.
pub closed_turn : {e f : EndState} {held : List ℕ} (given : DriveReport) (l : LinkState) → held ≡ [] → Receives heard.Closed held e f → given ≡ given_report [] 0 → Turns l l e f given
closed_turn {e} {f} given l empty h none = inr (record { link = refl; received = subst (λ (xs : List ℕ). Receives heard.Closed xs e f) empty h; reported = none })

-- each turn asks the end once
pub asked_once : {old new : LinkState} {e f : EndState} {r : DriveReport} → Turns old new e f r → f.receives < last_u64 → f.receives ≡ e.receives + 1
asked_once {e = e} {f = f} (inl x) below = one (f.receives) (e.receives) x.receives below
  where
    one : (a b : ℕ) → a ≡ min (b + 1) last_u64 → a < last_u64 → a ≡ b + 1
    one a b is below = omega arith
asked_once {e = e} {f = f} (inr x) below = one (f.receives) (e.receives) x.received.receives below
  where
    one : (a b : ℕ) → a ≡ min (b + 1) last_u64 → a < last_u64 → a ≡ b + 1
    one a b is below = omega arith

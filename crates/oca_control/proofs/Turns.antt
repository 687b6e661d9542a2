-- What the parts of a turn, and the turns, add up to.
use Rattle.oca_control.proofs.Words.{◌≡◌, ℕ, suc, ◌+◌, ◌-◌, ◌<◌, ◌≤◌, Bool, true, false, cond, ◌||◌, min, List, [], ◌∷◌, ◌++◌, length, refl, sym, ap, ◌∙◌, subst, arith, length-append, IsTrue, nat_lt}
use Rattle.oca_control.proofs.Words.{count_by, and-false, lt-ltb, le-ltb, list_any, flat_map-append, list_any-append, add-zero, Peer, Heard, Delivery, Datagram, Quiet, Failed, Sent, is_failed}
use Rattle.oca_control.proofs.Words.{EndState, SendsAllBut, DeliversAndTakes, Reception, ReceivesDatagram, Due, DriveReport, LinkState, Decision, GivesCommand, GivesKeepAlive, GivesNothing, IsLost}
use Rattle.oca_control.proofs.Words.{decision, gone_on, due_answer, due_bytes, after_due, present_moment, answered_by, HearsDatagram, gives_command, is_keep_alive, decides_lost, goes_on, given_to}
use Rattle.oca_control.proofs.Words.{all_given_to, NoTurn, OneMore, is_failed_delivery, drive_report_of, DrivesTurn, DrivesEnd, receives_driven, drive_report_sum, drive_report_capped, IsReportWithin}
use Rattle.oca_control.proofs.Words.{given_report, GivesOne, DrivesOnce, DriveFindsClosed}
use Rattle.std.specs.Prelude.{◌&&◌, not}
use Rattle.std.proofs.lemmas.List.{append_assoc, append-nil}
use Rattle.std.proofs.lemmas.List.Sums.{sum_by-append}
use Rattle.oca_net.specs.declared.end.Heard.TheVariants as heard
use Rattle.oca_net.specs.EndStates.{Receives}
use Rattle.oca_net.proofs.Sending.{sends_none, sends_more}
use Rattle.oca_net.proofs.Hearing.{oversize_heard}
use Rattle.oca_net.proofs.Running.{runs_none, runs_more, runs_one, runs_closed}
use Rattle.oca_control.specs.declared.due.Due.TheVariants as dues
use Rattle.oca_control.specs.Driving.{decisions_from, link_from, SendsDue}

-- ---- one decision

-- Where `due` answered with a command, its bytes go to the device, `due` is called again, and one command is reported
-- as sent.
pub sends : (p : Peer) (d : Decision) (h : Due) → h ≡ due_answer d → (a : ℕ) → h ≡ dues.Send (record { 0 = a }) → (given_to p d ≡ (record { to = p; bytes = due_bytes d }) ∷ []) × (goes_on d ≡ true) × ((k : ℕ) → given_report (d ∷ []) k ≡ record (given_report [] k) { sent = 1 })
sends p (GivesCommand c) h e a f = (refl, refl, λ k. refl)
sends p _ h e a f = let g = sym e ∙ f in cc

-- Where `due` answered with a keep-alive, its bytes go to the device, `due` is called again, and one keep-alive is
-- reported.
pub keeps_alive : (p : Peer) (d : Decision) (h : Due) → h ≡ due_answer d → h ≡ dues.KeepAlive → (given_to p d ≡ (record { to = p; bytes = due_bytes d }) ∷ []) × (goes_on d ≡ true) × ((k : ℕ) → given_report (d ∷ []) k ≡ record (given_report [] k) { keep_alives = 1 })
keeps_alive p (GivesCommand c) h e f = let g = sym e ∙ f in cc
keeps_alive p GivesKeepAlive h e f = (refl, refl, λ k. refl)
keeps_alive p _ h e f = let g = sym e ∙ f in cc

-- Where `due` answered with nothing, no bytes go out, `due` is not called again, and nothing is reported.
pub gives_nothing : (p : Peer) (d : Decision) (h : Due) → h ≡ due_answer d → h ≡ dues.Nothing → (given_to p d ≡ []) × (goes_on d ≡ false) × (given_report [] 0 ≡ given_report (d ∷ []) 0)
gives_nothing p (GivesCommand c) h e f = let g = sym e ∙ f in cc
gives_nothing p GivesKeepAlive h e f = let g = sym e ∙ f in cc
gives_nothing p GivesNothing h e f = (refl, refl, refl)
gives_nothing p IsLost h e f = let g = sym e ∙ f in cc

-- Where `due` answered that the link is lost, no bytes go out, `due` is not called again, and the link is reported
-- lost.
pub gives_lost : (p : Peer) (d : Decision) (h : Due) → h ≡ due_answer d → h ≡ dues.Lost → (given_to p d ≡ []) × (goes_on d ≡ false) × (record (given_report [] 0) { lost = true } ≡ given_report (d ∷ []) 0)
gives_lost p (GivesCommand c) h e f = let g = sym e ∙ f in cc
gives_lost p GivesKeepAlive h e f = let g = sym e ∙ f in cc
gives_lost p GivesNothing h e f = let g = sym e ∙ f in cc
gives_lost p IsLost h e f = (refl, refl, refl)

sends_as : {k : ℕ} {e f : EndState} {xs ys : List Sent} → xs ≡ ys → SendsAllBut k e f xs → SendsAllBut k e f ys
sends_as {k} {e} {f} same sent = subst (SendsAllBut k e f) same sent

-- something was sent, and handed to the end
pub gave_out : {now : ℕ} {l l' : LinkState} {e f : EndState} {p : Peer} {bytes : List ℕ} {k : ℕ} (r : DriveReport) → l' ≡ gone_on now l → p ≡ l.device → bytes ≡ due_bytes (decision now l) →
    (given_to p (decision now l) ≡ (record { to = p; bytes = due_bytes (decision now l) }) ∷ []) × (goes_on (decision now l) ≡ true) × (r ≡ given_report (decision now l ∷ []) r.failed_sends) →
    r.failed_sends ≡ k → SendsAllBut k e f ((record { to = p; bytes = bytes }) ∷ []) → GivesOne now l l' e f true r
gave_out {now} {l} {l'} {e} {f} {p} {bytes} {k} r link device same gives count sent = record {
  link = link;
  goes = sym gives.1;
  reported = gives.2;
  sends = subst (λ (n : ℕ). SendsAllBut n e f (given_to l.device (decision now l))) (sym count)
      (subst (λ (q : Peer). SendsAllBut k e f (given_to q (decision now l))) device
      (sends_as (ap (λ (xs : List ℕ). (record { to = p; bytes = xs }) ∷ []) same ∙ sym gives.0) sent));
}

-- nothing was sent
pub gave_nothing : {now : ℕ} {l l' : LinkState} (e : EndState) (r : DriveReport) → l' ≡ gone_on now l →
    (given_to l.device (decision now l) ≡ []) × (goes_on (decision now l) ≡ false) × (r ≡ given_report (decision now l ∷ []) 0) → GivesOne now l l' e e false r
gave_nothing {now} {l} {l'} e r link gives =
    let none = ap (λ (q : DriveReport). q.failed_sends) gives.2 in
    record {
      link = link;
      goes = sym gives.1;
      reported = gives.2 ∙ ap (given_report (decision now l ∷ [])) (sym none);
      sends = subst (λ (n : ℕ). SendsAllBut n e e (given_to l.device (decision now l))) (sym none) (sends_as (sym gives.0) (sends_none e));
    }

-- ---- sums of reports

pub added_reports : (xs ys : List Delivery) (ds es : List Decision) (n k a b : ℕ) → drive_report_sum (drive_report_of xs ds n a) (drive_report_of ys es k b) ≡ drive_report_of (xs ++ ys) (ds ++ es) (n + k) (a + b)
added_reports xs ys ds es n k a b =
    made (length xs + length ys) (length (xs ++ ys)) _ _ _ _ _ _ _ _ (n + k) (a + b)
    (sym (length-append xs ys)) (sym (counts gives_command)) (sym (counts is_keep_alive)) (sym (sum_by-append (λ d. cond (is_failed_delivery d) 1 0) xs ys)) (sym (list_any-append decides_lost ds es))
  where
    counts : (p : Decision → Bool) → count_by p (ds ++ es) ≡ count_by p ds + count_by p es
    counts p = sum_by-append (λ d. cond (p d) 1 0) ds es

    made : (t t' s s' q q' f f' : ℕ) (l l' : Bool) (m x : ℕ) → t ≡ t' → s ≡ s' → q ≡ q' → f ≡ f' → l ≡ l' →
        (let r : DriveReport = record { turns = t; sent = s; keep_alives = q; answered = m; failed_receives = f; failed_sends = x; lost = l } in r)
        ≡ (let r : DriveReport = record { turns = t'; sent = s'; keep_alives = q'; answered = m; failed_receives = f'; failed_sends = x; lost = l' } in r)
    made t t' s s' q q' f f' l l' m x e1 e2 e3 e4 e5 = cc

-- nothing that is sent changes the address
pub device_stays : (d : Decision) (now : ℕ) (l : LinkState) → (after_due d now l).device ≡ l.device
device_stays (GivesCommand c) now l = refl
device_stays _ now l = refl

-- ---- what is due, one after another

-- After i of so many calls of `due`: these decisions were taken, what is left makes them whole, and what they give was
-- sent and reported.
pub record GivesSoFar (now left : ℕ) (start : LinkState) (i : ℕ) (l : LinkState) (e f : EndState) (report : DriveReport) : Type 0 where
  pub decisions : List Decision
  pub all : decisions_from now left start ≡ decisions ++ decisions_from now (left - i) l
  pub link : link_from now left start ≡ link_from now (left - i) l
  pub reported : report ≡ given_report decisions report.failed_sends
  pub device : l.device ≡ start.device
  pub sends : SendsAllBut report.failed_sends e f (all_given_to start.device decisions)

-- Before the first call of `due` nothing was sent.
pub gives_start : (now left : ℕ) (l : LinkState) (e : EndState) (r : DriveReport) → r ≡ given_report [] 0 → GivesSoFar now left l 0 l e e r
gives_start now left l e r is = subst (GivesSoFar now left l 0 l e e) (sym is) (record {
  decisions = [];
  all = ap (λ n. decisions_from now n l) (all_left left);
  link = ap (λ n. link_from now n l) (all_left left);
  reported = refl;
  device = refl;
  sends = sends_none e;
})
  where
    all_left : (n : ℕ) → n ≡ n - 0
    all_left n = omega arith

one_given : (p : Peer) (ds : List Decision) (d : Decision) → all_given_to p (ds ++ d ∷ []) ≡ all_given_to p ds ++ given_to p d
one_given p ds d = flat_map-append (given_to p) ds (d ∷ []) ∙ ap (λ zs. all_given_to p ds ++ zs) (append-nil (given_to p d))

one_reported : (ds : List Decision) (d : Decision) (r given : DriveReport) → r ≡ given_report ds r.failed_sends → given ≡ given_report (d ∷ []) given.failed_sends →
    drive_report_sum r given ≡ given_report (ds ++ d ∷ []) (r.failed_sends + given.failed_sends)
one_reported ds d r given a b =
    ap (λ q. drive_report_sum q given) a ∙ ap (drive_report_sum (given_report ds r.failed_sends)) b ∙ added_reports [] [] ds (d ∷ []) 0 0 r.failed_sends given.failed_sends

one_sent : {p q : Peer} {e f g : EndState} {k j : ℕ} (ds : List Decision) (d : Decision) → p ≡ q → SendsAllBut k e f (all_given_to q ds) → SendsAllBut j f g (given_to p d) →
    SendsAllBut (k + j) e g (all_given_to q (ds ++ d ∷ []))
one_sent {p} {q} {e} {f} {g} {k} {j} ds d same a b =
    sends_as (sym (one_given q ds d)) (sends_more a (subst (λ (x : Peer). SendsAllBut j f g (given_to x d)) same b))

next_decisions : (now m : ℕ) (l : LinkState) → decisions_from now (suc m) l ≡ decision now l ∷ cond (goes_on (decision now l)) (decisions_from now m (gone_on now l)) []
unfolding decisions_from
next_decisions now m l = refl

next_link : (now m : ℕ) (l : LinkState) → link_from now (suc m) l ≡ cond (goes_on (decision now l)) (link_from now m (gone_on now l)) (gone_on now l)
unfolding link_from
next_link now m l = refl

one_less : (n j : ℕ) → j < n → n - j ≡ suc (n - (j + 1))
one_less n j p = omega arith

module _ {now left : ℕ} {start : LinkState} {i : ℕ} {l l' : LinkState} {e f g : EndState} {r given : DriveReport} where
  pub gives_more : (go : Bool) (r' : DriveReport) → r' ≡ drive_report_sum r given → GivesSoFar now left start i l e f r → GivesOne now l l' f g go given → go ≡ true → i < left →
      GivesSoFar now left start (i + 1) l' e g r'
  gives_more go r' sum x y so below = subst (GivesSoFar now left start (i + 1) l' e g) (sym sum) (record {
    decisions = x.decisions ++ decision now l ∷ [];
    all = x.all ∙ ap (λ n. x.decisions ++ decisions_from now n l) (one_less left i below)
        ∙ ap (λ xs. x.decisions ++ xs) (next_decisions now (left - (i + 1)) l ∙ ap (λ b. decision now l ∷ cond b (decisions_from now (left - (i + 1)) (gone_on now l)) []) (sym y.goes ∙ so)
        ∙ ap (λ z. decision now l ∷ decisions_from now (left - (i + 1)) z) (sym y.link))
        ∙ sym (append_assoc x.decisions (decision now l ∷ []) (decisions_from now (left - (i + 1)) l'));
    link = x.link ∙ ap (λ n. link_from now n l) (one_less left i below) ∙ next_link now (left - (i + 1)) l
        ∙ ap (λ b. cond b (link_from now (left - (i + 1)) (gone_on now l)) (gone_on now l)) (sym y.goes ∙ so) ∙ ap (link_from now (left - (i + 1))) (sym y.link);
    reported = one_reported x.decisions (decision now l) r given x.reported y.reported;
    device = ap (λ (z : LinkState). z.device) y.link ∙ device_stays (decision now l) (present_moment now l) l ∙ x.device;
    sends = one_sent x.decisions (decision now l) x.device x.sends y.sends;
  })

  pub gives_last : (go : Bool) (r' : DriveReport) → r' ≡ drive_report_sum r given → GivesSoFar now left start i l e f r → GivesOne now l l' f g go given → go ≡ false → i < left →
      SendsDue now left start l' e g r'
  gives_last go r' sum x y not_so below = subst (SendsDue now left start l' e g) (sym sum) (record {
    link = y.link ∙ sym (x.link ∙ ap (λ n. link_from now n l) (one_less left i below) ∙ next_link now (left - (i + 1)) l
        ∙ ap (λ b. cond b (link_from now (left - (i + 1)) (gone_on now l)) (gone_on now l)) (sym y.goes ∙ not_so));
    device = ap (λ (z : LinkState). z.device) y.link ∙ device_stays (decision now l) (present_moment now l) l ∙ x.device;
    reported = one_reported x.decisions (decision now l) r given x.reported y.reported ∙ ap (λ ds. given_report ds (r.failed_sends + given.failed_sends)) (sym all);
    sends = subst (λ (ds : List Decision). SendsAllBut (r.failed_sends + given.failed_sends) e g (all_given_to start.device ds)) (sym all) (one_sent x.decisions (decision now l) x.device x.sends y.sends);
  })
    where
      all : decisions_from now left start ≡ x.decisions ++ decision now l ∷ []
      all = x.all ∙ ap (λ n. x.decisions ++ decisions_from now n l) (one_less left i below)
          ∙ ap (λ xs. x.decisions ++ xs) (next_decisions now (left - (i + 1)) l ∙ ap (λ b. decision now l ∷ cond b (decisions_from now (left - (i + 1)) (gone_on now l)) []) (sym y.goes ∙ not_so))

-- After all calls of `due` what was due is sent.
pub gave_all : {now left : ℕ} {start : LinkState} {i : ℕ} {l : LinkState} {e f : EndState} {r : DriveReport} → GivesSoFar now left start i l e f r → left ≤ i → SendsDue now left start l e f r
unfolding decisions_from link_from
gave_all {now} {left} {start} {i} {l} {e} {f} {r} x over = record {
  link = sym (x.link ∙ ap (λ n. link_from now n l) (nothing_left left i over));
  device = x.device;
  reported = x.reported ∙ ap (λ ds. given_report ds r.failed_sends) (sym all);
  sends = subst (λ (ds : List Decision). SendsAllBut r.failed_sends e f (all_given_to start.device ds)) (sym all) x.sends;
}
  where
    nothing_left : (n i : ℕ) → n ≤ i → n - i ≡ 0
    nothing_left n i p = omega arith

    all : decisions_from now left start ≡ x.decisions
    all = x.all ∙ ap (λ n. x.decisions ++ decisions_from now n l) (nothing_left left i over) ∙ append-nil x.decisions

-- ---- the turns

-- Without a turn the loop did nothing.
pub turns_none : (l : LinkState) (e : EndState) → DrivesEnd l l e e (given_report [] 0)
turns_none l e = record { deliveries = []; decisions = []; answered = 0; drives = NoTurn; reported = refl; runs = runs_none e }

-- A loop in which the link was not lost, and then one turn more of that link, are a loop whose report is the sum of
-- both.
pub turns_more : {a b c : LinkState} {e f g : EndState} {r turn : DriveReport} (r' : DriveReport) → r' ≡ drive_report_sum r turn → DrivesEnd a b e f r → DrivesOnce b c f g turn → r.lost ≡ false → b.device ≡ a.device →
    DrivesEnd a c e g r'
turns_more {a} {b} {c} {e} {f} {g} {r} {turn} r' sum x y going same = subst (DrivesEnd a c e g) (sym sum) (record {
  deliveries = x.deliveries ++ y.delivery ∷ [];
  decisions = x.decisions ++ y.decisions;
  answered = x.answered + y.answered;
  drives = OneMore y.delivery x.drives (sym (ap (λ (q : DriveReport). q.lost) x.reported) ∙ going) y.drives;
  reported = ap (λ q. drive_report_sum q turn) x.reported ∙ ap (drive_report_sum (drive_report_of x.deliveries x.decisions x.answered r.failed_sends)) y.reported
      ∙ added_reports x.deliveries (y.delivery ∷ []) x.decisions y.decisions x.answered y.answered r.failed_sends turn.failed_sends;
  runs = subst (λ (xs : List Sent). DeliversAndTakes (x.deliveries ++ y.delivery ∷ []) xs (r.failed_receives + turn.failed_receives) (r.failed_sends + turn.failed_sends) e g) (sym (flat_map-append (given_to a.device) x.decisions y.decisions))
      (runs_more x.runs (subst (λ (p : Peer). DeliversAndTakes (y.delivery ∷ []) (all_given_to p y.decisions) turn.failed_receives turn.failed_sends f g) same y.runs));
})

-- At a closed end the loop did what it did before.
pub turns_closed : {a b c : LinkState} {e f g : EndState} {r : DriveReport} → DrivesEnd a b e f r → DriveFindsClosed b c f g → DrivesEnd a c e g r
turns_closed {a} {b} {c} {e} {f} {g} {r} x y = subst (λ (l : LinkState). DrivesEnd a l e g r) (sym y.link) (record {
  deliveries = x.deliveries;
  decisions = x.decisions;
  answered = x.answered;
  drives = x.drives;
  reported = x.reported;
  runs = runs_closed x.runs y.received;
})

-- A turn counts as one in the report of all.
pub one_turn_more : {b c : LinkState} {f g : EndState} {turn : DriveReport} (r r' : DriveReport) → r' ≡ drive_report_sum r turn → DrivesOnce b c f g turn → r'.turns ≡ r.turns + 1
one_turn_more r r' sum y = ap (λ (q : DriveReport). q.turns) sum ∙ ap (λ (q : DriveReport). r.turns + q.turns) y.reported

-- ---- numbers that fit

-- A report of nothing has no number above any bound.
pub none_within : (r : DriveReport) (m : ℕ) → r ≡ given_report [] 0 → IsReportWithin m r
none_within r m e = subst (IsReportWithin m) (sym e) (record { turns = omega arith; sent = omega arith; keep_alives = omega arith; answered = omega arith; failed_receives = omega arith; failed_sends = omega arith })

-- Two reports added have no number above the sum of their bounds, nor above a greater one.
pub more_within : (m k n : ℕ) (a b r : DriveReport) → r ≡ drive_report_sum a b → IsReportWithin m a → IsReportWithin k b → m + k ≤ n → IsReportWithin n r
more_within m k n a b r e x y le =
    subst (IsReportWithin n) (sym e) (record {
      turns = omega (arith, x.turns, y.turns);
      sent = omega (arith, x.sent, y.sent);
      keep_alives = omega (arith, x.keep_alives, y.keep_alives);
      answered = omega (arith, x.answered, y.answered);
      failed_receives = omega (arith, x.failed_receives, y.failed_receives);
      failed_sends = omega (arith, x.failed_sends, y.failed_sends);
    })

-- A report within a bound is within a greater one.
pub wider : (m n : ℕ) (r : DriveReport) → IsReportWithin m r → m ≤ n → IsReportWithin n r
wider m n r x le = record {
  turns = omega (arith, x.turns);
  sent = omega (arith, x.sent);
  keep_alives = omega (arith, x.keep_alives);
  answered = omega (arith, x.answered);
  failed_receives = omega (arith, x.failed_receives);
  failed_sends = omega (arith, x.failed_sends);
}

-- ---- one turn

-- The report of a turn at a datagram: one turn, what was sent, and how many commands were answered.
pub datagram_reported : (from : Peer) (bytes : List ℕ) (now : ℕ) (ds : List Decision) (n : ℕ) (given : DriveReport) → given ≡ given_report ds given.failed_sends →
    (let r : DriveReport = record { turns = 1; sent = given.sent; keep_alives = given.keep_alives; answered = n; failed_receives = given.failed_receives; failed_sends = given.failed_sends; lost = given.lost } in r)
    ≡ drive_report_of (Datagram from bytes now ∷ []) ds n given.failed_sends
datagram_reported from bytes now ds n given e =
    ap (λ (q : DriveReport). let r : DriveReport = record { turns = 1; sent = q.sent; keep_alives = q.keep_alives; answered = n; failed_receives = q.failed_receives; failed_sends = given.failed_sends; lost = q.lost } in r) e

-- The report of a turn at a delivery that is no failure and answered nothing: one turn, and what was sent.
pub silent_reported : (d : Delivery) (ds : List Decision) (given : DriveReport) → count_by is_failed_delivery (d ∷ []) ≡ 0 → given ≡ given_report ds given.failed_sends →
    (let r : DriveReport = record { turns = 1; sent = given.sent; keep_alives = given.keep_alives; answered = given.answered; failed_receives = given.failed_receives; failed_sends = given.failed_sends; lost = given.lost } in r)
    ≡ drive_report_of (d ∷ []) ds 0 given.failed_sends
silent_reported d ds given well e =
    ap (λ (q : DriveReport). let r : DriveReport = record { turns = 1; sent = q.sent; keep_alives = q.keep_alives; answered = q.answered; failed_receives = q.failed_receives; failed_sends = given.failed_sends; lost = q.lost } in r) e
    ∙ ap (λ f. let r : DriveReport = record { turns = 1; sent = count_by gives_command ds; keep_alives = count_by is_keep_alive ds; answered = 0; failed_receives = f; failed_sends = given.failed_sends; lost = list_any decides_lost ds } in r) (sym well)

-- The report of a turn at a failed receive: one turn and one failed receive.
pub failed_reported : (given : DriveReport) → given ≡ given_report [] 0 →
    (let r : DriveReport = record { turns = 1; sent = given.sent; keep_alives = given.keep_alives; answered = given.answered; failed_receives = 1; failed_sends = given.failed_sends; lost = given.lost } in r)
    ≡ drive_report_of (Failed ∷ []) [] 0 given.failed_sends
failed_reported given e =
    ap (λ (q : DriveReport). let r : DriveReport = record { turns = 1; sent = q.sent; keep_alives = q.keep_alives; answered = q.answered; failed_receives = 1; failed_sends = given.failed_sends; lost = q.lost } in r) e

-- A datagram of at most 1,472 bytes that the link received was heard.
pub heard_datagram : (from : Peer) (bytes : List ℕ) (now : ℕ) (old mid : LinkState) (answer : Reception) (n : ℕ) → length bytes ≤ 1472 → ReceivesDatagram from bytes now old answer mid → n ≡ answered_by answer →
    HearsDatagram from bytes now old mid n
heard_datagram from bytes now old mid answer n short received count = record {
  short = λ _. (answer, received, count);
  long = λ over. absurd (omega arith);
}

-- A received datagram leaves the link's device as it is.
pub same_device : (from : Peer) (bytes : List ℕ) (now : ℕ) (old mid : LinkState) (answer : Reception) → ReceivesDatagram from bytes now old answer mid → mid.device ≡ old.device
same_device from bytes now old mid answer received = ap (λ (l : LinkState). l.device) received.link_is

-- one was heard, and what was due then sent
heard_one : (x : Delivery) {h : Heard} {held : List ℕ} {old new : LinkState} {e f g : EndState} {ds : List Decision} {n : ℕ} {r : DriveReport} →
    Receives h held e f → (IsTrue e.tells → f.delivered ≡ e.delivered ++ x ∷ []) → count_by is_failed_delivery (x ∷ []) ≡ cond (is_failed h) 1 0 →
    SendsAllBut r.failed_sends f g (all_given_to old.device ds) → DrivesTurn x old new ds n → r ≡ drive_report_of (x ∷ []) ds n r.failed_sends → new.device ≡ old.device →
    DrivesOnce old new e g r
heard_one x {h} {held} {old} {new} {e} {f} {g} {ds} {n} {r} heard grew failed sent drives reported device = record {
  delivery = x;
  decisions = ds;
  answered = n;
  drives = drives;
  reported = reported;
  runs = subst (λ (k : ℕ). DeliversAndTakes (x ∷ []) (all_given_to old.device ds) k r.failed_sends e g) (sym (ap (λ (q : DriveReport). q.failed_receives) reported ∙ failed)) (runs_one x heard sent grew);
  device = device;
  receives = sent.receives ∙ heard.receives;
}

module _ {e f g : EndState} {held : List ℕ} {now : ℕ} (given : DriveReport) where
  pub datagram_turn : {old mid new : LinkState} {from : Peer} (bytes : List ℕ) (answer : Reception) (n : ℕ) → length bytes ≤ 1472 → bytes ≡ held → Receives (heard.Datagram from now) held e f →
      ReceivesDatagram from bytes now old answer mid → n ≡ answered_by answer → SendsDue now (mid.span + 1) mid new f g given →
      DrivesOnce old new e g (record { turns = 1; sent = given.sent; keep_alives = given.keep_alives; answered = n; failed_receives = given.failed_receives; failed_sends = given.failed_sends; lost = given.lost })
  datagram_turn {old} {mid} {new} {from} bytes answer n short same h received count gave =
      let device = same_device from bytes now old mid answer received in
      let ds = decisions_from now (mid.span + 1) mid in
      heard_one (Datagram from bytes now) h (λ told. h.delivered told ∙ ap (λ (xs : List ℕ). e.delivered ++ Datagram from xs now ∷ []) (sym same)) refl
      (subst (λ (p : Peer). SendsAllBut given.failed_sends f g (all_given_to p ds)) device gave.sends)
      (record { between = mid; hears = heard_datagram from bytes now old mid answer n short received count; gives = (refl, gave.link) })
      (datagram_reported from bytes now ds n given gave.reported) (gave.device ∙ device)

  pub quiet_turn : {old new : LinkState} → Receives (heard.Quiet now) held e f → SendsDue now (old.span + 1) old new f g given →
      DrivesOnce old new e g (record { turns = 1; sent = given.sent; keep_alives = given.keep_alives; answered = given.answered; failed_receives = given.failed_receives; failed_sends = given.failed_sends; lost = given.lost })
  quiet_turn {old} {new} h gave =
      heard_one (Quiet now) h h.delivered refl gave.sends (record { between = old; hears = (refl, refl); gives = (refl, gave.link) })
      (silent_reported (Quiet now) (decisions_from now (old.span + 1) old) given refl gave.reported) gave.device

  pub oversize_turn : {old new : LinkState} → Receives (heard.Oversize now) held e f → SendsDue now (old.span + 1) old new f g given →
      DrivesOnce old new e g (record { turns = 1; sent = given.sent; keep_alives = given.keep_alives; answered = given.answered; failed_receives = given.failed_receives; failed_sends = given.failed_sends; lost = given.lost })
  oversize_turn {old} {new} h gave =
      let d = oversize_heard h in
      let over = d.above in
      heard_one (Datagram d.from d.long now) h d.grew refl gave.sends
      (record { between = old; hears = record { short = λ fits. absurd (omega arith); long = λ _. (refl, refl) }; gives = (refl, gave.link) })
      (silent_reported (Datagram d.from d.long now) (decisions_from now (old.span + 1) old) given refl gave.reported) gave.device

-- A turn of the loop at a failed receive leaves the link as it was and counts that receive.
pub failed_turn : {e f : EndState} {held : List ℕ} (given : DriveReport) (l : LinkState) → Receives heard.Failed held e f → given ≡ given_report [] 0 →
    DrivesOnce l l e f (record { turns = 1; sent = given.sent; keep_alives = given.keep_alives; answered = given.answered; failed_receives = 1; failed_sends = given.failed_sends; lost = given.lost })
failed_turn {e} {f} given l h none =
    heard_one Failed h h.delivered refl (subst (λ (k : ℕ). SendsAllBut k f f []) (sym (ap (λ (q : DriveReport). q.failed_sends) none)) (sends_none f))
    (record { between = l; hears = (refl, refl); gives = (refl, refl) }) (failed_reported given none) refl

-- A loop that a lost link ended received once a turn.
pub receives_lost : (r : DriveReport) (turns : ℕ) → r.lost ≡ true → receives_driven r turns ≡ r.turns
receives_lost r turns lost = ap (λ b. r.turns + cond (nat_lt r.turns turns && not b) 1 0) lost ∙ ap (λ b. r.turns + cond b 1 0) (and-false (nat_lt r.turns turns)) ∙ add-zero r.turns

-- A loop that ended before all its turns with a link that is not lost received once more than it took turns.
pub receives_closed : (r : DriveReport) (turns : ℕ) → r.lost ≡ false → r.turns < turns → receives_driven r turns ≡ r.turns + 1
receives_closed r turns going below = ap (λ b. r.turns + cond (b && not r.lost) 1 0) (lt-ltb r.turns turns below) ∙ ap (λ b. r.turns + cond (not b) 1 0) going

-- A loop that took all its turns received once a turn.
pub receives_all : (r : DriveReport) (turns : ℕ) → turns ≤ r.turns → receives_driven r turns ≡ r.turns
receives_all r turns over = ap (λ b. r.turns + cond (b && not r.lost) 1 0) (le-ltb r.turns turns over) ∙ add-zero r.turns

-- a sum that fits
pub sum_fits : (a b r : DriveReport) → IsReportWithin 18446744069414584320 a → IsReportWithin 4294967295 b → r ≡ drive_report_capped (drive_report_sum a b) → r ≡ drive_report_sum a b
sum_fits a b r p q e =
    e ∙ made _ _ _ _ _ _ _ _ _ _ _ _ (a.lost || b.lost) (fits a.turns b.turns p.turns q.turns) (fits a.sent b.sent p.sent q.sent) (fits a.keep_alives b.keep_alives p.keep_alives q.keep_alives)
    (fits a.answered b.answered p.answered q.answered) (fits a.failed_receives b.failed_receives p.failed_receives q.failed_receives) (fits a.failed_sends b.failed_sends p.failed_sends q.failed_sends)
  where
    fits : (m n : ℕ) → m ≤ 18446744069414584320 → n ≤ 4294967295 → min (m + n) 18446744073709551615 ≡ m + n
    fits m n p q = omega arith

    made : (t t' s s' k k' n n' f f' g g' : ℕ) (l : Bool) → t ≡ t' → s ≡ s' → k ≡ k' → n ≡ n' → f ≡ f' → g ≡ g' →
        (let x : DriveReport = record { turns = t; sent = s; keep_alives = k; answered = n; failed_receives = f; failed_sends = g; lost = l } in x)
        ≡ (let x : DriveReport = record { turns = t'; sent = s'; keep_alives = k'; answered = n'; failed_receives = f'; failed_sends = g'; lost = l } in x)
    made t t' s s' k k' n n' f f' g g' l e1 e2 e3 e4 e5 e6 = cc

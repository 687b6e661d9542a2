-- What is done with a link over an end is a run.
use Rattle.oca_control.proofs.Words.{◌≡◌, ℕ, ◌+◌, ◌*◌, ◌<◌, ◌≤◌, Bool, true, false, cond, max, List, [], ◌∷◌, ◌++◌, length, Result, Ok, Err, refl, sym, ap, ◌∙◌, subst, inl, inr, append_assoc}
use Rattle.oca_control.proofs.Words.{append-nil, arith, IsTrue, flat_map-append, Peer, Handle, RequestFields, Delivery, Datagram, EndState, ControlFault, Outcome, DriveReport, LinkState, Decision}
use Rattle.oca_control.proofs.Words.{late_at, Call, IsHistory, Drives, NoTurn, OneMore, DrivesEnd, Turns, GivesIf, SendsInTime, TakesTurns, NoneTaken, OneTaken, Waits, Begins, Asks, HasOutcome}
use Rattle.oca_control.proofs.Words.{TakesTurnsBefore, WaitsUntil, NothingIsLeft, HaveTimeLeft, delivered_at, moments_delivered, AreWithin, ReturnsWithin, IsRun, NothingDone, DroveATurn, TookATurn}
use Rattle.oca_control.proofs.Words.{SentAllDue, SentAllInTime, Began, Took, RunsOver, begun_at, EveryCallRuns, EveryOwnReceiveRuns, EveryRunGoesOn, IsAsked, EveryScriptIsKept, on_bool}
use Rattle.oca_net.specs.Memory.{MemoryState, state_of_memory, after_next, after_receive}
use Rattle.oca_control.specs.declared.outcome.Outcome.TheVariants as outcomes
use Rattle.oca_control.specs.Driving.{SendsDue, link_from}
use Rattle.oca_control.specs.Waiting as waiting
use Rattle.oca_control.proofs.Asked.{run_asked}

one_further : (ds : List Delivery) (d : Delivery) → moments_delivered (ds ++ d ∷ []) ≡ moments_delivered ds ++ delivered_at d
one_further ds d = flat_map-append delivered_at ds (d ∷ []) ∙ ap (λ zs. moments_delivered ds ++ zs) (append-nil (delivered_at d))

drives_run : {ds : List Delivery} {old new : LinkState} {gs : List Decision} {n : ℕ} → Drives ds old new gs n → IsRun (moments_delivered ds) old new
drives_run NoTurn = NothingDone
drives_run (OneMore {ds = ds} {old = old} {new = new} d before going turn) = subst (λ (ts : List ℕ). IsRun ts old new) (sym (one_further ds d)) (DroveATurn d (drives_run before) turn)

-- first one, then another
run_both : {ts us : List ℕ} {a b c : LinkState} → IsRun ts a b → IsRun us b c → IsRun (ts ++ us) a c
run_both {ts = ts} {a = a} first (NothingDone {l = l}) = subst (λ (xs : List ℕ). IsRun xs a l) (sym (append-nil ts)) first
run_both {ts = ts} {a = a} first (DroveATurn {ts = us} {new = c} d run turn) = subst (λ (xs : List ℕ). IsRun xs a c) (append_assoc ts us (delivered_at d)) (DroveATurn d (run_both first run) turn)
run_both {ts = ts} {a = a} first (TookATurn {ts = us} {new = c} d run turn) = subst (λ (xs : List ℕ). IsRun xs a c) (append_assoc ts us (delivered_at d)) (TookATurn d (run_both first run) turn)
run_both {ts = ts} {a = a} first (SentAllDue {ts = us} {new = c} now run made) = subst (λ (xs : List ℕ). IsRun xs a c) (append_assoc ts us (now ∷ [])) (SentAllDue now (run_both first run) made)
run_both {ts = ts} {a = a} first (SentAllInTime {ts = us} {new = c} now run made) = subst (λ (xs : List ℕ). IsRun xs a c) (append_assoc ts us (now ∷ [])) (SentAllInTime now (run_both first run) made)
run_both {ts = ts} {a = a} first (Began {ts = us} {new = c} request now h run is made) =
    subst (λ (xs : List ℕ). IsRun xs a c) (append_assoc ts us (now ∷ [])) (Began request now h (run_both first run) is made)
run_both first (Took h run made) = Took h (run_both first run) made

over_both : {begun : List ℕ} {a b c : LinkState} {d e f : EndState} → RunsOver begun a b d e → RunsOver [] b c e f → RunsOver begun a c d f
over_both {begun} {a} {b} {c} {d} {e} {f} x y = record {
  deliveries = x.deliveries ++ y.deliveries;
  run = subst (λ (ts : List ℕ). IsRun ts a c)
      (append_assoc begun (moments_delivered x.deliveries) (moments_delivered y.deliveries) ∙ ap (λ zs. begun ++ zs) (sym (flat_map-append delivered_at x.deliveries y.deliveries))) (run_both x.run y.run);
  telling = y.telling ∙ x.telling;
  delivered = λ tells. y.delivered (subst IsTrue (sym x.telling) tells) ∙ ap (λ zs. zs ++ y.deliveries) (x.delivered tells) ∙ append_assoc d.delivered x.deliveries y.deliveries;
}

-- nothing was received
over_none : (begun : List ℕ) (a b : LinkState) (d e : EndState) → IsRun begun a b → e.tells ≡ d.tells → (IsTrue d.tells → e.delivered ≡ d.delivered) → RunsOver begun a b d e
over_none begun a b d e run telling same = record {
  deliveries = [];
  run = subst (λ (ts : List ℕ). IsRun ts a b) (sym (append-nil begun)) run;
  telling = telling;
  delivered = λ tells. same tells ∙ sym (append-nil d.delivered);
}

drive_runs : (old new : LinkState) (e f : EndState) (r : DriveReport) → DrivesEnd old new e f r → RunsOver [] old new e f
drive_runs old new e f r x = record { deliveries = x.deliveries; run = drives_run x.drives; telling = x.runs.telling; delivered = x.runs.delivered }

turn_runs : (old new : LinkState) (e f : EndState) (r : DriveReport) → Turns old new e f r → RunsOver [] old new e f
turn_runs old new e f r (inl x) = record {
  deliveries = x.delivery ∷ [];
  run = subst (λ (ts : List ℕ). IsRun ts old new) (sym (append-nil (delivered_at x.delivery))) (TookATurn x.delivery NothingDone x.turns);
  telling = x.runs.telling;
  delivered = x.runs.delivered;
}
turn_runs old new e f r (inr x) = over_none [] old new e f (subst (λ (l : LinkState). IsRun [] old l) (sym x.link) NothingDone) x.received.telling x.received.delivered

send_due_runs : (now : ℕ) (old new : LinkState) (e f : EndState) (r : DriveReport) → SendsDue now (old.span + 1) old new e f r → RunsOver (now ∷ []) old new e f
send_due_runs now old new e f r x = over_none (now ∷ []) old new e f (SentAllDue now NothingDone x.link) x.sends.telling x.sends.delivered

send_in_time_runs : (now : ℕ) (old new : LinkState) (e f : EndState) (r : DriveReport) → SendsInTime now old new e f r → RunsOver (now ∷ []) old new e f
send_in_time_runs now old new e f r k = on_bool (late_at now old) (λ b. late_at now old ≡ b → GivesIf b now old new e f r → RunsOver (now ∷ []) old new e f)
    (λ q x. over_none (now ∷ []) old new e f (run true q x.0) (ap (λ (y : EndState). y.tells) x.1) (λ tells. ap (λ (y : EndState). y.delivered) x.1))
    (λ q x. over_none (now ∷ []) old new e f (run false q x.link) x.sends.telling x.sends.delivered) refl k
  where
    run : (b : Bool) → late_at now old ≡ b → new ≡ cond b old (link_from now (old.span + 1) old) → IsRun (now ∷ []) old new
    run b q made = SentAllInTime now NothingDone (made ∙ ap (λ c. cond c old (link_from now (old.span + 1) old)) (sym q))

turns_run : {h n : ℕ} {lost : Bool} {old new : LinkState} {e f : EndState} → TakesTurns h n lost old new e f → RunsOver [] old new e f
turns_run (NoneTaken {l = l} {e = e}) = over_none [] l l e e NothingDone refl (λ tells. refl)
turns_run (OneTaken {l = l} {new = new} {e = e} {f = f} before none going turn) = over_both (turns_run before) (turn_runs l new e f turn.report turn.turns)

wait_runs : (h turns : ℕ) (old new : LinkState) (o : Outcome) (e f : EndState) → Waits h turns old o new e f → RunsOver [] old new e f
wait_runs h turns old new (outcomes.Answered a) e f w =
    let r = turns_run w.4 in
    record { deliveries = r.deliveries; run = Took h r.run w.6; telling = r.telling; delivered = r.delivered }
wait_runs h turns old new (outcomes.Refused fault) e f w = absurd w
wait_runs h turns old new outcomes.Lost e f w = turns_run w.3
wait_runs h turns old new outcomes.Unanswered e f w = turns_run w.0

turns_before_run : {h until n : ℕ} {late closed : Bool} {old new : LinkState} {e f : EndState} → TakesTurnsBefore h until n late closed old new e f → RunsOver [] old new e f
turns_before_run (waiting.NoTurn {l = l} {e = e}) = over_none [] l l e e NothingDone refl (λ tells. refl)
turns_before_run (waiting.OneTurn {l = l} {new = new} {e = e} {f = f} before none going time turn) = over_both (turns_before_run before) (turn_runs l new e f turn.report turn.turns)

wait_until_runs : (h until : ℕ) (old new : LinkState) (o : Outcome) (e f : EndState) → WaitsUntil h until old o new e f → RunsOver [] old new e f
wait_until_runs h until old new (outcomes.Answered a) e f w =
    let r = turns_before_run w.5 in
    record { deliveries = r.deliveries; run = Took h r.run w.7; telling = r.telling; delivered = r.delivered }
wait_until_runs h until old new (outcomes.Refused fault) e f w = absurd w
wait_until_runs h until old new outcomes.Lost e f w = turns_before_run w.4
wait_until_runs h until old new outcomes.Unanswered e f w = turns_before_run w.3

begin_runs : (request : RequestFields) (returned : Result Handle ControlFault) (old new : LinkState) (e f : EndState) (b : Begins request returned old new e f) → RunsOver (begun_at returned b.now) old new e f
begin_runs request (Err fault) old new e f b =
    over_none [] old new e f (subst (λ (l : LinkState). IsRun [] old l) (sym b.gives.0) NothingDone) (ap (λ (x : EndState). x.tells) b.gives.1) (λ tells. ap (λ (x : EndState). x.delivered) b.gives.1)
begin_runs request (Ok h) old new e f b =
    over_none (b.now ∷ []) old new e f (Began request b.now h NothingDone (sym b.answer) b.gives.1.link) b.gives.1.sends.telling b.gives.1.sends.delivered

ask_runs : (request : RequestFields) (turns : ℕ) (old new : LinkState) (o : Outcome) (e f : EndState) (a : Asks request turns old o new e f) → RunsOver (begun_at a.returned a.begins.now) old new e f
ask_runs request turns old new o e f a = over_both (begin_runs request a.returned old a.link e a.end_then a.begins) (by a.returned a.outcome_is)
  where
    by : (returned : Result Handle ControlFault) → HasOutcome turns returned a.link o new a.end_then f → RunsOver [] a.link new a.end_then f
    by (Ok h) w = wait_runs h.0 turns a.link new o a.end_then f w
    by (Err fault) w =
        over_none [] a.link new a.end_then f (subst (λ (l : LinkState). IsRun [] a.link l) (sym w.1) NothingDone) (ap (λ (x : EndState). x.tells) w.2) (λ tells. ap (λ (x : EndState). x.delivered) w.2)

-- What `datagram` and then `send_in_time` at the same moment make of a link is a run.
pub own_receive_runs : EveryOwnReceiveRuns
own_receive_runs from bytes now returned old l new e f r fits received k = TookATurn (Datagram from bytes now) NothingDone (record {
  between = l;
  hears = record { short = λ _. (returned, received, refl); long = λ over. absurd (never (length bytes) fits over) };
  gives = (refl, by (late_at now l) refl k);
})
  where
    never : (n : ℕ) → n ≤ 1472 → 1472 < n → ⊥
    never n p q = omega arith

    by : (b : Bool) → late_at now l ≡ b → GivesIf b now l new e f r → new ≡ cond (late_at now l) l (link_from now (l.span + 1) l)
    by true q x = x.0 ∙ ap (λ c. cond c l (link_from now (l.span + 1) l)) (sym q)
    by false q x = x.link ∙ ap (λ c. cond c l (link_from now (l.span + 1) l)) (sym q)

-- One run and then another are a run.
pub runs_on : EveryRunGoesOn
runs_on moments later old l new first then = run_both first then

-- What each call over an end makes of a link is a run over that end.
pub every_call : EveryCallRuns
every_call = record { of_drive = drive_runs; of_turn = turn_runs; of_send_due = send_due_runs; of_send_in_time = send_in_time_runs; of_wait = wait_runs; of_wait_until = wait_until_runs; of_begin = begin_runs; of_ask = ask_runs }

-- A link whose span is not 0 and that has nothing left to send, and then runs over an end that tells and whose
-- receives return within `ms`, at most 500, is asked every `ms`, unless it is lost at the end.
pub end_serves : (device : Peer) (first opened span ms : ℕ) (before : List Call) (old new : LinkState) (begun : List ℕ) (e f : EndState) → 0 < span → 20 * (250 + ms) ≤ 15000 → IsHistory device first opened span before old →
    NothingIsLeft old → HaveTimeLeft ms old → RunsOver begun old new e f → IsTrue e.tells → ReturnsWithin ms old.moment begun e f → new.lost ≡ false → IsAsked ms old.moment old new
end_serves device first opened span ms before old new begun e f some short p left time x tells returns going =
    run_asked device first opened span ms before old new (begun ++ moments_delivered x.deliveries) some short p left time x.run (returns x.deliveries (x.delivered tells)) going

-- ---- an end in memory

received_whole : (e : MemoryState) → (after_receive e).delivered ++ (after_receive e).to_come ≡ e.delivered ++ e.to_come
received_whole e = by e.to_come refl
  where
    by : (x : List Delivery) → e.to_come ≡ x → (after_next x e).delivered ++ (after_next x e).to_come ≡ e.delivered ++ x
    by [] q = ap (λ xs. e.delivered ++ xs) q
    by (d ∷ rest) q = append_assoc e.delivered (d ∷ []) rest

cancel : (xs ys zs : List Delivery) → xs ++ ys ≡ xs ++ zs → ys ≡ zs
cancel [] ys zs e = e
cancel (x ∷ xs) ys zs e = cancel xs ys zs (tails (xs ++ ys) (xs ++ zs) e)
  where
    tails : (us vs : List Delivery) → x ∷ us ≡ x ∷ vs → us ≡ vs
    tails us vs e = cc

within_first : (ms since : ℕ) (ts us : List ℕ) → AreWithin ms since (ts ++ us) → AreWithin ms since ts
within_first ms since [] us w = tt
within_first ms since (t ∷ ts) us w = (w.0, within_first ms (max since t) ts us w.1)

script_within : (ms since : ℕ) (e f : MemoryState) → f.delivered ++ f.to_come ≡ e.delivered ++ e.to_come → AreWithin ms since (moments_delivered e.to_come) → ReturnsWithin ms since [] (state_of_memory e) (state_of_memory f)
script_within ms since e f whole within ds grew =
    let rest : ds ++ f.to_come ≡ e.to_come = cancel e.delivered (ds ++ f.to_come) e.to_come (sym (append_assoc e.delivered ds f.to_come) ∙ ap (λ xs. xs ++ f.to_come) (sym grew) ∙ whole) in
    within_first ms since (moments_delivered ds) (moments_delivered f.to_come)
    (subst (λ (ts : List ℕ). AreWithin ms since ts) (sym (ap moments_delivered rest) ∙ flat_map-append delivered_at ds f.to_come) within)

-- A receive and a send leave what an end in memory delivered and will deliver as a whole; so its receives return within
-- so many ms where the moments of its script do.
pub every_script : EveryScriptIsKept
every_script = record { receiving = received_whole; sending = λ e to bytes. refl; within = script_within }

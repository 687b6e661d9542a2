-- Noted each step of serving does to a device that is in a state.
use Rattle.oca_device.proofs.Words.{◌≡◌, ℕ, ◌+◌, ◌≤◌, ◌<◌, Bool, true, false, cond, List, [], ◌∷◌, ◌++◌, length, refl, sym, ap, ◌∙◌, subst, arith, min, max, nat_lt, ◌||◌, IfSome, Option, Some, None}
use Rattle.oca_device.proofs.Words.{IsSome, Result, Ok, map, lt-ltb, le-ltb, append_assoc, append-nil, length-map, le-max_left, Peer, DeviceSizes, Msg, Command, Response, KeepAlive, Pdu, Entry}
use Rattle.oca_device.proofs.Words.{retained_of, AgreesWithAccepted, Judgement, Fresh, Duplicate, Reused, Old, Session, Table, session_of, with_changed, opened_session, heard_at, with_heartbeat}
use Rattle.oca_device.proofs.Words.{with_accepted, with_sessions, with_moment_and_sessions, present, lapsed, staying, peers_of, Hears, AgreesAt, PduFault, Empty, Counts, Noted, Admitted, Heartbeat}
use Rattle.oca_device.proofs.Words.{Executed, Note, run, is_noted, noted_peers, last_noted, heartbeat_noted, accepted, State, noted, moved_to, lapsed_at, admits, judged_in, reply_of, after_command}
use Rattle.oca_device.proofs.Words.{after_message, after_messages, after_reading, time_of, state_after, known_after, with_answers, encodings, counts, plus, answer_to, answers_to_messages, packets_of}
use Rattle.oca_device.proofs.Words.{count_of_message, counts_of_messages, answers_to_reading, verdict_of_reading, served, Object, Event, KeptPackets, first_packets, written_by_message}
use Rattle.oca_device.proofs.Words.{written_by_messages, written_by_reading, Effect, effects_of_message, effects_of_messages, effects_of_reading, DeviceState, session_within, table_within, IsIn}
use Rattle.oca_device.proofs.Words.{RepresentsWithin, ServesMessage, ServesMessages, TakesDatagram, shortened_entry, shortened_entries, shortened_answers, on_bool}
use Rattle.std.specs.Prelude.{slice_get}
use Rattle.oca_session.specs.declared.sessions.Admission.TheVariants as heard
use Rattle.oca_pdu.specs.Reading.{read_datagram}
use Rattle.oca_device.specs.declared.verdict.Verdict.TheVariants as verdicts
use Rattle.oca_device.proofs.Grouping.{answers_both}
use Rattle.oca_device.proofs.Rooms.{answers_joined, none_answered, entries_more}
use Rattle.oca_device.proofs.Runs.{table_moved, lapsed_moved, session_known, table_noted, table_opened, run_goes_on, run_begins}

abbrev session_in : ℕ → DeviceSizes → Peer → ℕ → List Note → Session
session_in most w p t own = record { peer = p; heard = t; heartbeat = heartbeat_noted own; retained = retained_of w.window (shortened_entries most (accepted own)) }

abbrev table_at : DeviceSizes → ℕ → List Session → Table
table_at w t ss = record { sizes = w; moment = t; sessions = ss }

-- ---- the clock moves

pub clock_moved : (most : ℕ) (w : DeviceSizes) (now : ℕ) (s : State) (old new : Table) (peers : List Peer) → old ≡ table_within most w s →
    peers ≡ lapsed (present old now) old.sessions → new ≡ with_moment_and_sessions old (present old now) (staying (present old now) old.sessions) →
    (peers ≡ lapsed_at (max s.moment now) s) × (new ≡ table_within most w (moved_to (max s.moment now) s))
clock_moved most w now s old new peers was gone is = (
  gone ∙ ap (λ (t : Table). lapsed (present t now) t.sessions) was ∙ lapsed_moved most w (max s.moment now) s,
  is ∙ ap (λ (t : Table). with_moment_and_sessions t (present t now) (staying (present t now) t.sessions)) was ∙ table_moved most w (max s.moment now) s (le-max_left s.moment now),
)

-- ---- what is known of the peers in the table

some_known : {X : Type 0} (b : Bool) (x : X) → IsSome (cond b (Some x) None) → b ≡ true
some_known true x h = refl
some_known false x h = cc

none_known : {X : Type 0} (b : Bool) (x : X) → cond b (Some x) None ≡ None → b ≡ false
none_known true x h = cc
none_known false x h = refl

-- a peer with a session is known
pub known_there : (most : ℕ) (w : DeviceSizes) (s : State) (p : Peer) (old : Table) → old ≡ table_within most w s → IsSome (session_of p old.sessions) → is_noted s.moment s.notes p ≡ true
known_there most w s p old was h =
    some_known (is_noted s.moment s.notes p) (session_within most w s.notes p)
    (subst (λ (o : Option Session). IsSome o) (ap (λ (x : Table). session_of p x.sessions) was ∙ session_known most w s p) h)

new_there : (most : ℕ) (w : DeviceSizes) (s : State) (p : Peer) (old : Table) → old ≡ table_within most w s → session_of p old.sessions ≡ None → is_noted s.moment s.notes p ≡ false
new_there most w s p old was h =
    none_known (is_noted s.moment s.notes p) (session_within most w s.notes p) (sym (ap (λ (x : Table). session_of p x.sessions) was ∙ session_known most w s p) ∙ h)

-- the session of a known peer retains what is that of the accepted commands of its run
pub agrees_there : (most : ℕ) (w : DeviceSizes) (s : State) (p : Peer) (old : Table) → old ≡ table_within most w s → is_noted s.moment s.notes p ≡ true →
    AgreesAt p w.window (shortened_entries most (accepted (run p s.notes))) old.sessions
agrees_there most w s p old was k =
    let P : Option Session → Type 0 = λ o. IfSome o (λ x. AgreesWithAccepted w.window (shortened_entries most (accepted (run p s.notes))) x.retained) in
    subst P (sym (ap (λ (x : Table). session_of p x.sessions) was ∙ session_known most w s p ∙ ap (λ b. cond b (Some (session_within most w s.notes p)) None) k)) refl

-- ---- a peer is let in

admitted_known : (most : ℕ) (w : DeviceSizes) (s : State) (p : Peer) (ms : List Msg) → is_noted s.moment s.notes p ≡ true →
    with_moment_and_sessions (table_within most w s) s.moment (with_changed p (heard_at s.moment) (table_within most w s).sessions) ≡ table_within most w (noted p (Admitted ms) s)
admitted_known most w s p ms k =
    let n : Note = record { peer = p; at = s.moment; what = Admitted ms } in
    ap (table_at w s.moment) (table_noted most w s p (Admitted ms) (heard_at s.moment) k
    (ap (λ (own : List Note). session_in most w p (last_noted own) own) (sym (run_goes_on n s.notes k))))

admitted_new : (most : ℕ) (w : DeviceSizes) (s : State) (p : Peer) (ms : List Msg) → is_noted s.moment s.notes p ≡ false →
    with_moment_and_sessions (table_within most w s) s.moment ((table_within most w s).sessions ++ opened_session w.window p s.moment ∷ []) ≡ table_within most w (noted p (Admitted ms) s)
admitted_new most w s p ms k = ap (table_at w s.moment) (table_opened most w s p ms k)

count_known : (most : ℕ) (w : DeviceSizes) (s : State) (old : Table) → old ≡ table_within most w s → length old.sessions ≡ length (noted_peers s.moment s.notes)
count_known most w s old was = ap (λ (x : Table). length x.sessions) was ∙ length-map (noted_peers s.moment s.notes) (session_within most w s.notes)

-- the sessions of a device are as many as the peers that are known
pub known_counted : (most : ℕ) (w : DeviceSizes) (d : DeviceState) (tree : List Object) (events : List Event) → RepresentsWithin most w d tree events →
    length d.sessions.sessions ≡ length (known_after (state_after w tree events))
known_counted most w d tree events h = count_known most w (state_after w tree events) d.sessions h.state.sessions

peers_noted : (most : ℕ) (w : DeviceSizes) (s : State) (ps : List Peer) → peers_of (map (session_within most w s.notes) ps) ≡ ps
peers_noted most w s [] = refl
peers_noted most w s (p ∷ ps) = ap (λ (qs : List Peer). p ∷ qs) (peers_noted most w s ps)

-- and their peers are these
pub known_at : (most : ℕ) (w : DeviceSizes) (d : DeviceState) (tree : List Object) (events : List Event) (i : ℕ) → RepresentsWithin most w d tree events →
    slice_get (peers_of d.sessions.sessions) i ≡ slice_get (known_after (state_after w tree events)) i
known_at most w d tree events i h =
    let s = state_after w tree events in
    ap (λ (x : Table). slice_get (peers_of x.sessions) i) h.state.sessions
    ∙ ap (λ (ps : List Peer). slice_get ps i) (peers_noted most w s (noted_peers s.moment s.notes))

-- a moment that is not later than the clock's
pub present_is : (most : ℕ) (w : DeviceSizes) (s : State) (old : Table) (now : ℕ) → old ≡ table_within most w s → now ≤ old.moment → present old now ≡ s.moment
present_is most w s old now was le = not_later old.moment now s.moment le (ap (λ (x : Table). x.moment) was)
  where
    not_later : (m now n : ℕ) → now ≤ m → m ≡ n → max m now ≡ n
    not_later m now n le e = omega arith

pub hears_known : (most : ℕ) (w : DeviceSizes) (s : State) (p : Peer) (t : ℕ) (old new : Table) → old ≡ table_within most w s → t ≡ s.moment → Hears p t old heard.Known new →
    (true ≡ admits w s p) × ((ms : List Msg) → new ≡ table_within most w (noted p (Admitted ms) s))
hears_known most w s p t old new was now h =
    let k = known_there most w s p old was h.0 in (
      sym (ap (λ b. b || nat_lt (length (noted_peers s.moment s.notes)) w.peers) k),
      λ ms. h.1 ∙ ap (λ (u : ℕ). with_moment_and_sessions old u (with_changed p (heard_at u) old.sessions)) now
          ∙ ap (λ (x : Table). with_moment_and_sessions x s.moment (with_changed p (heard_at s.moment) x.sessions)) was
          ∙ admitted_known most w s p ms k,
    )

pub hears_opened : (most : ℕ) (w : DeviceSizes) (s : State) (p : Peer) (t : ℕ) (old new : Table) → old ≡ table_within most w s → t ≡ s.moment → Hears p t old heard.Opened new →
    (true ≡ admits w s p) × ((ms : List Msg) → new ≡ table_within most w (noted p (Admitted ms) s))
hears_opened most w s p t old new was now h =
    let k = new_there most w s p old was h.0 in
    let few : length (noted_peers s.moment s.notes) < w.peers =
    subst (λ (n : ℕ). n < w.peers) (count_known most w s old was) (subst (λ (n : ℕ). length old.sessions < n) (ap (λ (x : Table). x.sizes.peers) was) h.1) in (
      sym (ap (λ b. b || nat_lt (length (noted_peers s.moment s.notes)) w.peers) k ∙ lt-ltb (length (noted_peers s.moment s.notes)) w.peers few),
      λ ms. h.2 ∙ ap (λ (u : ℕ). with_moment_and_sessions old u (old.sessions ++ opened_session old.sizes.window p u ∷ [])) now
          ∙ ap (λ (x : Table). with_moment_and_sessions x s.moment (x.sessions ++ opened_session x.sizes.window p s.moment ∷ [])) was
          ∙ admitted_new most w s p ms k,
    )

pub hears_no_room : (most : ℕ) (w : DeviceSizes) (s : State) (p : Peer) (t : ℕ) (old new : Table) → old ≡ table_within most w s → t ≡ s.moment → Hears p t old heard.NoRoom new →
    (false ≡ admits w s p) × (new ≡ table_within most w s)
hears_no_room most w s p t old new was now h =
    let k = new_there most w s p old was h.0 in
    let many : w.peers ≤ length (noted_peers s.moment s.notes) =
    subst (λ (n : ℕ). w.peers ≤ n) (count_known most w s old was) (subst (λ (n : ℕ). n ≤ length old.sessions) (ap (λ (x : Table). x.sizes.peers) was) h.1) in (
      sym (ap (λ b. b || nat_lt (length (noted_peers s.moment s.notes)) w.peers) k ∙ le-ltb (length (noted_peers s.moment s.notes)) w.peers many),
      h.2 ∙ ap (λ (u : ℕ). with_moment_and_sessions old u old.sessions) now ∙ ap (λ (x : Table). with_moment_and_sessions x s.moment x.sessions) was,
    )

-- a peer that was let in has the present moment as its last, and is known
pub admitted_now : (s : State) (p : Peer) (ms : List Msg) → last_noted (run p (noted p (Admitted ms) s).notes) ≡ s.moment
admitted_now s p ms = on_bool (is_noted s.moment s.notes p) (λ b. is_noted s.moment s.notes p ≡ b → last_noted (run p (noted p (Admitted ms) s).notes) ≡ s.moment)
    (λ k. ap last_noted (run_goes_on (record { peer = p; at = s.moment; what = Admitted ms }) s.notes k))
    (λ k. ap last_noted (run_begins (record { peer = p; at = s.moment; what = Admitted ms }) s.notes k)) refl

-- ---- a message is served

-- a heartbeat was set
pub heartbeat_there : (most : ℕ) (w : DeviceSizes) (ms : ℕ) (s : State) (p : Peer) (old new : Table) → old ≡ table_within most w s → is_noted s.moment s.notes p ≡ true → last_noted (run p s.notes) ≡ s.moment →
    new ≡ with_sessions old (with_changed p (with_heartbeat ms) old.sessions) → new ≡ table_within most w (noted p (Heartbeat ms) s)
heartbeat_there most w ms s p old new was k now is =
    let n : Note = record { peer = p; at = s.moment; what = Heartbeat ms } in
    let own = run p s.notes in
    is ∙ ap (λ (x : Table). with_sessions x (with_changed p (with_heartbeat ms) x.sessions)) was
    ∙ ap (table_at w s.moment) (table_noted most w s p (Heartbeat ms) (with_heartbeat ms) k
    (ap (λ (t : ℕ). let x : Session = record { peer = p; heard = t; heartbeat = max 250 (min ms 30000); retained = retained_of w.window (shortened_entries most (accepted own)) } in x) now
    ∙ ap (λ (run_now : List Note). session_in most w p (last_noted run_now) run_now) (sym (run_goes_on n s.notes k))))

-- a command was executed, and its reply kept
pub executed_there : (most : ℕ) (w : DeviceSizes) (s : State) (p : Peer) (what : Noted) (e : Entry) (old new : Table) → old ≡ table_within most w s → is_noted s.moment s.notes p ≡ true → last_noted (run p s.notes) ≡ s.moment →
    ((own : List Note) (t : ℕ) → let n : Note = record { peer = p; at = t; what = what } in (heartbeat_noted (n ∷ own) ≡ heartbeat_noted own) × (accepted (n ∷ own) ≡ accepted own ++ e ∷ [])) →
    new ≡ with_sessions old (with_changed p (with_accepted w.window (shortened_entries most (accepted (run p s.notes)) ++ shortened_entry most e ∷ [])) old.sessions) → new ≡ table_within most w (noted p what s)
executed_there most w s p what e old new was k now says is =
    let n : Note = record { peer = p; at = s.moment; what = what } in
    let own = run p s.notes in
    let A = shortened_entries most (accepted own) ++ shortened_entry most e ∷ [] in
    is ∙ ap (λ (x : Table). with_sessions x (with_changed p (with_accepted w.window A) x.sessions)) was
    ∙ ap (table_at w s.moment) (table_noted most w s p what (with_accepted w.window A) k
    (ap (λ (t : ℕ). let x : Session = record { peer = p; heard = t; heartbeat = heartbeat_noted own; retained = retained_of w.window A } in x) now
    ∙ ap (λ (h : ℕ). let x : Session = record { peer = p; heard = s.moment; heartbeat = h; retained = retained_of w.window A } in x) (sym (says own s.moment).0)
    ∙ ap (λ (B : List Entry). let x : Session = record { peer = p; heard = s.moment; heartbeat = heartbeat_noted (n ∷ own); retained = retained_of w.window B } in x) (sym (entries_more most (accepted own) e))
    ∙ ap (λ (B : List Entry). let x : Session = record { peer = p; heard = s.moment; heartbeat = heartbeat_noted (n ∷ own); retained = retained_of w.window (shortened_entries most B) } in x) (sym (says own s.moment).1)
    ∙ ap (λ (run_now : List Note). session_in most w p (last_noted run_now) run_now) (sym (run_goes_on n s.notes k))))

-- ---- several messages are served

-- after a message the run's last moment is still the present one
pub message_now : (w : DeviceSizes) (s : State) (p : Peer) (m : Msg) → is_noted s.moment s.notes p ≡ true → last_noted (run p s.notes) ≡ s.moment →
    last_noted (run p (after_message w p m s).notes) ≡ (after_message w p m s).moment
message_now w s p (Command respond c) k now = by_judgement (judged_in w s p c)
  where
    by_judgement : (j : Judgement) → last_noted (run p (after_command j p c s).notes) ≡ (after_command j p c s).moment
    by_judgement Fresh = ap last_noted (run_goes_on (record { peer = p; at = s.moment; what = Executed s.tree c (reply_of s.tree p c) }) s.notes k)
    by_judgement _ = now
message_now w s p (KeepAlive form) k now = ap last_noted (run_goes_on (record { peer = p; at = s.moment; what = Heartbeat (time_of form) }) s.notes k)
message_now w s p (Response r) k now = now

-- the same numbers, sums taken
sums : (a b c d a' b' c' d' : ℕ) → a ≡ a' → b ≡ b' → c ≡ c' → d ≡ d' → counts a b c d ≡ counts a' b' c' d'
sums a b c d a' b' c' d' e f g h = cc

plus_assoc : (a b c : Counts) → plus a (plus b c) ≡ plus (plus a b) c
plus_assoc a b c = sums _ _ _ _ _ _ _ _ (omega arith) (omega arith) (omega arith) (omega arith)

pub none_more : (n : Counts) → n ≡ plus n (counts 0 0 0 0)
none_more n = sums _ _ _ _ _ _ _ _ (omega arith) (omega arith) (omega arith) (omega arith)

pub one_executed : (n : Counts) → counts (n.executed + 1) n.kept n.old n.reused ≡ plus n (counts 1 0 0 0)
one_executed n = sums _ _ _ _ _ _ _ _ (omega arith) (omega arith) (omega arith) (omega arith)

pub one_kept : (n : Counts) → counts n.executed (n.kept + 1) n.old n.reused ≡ plus n (counts 0 1 0 0)
one_kept n = sums _ _ _ _ _ _ _ _ (omega arith) (omega arith) (omega arith) (omega arith)

pub one_old : (n : Counts) → counts n.executed n.kept (n.old + 1) n.reused ≡ plus n (counts 0 0 1 0)
one_old n = sums _ _ _ _ _ _ _ _ (omega arith) (omega arith) (omega arith) (omega arith)

pub one_reused : (n : Counts) → counts n.executed n.kept n.old (n.reused + 1) ≡ plus n (counts 0 0 0 1)
one_reused n = sums _ _ _ _ _ _ _ _ (omega arith) (omega arith) (omega arith) (omega arith)

-- Part of the messages was served: the device is in a state from which the rest leads to where all lead from the first.
pub record IsHalfway (most : ℕ) (w : DeviceSizes) (p : Peer) (d : DeviceState) (rest ms : List Msg) (s : State) (before out : KeptPackets) (n : Counts) : Type 0 where
  pub mid : State
  pub device : IsIn most w d mid
  pub now : last_noted (run p mid.notes) ≡ mid.moment
  pub state_is : after_messages w p rest mid ≡ after_messages w p ms s
  pub packets_are : (room : ℕ) (groups : List Pdu) → before ≡ first_packets room (encodings groups) →
      (so_far : List Pdu) × (out ≡ first_packets room (encodings so_far)) × (with_answers so_far (shortened_answers most (answers_to_messages w p rest mid)) ≡ with_answers groups (shortened_answers most (answers_to_messages w p ms s)))
  pub counts_are : plus n (counts_of_messages w p rest mid) ≡ counts_of_messages w p ms s
  pub written_are : d.written ++ written_by_messages w p rest mid ≡ written_by_messages w p ms s
  pub effects_are : d.effects ++ effects_of_messages w p rest mid ≡ effects_of_messages w p ms s

no_counts : (n : Counts) → plus (counts 0 0 0 0) n ≡ n
no_counts n = sums _ _ _ _ _ _ _ _ (omega arith) (omega arith) (omega arith) (omega arith)

-- before the first message
pub none_served : (most : ℕ) (w : DeviceSizes) (p : Peer) (d : DeviceState) (ms : List Msg) (s : State) (before : KeptPackets) → IsIn most w d s → last_noted (run p s.notes) ≡ s.moment → d.written ≡ [] → d.effects ≡ [] →
    IsHalfway most w p d ms ms s before before (counts 0 0 0 0)
none_served most w p d ms s before h now none unserved = record {
  mid = s;
  device = h;
  now = now;
  state_is = refl;
  packets_are = λ room groups is. (groups, is, refl);
  counts_are = no_counts (counts_of_messages w p ms s);
  written_are = ap (λ (xs : List ℕ). xs ++ written_by_messages w p ms s) none;
  effects_are = ap (λ (xs : List Effect). xs ++ effects_of_messages w p ms s) unserved;
}

-- after the last
pub all_served : (most : ℕ) (w : DeviceSizes) (p : Peer) (d : DeviceState) (rest ms : List Msg) (s : State) (before out : KeptPackets) (n : Counts) → rest ≡ [] →
    IsHalfway most w p d rest ms s before out n → ServesMessages most w d p ms s before out n
all_served most w p d rest ms s before out n over h = record {
  device = subst (λ (x : State). IsIn most w d x) (sym (ap (λ xs. after_messages w p xs h.mid) over) ∙ h.state_is) h.device;
  written = sym (append-nil d.written) ∙ sym (ap (λ xs. d.written ++ written_by_messages w p xs h.mid) over) ∙ h.written_are;
  effects = sym (append-nil d.effects) ∙ sym (ap (λ xs. d.effects ++ effects_of_messages w p xs h.mid) over) ∙ h.effects_are;
  packets = λ room groups is.
      let x = h.packets_are room groups is in
      x.1 ∙ ap (λ (ps : List Pdu). first_packets room (encodings ps)) (sym (ap (λ (ms : List Msg). with_answers x.0 ms) (none_answered most)) ∙ sym (ap (λ xs. with_answers x.0 (shortened_answers most (answers_to_messages w p xs h.mid))) over) ∙ x.2);
  counts = none_more n ∙ sym (ap (λ xs. plus n (counts_of_messages w p xs h.mid)) over) ∙ h.counts_are;
}

pub one_further : (most : ℕ) (w : DeviceSizes) (p : Peer) (d d' : DeviceState) (m : Msg) (rest rest' ms : List Msg) (s : State) (before out out' : KeptPackets) (n n' : Counts) →
    (h : IsHalfway most w p d rest ms s before out n) → rest ≡ m ∷ rest' → IsSome (session_of p d.sessions.sessions) →
    ServesMessage most w d d' p m h.mid out out' n n' →
    IsHalfway most w p d' rest' ms s before out' n'
one_further most w p d d' m rest rest' ms s before out out' n n' h step has t =
    let noted_peers = known_there most w h.mid p d.sessions h.device.sessions has in
    let next = after_message w p m h.mid in
    record {
      mid = next;
      device = t.device;
      now = message_now w h.mid p m noted_peers h.now;
      state_is = sym (ap (λ xs. after_messages w p xs h.mid) step) ∙ h.state_is;
      packets_are = λ room groups is.
          let x = h.packets_are room groups is in
          let here = answer_to w p m h.mid in
          let others = answers_to_messages w p rest' next in (
            with_answers x.0 (shortened_answers most here),
            t.packets room x.0 x.1,
            sym (answers_both x.0 (shortened_answers most here) (shortened_answers most others))
                ∙ sym (ap (λ (ms : List Msg). with_answers x.0 ms) (answers_joined most here others))
                ∙ sym (ap (λ xs. with_answers x.0 (shortened_answers most (answers_to_messages w p xs h.mid))) step)
                ∙ x.2,
          );
      counts_are =
          ap (λ x. plus x (counts_of_messages w p rest' next)) t.counts
          ∙ sym (plus_assoc n (count_of_message w p m h.mid) (counts_of_messages w p rest' next))
          ∙ sym (ap (λ xs. plus n (counts_of_messages w p xs h.mid)) step)
          ∙ h.counts_are;
      written_are =
          ap (λ xs. xs ++ written_by_messages w p rest' next) t.written
          ∙ append_assoc d.written (written_by_message w p m h.mid) (written_by_messages w p rest' next)
          ∙ sym (ap (λ xs. d.written ++ written_by_messages w p xs h.mid) step)
          ∙ h.written_are;
      effects_are =
          ap (λ xs. xs ++ effects_of_messages w p rest' next) t.effects
          ∙ append_assoc d.effects (effects_of_message w p m h.mid) (effects_of_messages w p rest' next)
          ∙ sym (ap (λ xs. d.effects ++ effects_of_messages w p xs h.mid) step)
          ∙ h.effects_are;
    }

-- ---- a datagram is taken

abbrev admitted_state : Peer → List Msg → State → State
admitted_state p ms s = noted p (Admitted ms) s

pub refused_whole : (most : ℕ) (w : DeviceSizes) (d : DeviceState) (p : Peer) (bytes : List ℕ) (ms : List Msg) (s : State) (room : ℕ) (after : KeptPackets) →
    read_datagram bytes ≡ Ok ms → admits w s p ≡ false → IsIn most w d s → d.written ≡ [] → d.effects ≡ [] → after ≡ first_packets room [] → TakesDatagram most w d p bytes s room after verdicts.NoRoom
refused_whole most w d p bytes ms s room after reads out h unwritten unserved none =
    record {
      written = unwritten ∙ sym (ap (λ (r : Result (List Msg) PduFault). written_by_reading w p r s) reads
          ∙ ap (λ (b : Bool). cond b (written_by_messages w p ms (admitted_state p ms s)) []) out);
      effects = unserved ∙ sym (ap (λ (r : Result (List Msg) PduFault). effects_of_reading w p r s) reads
          ∙ ap (λ (b : Bool). cond b (effects_of_messages w p ms (admitted_state p ms s)) []) out);
      device = subst (λ (r : Result (List Msg) PduFault). IsIn most w d (after_reading w p r s)) (sym reads)
          (subst (λ (b : Bool). IsIn most w d (cond b (after_messages w p ms (admitted_state p ms s)) s)) (sym out) h);
      packets = none ∙ sym (ap (λ (xs : List Msg). first_packets room (packets_of xs)) (ap (λ (r : Result (List Msg) PduFault). shortened_answers most (answers_to_reading w p r s)) reads
          ∙ ap (λ (b : Bool). shortened_answers most (cond b (answers_to_messages w p ms (admitted_state p ms s)) [])) out ∙ none_answered most));
      verdict_is = sym (ap (λ (r : Result (List Msg) PduFault). verdict_of_reading w p r s) reads
          ∙ ap (λ (b : Bool). cond b (served (counts_of_messages w p ms (admitted_state p ms s))) verdicts.NoRoom) out);
    }

pub taken_whole : (most : ℕ) (w : DeviceSizes) (d : DeviceState) (p : Peer) (bytes : List ℕ) (ms : List Msg) (s : State) (room : ℕ) (before after : KeptPackets) (n : Counts) →
    read_datagram bytes ≡ Ok ms → admits w s p ≡ true → before ≡ first_packets room [] → ServesMessages most w d p ms (admitted_state p ms s) before after n →
    TakesDatagram most w d p bytes s room after (verdicts.Served n.executed n.kept n.old n.reused)
taken_whole most w d p bytes ms s room before after n reads let_in none t =
    let all = admitted_state p ms s in
    record {
      written = t.written ∙ sym (ap (λ (r : Result (List Msg) PduFault). written_by_reading w p r s) reads
          ∙ ap (λ (b : Bool). cond b (written_by_messages w p ms all) []) let_in);
      effects = t.effects ∙ sym (ap (λ (r : Result (List Msg) PduFault). effects_of_reading w p r s) reads
          ∙ ap (λ (b : Bool). cond b (effects_of_messages w p ms all) []) let_in);
      device = subst (λ (r : Result (List Msg) PduFault). IsIn most w d (after_reading w p r s)) (sym reads)
          (subst (λ (b : Bool). IsIn most w d (cond b (after_messages w p ms all) s)) (sym let_in) t.device);
      packets = t.packets room [] none
          ∙ sym (ap (λ (xs : List Msg). first_packets room (packets_of xs)) (ap (λ (r : Result (List Msg) PduFault). shortened_answers most (answers_to_reading w p r s)) reads
          ∙ ap (λ (b : Bool). shortened_answers most (cond b (answers_to_messages w p ms all) [])) let_in));
      verdict_is = ap served t.counts ∙ sym (ap (λ (r : Result (List Msg) PduFault). verdict_of_reading w p r s) reads
          ∙ ap (λ (b : Bool). cond b (served (counts_of_messages w p ms all)) verdicts.NoRoom) let_in);
    }

-- no bytes are no datagram: nothing is served or answered
pub none_sent : (most : ℕ) (w : DeviceSizes) (p : Peer) (s : State) → packets_of (shortened_answers most (answers_to_reading w p (read_datagram []) s)) ≡ []
unfolding read_datagram
none_sent most w p s = ap packets_of (none_answered most)

pub malformed_whole : (most : ℕ) (w : DeviceSizes) (d : DeviceState) (p : Peer) (s : State) (room : ℕ) (after : KeptPackets) → IsIn most w d s → d.written ≡ [] → d.effects ≡ [] →
    after ≡ first_packets room [] → TakesDatagram most w d p [] s room after (verdicts.Malformed (record { kind = Empty; at = 0 }))
unfolding read_datagram
malformed_whole most w d p s room after h unwritten unserved none = record {
  device = h;
  written = unwritten;
  effects = unserved;
  packets = none ∙ ap (λ (ms : List Msg). first_packets room (packets_of ms)) (sym (none_answered most));
  verdict_is = refl;
}

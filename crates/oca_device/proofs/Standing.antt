-- The state after events stands by what happened at them.
use Rattle.oca_device.proofs.Words.{◌≡◌, ℕ, Bool, true, false, cond, List, [], ◌∷◌, ◌++◌, refl, sym, ap, ◌∙◌, subst, map, max, Result, Ok, Err, flat_map, append-nil, Peer, same_peer, CommandFields}
use Rattle.oca_device.proofs.Words.{DeviceSizes, PduFault, Msg, Pdu, messages_of, IsDatagram, Object, LocalChange, after_change, Event, Tick, Local, Note, notes_of, unbroken, run, is_noted, accepted}
use Rattle.oca_device.proofs.Words.{State, admits, after_messages, after_reading, released_all, lapsed_at, moved_to, after_local, state_after, answers_to_messages, answers_to_reading, answers_in}
use Rattle.oca_device.proofs.Words.{counts_of_messages, served, verdict_of_reading, written_by_messages, written_by_reading, ExecutionFor, executions, executions_noted, written_of, Arrival, Happening}
use Rattle.oca_device.proofs.Words.{Passes, Says, Sets, Happened, nothing, tick, local, malformed, datagram, EventsAreBytes, clock, admitted, session, messages_in, lapsed_peers, has_room, accepted_of}
use Rattle.oca_device.proofs.Words.{accepted_by, Change, Executes, Releases, changes, objects, reply, replies, all_counted, IsVerdict}
use Rattle.oca_pdu.specs.FirstFault.{IsFirstFault}
use Rattle.oca_pdu.specs.Reading.{read_datagram}
use Rattle.oca_pdu.specs.Laws.{AreBytes, ReadingIsExact, OneListOfMessages}
use Rattle.oca_tree.specs.Locks.{released}
use Rattle.oca_device.specs.declared.verdict.Verdict.TheVariants as verdicts
use Rattle.oca_device.specs.Events.{Datagram}
use Rattle.oca_device.specs.Written as effects
use Rattle.oca_device.specs.LawByEvents as law
use Rattle.oca_device.proofs.Peers.{same_is}
use Rattle.oca_device.proofs.Runs.{other_notes, run_goes_on, run_begins}
use Rattle.oca_device.proofs.Acceptance.{AreDistinct, distinct_none, distinct_of}
use Rattle.oca_device.proofs.Messages.{executed_of, messages_tree, messages_moment, messages_other, messages_counted}
use Rattle.oca_device.proofs.Answering.{messages_answered, objects_both, reply_both, reply_released, reply_other, Replied, messages_replied}
use Rattle.oca_device.proofs.Effects.{messages_written, executions_both, executions_released, messages_noted}
use Rattle.oca_device.proofs.Sessions.{none_bridged, AllBridged, same_room, same_lapsed, arrival, let_in, let_in_note, let_in_known, let_in_executed, let_in_bridged}

-- ---- what is read of bytes

pub read_messages : ReadingIsExact → (bytes : List ℕ) (ps : List Pdu) → AreBytes bytes → IsDatagram ps bytes → read_datagram bytes ≡ Ok (flat_map messages_of ps)
read_messages exact bytes ps b is = ((exact bytes b).messages (flat_map messages_of ps)).1 (ps, is, refl)

-- no PDUs have these bytes
abbrev pub IsOther : List ℕ → Type 0
IsOther bytes = (ps : List Pdu) → IsDatagram ps bytes → ⊥

pub read_other : ReadingIsExact → (bytes : List ℕ) → AreBytes bytes → IsOther bytes → (f : PduFault) × IsFirstFault bytes f × (read_datagram bytes ≡ Err f)
read_other exact bytes b is_other = by (read_datagram bytes) refl
  where
    by : (r : Result (List Msg) PduFault) → read_datagram bytes ≡ r → (f : PduFault) × IsFirstFault bytes f × (read_datagram bytes ≡ Err f)
    by (Err f) e = (f, ((exact bytes b).fault f).0 e, e)
    by (Ok ms) e = let found = ((exact bytes b).messages ms).0 e in absurd (is_other found.0 found.1)

not_both : (f : PduFault) (ms : List Msg) → Err f ≡ Ok ms → ⊥
not_both f ms q = cc

-- at all events of bytes something happened
pub happened : ReadingIsExact → (E : List Event) → EventsAreBytes E → (H : List Happening) × Happened E H
happened exact [] b = ([], nothing)
happened exact (Tick now ∷ E) b = let h = happened exact E b in (Passes now ∷ h.0, tick now h.1)
happened exact (Local ono change ∷ E) b = let h = happened exact E b in (Sets ono change ∷ h.0, local ono change h.1)
happened exact (Datagram p bytes now ∷ E) b = by (happened exact E b.1) (read_datagram bytes) refl
  where
    by : (H : List Happening) × Happened E H → (r : Result (List Msg) PduFault) → read_datagram bytes ≡ r →
        (H : List Happening) × Happened (Datagram p bytes now ∷ E) H
    by h (Ok ms) e = let found = ((exact bytes b.0).messages ms).0 e in
        (Says p (flat_map messages_of found.0) ∷ Passes now ∷ h.0, datagram p bytes now b.0 found.0 found.1 h.1)
    by h (Err f) e = (Passes now ∷ h.0, malformed p bytes now b.0 (λ ps is. not_both f (flat_map messages_of ps) (sym e ∙ read_messages exact bytes ps b.0 is)) h.1)

-- ---- a state stands by what happened

pub record StandsAt (w : DeviceSizes) (tree : List Object) (s : State) (t : ℕ) (D : List Arrival) (C : List Change) : Type 0 where
  pub clock_is : s.moment ≡ t
  pub bridged : AllBridged w s D
  pub tree_is : s.tree ≡ objects tree C
  pub replied : (q : Peer) → Replied tree C q (accepted (run q s.notes))
  pub executions_are : executions_noted s.notes ≡ executions tree C

abbrev pub Stands : DeviceSizes → List Object → State → List Happening → Type 0
Stands w tree s H = StandsAt w tree s (clock H) (admitted w H) (changes w H)

objects_released : (ps : List Peer) (tree : List Object) → objects tree (map Releases ps) ≡ released_all ps tree
objects_released [] tree = refl
objects_released (p ∷ ps) tree = objects_released ps (released tree p)

pub passing : (w : DeviceSizes) (tree : List Object) (now : ℕ) (s : State) (H : List Happening) → Stands w tree s H → Stands w tree (moved_to (max s.moment now) s) (Passes now ∷ H)
passing w tree now s H h =
    let t = max (clock H) now in
    let ps = lapsed_peers w t H in
    let e = ap (λ (m : ℕ). max m now) h.clock_is in
    record {
      clock_is = e;
      bridged = record { each = h.bridged.each; opened_is = h.bridged.opened_is };
      tree_is = ap (λ (m : ℕ). released_all (lapsed_at m s) s.tree) e
          ∙ ap (λ (x : List Peer). released_all x s.tree) (same_lapsed w t s H h.clock_is h.bridged)
          ∙ ap (released_all ps) h.tree_is
          ∙ sym (objects_both tree (changes w H) (map Releases ps) ∙ objects_released ps (objects tree (changes w H)));
      replied = λ q i x f. reply_both q i [] tree (changes w H) (map Releases ps) ∙ reply_released q i (reply q i [] tree (changes w H)) (objects tree (changes w H)) ps
          ∙ h.replied q i x f;
      executions_are = h.executions_are
          ∙ sym (executions_both tree (changes w H) (map Releases ps)
          ∙ ap (λ (x : List ExecutionFor). executions tree (changes w H) ++ x) (executions_released ps (objects tree (changes w H)))
          ∙ append-nil (executions tree (changes w H)));
    }

-- the front sets: who is known and what was answered stays
pub setting : (w : DeviceSizes) (tree : List Object) (ono : ℕ) (change : LocalChange) (s : State) (H : List Happening) → Stands w tree s H → Stands w tree (after_local ono change s) (Sets ono change ∷ H)
setting w tree ono change s H h =
    let C = changes w H in
    record {
      clock_is = h.clock_is;
      bridged = record { each = h.bridged.each; opened_is = h.bridged.opened_is };
      tree_is = ap (λ (x : List Object). after_change x ono change) h.tree_is ∙ sym (objects_both tree C (Sets ono change ∷ []));
      replied = λ q i x f. reply_both q i [] tree C (Sets ono change ∷ []) ∙ h.replied q i x f;
      executions_are = h.executions_are ∙ sym (executions_both tree C (Sets ono change ∷ []) ∙ append-nil (executions tree C));
    }

-- a datagram that is let in
module _ (w : DeviceSizes) (tree : List Object) (p : Peer) (ms : List Msg) (s : State) (D : List Arrival) (C : List Change) (h : StandsAt w tree s s.moment D C) where
  abbrev A : List CommandFields
  A = accepted_by w s.moment p D

  abbrev after : State
  after = after_messages w p ms (let_in p ms s)

  same_executed : executed_of p (let_in p ms s).notes ≡ A
  same_executed = let_in_executed w p ms s D (h.bridged.each p)

  pub executed_distinct : AreDistinct (executed_of p (let_in p ms s).notes)
  executed_distinct = subst (λ (x : List CommandFields). AreDistinct x) (sym same_executed) (distinct_of w [] (messages_in (session s.moment p D)) distinct_none)

  let_in_replied : (b : Bool) → is_noted s.moment s.notes p ≡ b → Replied tree C p (accepted (run p (let_in p ms s).notes))
  let_in_replied true k = subst (λ (x : List Note). Replied tree C p (accepted x)) (sym (run_goes_on (let_in_note p ms s) s.notes k)) (h.replied p)
  let_in_replied false k = subst (λ (x : List Note). Replied tree C p (accepted x)) (sym (run_begins (let_in_note p ms s) s.notes k)) (λ i e f. absurd cc)

  abbrev executing : List Change
  executing = map (Executes p) (accepted_of w A ms)

  by_same : (q : Peer) (b : Bool) → same_peer p q ≡ b → Replied tree (C ++ executing) q (accepted (run q after.notes))
  by_same q true e = subst (λ (x : Peer). Replied tree (C ++ executing) x (accepted (run x after.notes))) (same_is p q e)
      (subst (λ (x : List CommandFields). Replied tree (C ++ map (Executes p) (accepted_of w x ms)) p (accepted (run p after.notes))) same_executed
      (messages_replied w p ms (let_in p ms s) tree C (let_in_known p ms s) h.tree_is (let_in_replied (is_noted s.moment s.notes p) refl)))
  by_same q false e =
      let own : notes_of q after.notes ≡ notes_of q s.notes = messages_other w p q ms (let_in p ms s) e ∙ other_notes (let_in_note p ms s) s.notes q e in
      subst (λ (x : List Note). Replied tree (C ++ executing) q (accepted (unbroken x))) (sym own)
      (λ i x f. reply_both q i [] tree C executing ∙ reply_other p q i (reply q i [] tree C) (objects tree C) (accepted_of w A ms) e ∙ h.replied q i x f)

  pub stands_let_in : StandsAt w tree after s.moment (arrival p ms s.moment ∷ D) (C ++ executing)
  stands_let_in = record {
    clock_is = messages_moment w p ms (let_in p ms s);
    bridged = let_in_bridged w p ms s D h.bridged;
    tree_is = messages_tree w p ms (let_in p ms s) (let_in_known p ms s)
        ∙ ap (λ (x : List CommandFields). objects s.tree (map (Executes p) (accepted_of w x ms))) same_executed
        ∙ ap (λ (x : List Object). objects x executing) h.tree_is
        ∙ sym (objects_both tree C executing);
    replied = λ q. by_same q (same_peer p q) refl;
    executions_are = messages_noted w p ms (let_in p ms s) (let_in_known p ms s)
        ∙ ap (λ (x : List ExecutionFor). x ++ executions s.tree (map (Executes p) (accepted_of w (executed_of p (let_in p ms s).notes) ms))) (append-nil (executions_noted s.notes))
        ∙ ap (λ (x : List CommandFields). executions_noted s.notes ++ executions s.tree (map (Executes p) (accepted_of w x ms))) same_executed
        ∙ ap (λ (x : List ExecutionFor). x ++ executions s.tree executing) h.executions_are
        ∙ ap (λ (x : List Object). executions tree C ++ executions x executing) h.tree_is
        ∙ sym (executions_both tree C executing);
  }

  pub written_let_in : written_by_messages w p ms (let_in p ms s) ≡ written_of p (objects tree C) (accepted_of w A ms)
  written_let_in =
      messages_written w p ms (let_in p ms s) (let_in_known p ms s)
      ∙ ap (λ (x : List CommandFields). written_of p s.tree (accepted_of w x ms)) same_executed
      ∙ ap (λ (x : List Object). written_of p x (accepted_of w A ms)) h.tree_is

  pub answers_let_in : answers_to_messages w p ms (let_in p ms s) ≡ replies w (λ i. reply p i [] tree (C ++ executing)) A ms
  answers_let_in =
      messages_answered w p ms (let_in p ms s) (λ i. reply p i [] tree (C ++ executing)) (let_in_known p ms s) executed_distinct (stands_let_in.replied p)
      ∙ ap (λ (x : List CommandFields). replies w (λ i. reply p i [] tree (C ++ executing)) x ms) same_executed

  pub counts_let_in : counts_of_messages w p ms (let_in p ms s) ≡ all_counted w A ms
  counts_let_in = messages_counted w p ms (let_in p ms s) (let_in_known p ms s) executed_distinct ∙ ap (λ (x : List CommandFields). all_counted w x ms) same_executed

-- what a datagram of messages makes of a state, and what is answered, and the verdict
abbrev saying_changes : DeviceSizes → Peer → List Msg → ℕ → List Arrival → List Change → List Change
saying_changes w p ms t D C = C ++ map (Executes p) (accepted_of w (accepted_by w t p D) (cond (has_room w t p D) ms []))

pub record SaysSo (w : DeviceSizes) (tree : List Object) (p : Peer) (ms : List Msg) (s : State) (t : ℕ) (D : List Arrival) (C : List Change) : Type 0 where
  pub stands_so : StandsAt w tree (after_reading w p (Ok ms) s) t (cond (has_room w t p D) (arrival p ms t ∷ D) D) (saying_changes w p ms t D C)
  pub answers_so : answers_to_reading w p (Ok ms) s ≡ replies w (λ i. reply p i [] tree (saying_changes w p ms t D C)) (accepted_by w t p D) (cond (has_room w t p D) ms [])
  pub written_so : written_by_reading w p (Ok ms) s ≡ written_of p (objects tree C) (accepted_of w (accepted_by w t p D) (cond (has_room w t p D) ms []))
  pub verdict_so : verdict_of_reading w p (Ok ms) s ≡ cond (has_room w t p D) (served (all_counted w (accepted_by w t p D) ms)) verdicts.NoRoom

saying_now : (w : DeviceSizes) (tree : List Object) (p : Peer) (ms : List Msg) (s : State) (D : List Arrival) (C : List Change) → StandsAt w tree s s.moment D C →
    (b : Bool) → admits w s p ≡ b → has_room w s.moment p D ≡ b → SaysSo w tree p ms s s.moment D C
saying_now w tree p ms s D C h true a r =
    let A = accepted_by w s.moment p D in
    record {
      stands_so = subst (λ (x : Bool). StandsAt w tree (cond x (after_messages w p ms (let_in p ms s)) s) s.moment (cond (has_room w s.moment p D) (arrival p ms s.moment ∷ D) D)
          (C ++ map (Executes p) (accepted_of w A (cond (has_room w s.moment p D) ms [])))) (sym a)
          (subst (λ (x : Bool). StandsAt w tree (after_messages w p ms (let_in p ms s)) s.moment (cond x (arrival p ms s.moment ∷ D) D)
          (C ++ map (Executes p) (accepted_of w A (cond x ms [])))) (sym r) (stands_let_in w tree p ms s D C h));
      answers_so = ap (λ (x : Bool). cond x (answers_to_messages w p ms (let_in p ms s)) []) a
          ∙ answers_let_in w tree p ms s D C h
          ∙ ap (λ (x : Bool). replies w (λ i. reply p i [] tree (C ++ map (Executes p) (accepted_of w A (cond x ms [])))) A (cond x ms [])) (sym r);
      written_so = ap (λ (x : Bool). cond x (written_by_messages w p ms (let_in p ms s)) []) a
          ∙ written_let_in w tree p ms s D C h
          ∙ ap (λ (x : Bool). written_of p (objects tree C) (accepted_of w A (cond x ms []))) (sym r);
      verdict_so = ap (λ (x : Bool). cond x (served (counts_of_messages w p ms (let_in p ms s))) verdicts.NoRoom) a
          ∙ ap served (counts_let_in w tree p ms s D C h)
          ∙ ap (λ (x : Bool). cond x (served (all_counted w A ms)) verdicts.NoRoom) (sym r);
    }
saying_now w tree p ms s D C h false a r =
    let A = accepted_by w s.moment p D in
    record {
      stands_so = subst (λ (x : Bool). StandsAt w tree (cond x (after_messages w p ms (let_in p ms s)) s) s.moment (cond (has_room w s.moment p D) (arrival p ms s.moment ∷ D) D)
          (C ++ map (Executes p) (accepted_of w A (cond (has_room w s.moment p D) ms [])))) (sym a)
          (subst (λ (x : Bool). StandsAt w tree s s.moment (cond x (arrival p ms s.moment ∷ D) D)
          (C ++ map (Executes p) (accepted_of w A (cond x ms [])))) (sym r)
          (subst (λ (x : List Change). StandsAt w tree s s.moment D x) (sym (append-nil C)) h));
      answers_so = ap (λ (x : Bool). cond x (answers_to_messages w p ms (let_in p ms s)) []) a
          ∙ ap (λ (x : Bool). replies w (λ i. reply p i [] tree (C ++ map (Executes p) (accepted_of w A (cond x ms [])))) A (cond x ms [])) (sym r);
      written_so = ap (λ (x : Bool). cond x (written_by_messages w p ms (let_in p ms s)) []) a
          ∙ ap (λ (x : Bool). written_of p (objects tree C) (accepted_of w A (cond x ms []))) (sym r);
      verdict_so = ap (λ (x : Bool). cond x (served (counts_of_messages w p ms (let_in p ms s))) verdicts.NoRoom) a
          ∙ ap (λ (x : Bool). cond x (served (all_counted w A ms)) verdicts.NoRoom) (sym r);
    }

pub saying : (w : DeviceSizes) (tree : List Object) (p : Peer) (ms : List Msg) (s : State) (t : ℕ) (D : List Arrival) (C : List Change) → StandsAt w tree s t D C →
    SaysSo w tree p ms s t D C
saying w tree p ms s t D C h =
    subst (λ (m : ℕ). SaysSo w tree p ms s m D C) h.clock_is
    (saying_now w tree p ms s D C (record { clock_is = refl; bridged = h.bridged; tree_is = h.tree_is; replied = h.replied; executions_are = h.executions_are })
    (admits w s p) refl (sym (same_room w s p D h.bridged)))

-- ---- all events

pub stands : ReadingIsExact → (w : DeviceSizes) (tree : List Object) {E : List Event} {H : List Happening} → Happened E H → Stands w tree (state_after w tree E) H
stands exact w tree nothing = record { clock_is = refl; bridged = record { each = λ q. none_bridged w; opened_is = refl }; tree_is = refl; replied = λ q h e f. absurd cc; executions_are = refl }
stands exact w tree (tick {E} {H} now h) = passing w tree now (state_after w tree E) H (stands exact w tree h)
stands exact w tree (local {E} {H} ono change h) = setting w tree ono change (state_after w tree E) H (stands exact w tree h)
stands exact w tree (malformed {E} {H} p bytes now b is_other h) =
    let s = state_after w tree E in
    let found = read_other exact bytes b is_other in
    subst (λ (r : Result (List Msg) PduFault). Stands w tree (after_reading w p r (moved_to (max s.moment now) s)) (Passes now ∷ H)) (sym found.2)
    (passing w tree now s H (stands exact w tree h))
stands exact w tree (datagram {E} {H} p bytes now b ps is h) =
    let s = state_after w tree E in
    let ms = flat_map messages_of ps in
    subst (λ (r : Result (List Msg) PduFault). Stands w tree (after_reading w p r (moved_to (max s.moment now) s)) (Says p ms ∷ Passes now ∷ H)) (sym (read_messages exact bytes ps b is))
    (saying w tree p ms (moved_to (max s.moment now) s) (clock (Passes now ∷ H)) (admitted w (Passes now ∷ H)) (changes w (Passes now ∷ H)) (passing w tree now s H (stands exact w tree h))).stands_so

pub answers_same : ReadingIsExact → (w : DeviceSizes) (tree : List Object) {E : List Event} {H' : List Happening} (e : Event) → Happened (e ∷ E) H' →
    answers_in w e (state_after w tree E) ≡ law.answers_by_events w tree H'
answers_same exact w tree {E} e (tick now h) = refl
answers_same exact w tree {E} e (local ono change h) = refl
answers_same exact w tree {E} e (malformed p bytes now b is_other h) =
    let s1 = moved_to (max (state_after w tree E).moment now) (state_after w tree E) in
    ap (λ (r : Result (List Msg) PduFault). answers_to_reading w p r s1) (read_other exact bytes b is_other).2
answers_same exact w tree {E} e (datagram {H = H} p bytes now b ps is h) =
    let s = state_after w tree E in
    let s1 = moved_to (max s.moment now) s in
    ap (λ (r : Result (List Msg) PduFault). answers_to_reading w p r s1) (read_messages exact bytes ps b is)
    ∙ (saying w tree p (flat_map messages_of ps) s1 (clock (Passes now ∷ H)) (admitted w (Passes now ∷ H)) (changes w (Passes now ∷ H)) (passing w tree now s H (stands exact w tree h))).answers_so

pub verdict_same : ReadingIsExact → (w : DeviceSizes) (tree : List Object) {E : List Event} {H' : List Happening} (p : Peer) (bytes : List ℕ) (now : ℕ) → Happened (Datagram p bytes now ∷ E) H' →
    let s = state_after w tree E in
    IsVerdict w bytes (verdict_of_reading w p (read_datagram bytes) (moved_to (max s.moment now) s)) H'
verdict_same exact w tree {E} p bytes now (malformed q xs t b is_other h) =
    let s1 = moved_to (max (state_after w tree E).moment now) (state_after w tree E) in
    let found = read_other exact bytes b is_other in
    (found.0, found.1, ap (λ (r : Result (List Msg) PduFault). verdict_of_reading w p r s1) found.2)
verdict_same exact w tree {E} p bytes now (datagram {H = H} q xs t b ps is h) =
    let s = state_after w tree E in
    let s1 = moved_to (max s.moment now) s in
    ap (λ (r : Result (List Msg) PduFault). verdict_of_reading w p r s1) (read_messages exact bytes ps b is)
    ∙ (saying w tree p (flat_map messages_of ps) s1 (clock (Passes now ∷ H)) (admitted w (Passes now ∷ H)) (changes w (Passes now ∷ H)) (passing w tree now s H (stands exact w tree h))).verdict_so

pub written_same : ReadingIsExact → (w : DeviceSizes) (tree : List Object) {E : List Event} {H : List Happening} (h : Happened E H) → effects.written w tree E ≡ law.written_by_events w tree h
written_same exact w tree nothing = refl
written_same exact w tree (tick now h) = written_same exact w tree h
written_same exact w tree (local ono change h) = written_same exact w tree h
written_same exact w tree (malformed {E} {H} p bytes now b is_other h) =
    let s1 = moved_to (max (state_after w tree E).moment now) (state_after w tree E) in
    ap (λ (r : Result (List Msg) PduFault). written_by_reading w p r s1) (read_other exact bytes b is_other).2
written_same exact w tree (datagram {E} {H} p bytes now b ps is h) =
    let s = state_after w tree E in
    let s1 = moved_to (max s.moment now) s in
    ap (λ (r : Result (List Msg) PduFault). written_by_reading w p r s1) (read_messages exact bytes ps b is)
    ∙ (saying w tree p (flat_map messages_of ps) s1 (clock (Passes now ∷ H)) (admitted w (Passes now ∷ H)) (changes w (Passes now ∷ H)) (passing w tree now s H (stands exact w tree h))).written_so

-- ---- one thing alone happened

same_happenings : (p : Peer) (now : ℕ) (xs ys : List Msg) (H K : List Happening) → xs ≡ ys → H ≡ K → Says p xs ∷ Passes now ∷ H ≡ Says p ys ∷ Passes now ∷ K
same_happenings p now xs ys H K e f = ap (λ (x : List Msg). Says p x ∷ Passes now ∷ H) e ∙ ap (λ (x : List Happening). Says p ys ∷ Passes now ∷ x) f

pub happened_once : OneListOfMessages → {E : List Event} {H K : List Happening} → Happened E H → Happened E K → H ≡ K
happened_once one nothing nothing = refl
happened_once one (tick now h) (tick t k) = ap (λ (x : List Happening). Passes now ∷ x) (happened_once one h k)
happened_once one (local ono change h) (local n v k) = ap (λ (x : List Happening). Sets ono change ∷ x) (happened_once one h k)
happened_once one (malformed p bytes now b is_other h) (malformed q xs t c is_other' k) = ap (λ (x : List Happening). Passes now ∷ x) (happened_once one h k)
happened_once one (malformed p bytes now b is_other h) (datagram q xs t c ps is k) = absurd (is_other ps is)
happened_once one (datagram p bytes now b ps is h) (malformed q xs t c is_other k) = absurd (is_other ps is)
happened_once one (datagram {H = H} p bytes now b ps is h) (datagram {H = K} q xs t c qs is' k) =
    same_happenings p now (flat_map messages_of ps) (flat_map messages_of qs) H K (one bytes ps qs is is') (happened_once one h k)

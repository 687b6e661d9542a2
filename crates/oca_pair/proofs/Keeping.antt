-- What is accepted of a peer: of one whose session is never forgotten, that its accepted commands are all that were ever executed for it,
-- each once; and of one whose commands were executed once, how they grow.
use Rattle.oca_pair.proofs.Words.{append-nil, append_assoc, ◌≡◌, ℕ, ◌-◌, Bool, true, false, cond, List, [], ◌∷◌, ◌++◌, refl, sym, ap, ◌∙◌, subst, arith, ◌⊎◌, inl, inr, nat_le, ◌||◌, map, Ok, list_any}
use Rattle.oca_pair.proofs.Words.{AllByRecursion, eqb, list_any-append, nat_tests, eq-eqb, or_left, or_right, or_from, Peer, Reply, same_peer, CommandFields, Form, Msg, Command, KeepAlive}
use Rattle.oca_pair.proofs.Words.{read_datagram, Entry, has_handle, Judgement, Fresh, Duplicate, Reused, Old, Event, Datagram, Tick, Local, Noted, Admitted, Heartbeat, Executed, Note, notes_of}
use Rattle.oca_pair.proofs.Words.{is_recent, unbroken, run, accepted, accepted_after, State, noted, admits, judged_in, reply_of, after_command, after_message, after_reading, time_of, Arrival}
use Rattle.oca_pair.proofs.Words.{Execution, each_map, same_self}
use Rattle.std.specs.List.{IsDistinct}
use Rattle.oca_pair.proofs.Core.{has, none_passes}
use Rattle.oca_pair.proofs.Lists.{IsIn, flipped}
use Rattle.oca_pair.proofs.Clocks.{Grows, grows_reading, notes_of_grown}
use Rattle.oca_pair.proofs.Executions.{executed_in, executed_for}
use Rattle.oca_pair.proofs.Truths.{Past, and_then, state_of}
use Rattle.oca_pair.proofs.Fair.{judged_fresh}
use Rattle.oca_pair.proofs.Delivering.{let_in, after_read}
use Rattle.oca_pair.proofs.ByEvents.{stands_by}
use Rattle.oca_pair.proofs.Arrivals.{HasOneSession, one_own, IsKnownThen, known_then, arrived, Keeps, looked_at, arrived_read}

-- the handles of the commands that were executed for the peer
abbrev pub handles_for : Peer → List Note → List ℕ
handles_for p ns = map (λ x. x.command.handle) (executed_for p ns)

-- all commands that were accepted of the peer, in whichever session
abbrev pub accepted_by : Peer → Past → List Entry
accepted_by p g = accepted (notes_of p (state_of g).notes)

pub record KeptState (p : Peer) (ns : List Note) : Type 0 where
  pub whole : run p ns ≡ notes_of p ns
  pub once : IsDistinct eqb (handles_for p ns)

abbrev pub Kept : Peer → Past → Type 0
Kept p g = KeptState p (state_of g).notes

-- No two executions for the peer were of one handle.
abbrev pub Once : Peer → Past → Type 0
Once p g = IsDistinct eqb (handles_for p (state_of g).notes)

-- ---- what was executed is what was accepted

pub has_executed : (h : ℕ) (p : Peer) (ns : List Note) → has h (accepted (notes_of p ns)) ≡ list_any (λ y. eqb y h) (handles_for p ns)
has_executed h p [] = refl
has_executed h p (n ∷ ns) = by_test (same_peer n.peer p) n.what (has_executed h p ns)
  where
    turn : (a b : Bool) → (a || (b || false)) ≡ (b || a)
    turn true true = refl
    turn true false = refl
    turn false true = refl
    turn false false = refl

    by_what : (x : Noted) → has h (accepted (notes_of p ns)) ≡ list_any (λ y. eqb y h) (handles_for p ns) →
        has h (accepted_after x (accepted (notes_of p ns))) ≡ list_any (λ y. eqb y h) (map (λ x. x.command.handle) (executed_in x ++ executed_for p ns))
    by_what (Admitted ms) e = e
    by_what (Heartbeat ms) e = e
    by_what (Executed objects c r) e =
        let d : Entry = record { command = c; reply = r } in
        list_any-append (has_handle h) (accepted (notes_of p ns)) (d ∷ [])
        ∙ turn (has h (accepted (notes_of p ns))) (eqb c.handle h) ∙ ap (λ b. eqb c.handle h || b) e

    by_test : (b : Bool) (x : Noted) → has h (accepted (notes_of p ns)) ≡ list_any (λ y. eqb y h) (handles_for p ns) →
        has h (accepted (cond b ((let m : Note = record { peer = n.peer; at = n.at; what = x } in m) ∷ notes_of p ns) (notes_of p ns)))
        ≡ list_any (λ y. eqb y h) (map (λ x. x.command.handle) (cond b (executed_in x) [] ++ executed_for p ns))
    by_test true x e = by_what x e
    by_test false x e = e

-- what was executed is accepted
pub executed_has : (h : ℕ) (p : Peer) (ns : List Note) (x : Execution) → IsIn x (executed_for p ns) → x.command.handle ≡ h → has h (accepted (notes_of p ns)) ≡ true
executed_has h p ns x i e = has_executed h p ns ∙ any (executed_for p ns) i
  where
    handle_is : (y : Execution) → y ≡ x → y.command.handle ≡ h
    handle_is y q = ap (λ (z : Execution). z.command.handle) q ∙ e

    any : (xs : List Execution) → IsIn x xs → list_any (λ y. eqb y h) (map (λ (y : Execution). y.command.handle) xs) ≡ true
    any [] i = absurd i
    any (y ∷ ys) (inl q) = or_left (eqb y.command.handle h) (list_any (λ z. eqb z h) (map (λ (z : Execution). z.command.handle) ys)) (eq-eqb y.command.handle h (handle_is y q))
    any (y ∷ ys) (inr i) = or_right (eqb y.command.handle h) (list_any (λ z. eqb z h) (map (λ (z : Execution). z.command.handle) ys)) (any ys i)

-- ---- one more note of the peer

now_within : (t : ℕ) → nat_le (t - t) 120000 ≡ true
now_within t = grind (arith, nat_tests)

pub notes_noted : (p : Peer) (x : Noted) (s : State) → let n : Note = record { peer = p; at = s.moment; what = x } in notes_of p (noted p x s).notes ≡ n ∷ notes_of p s.notes
notes_noted p x s =
    let n : Note = record { peer = p; at = s.moment; what = x } in
    ap (λ b. cond b (n ∷ notes_of p s.notes) (notes_of p s.notes)) (same_self p)

pub executed_noted : (p : Peer) (x : Noted) (s : State) → executed_for p (noted p x s).notes ≡ executed_in x ++ executed_for p s.notes
executed_noted p x s = ap (λ b. cond b (executed_in x) [] ++ executed_for p s.notes) (same_self p)

kept_noted : (p : Peer) (x : Noted) (s : State) → run p s.notes ≡ notes_of p s.notes → IsKnownThen s.moment (notes_of p s.notes) →
    IsDistinct eqb (map (λ (y : Execution). y.command.handle) (executed_in x ++ executed_for p s.notes)) → KeptState p (noted p x s).notes
kept_noted p x s whole noted_peers once = record {
  whole = ap unbroken (notes_noted p x s) ∙ by_notes (notes_of p s.notes) whole noted_peers ∙ sym (notes_noted p x s);
  once = rw (executed_noted p x s) once;
}
  where
    n : Note
    n = record { peer = p; at = s.moment; what = x }

    by_notes : (ns : List Note) → unbroken ns ≡ ns → IsKnownThen s.moment ns → unbroken (n ∷ ns) ≡ n ∷ ns
    by_notes [] w k = refl
    by_notes (m ∷ ms) w k = ap (λ b. n ∷ cond b (unbroken (m ∷ ms)) []) k ∙ ap (λ ys. n ∷ ys) w

known_noted : (p : Peer) (x : Noted) (s : State) → IsKnownThen s.moment (notes_of p (noted p x s).notes)
known_noted p x s = rw (notes_noted p x s) (now_within s.moment)

-- ---- what a datagram of the peer makes of it

-- the accepted commands are as before, or the one that was sent is now the last of them, and was not among them
abbrev pub IsGrown : Msg → List Entry → List Entry → Type 0
IsGrown m A B = (B ≡ A) ⊎ ((c : CommandFields) × (r : Reply) × (m ≡ Command true c) × (has c.handle A ≡ false) × (let e : Entry = record { command = c; reply = r } in B ≡ A ++ e ∷ []))

-- the peer is known when its datagram is admitted
known_now : (p : Peer) (m : Msg) (bytes : List ℕ) (now : ℕ) (g : Past) → read_datagram bytes ≡ Ok (m ∷ []) → admits g.sizes (looked_at now g) p ≡ true →
    Keeps p (and_then (Datagram p bytes now) g) → IsKnownThen (looked_at now g).moment (notes_of p (looked_at now g).notes)
known_now p m bytes now g read room keeps =
    let t : ℕ = (looked_at now g).moment in
    known_then g.sizes t p (notes_of p (state_of g).notes) (arrived g) ((stands_by g.sizes g.tree g.events).bridged.each p)
    (one_own p (m ∷ []) t (arrived g) (subst (λ (D : List Arrival). HasOneSession p D) (arrived_read p (m ∷ []) bytes now g true read room) keeps))

pub delivers : (p : Peer) (m : Msg) (bytes : List ℕ) (now : ℕ) (g : Past) → read_datagram bytes ≡ Ok (m ∷ []) →
    ((c : CommandFields) × (m ≡ Command true c)) ⊎ ((form : Form) × (m ≡ KeepAlive form)) →
    Keeps p (and_then (Datagram p bytes now) g) → Kept p g → Kept p (and_then (Datagram p bytes now) g)
unfolding IsDistinct
delivers p m bytes now g read kind keeps k = by_room (admits g.sizes s1 p) refl
  where
    s1 : State
    s1 = looked_at now g

    s2 : State
    s2 = let_in p m now g

    kept2 : admits g.sizes s1 p ≡ true → KeptState p s2.notes
    kept2 room = kept_noted p (Admitted (m ∷ [])) s1 k.whole (known_now p m bytes now g read room keeps) k.once

    known2 : IsKnownThen s2.moment (notes_of p s2.notes)
    known2 = known_noted p (Admitted (m ∷ [])) s1

    -- what follows from the state
    made : (s : State) → state_of (and_then (Datagram p bytes now) g) ≡ s → KeptState p s.notes → Kept p (and_then (Datagram p bytes now) g)
    made s is kept = rw is kept

    by_judgement : (c : CommandFields) → admits g.sizes s1 p ≡ true → (j : Judgement) → judged_in g.sizes s2 p c ≡ j →
        state_of (and_then (Datagram p bytes now) g) ≡ after_command j p c s2 → Kept p (and_then (Datagram p bytes now) g)
    by_judgement c room Fresh q state_is =
        let r : Reply = reply_of s2.tree p c in
        let new : has c.handle (accepted (notes_of p s2.notes)) ≡ false =
        sym (ap (has c.handle) (ap accepted (kept2 room).whole)) ∙ judged_fresh g.sizes.window (accepted (run p s2.notes)) c q in
        made (after_command Fresh p c s2) state_is
        (kept_noted p (Executed s2.tree c r) s2' (kept2 room).whole known2 (fresh c.handle s2.notes new, (kept2 room).once))
      where
        s2' : State
        s2' = record { tree = s2.tree; moment = s2.moment; notes = s2.notes }

        fresh : (h : ℕ) (ns : List Note) → has h (accepted (notes_of p ns)) ≡ false → AllByRecursion (λ y. eqb h y ≡ false) (handles_for p ns)
        fresh h ns e = each_map (λ y t. flipped y h t) (handles_for p ns) (none_passes (λ y. eqb y h) (handles_for p ns) (sym (has_executed h p ns) ∙ e))
    by_judgement c room _ q state_is = made s2 state_is (kept2 room)

    by_room : (b : Bool) → admits g.sizes s1 p ≡ b → Kept p (and_then (Datagram p bytes now) g)
    by_room true room = elim kind [
      | inl (c, is) ↦ by_judgement c room (judged_in g.sizes s2 p c) refl (after_read g.sizes p m bytes now g true read room ∙ ap (λ x. after_message g.sizes p x s2) is)
      | inr (form, is) ↦ made (noted p (Heartbeat (time_of form)) s2) (after_read g.sizes p m bytes now g true read room ∙ ap (λ x. after_message g.sizes p x s2) is)
          (kept_noted p (Heartbeat (time_of form)) s2 (kept2 room).whole known2 (kept2 room).once)
    ]
    by_room false room = made s1 (after_read g.sizes p m bytes now g false read room) (record { whole = k.whole; once = k.once })

-- how a datagram of the peer makes the accepted commands grow, where its commands were executed once
pub grows_once : (p : Peer) (m : Msg) (bytes : List ℕ) (now : ℕ) (g : Past) → read_datagram bytes ≡ Ok (m ∷ []) →
    ((c : CommandFields) × (m ≡ Command true c)) ⊎ ((form : Form) × (m ≡ KeepAlive form)) →
    Once p (and_then (Datagram p bytes now) g) → IsGrown m (accepted_by p g) (accepted_by p (and_then (Datagram p bytes now) g))
unfolding IsDistinct
grows_once p m bytes now g read kind once = by_room (admits g.sizes (looked_at now g) p) refl
  where
    s2 : State
    s2 = let_in p m now g

    accepted2 : accepted (notes_of p s2.notes) ≡ accepted_by p g
    accepted2 = ap accepted (notes_noted p (Admitted (m ∷ [])) (looked_at now g))

    made : (s : State) → state_of (and_then (Datagram p bytes now) g) ≡ s → (IsDistinct eqb (handles_for p s.notes) → IsGrown m (accepted_by p g) (accepted (notes_of p s.notes))) →
        IsGrown m (accepted_by p g) (accepted_by p (and_then (Datagram p bytes now) g))
    made s is grown = rw is (grown (rw is at once))

    by_judgement : (c : CommandFields) → m ≡ Command true c → (j : Judgement) → state_of (and_then (Datagram p bytes now) g) ≡ after_command j p c s2 →
        IsGrown m (accepted_by p g) (accepted_by p (and_then (Datagram p bytes now) g))
    by_judgement c is Fresh state_is = made (after_command Fresh p c s2) state_is (λ d. inr (
      c,
      r,
      is,
      new (subst (λ (xs : List Execution). IsDistinct eqb (map (λ (y : Execution). y.command.handle) xs)) executed_are d),
      ap accepted (notes_noted p (Executed s2.tree c r) s2') ∙ ap (λ A. A ++ (let e : Entry = record { command = c; reply = r } in e) ∷ []) accepted2,
    ))
      where
        r : Reply
        r = reply_of s2.tree p c

        s2' : State
        s2' = record { tree = s2.tree; moment = s2.moment; notes = s2.notes }

        x : Execution
        x = record { objects = s2.tree; command = c; reply = r }

        executed_are : executed_for p (noted p (Executed s2.tree c r) s2').notes ≡ x ∷ executed_for p (state_of g).notes
        executed_are = executed_noted p (Executed s2.tree c r) s2' ∙ ap (λ (xs : List Execution). x ∷ xs) (executed_noted p (Admitted (m ∷ [])) (looked_at now g))

        none : (xs : List ℕ) → AllByRecursion (λ y. eqb c.handle y ≡ false) xs → list_any (λ y. eqb y c.handle) xs ≡ false
        none [] a = refl
        none (y ∷ ys) a = or_from (eqb y c.handle) (list_any (λ y. eqb y c.handle) ys) (flipped c.handle y a.0) (none ys a.1)

        new : IsDistinct eqb (c.handle ∷ handles_for p (state_of g).notes) → has c.handle (accepted_by p g) ≡ false
        new d = has_executed c.handle p (state_of g).notes ∙ none (handles_for p (state_of g).notes) d.0
    by_judgement c is _ state_is = made s2 state_is (λ d. inl accepted2)

    by_room : (b : Bool) → admits g.sizes (looked_at now g) p ≡ b → IsGrown m (accepted_by p g) (accepted_by p (and_then (Datagram p bytes now) g))
    by_room true room = elim kind [
      | inl (c, is) ↦ by_judgement c is (judged_in g.sizes s2 p c) (after_read g.sizes p m bytes now g true read room ∙ ap (λ x. after_message g.sizes p x s2) is)
      | inr (form, is) ↦ made (noted p (Heartbeat (time_of form)) s2) (after_read g.sizes p m bytes now g true read room ∙ ap (λ x. after_message g.sizes p x s2) is)
          (λ d. inl (ap accepted (notes_noted p (Heartbeat (time_of form)) s2) ∙ accepted2))
    ]
    by_room false room = made (looked_at now g) (after_read g.sizes p m bytes now g false read room) (λ d. inl refl)

distinct_behind : (xs ys : List ℕ) → IsDistinct eqb (xs ++ ys) → IsDistinct eqb ys
unfolding IsDistinct
distinct_behind [] ys d = d
distinct_behind (x ∷ xs) ys d = distinct_behind xs ys d.1

-- what was executed once had been so before
pub once_before : (p : Peer) (e : Event) (g : Past) → Once p (and_then e g) → Once p g
once_before p (Tick now) g d = d
once_before p (Local ono change) g d = d
once_before p (Datagram q bytes now) g d =
    let grows : Grows q (looked_at now g).moment (looked_at now g).notes (state_of (and_then (Datagram q bytes now) g)).notes = grows_reading g.sizes q (read_datagram bytes) (looked_at now g) in
    behind grows.more (rw grows.is at d)
  where
    mapped : (xs ys : List Execution) → map (λ (y : Execution). y.command.handle) (xs ++ ys) ≡ map (λ (y : Execution). y.command.handle) xs ++ map (λ (y : Execution). y.command.handle) ys
    mapped [] ys = refl
    mapped (x ∷ xs) ys = ap (λ (hs : List ℕ). x.command.handle ∷ hs) (mapped xs ys)

    behind : (more : List Note) → IsDistinct eqb (handles_for p (more ++ (state_of g).notes)) → IsDistinct eqb (handles_for p (state_of g).notes)
    behind [] d = d
    behind (n ∷ more) d =
        behind more (distinct_behind (map (λ (y : Execution). y.command.handle) here) (handles_for p (more ++ (state_of g).notes))
        (subst (λ (hs : List ℕ). IsDistinct eqb hs) (mapped here (executed_for p (more ++ (state_of g).notes))) d))
      where
        here : List Execution
        here = cond (same_peer n.peer p) (executed_in n.what) []

-- ---- the commands of its session are the last of its accepted commands

-- notes and those before them
accepted_both : (ns ms : List Note) → accepted (ns ++ ms) ≡ accepted ms ++ accepted ns
accepted_both [] ms = sym (append-nil (accepted ms))
accepted_both (n ∷ ns) ms = ap (accepted_after n.what) (accepted_both ns ms) ∙ by_what n.what
  where
    by_what : (x : Noted) → accepted_after x (accepted ms ++ accepted ns) ≡ accepted ms ++ accepted_after x (accepted ns)
    by_what (Admitted ms') = refl
    by_what (Heartbeat t) = refl
    by_what (Executed objects c r) = append_assoc (accepted ms) (accepted ns) ((let e : Entry = record { command = c; reply = r } in e) ∷ [])

-- the notes of a session and those before it
unbroken_first : (ns : List Note) → (before : List Note) × (ns ≡ unbroken ns ++ before)
unbroken_first [] = ([], refl)
unbroken_first (n ∷ ns) = by_test (is_recent n.at ns) (unbroken_first ns)
  where
    by_test : (b : Bool) → (before : List Note) × (ns ≡ unbroken ns ++ before) → (before : List Note) × (n ∷ ns ≡ n ∷ cond b (unbroken ns) [] ++ before)
    by_test true (before, is) = (before, ap (λ (ms : List Note). n ∷ ms) is)
    by_test false rest = (ns, refl)

-- when a datagram of the peer is admitted
pub accepted_let_in : (p : Peer) (m : Msg) (now : ℕ) (g : Past) → (before : List Entry) × (accepted_by p g ≡ before ++ accepted (run p (let_in p m now g).notes))
accepted_let_in p m now g =
    let first : (before : List Note) × (notes_of p (let_in p m now g).notes ≡ run p (let_in p m now g).notes ++ before) = unbroken_first (notes_of p (let_in p m now g).notes) in (
      accepted first.0,
      sym (ap accepted (notes_noted p (Admitted (m ∷ [])) (looked_at now g))) ∙ ap accepted first.1 ∙ accepted_both (run p (let_in p m now g).notes) first.0,
    )

-- ---- what else happens

pub kept_other : (p q : Peer) (bytes : List ℕ) (now : ℕ) (g : Past) → same_peer q p ≡ false → Kept p g → Kept p (and_then (Datagram q bytes now) g)
kept_other p q bytes now g other k =
    let s1 : State = looked_at now g in
    let grows : Grows q s1.moment s1.notes (after_reading g.sizes q (read_datagram bytes) s1).notes = grows_reading g.sizes q (read_datagram bytes) s1 in
    let same : notes_of p (after_reading g.sizes q (read_datagram bytes) s1).notes ≡ notes_of p s1.notes = notes_of_grown p q s1.moment s1.notes _ other grows in
    record {
      whole = ap unbroken same ∙ k.whole ∙ sym same;
      once = rw (executed_other grows.more grows.is grows.own) k.once;
    }
  where
    after : List Note
    after = (after_reading g.sizes q (read_datagram bytes) (looked_at now g)).notes

    skipped : (more : List Note) → AllByRecursion (λ n. (n.peer ≡ q) × (n.at ≡ (looked_at now g).moment)) more → executed_for p (more ++ (state_of g).notes) ≡ executed_for p (state_of g).notes
    skipped [] own = refl
    skipped (n ∷ more) own =
        ap (λ b. cond b (executed_in n.what) [] ++ executed_for p (more ++ (state_of g).notes)) (ap (λ x. same_peer x p) own.0.0 ∙ other) ∙ skipped more own.1

    executed_other : (more : List Note) → after ≡ more ++ (state_of g).notes → AllByRecursion (λ n. (n.peer ≡ q) × (n.at ≡ (looked_at now g).moment)) more →
        executed_for p after ≡ executed_for p (state_of g).notes
    executed_other more is own = ap (executed_for p) is ∙ skipped more own

pub accepted_other : (p q : Peer) (bytes : List ℕ) (now : ℕ) (g : Past) → same_peer q p ≡ false → accepted_by p (and_then (Datagram q bytes now) g) ≡ accepted_by p g
accepted_other p q bytes now g other =
    let s1 : State = looked_at now g in
    ap accepted (notes_of_grown p q s1.moment s1.notes _ other (grows_reading g.sizes q (read_datagram bytes) s1))

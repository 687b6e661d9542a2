-- The notes of a device stand in the order of their moments. So what was noted at most 120,000 ms ago of a peer still belongs to its session.
use Rattle.oca_pair.proofs.Words.{◌≡◌, ℕ, ◌+◌, ◌-◌, ◌≤◌, Bool, true, false, cond, List, [], ◌∷◌, ◌++◌, refl, ◌∙◌, arith, ◌⊎◌, inl, inr, nat_eq, nat_le, ◌||◌, max, AllByRecursion, list_any-append}
use Rattle.oca_pair.proofs.Words.{nat_tests, or_left, Peer, Reply, same_peer, CommandFields, DeviceSizes, read_datagram, Object, Entry, has_handle, longest_silence, Event, Datagram, Tick, Local}
use Rattle.oca_pair.proofs.Words.{Noted, Admitted, Heartbeat, Executed, Note, notes_of, is_recent, unbroken, accepted, accepted_after, State, moved_to, after_reading, state_after, equal_self, on_bool}
use Rattle.oca_pair.proofs.Core.{has}
use Rattle.oca_pair.proofs.Clocks.{Grows, grows_reading, moment_reading}

-- each note is of no later moment than the one before it in the list, and the first of none later than t
abbrev pub AreOrdered : ℕ → List Note → Type 0
AreOrdered t [] = Unit {0}
AreOrdered t (n ∷ ns) = (n.at ≤ t) × AreOrdered n.at ns

pub ordered_till : (t u : ℕ) (ns : List Note) → t ≤ u → AreOrdered t ns → AreOrdered u ns
ordered_till t u [] e o = tt
ordered_till t u (n ∷ ns) e o = (later n.at o.0, o.1)
  where
    later : (x : ℕ) → x ≤ t → x ≤ u
    later x q = omega arith

-- notes of one moment before these
ordered_grown : (q : Peer) (t : ℕ) (ns more : List Note) → AllByRecursion (λ n. (n.peer ≡ q) × (n.at ≡ t)) more → AreOrdered t ns → AreOrdered t (more ++ ns)
ordered_grown q t ns [] own o = o
ordered_grown q t ns (n ∷ more) own o = (same n.at own.0.1, ordered_till t n.at (more ++ ns) (same' n.at own.0.1) (ordered_grown q t ns more own.1 o))
  where
    same : (x : ℕ) → x ≡ t → x ≤ t
    same x e = omega arith

    same' : (x : ℕ) → x ≡ t → t ≤ x
    same' x e = omega arith

pub ordered_after : (w : DeviceSizes) (tree : List Object) (E : List Event) → AreOrdered (state_after w tree E).moment (state_after w tree E).notes
ordered_after w tree [] = tt
ordered_after w tree (Tick now ∷ E) = passed now (state_after w tree E) (ordered_after w tree E)
  where
    passed : (now : ℕ) (s : State) → AreOrdered s.moment s.notes → AreOrdered (max s.moment now) s.notes
    passed now s o = ordered_till s.moment (max s.moment now) s.notes (omega arith) o
ordered_after w tree (Local ono change ∷ E) = ordered_after w tree E
ordered_after w tree (Datagram p bytes now ∷ E) =
    let s : State = state_after w tree E in
    let s1 : State = moved_to (max s.moment now) s in
    let g : Grows p s1.moment s1.notes (after_reading w p (read_datagram bytes) s1).notes = grows_reading w p (read_datagram bytes) s1 in
    grown s1 (after_reading w p (read_datagram bytes) s1) (moment_reading w p (read_datagram bytes) s1) g (ordered_till s.moment s1.moment s.notes (later s.moment) (ordered_after w tree E))
  where
    later : (m : ℕ) → m ≤ max m now
    later m = omega arith

    grown : (s s' : State) → s'.moment ≡ s.moment → Grows p s.moment s.notes s'.notes → AreOrdered s.moment s.notes → AreOrdered s'.moment s'.notes
    grown s s' e g o = rw (e, g.is) (ordered_grown p s.moment s.notes g.more g.own o)

-- ---- of one peer

pub ordered_of : (p : Peer) (t : ℕ) (ns : List Note) → AreOrdered t ns → AreOrdered t (notes_of p ns)
ordered_of p t [] o = tt
ordered_of p t (n ∷ ns) o = on_bool (same_peer n.peer p) (λ b. AreOrdered n.at (notes_of p ns) → AreOrdered t (cond b (n ∷ notes_of p ns) (notes_of p ns)))
    (λ rest. (o.0, rest)) (λ rest. ordered_till n.at t (notes_of p ns) o.0 rest) (ordered_of p n.at ns o.1)

-- an execution under this handle was noted at this moment or later
abbrev pub WasNoted : ℕ → ℕ → Note → Type 0
WasNoted h since n = (objects : List Object) × (c : CommandFields) × (r : Reply) × (n.what ≡ Executed objects c r) × (c.handle ≡ h) × (since ≤ n.at)

abbrev pub WereNoted : ℕ → ℕ → List Note → Type 0
WereNoted h since [] = ⊥
WereNoted h since (n ∷ ns) = WasNoted h since n ⊎ WereNoted h since ns

accepted_one : (h : ℕ) (x : Noted) (A : List Entry) → has h A ≡ true → has h (accepted_after x A) ≡ true
accepted_one h (Admitted ms) A e = e
accepted_one h (Heartbeat ms) A e = e
accepted_one h (Executed objects c r) A e = let d : Entry = record { command = c; reply = r } in list_any-append (has_handle h) A (d ∷ []) ∙ or_left (has h A) (has h (d ∷ [])) e

accepted_here : (h : ℕ) (objects : List Object) (c : CommandFields) (r : Reply) (x : Noted) (A : List Entry) → x ≡ Executed objects c r → c.handle ≡ h → has h (accepted_after x A) ≡ true
accepted_here h objects c r x A e q = rw (e, ← q) (let d : Entry = record { command = c; reply = r } in list_any-append (has_handle c.handle) A (d ∷ []) ∙ second (has c.handle A) (nat_eq c.handle c.handle) (equal_self c.handle))
  where
    second : (a b : Bool) → b ≡ true → (a || (b || false)) ≡ true
    second true b q = refl
    second false true q = refl
    second false false q = cc

-- What was noted at most 120,000 ms before t is within the session that the peer has at t.
pub still_accepted : (h since t : ℕ) (ns : List Note) → AreOrdered t ns → t ≤ since + longest_silence → WereNoted h since ns → (is_recent t ns ≡ true) × (has h (accepted (unbroken ns)) ≡ true)
still_accepted h since t [] o near i = absurd i
still_accepted h since t (n ∷ ns) o near (inl a) = (within n.at a.5, accepted_here h a.0 a.1 a.2 n.what (accepted (cond (is_recent n.at ns) (unbroken ns) [])) a.3 a.4)
  where
    within : (x : ℕ) → since ≤ x → nat_le (t - x) longest_silence ≡ true
    within x q = grind (arith, nat_tests)
still_accepted h since t (n ∷ ns) o near (inr i) =
    let rest : (is_recent n.at ns ≡ true) × (has h (accepted (unbroken ns)) ≡ true) = still_accepted h since n.at ns o.1 (nearer n.at o.0) i in
    let late : since ≤ n.at = since_then n.at ns o.1 i in
    (within n.at late, accepted_one h n.what (accepted (cond (is_recent n.at ns) (unbroken ns) [])) (goes_on (is_recent n.at ns) rest.0 rest.1))
  where
    nearer : (x : ℕ) → x ≤ t → x ≤ since + longest_silence
    nearer x q = omega arith

    within : (x : ℕ) → since ≤ x → nat_le (t - x) longest_silence ≡ true
    within x q = grind (arith, nat_tests)

    earlier : (x y : ℕ) → x ≤ y → since ≤ x → since ≤ y
    earlier x y a b = omega arith

    since_then : (u : ℕ) (ms : List Note) → AreOrdered u ms → WereNoted h since ms → since ≤ u
    since_then u [] o i = absurd i
    since_then u (m ∷ ms) o (inl a) = earlier m.at u o.0 a.5
    since_then u (m ∷ ms) o (inr i) = earlier m.at u o.0 (since_then m.at ms o.1 i)

    goes_on : (b : Bool) → b ≡ true → has h (accepted (unbroken ns)) ≡ true → has h (accepted (cond b (unbroken ns) [])) ≡ true
    goes_on true q e = e
    goes_on false q e = cc

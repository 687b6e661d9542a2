-- What is true of an answer stays true while more happens and more is submitted.
use Rattle.oca_pair.proofs.Words.{◌≡◌, ℕ, ◌-◌, Bool, true, false, cond, List, [], ◌∷◌, ◌++◌, length, drop, Some, refl, sym, ap, ◌∙◌, zero, suc, ◌⊎◌, inl, inr, nat_eq, max, AllByRecursion, Peer}
use Rattle.oca_pair.proofs.Words.{same_peer, CommandFields, DeviceSizes, Commands, pdu_encoding, read_datagram, Object, Entry, window, has_handle, entry_under, Event, Datagram, Tick, Local, Noted}
use Rattle.oca_pair.proofs.Words.{Admitted, Heartbeat, Executed, Note, notes_of, is_recent, unbroken, run, accepted, accepted_after, State, moved_to, reply_of, after_reading, state_after}
use Rattle.oca_pair.proofs.Words.{AnswerFields, Network, SubmittedCommand, Execution, answer_of, same_is}
use Rattle.oca_pair.proofs.Executions.{executed_in, executed_for}
use Rattle.oca_pair.proofs.Lists.{IsIn, in_more, in_behind, in_parts}
use Rattle.oca_pair.proofs.Clocks.{Grows, grows_reading}

-- what happened and was submitted
pub record Past : Type 0 where
  pub sizes : DeviceSizes
  pub tree : List Object
  pub events : List Event
  pub submitted : List SubmittedCommand

abbrev pub past : Network → Past
past n = record { sizes = n.sizes; tree = n.tree; events = n.events; submitted = n.submitted }

abbrev pub and_then : Event → Past → Past
and_then e g = record { sizes = g.sizes; tree = g.tree; events = e ∷ g.events; submitted = g.submitted }

abbrev pub and_submitted : List SubmittedCommand → Past → Past
and_submitted more g = record { sizes = g.sizes; tree = g.tree; events = g.events; submitted = g.submitted ++ more }

abbrev pub state_of : Past → State
state_of g = state_after g.sizes g.tree g.events

-- the link of this peer submitted the command
abbrev pub IsSubmitted : Peer → CommandFields → List SubmittedCommand → Type 0
IsSubmitted p c submitted = let it : SubmittedCommand = record { peer = p; command = c } in IsIn it submitted

pub record Came (p : Peer) (x : Execution) (g : Past) : Type 0 where
  pub later : List Event
  pub before : List Event
  pub now : ℕ
  pub events : g.events ≡ later ++ Datagram p (pdu_encoding (Commands true (x.command ∷ []))) now ∷ before
  pub objects : x.objects ≡ (state_after g.sizes g.tree (Tick now ∷ before)).tree

-- an execution of a submitted command, with its reply
pub record IsHonest (p : Peer) (x : Execution) (g : Past) : Type 0 where
  pub came : Came p x g
  pub submitted : IsSubmitted p x.command g.submitted
  pub reply : x.reply ≡ reply_of x.objects p x.command

-- the answer is that of an honest execution under the handle
pub record IsTrueAnswer (p : Peer) (h : ℕ) (answer : AnswerFields) (g : Past) : Type 0 where
  pub execution : Execution
  pub executed : IsIn execution (executed_for p (state_of g).notes)
  pub honest : IsHonest p execution g
  pub handle : execution.command.handle ≡ h
  pub answer_is : answer ≡ answer_of execution.reply

-- ---- more happens

pub honest_then : (p : Peer) (x : Execution) (g : Past) (e : Event) → IsHonest p x g → IsHonest p x (and_then e g)
honest_then p x g e h = record {
  came = record { later = e ∷ h.came.later; before = h.came.before; now = h.came.now; events = ap (λ es. e ∷ es) h.came.events; objects = h.came.objects };
  submitted = h.submitted;
  reply = h.reply;
}

pub honest_submitted : (p : Peer) (x : Execution) (g : Past) (more : List SubmittedCommand) → IsHonest p x g → IsHonest p x (and_submitted more g)
honest_submitted p x g more h = record {
  came = record { later = h.came.later; before = h.came.before; now = h.came.now; events = h.came.events; objects = h.came.objects };
  submitted = in_more _ g.submitted more h.submitted;
  reply = h.reply;
}

executed_more : (p : Peer) (x : Execution) (more ns : List Note) → IsIn x (executed_for p ns) → IsIn x (executed_for p (more ++ ns))
executed_more p x [] ns i = i
executed_more p x (n ∷ more) ns i = in_behind x (cond (same_peer n.peer p) (executed_in n.what) []) (executed_for p (more ++ ns)) (executed_more p x more ns i)

pub executed_grown : (p q : Peer) (t : ℕ) (x : Execution) (ns ms : List Note) → Grows q t ns ms → IsIn x (executed_for p ns) → IsIn x (executed_for p ms)
executed_grown p q t x ns ms g i = rw g.is (executed_more p x g.more ns i)

pub executed_then : (p : Peer) (x : Execution) (g : Past) (e : Event) → IsIn x (executed_for p (state_of g).notes) → IsIn x (executed_for p (state_of (and_then e g)).notes)
executed_then p x g (Tick now) i = i
executed_then p x g (Local ono change) i = i
executed_then p x g (Datagram from bytes now) i =
    let s1 : State = moved_to (max (state_of g).moment now) (state_of g) in
    executed_grown p from s1.moment x s1.notes (after_reading g.sizes from (read_datagram bytes) s1).notes (grows_reading g.sizes from (read_datagram bytes) s1) i

pub true_then : (p : Peer) (h : ℕ) (a : AnswerFields) (g : Past) (e : Event) → IsTrueAnswer p h a g → IsTrueAnswer p h a (and_then e g)
true_then p h a g e t = record {
  execution = t.execution;
  executed = executed_then p t.execution g e t.executed;
  honest = honest_then p t.execution g e t.honest;
  handle = t.handle;
  answer_is = t.answer_is;
}

pub true_submitted : (p : Peer) (h : ℕ) (a : AnswerFields) (g : Past) (more : List SubmittedCommand) → IsTrueAnswer p h a g → IsTrueAnswer p h a (and_submitted more g)
true_submitted p h a g more t = record {
  execution = t.execution;
  executed = t.executed;
  honest = honest_submitted p t.execution g more t.honest;
  handle = t.handle;
  answer_is = t.answer_is;
}

-- ---- what is retained was executed

-- the entry was noted
abbrev pub HasNote : Entry → List Note → Type 0
HasNote e [] = ⊥
HasNote e (n ∷ ns) = ((objects : List Object) × (n.what ≡ Executed objects e.command e.reply)) ⊎ HasNote e ns

accepted_noted : (e : Entry) (ns : List Note) → IsIn e (accepted ns) → HasNote e ns
accepted_noted e [] i = i
accepted_noted e (n ∷ ns) i = by_what n.what refl i (accepted_noted e ns)
  where
    by_what : (x : Noted) → n.what ≡ x → IsIn e (accepted_after x (accepted ns)) → (IsIn e (accepted ns) → HasNote e ns) →
        ((objects : List Object) × (n.what ≡ Executed objects e.command e.reply)) ⊎ HasNote e ns
    by_what (Admitted messages) q i rest = inr (rest i)
    by_what (Heartbeat ms) q i rest = inr (rest i)
    by_what (Executed objects c r) q i rest =
        let d : Entry = record { command = c; reply = r } in
        elim (in_parts e (accepted ns) (d ∷ []) i) [
          | inl a ↦ inr (rest a)
          | inr b ↦ elim b [ inl same ↦ inl (objects, q ∙ ap (λ (z : Entry). Executed objects z.command z.reply) same) | inr none ↦ absurd none ]
        ]

noted_unbroken : (e : Entry) (ns : List Note) → HasNote e (unbroken ns) → HasNote e ns
noted_unbroken e [] i = i
noted_unbroken e (n ∷ ns) (inl a) = inl a
noted_unbroken e (n ∷ ns) (inr b) = inr (by_test (is_recent n.at ns) b (noted_unbroken e ns))
  where
    by_test : (b : Bool) → HasNote e (cond b (unbroken ns) []) → (HasNote e (unbroken ns) → HasNote e ns) → HasNote e ns
    by_test true i rest = rest i
    by_test false i rest = absurd i

-- what is noted of a peer is honest
abbrev pub IsOwn : Peer → Past → Noted → Type 0
IsOwn p g (Admitted messages) = Unit {0}
IsOwn p g (Heartbeat ms) = Unit {0}
IsOwn p g (Executed objects c r) = let x : Execution = record { objects = objects; command = c; reply = r } in IsHonest p x g

-- an entry that was noted of the peer was executed honestly
pub record IsExecuted (p : Peer) (e : Entry) (ns : List Note) (g : Past) : Type 0 where
  pub objects : List Object
  pub executed : let x : Execution = record { objects = objects; command = e.command; reply = e.reply } in IsIn x (executed_for p ns)
  pub honest : let x : Execution = record { objects = objects; command = e.command; reply = e.reply } in IsHonest p x g

from_note : (p : Peer) (g : Past) (e : Entry) (ns : List Note) → AllByRecursion (λ n. n.peer ≡ p → IsOwn p g n.what) ns → HasNote e (notes_of p ns) → IsExecuted p e ns g
from_note p g e [] own i = absurd i
from_note p g e (n ∷ ns) own i = by_test (same_peer n.peer p) refl i (from_note p g e ns own.1)
  where
    further : IsExecuted p e ns g → IsExecuted p e (n ∷ ns) g
    further t = record { objects = t.objects; executed = in_behind _ (cond (same_peer n.peer p) (executed_in n.what) []) (executed_for p ns) t.executed; honest = t.honest }

    here : (x : Execution) (b : Bool) (what : Noted) → b ≡ true → what ≡ Executed x.objects x.command x.reply → IsIn x (cond b (executed_in what) [] ++ executed_for p ns)
    here x b what q r = rw (q, r) (inl refl)

    by_test : (b : Bool) → same_peer n.peer p ≡ b → HasNote e (cond b (n ∷ notes_of p ns) (notes_of p ns)) → (HasNote e (notes_of p ns) → IsExecuted p e ns g) → IsExecuted p e (n ∷ ns) g
    by_test true q (inl a) rest =
        let x : Execution = record { objects = a.0; command = e.command; reply = e.reply } in
        record { objects = a.0; executed = here x (same_peer n.peer p) n.what q a.1; honest = rw a.1 at (own.0 (same_is n.peer p q)) }
    by_test true q (inr b) rest = further (rest b)
    by_test false q i rest = further (rest i)

entry_in : (h : ℕ) (es : List Entry) (e : Entry) → entry_under h es ≡ Some e → IsIn e es × (nat_eq e.command.handle h ≡ true)
entry_in h [] e q = cc
entry_in h (x ∷ xs) e q = by_test (entry_in h xs e) (has_handle h x) refl q
  where
    by_test : (entry_under h xs ≡ Some e → IsIn e xs × (nat_eq e.command.handle h ≡ true)) → (b : Bool) → has_handle h x ≡ b → cond b (Some x) (entry_under h xs) ≡ Some e →
        ((x ≡ e) ⊎ IsIn e xs) × (nat_eq e.command.handle h ≡ true)
    by_test rest true t q = let same : x ≡ e = cc in (inl same, ap (has_handle h) (sym same) ∙ t)
    by_test rest false t q = let r = rest q in (inr r.0, r.1)

in_drop : {X : Type 0} (x : X) (k : ℕ) (xs : List X) → IsIn x (drop k xs) → IsIn x xs
in_drop x zero xs i = i
in_drop x (suc k) [] i = i
in_drop x (suc k) (y ∷ ys) i = inr (in_drop x k ys i)

-- what a window has under a handle was executed honestly under it
pub window_executed : (w : DeviceSizes) (p : Peer) (g : Past) (h : ℕ) (e : Entry) (ns : List Note) → AllByRecursion (λ n. n.peer ≡ p → IsOwn p g n.what) ns →
    entry_under h (window w.window (accepted (run p ns))) ≡ Some e → IsExecuted p e ns g × (nat_eq e.command.handle h ≡ true)
window_executed w p g h e ns own q =
    let i = entry_in h (window w.window (accepted (run p ns))) e q in
    (from_note p g e ns own (noted_unbroken e (notes_of p ns) (accepted_noted e (run p ns) (in_drop e (length (accepted (run p ns)) - w.window) (accepted (run p ns)) i.0))), i.1)

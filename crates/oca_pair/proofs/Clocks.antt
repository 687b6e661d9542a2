-- What one datagram notes.
use Rattle.oca_pair.proofs.Words.{◌≡◌, ℕ, false, cond, List, [], ◌∷◌, ◌++◌, refl, sym, ap, ◌∙◌, append_assoc, Result, Ok, Err, AllByRecursion, Peer, same_peer, CommandFields, DeviceSizes, PduFault}
use Rattle.oca_pair.proofs.Words.{Msg, Command, Response, KeepAlive, Judgement, Fresh, Duplicate, Reused, Old, Noted, Admitted, Heartbeat, Executed, Note, notes_of, State, noted, admits, judged_in}
use Rattle.oca_pair.proofs.Words.{reply_of, after_command, after_message, after_messages, after_reading, time_of, each_append, on_bool}

-- ---- a message leaves the clock

moment_command : (j : Judgement) (p : Peer) (c : CommandFields) (s : State) → (after_command j p c s).moment ≡ s.moment
moment_command Fresh p c s = refl
moment_command _ p c s = refl

moment_message : (w : DeviceSizes) (p : Peer) (m : Msg) (s : State) → (after_message w p m s).moment ≡ s.moment
moment_message w p (Command respond c) s = moment_command (judged_in w s p c) p c s
moment_message w p _ s = refl

moment_messages : (w : DeviceSizes) (p : Peer) (ms : List Msg) (s : State) → (after_messages w p ms s).moment ≡ s.moment
moment_messages w p [] s = refl
moment_messages w p (m ∷ ms) s = moment_messages w p ms (after_message w p m s) ∙ moment_message w p m s

pub moment_reading : (w : DeviceSizes) (p : Peer) (r : Result (List Msg) PduFault) (s : State) → (after_reading w p r s).moment ≡ s.moment
moment_reading w p (Err fault) s = refl
moment_reading w p (Ok ms) s = on_bool (admits w s p) (λ b. (let x : State = cond b (after_messages w p ms (noted p (Admitted ms) s)) s in x).moment ≡ s.moment)
    (moment_messages w p ms (noted p (Admitted ms) s)) refl

-- ---- what one datagram notes

-- The notes grow by those of one peer at one moment.
pub record Grows (q : Peer) (t : ℕ) (ns ms : List Note) : Type 0 where
  pub more : List Note
  pub is : ms ≡ more ++ ns
  pub own : AllByRecursion (λ n. (n.peer ≡ q) × (n.at ≡ t)) more

pub grows_not : (q : Peer) (t : ℕ) (ns : List Note) → Grows q t ns ns
grows_not q t ns = record { more = []; is = refl; own = tt }

pub grows_noted : (q : Peer) (t : ℕ) (x : Noted) (s : State) → s.moment ≡ t → Grows q t s.notes (noted q x s).notes
grows_noted q t x s e = record { more = (record { peer = q; at = s.moment; what = x }) ∷ []; is = refl; own = ((refl, e), tt) }

pub grows_on : (q : Peer) (t : ℕ) (ns ms os : List Note) → Grows q t ns ms → Grows q t ms os → Grows q t ns os
grows_on q t ns ms os a b = record {
  more = b.more ++ a.more;
  is = b.is ∙ ap (λ x. b.more ++ x) a.is ∙ sym (append_assoc b.more a.more ns);
  own = each_append _ b.more a.more b.own a.own;
}

pub grows_message : (w : DeviceSizes) (q : Peer) (t : ℕ) (m : Msg) (s : State) → s.moment ≡ t → Grows q t s.notes (after_message w q m s).notes
grows_message w q t (Command respond c) s e = by_judgement (judged_in w s q c)
  where
    by_judgement : (j : Judgement) → Grows q t s.notes (after_command j q c s).notes
    by_judgement Fresh = grows_noted q t (Executed s.tree c (reply_of s.tree q c)) s e
    by_judgement _ = grows_not q t s.notes
grows_message w q t (KeepAlive form) s e = grows_noted q t (Heartbeat (time_of form)) s e
grows_message w q t (Response r) s e = grows_not q t s.notes

grows_messages : (w : DeviceSizes) (q : Peer) (t : ℕ) (ms : List Msg) (s : State) → s.moment ≡ t → Grows q t s.notes (after_messages w q ms s).notes
grows_messages w q t [] s e = grows_not q t s.notes
grows_messages w q t (m ∷ ms) s e =
    grows_on q t s.notes (after_message w q m s).notes (after_messages w q ms (after_message w q m s)).notes
    (grows_message w q t m s e) (grows_messages w q t ms (after_message w q m s) (moment_message w q m s ∙ e))

pub grows_reading : (w : DeviceSizes) (q : Peer) (r : Result (List Msg) PduFault) (s : State) → Grows q s.moment s.notes (after_reading w q r s).notes
grows_reading w q (Err fault) s = grows_not q s.moment s.notes
grows_reading w q (Ok ms) s = on_bool (admits w s q) (λ b. Grows q s.moment s.notes (let x : State = cond b (after_messages w q ms (noted q (Admitted ms) s)) s in x).notes)
    (grows_on q s.moment s.notes (noted q (Admitted ms) s).notes (after_messages w q ms (noted q (Admitted ms) s)).notes (grows_noted q s.moment (Admitted ms) s refl) (grows_messages w q s.moment ms (noted q (Admitted ms) s) refl))
    (grows_not q s.moment s.notes)

-- notes of another peer are not those of this one
pub notes_of_grown : (p q : Peer) (t : ℕ) (ns ms : List Note) → same_peer q p ≡ false → Grows q t ns ms → notes_of p ms ≡ notes_of p ns
notes_of_grown p q t ns ms other g = ap (notes_of p) g.is ∙ skipped g.more g.own
  where
    skipped : (more : List Note) → AllByRecursion (λ n. (n.peer ≡ q) × (n.at ≡ t)) more → notes_of p (more ++ ns) ≡ notes_of p ns
    skipped [] own = refl
    skipped (n ∷ more) own =
        ap (λ b. cond b (n ∷ notes_of p (more ++ ns)) (notes_of p (more ++ ns))) (ap (λ x. same_peer x p) own.0.0 ∙ other) ∙ skipped more own.1

-- What holds of one link at any time: what it sent it had submitted, and each response that was sent to it carries the reply of an
-- execution of its own command.
use Rattle.oca_pair.proofs.Words.{◌≡◌, ℕ, ◌^◌, ◌<◌, ◌≢◌, Bool, true, false, cond, List, [], ◌∷◌, ◌++◌, Option, Some, None, refl, sym, ◌∙◌, ◌⊎◌, inl, inr, max, not, ◌&&◌, Ok, list_all, AllByRecursion}
use Rattle.oca_pair.proofs.Words.{Peer, Reply, CommandFields, Seconds, ResponseFields, Response, KeepAlive, Commands, OneKeepAlive, pdu_encoding, read_datagram, Entry, window, outside, is_below}
use Rattle.oca_pair.proofs.Words.{accepts, entry_under, asks_the_same, Fresh, Duplicate, Reused, judge_unaccepted, judgement, LocalChange, Event, Datagram, Tick, Local, Noted, Admitted, Heartbeat}
use Rattle.oca_pair.proofs.Words.{Executed, Note, State, moved_to, after_reading, packets, AnswerFields, answer_of_response, Untaken, SentDatagram, SubmittedCommand, TakenAnswer, sendings_in}
use Rattle.oca_pair.proofs.Words.{handles_of, each_map, each_append, end_of}
use Rattle.oca_pair.specs.Laws as laws
use Rattle.oca_pair.proofs.Core.{has}
use Rattle.oca_pair.proofs.Lists.{in_more}
use Rattle.oca_pair.proofs.Wire.{IsSendable}
use Rattle.oca_pair.proofs.Clocks.{Grows, grows_reading}
use Rattle.oca_pair.proofs.Truths.{Past, and_then, and_submitted, state_of, IsSubmitted, IsTrueAnswer, honest_then, honest_submitted, true_then, true_submitted, IsOwn}

abbrev pub NextFits : Option ℕ → Type 0
NextFits None = Unit {0}
NextFits (Some h) = h < 2 ^ 32

-- what the link of a peer sends to the device: a submitted command, or a keep-alive
abbrev pub IsOut : Peer → List SubmittedCommand → List ℕ → Type 0
IsOut p submitted bytes =
    ((c : CommandFields) × IsSubmitted p c submitted × (bytes ≡ pdu_encoding (Commands true (c ∷ [])))) ⊎ (bytes ≡ pdu_encoding (OneKeepAlive (Seconds 5)))

-- what the device sends to it: a true answer, or the keep-alive
abbrev pub IsBack : Peer → Past → List ℕ → Type 0
IsBack p g bytes =
    ((r : ResponseFields) × IsTrueAnswer p r.handle (answer_of_response r) g × (read_datagram bytes ≡ Ok (Response r ∷ []))) ⊎ (read_datagram bytes ≡ Ok (KeepAlive (Seconds 5) ∷ []))

abbrev pub IsHeld : Peer → Past → ℕ → Option AnswerFields → Type 0
IsHeld p g h None = Unit {0}
IsHeld p g h (Some a) = IsTrueAnswer p h a g

abbrev pub IsFair : Peer → Past → Untaken → Type 0
IsFair p g u = IsSubmitted p u.command g.submitted × IsHeld p g u.command.handle u.answer

-- each command that the link submitted can be sent, and has a handle below the next one
abbrev pub AreSendable : Peer → Option ℕ → List SubmittedCommand → Type 0
AreSendable p next xs = AllByRecursion (λ x. x.peer ≡ p → IsSendable x.command × (x.command.handle < end_of next)) xs

abbrev pub AreUnique : Peer → List SubmittedCommand → Type 0
AreUnique p xs = (c d : CommandFields) → IsSubmitted p c xs → IsSubmitted p d xs → c.handle ≡ d.handle → c ≡ d

-- its handles rise, up to the next one
abbrev pub AreRising : Peer → Option ℕ → List SubmittedCommand → Type 0
AreRising p next xs = laws.AreIncreasing (handles_of p xs ++ end_of next ∷ [])

abbrev pub AreOwn : Peer → Past → List Note → Type 0
AreOwn p g ns = AllByRecursion (λ n. n.peer ≡ p → IsOwn p g n.what) ns

pub record Fair (p : Peer) (next : Option ℕ) (us : List Untaken) (g : Past) (out back : List SentDatagram) (handed : List TakenAnswer) : Type 0 where
  pub fits : NextFits next
  pub own : AreOwn p g (state_of g).notes
  pub outgoing : AllByRecursion (λ d. d.peer ≡ p → IsOut p g.submitted d.bytes) out
  pub incoming : AllByRecursion (λ d. d.peer ≡ p → IsBack p g d.bytes) back
  pub untaken : AllByRecursion (IsFair p g) us
  pub was_taken : AllByRecursion (λ t. t.peer ≡ p → IsTrueAnswer p t.handle t.answer g) handed
  pub sendable : AreSendable p next g.submitted
  pub unique : AreUnique p g.submitted
  pub rising : AreRising p next g.submitted

-- ---- more is submitted

out_more : (p : Peer) (xs more : List SubmittedCommand) (bytes : List ℕ) → IsOut p xs bytes → IsOut p (xs ++ more) bytes
out_more p xs more bytes (inl h) = inl (h.0, in_more _ xs more h.1, h.2)
out_more p xs more bytes (inr h) = inr h

back_more : (p : Peer) (g : Past) (more : List SubmittedCommand) (bytes : List ℕ) → IsBack p g bytes → IsBack p (and_submitted more g) bytes
back_more p g more bytes (inl h) = inl (h.0, true_submitted p h.0.handle (answer_of_response h.0) g more h.1, h.2)
back_more p g more bytes (inr h) = inr h

held_more : (p : Peer) (g : Past) (more : List SubmittedCommand) (h : ℕ) (o : Option AnswerFields) → IsHeld p g h o → IsHeld p (and_submitted more g) h o
held_more p g more h None q = tt
held_more p g more h (Some a) q = true_submitted p h a g more q

own_more : (p : Peer) (g : Past) (more : List SubmittedCommand) (x : Noted) → IsOwn p g x → IsOwn p (and_submitted more g) x
own_more p g more (Admitted ms) h = tt
own_more p g more (Heartbeat ms) h = tt
own_more p g more (Executed objects c r) h = honest_submitted p (record { objects = objects; command = c; reply = r }) g more h

pub fair_more : (p : Peer) (next next' : Option ℕ) (us us' : List Untaken) (g : Past) (out back : List SentDatagram) (handed : List TakenAnswer) (more : List SubmittedCommand) →
    NextFits next' → AreSendable p next' (g.submitted ++ more) → AreUnique p (g.submitted ++ more) → AreRising p next' (g.submitted ++ more) →
    (AllByRecursion (IsFair p (and_submitted more g)) us → AllByRecursion (IsFair p (and_submitted more g)) us') →
    Fair p next us g out back handed → Fair p next' us' (and_submitted more g) out back handed
fair_more p next next' us us' g out back handed more fits sendable unique rising grow f = record {
  fits = fits;
  own = each_map (λ n h e. own_more p g more n.what (h e)) (state_of g).notes f.own;
  outgoing = each_map (λ d h e. out_more p g.submitted more d.bytes (h e)) out f.outgoing;
  incoming = each_map (λ d h e. back_more p g more d.bytes (h e)) back f.incoming;
  untaken = grow (each_map (λ u h. (in_more _ g.submitted more h.0, held_more p g more u.command.handle u.answer h.1)) us f.untaken);
  was_taken = each_map (λ t h e. true_submitted p t.handle t.answer g more (h e)) handed f.was_taken;
  sendable = sendable;
  unique = unique;
  rising = rising;
}

-- ---- more happens

back_then : (p : Peer) (g : Past) (e : Event) (bytes : List ℕ) → IsBack p g bytes → IsBack p (and_then e g) bytes
back_then p g e bytes (inl h) = inl (h.0, true_then p h.0.handle (answer_of_response h.0) g e h.1, h.2)
back_then p g e bytes (inr h) = inr h

held_then : (p : Peer) (g : Past) (e : Event) (h : ℕ) (o : Option AnswerFields) → IsHeld p g h o → IsHeld p (and_then e g) h o
held_then p g e h None q = tt
held_then p g e h (Some a) q = true_then p h a g e q

own_then : (p : Peer) (g : Past) (e : Event) (x : Noted) → IsOwn p g x → IsOwn p (and_then e g) x
own_then p g e (Admitted ms) h = tt
own_then p g e (Heartbeat ms) h = tt
own_then p g e (Executed objects c r) h = honest_then p (record { objects = objects; command = c; reply = r }) g e h

pub owns_then : (p : Peer) (g : Past) (e : Event) (ns : List Note) → AreOwn p g ns → AreOwn p (and_then e g) ns
owns_then p g e ns a = each_map (λ n h same. own_then p g e n.what (h same)) ns a

pub fair_then : (p : Peer) (next : Option ℕ) (us : List Untaken) (g : Past) (out back : List SentDatagram) (handed : List TakenAnswer) (e : Event) (more : List SentDatagram) →
    AreOwn p (and_then e g) (state_of (and_then e g)).notes → AllByRecursion (λ d. d.peer ≡ p → IsBack p (and_then e g) d.bytes) more →
    Fair p next us g out back handed → Fair p next us (and_then e g) out (back ++ more) handed
fair_then p next us g out back handed e more own new f = record {
  fits = f.fits;
  own = own;
  outgoing = f.outgoing;
  incoming = each_append _ back more (each_map (λ d h same. back_then p g e d.bytes (h same)) back f.incoming) new;
  untaken = each_map (λ u h. (h.0, held_then p g e u.command.handle u.answer h.1)) us f.untaken;
  was_taken = each_map (λ t h same. true_then p t.handle t.answer g e (h same)) handed f.was_taken;
  sendable = f.sendable;
  unique = f.unique;
  rising = f.rising;
}

-- the datagrams for another peer are not for this one
pub none_for : (P : List ℕ → Type 0) (p q : Peer) → q ≢ p → (packets : List (List ℕ)) → AllByRecursion (λ d. d.peer ≡ p → P d.bytes) (sendings_in q packets)
none_for P p q other [] = tt
none_for P p q other (b ∷ bs) = ((λ same. absurd (other same)), none_for P p q other bs)

-- A datagram of another peer comes.
pub fair_other : (p q : Peer) (next : Option ℕ) (us : List Untaken) (g : Past) (out back : List SentDatagram) (handed : List TakenAnswer) (bytes : List ℕ) (now : ℕ) (packets : List (List ℕ)) →
    q ≢ p → Fair p next us g out back handed → Fair p next us (and_then (Datagram q bytes now) g) out (back ++ sendings_in q packets) handed
fair_other p q next us g out back handed bytes now packets other f =
    let e : Event = Datagram q bytes now in
    let s1 : State = moved_to (max (state_of g).moment now) (state_of g) in
    let grows : Grows q s1.moment s1.notes (after_reading g.sizes q (read_datagram bytes) s1).notes = grows_reading g.sizes q (read_datagram bytes) s1 in
    fair_then p next us g out back handed e (sendings_in q packets)
    (grown grows.more (after_reading g.sizes q (read_datagram bytes) s1).notes grows.is grows.own)
    (none_for (IsBack p (and_then e g)) p q other packets) f
  where
    grown : (more ns : List Note) → ns ≡ more ++ (state_of g).notes → AllByRecursion (λ n. (n.peer ≡ q) × (n.at ≡ max (state_of g).moment now)) more → AreOwn p (and_then (Datagram q bytes now) g) ns
    grown more ns is own = rw is (each_append _ more (state_of g).notes (each_map (λ n h same. absurd (other (sym h.0 ∙ same))) more own) (owns_then p g (Datagram q bytes now) (state_of g).notes f.own))

-- An event after which the notes are those of honest commands, and nothing is sent.
fair_event : (p : Peer) (next : Option ℕ) (us : List Untaken) (g : Past) (out back : List SentDatagram) (handed : List TakenAnswer) (e : Event) → AreOwn p (and_then e g) (state_of (and_then e g)).notes →
    Fair p next us g out back handed → Fair p next us (and_then e g) out back handed
fair_event p next us g out back handed e own f = record {
  fits = f.fits;
  own = own;
  outgoing = f.outgoing;
  incoming = each_map (λ d h same. back_then p g e d.bytes (h same)) back f.incoming;
  untaken = each_map (λ u h. (h.0, held_then p g e u.command.handle u.answer h.1)) us f.untaken;
  was_taken = each_map (λ t h same. true_then p t.handle t.answer g e (h same)) handed f.was_taken;
  sendable = f.sendable;
  unique = f.unique;
  rising = f.rising;
}

-- The clock is read.
pub fair_tick : (p : Peer) (next : Option ℕ) (us : List Untaken) (g : Past) (out back : List SentDatagram) (handed : List TakenAnswer) (now : ℕ) →
    Fair p next us g out back handed → Fair p next us (and_then (Tick now) g) out back handed
fair_tick p next us g out back handed now f = fair_event p next us g out back handed (Tick now) (owns_then p g (Tick now) (state_of g).notes f.own) f

-- A change at the front.
pub fair_local : (p : Peer) (next : Option ℕ) (us : List Untaken) (g : Past) (out back : List SentDatagram) (handed : List TakenAnswer) (ono : ℕ) (change : LocalChange) →
    Fair p next us g out back handed → Fair p next us (and_then (Local ono change) g) out back handed
fair_local p next us g out back handed ono change f = fair_event p next us g out back handed (Local ono change) (owns_then p g (Local ono change) (state_of g).notes f.own) f

-- ---- what a judgement says

pub judged_fresh : (w : ℕ) (A : List Entry) (c : CommandFields) → judgement w A c ≡ Fresh → has c.handle A ≡ false
judged_fresh w A c e = by_found (entry_under c.handle (window w A)) (accepts w A c.handle) refl e
  where
    first : (a b : Bool) → (not a && b) ≡ true → a ≡ false
    first true b q = cc
    first false b q = refl

    not_fresh : (b : Bool) (r : Reply) → cond b (Duplicate r) Reused ≡ Fresh → ⊥
    not_fresh true r q = cc
    not_fresh false r q = cc

    by_found : (o : Option Entry) (b : Bool) → accepts w A c.handle ≡ b → cond b Fresh (judge_unaccepted o c) ≡ Fresh → has c.handle A ≡ false
    by_found o true q k = first (has c.handle A) (list_all (is_below c.handle) (outside w A)) q
    by_found (Some x) false q k = absurd (not_fresh (asks_the_same x.command c) x.reply k)
    by_found None false q k = cc

pub judged_duplicate : (w : ℕ) (A : List Entry) (c : CommandFields) (r : Reply) → judgement w A c ≡ Duplicate r → (e : Entry) × (entry_under c.handle (window w A) ≡ Some e) × (e.reply ≡ r)
judged_duplicate w A c r e = by_found (entry_under c.handle (window w A)) refl (accepts w A c.handle) e
  where
    by_same : (x : Entry) (b : Bool) → cond b (Duplicate x.reply) Reused ≡ Duplicate r → x.reply ≡ r
    by_same x true q = cc
    by_same x false q = cc

    by_found : (o : Option Entry) → entry_under c.handle (window w A) ≡ o → (b : Bool) → cond b Fresh (judge_unaccepted o c) ≡ Duplicate r → (x : Entry) × (entry_under c.handle (window w A) ≡ Some x) × (x.reply ≡ r)
    by_found o q true k = cc
    by_found (Some x) q false k = (x, q, by_same x (asks_the_same x.command c) k)
    by_found None q false k = cc

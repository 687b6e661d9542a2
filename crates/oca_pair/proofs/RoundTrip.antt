-- A command that came to the device comes back to its link as an answer.
use Rattle.oca_pair.proofs.Words.{append-nil, append_assoc, ◌≡◌, ℕ, ◌<◌, ◌^◌, Bool, true, false, cond, List, [], ◌∷◌, ◌++◌, length, Option, Some, None, refl, sym, ap, ◌∙◌, subst, zero, suc, ◌⊎◌, inl}
use Rattle.oca_pair.proofs.Words.{inr, nat_eq, ◌&&◌, ◌||◌, map, is_some, is_none, Result, Ok, Err, AllByRecursion, slice_get, slice_set, list_any-append, slice_get-map, same_Some, option_map, or_left}
use Rattle.oca_pair.proofs.Words.{or_right, Peer, Handle, same_peer, CommandFields, DeviceSizes, Response, ResponseFields, pdu_encoding, WrittenIsReadBack, Object, Datagram, Noted, Admitted}
use Rattle.oca_pair.proofs.Words.{Heartbeat, Executed, Note, packets, response, ControlFault, AnswerFields, answer_of_response, Untaken, new_untaken, answered, answer_under, without_handle, holds}
use Rattle.oca_pair.proofs.Words.{LinkState, Request, command_under, submission, after_submission, Decision, GivesCommand, GivesKeepAlive, GivesNothing, IsLost, decision, after_due, gone_on}
use Rattle.oca_pair.proofs.Words.{hears_content, received, taken, present_moment, Start, Network, PeerLink, SentDatagram, SubmittedCommand, TakenAnswer, Setup, started, opening, Step, ToDevice}
use Rattle.oca_pair.proofs.Words.{ToLink, sendings_in, with_link, submitted_by, messages_read, content_read, hears_datagram, after_reception, taken_by, renewal_of, equal_self, renewed_link}
use Rattle.oca_pair.proofs.Words.{after_step, after_steps, are_apart, StepFits, Fit, SpanFits, Execution, executions_under, executions_for, answer_of, IsExecutedNow, WasExecuted, end_of}
use Rattle.oca_pair.proofs.Words.{CarriesUntaken, IsAnswered, HoldsUntaken, IsAnswerTo, HoldsItsAnswer, GotItsAnswer, asked, meanwhile, come_back, ComesBack, RoundTrips, RenewsNothing, same_is}
use Rattle.oca_pair.proofs.Words.{holds_marked_sent, holds_received, on_bool}
use Rattle.oca_device.specs.Events as event
use Rattle.oca_device.specs.Groups.{pdu_of}
use Rattle.oca_pair.proofs.EachStep.{after_each}
use Rattle.oca_pair.proofs.Lists.{IsIn, contains_in, in_contains, in_more, in_last, each_at, each_in, each_set, same_of}
use Rattle.oca_pair.proofs.Wire.{IsSendable, read_response}
use Rattle.oca_pair.proofs.Fitting.{response_to, reply_fits}
use Rattle.oca_pair.proofs.Executions.{executed_in, executed_for, executions_are}
use Rattle.oca_pair.proofs.Truths.{Past, past, state_of, IsSubmitted, IsHonest, IsTrueAnswer, IsOwn, executed_then}
use Rattle.oca_pair.proofs.Fair.{IsFair, AreOwn}
use Rattle.oca_pair.proofs.Delivering.{held_answer}
use Rattle.oca_pair.proofs.Span.{holds_without}
use Rattle.oca_pair.proofs.Networks.{LinkSound, Sound, hears_peer, sound_step, sound_steps, sound_after}
use Rattle.oca_pair.proofs.Renewing.{nothing_in_parts, not_its_renewal}
use Rattle.oca_pair.proofs.Lawful.{true_answer, never_old_law}

-- ---- what was sent to links and what was submitted is never lost

pub record Grown (n m : Network) : Type 0 where
  pub sent : List SentDatagram
  pub to_links : m.to_links ≡ n.to_links ++ sent
  pub more : List SubmittedCommand
  pub submitted : m.submitted ≡ n.submitted ++ more

grown_not : (n : Network) → Grown n n
grown_not n = record { sent = []; to_links = sym (append-nil n.to_links); more = []; submitted = sym (append-nil n.submitted) }

grown_step : (step : Step) (n : Network) → Grown n (after_step step n)
grown_step step n = after_each (λ _ m. Grown n m) n (record {
  stays = λ _. grown_not n;
  submits = λ _ r _ l _. record { sent = []; to_links = none_sent; more = submitted_by l.peer r (submission r l.link); submitted = refl };
  asks = λ _ _ _ _. none _ refl refl;
  delivers = λ _ now d _. record { sent = sendings_in d.peer (packets n.sizes n.tree n.events (Datagram d.peer d.bytes now)); to_links = refl; more = []; submitted = none_more };
  receives = λ _ _ _ _. none _ refl refl;
  hears = λ _ _ _ _. none _ refl refl;
  ticks = λ _. none _ refl refl;
  changes = λ _ _. none _ refl refl;
  takes = λ _ _ _ _. none _ refl refl;
  renews = λ _ _ _ _ _ _ _. none _ refl refl;
  keeps_alive = λ _ _ _ _. none _ refl refl;
}) step
  where
    none_sent : n.to_links ≡ n.to_links ++ []
    none_sent = sym (append-nil n.to_links)

    none_more : n.submitted ≡ n.submitted ++ []
    none_more = sym (append-nil n.submitted)

    none : (m : Network) → m.to_links ≡ n.to_links → m.submitted ≡ n.submitted → Grown n m
    none m a b = record { sent = []; to_links = a ∙ none_sent; more = []; submitted = b ∙ none_more }

grown_on : (n m o : Network) → Grown n m → Grown m o → Grown n o
grown_on n m o a b = record {
  sent = a.sent ++ b.sent;
  to_links = b.to_links ∙ ap (λ xs. xs ++ b.sent) a.to_links ∙ append_assoc n.to_links a.sent b.sent;
  more = a.more ++ b.more;
  submitted = b.submitted ∙ ap (λ xs. xs ++ b.more) a.submitted ∙ append_assoc n.submitted a.more b.more;
}

pub grown_steps : (es : List Step) (n : Network) → Grown n (after_steps es n)
grown_steps [] n = grown_not n
grown_steps (e ∷ es) n = grown_on n (after_step e n) (after_steps es (after_step e n)) (grown_step e n) (grown_steps es (after_step e n))

-- what stands behind a list stays there
stays_at : {X : Type 0} (xs : List X) (x : X) (more ys zs : List X) → ys ≡ xs ++ x ∷ [] → zs ≡ ys ++ more → slice_get zs (length xs) ≡ Some x
stays_at {X = X} xs x more ys zs e f = rw (f, e) (at xs)
  where
    at : (xs : List X) → slice_get ((xs ++ x ∷ []) ++ more) (length xs) ≡ Some x
    at [] = refl
    at (y ∷ ys) = at ys

-- ---- each link is one to the device

abbrev pub AreTo : Peer → List PeerLink → Type 0
AreTo device links = AllByRecursion (λ l. l.link.device ≡ device) links

abbrev pub AreToDevice : Network → Type 0
AreToDevice n = AreTo n.address n.links

pub to_device_step : (step : Step) (n : Network) → AreToDevice n → AreToDevice (after_step step n)
to_device_step step n a = after_each (λ _ m. AreToDevice m) n (record {
  stays = λ _. a;
  submits = λ i r now l e. put i l (after_submission (submission r l.link) r now l.link) e (by_answer l.link r now (submission r l.link));
  asks = λ i now l e. put i l (gone_on now l.link) e (by_decision l.link (present_moment now l.link) (decision now l.link));
  delivers = λ _ _ _ _. a;
  receives = λ _ now d _. hear d now n.links a;
  hears = λ _ _ _ _. a;
  ticks = λ _. a;
  changes = λ _ _. a;
  takes = λ i h l e. put i l (taken h l.link) e refl;
  renews = λ i first span now _ l e. put i l (renewed_link first span now l.link) e refl;
  keeps_alive = λ _ _ _ _. a;
}) step
  where
    by_answer : (l : LinkState) (r : Request) (now : ℕ) (x : Result Handle ControlFault) → (after_submission x r now l).device ≡ l.device
    by_answer l r now (Ok h) = refl
    by_answer l r now (Err fault) = refl

    by_decision : (l : LinkState) (now : ℕ) (d : Decision) → (after_due d now l).device ≡ l.device
    by_decision l now (GivesCommand c) = refl
    by_decision l now _ = refl

    put : (i : ℕ) (l : PeerLink) (state : LinkState) → slice_get n.links i ≡ Some l → state.device ≡ l.link.device → AreTo n.address (with_link i l state n.links)
    put i l state e same = each_set (λ (x : PeerLink). x.link.device ≡ n.address) n.links i (record { peer = l.peer; link = state })
        (same ∙ each_at (λ (x : PeerLink). x.link.device ≡ n.address) n.links i l a e) a

    hearing : (d : SentDatagram) (now : ℕ) (l : PeerLink) → l.link.device ≡ n.address → (hears_datagram n.address d now l).link.device ≡ n.address
    hearing d now l q =
        on_bool (same_peer l.peer d.peer) (λ b. (let y : PeerLink = cond b (record { peer = l.peer; link = received n.address (content_read d.bytes) now l.link }) l in y).link.device ≡ n.address)
        q q

    hear : (d : SentDatagram) (now : ℕ) (ls : List PeerLink) → AreTo n.address ls → AreTo n.address (map (hears_datagram n.address d now) ls)
    hear d now [] q = tt
    hear d now (l ∷ ls) q = (hearing d now l q.0, hear d now ls q.1)

pub to_device_steps : (es : List Step) (n : Network) → AreToDevice n → AreToDevice (after_steps es n)
to_device_steps [] n a = a
to_device_steps (e ∷ es) n a = to_device_steps es (after_step e n) (to_device_step e n a)

pub to_device_opening : (w : DeviceSizes) (s : Setup) (tree : List Object) (starts : List Start) → AreToDevice (opening w s tree starts)
to_device_opening w s tree starts = each starts
  where
    each : (xs : List Start) → AreTo s.address (map (started s) xs)
    each [] = tt
    each (x ∷ xs) = (refl, each xs)

-- ---- a command is held until its answer is taken

-- this answer was taken from the link of this peer, under the handle
abbrev pub IsTaken : Peer → ℕ → AnswerFields → List TakenAnswer → Type 0
IsTaken p h a handed = let it : TakenAnswer = record { peer = p; handle = h; answer = a } in IsIn it handed

abbrev pub IsKept : Peer → ℕ → List Untaken → List TakenAnswer → Type 0
IsKept p h us handed = (holds h us ≡ true) ⊎ ((a : AnswerFields) × IsTaken p h a handed)

-- the link of this number is of the peer, and holds a command under the handle, or its answer was taken
pub record Stands (i : ℕ) (p : Peer) (h : ℕ) (links : List PeerLink) (handed : List TakenAnswer) : Type 0 where
  pub link : PeerLink
  pub there : slice_get links i ≡ Some link
  pub peer : link.peer ≡ p
  pub kept : IsKept p h link.link.untaken handed

-- an element is put in at a place: there it stands, and the others stand as before
put_at : {X : Type 0} (xs : List X) (k i : ℕ) (l y z : X) → slice_get xs k ≡ Some l → slice_get xs i ≡ Some z →
    ((l ≡ z) × (slice_get (slice_set xs k y) i ≡ Some y)) ⊎ (slice_get (slice_set xs k y) i ≡ Some z)
put_at [] k i l y z e f = cc
put_at (x ∷ xs) zero zero l y z e f = inl (same_Some l z (sym e ∙ f), refl)
put_at (x ∷ xs) zero (suc i) l y z e f = inr f
put_at (x ∷ xs) (suc k) zero l y z e f = inr f
put_at (x ∷ xs) (suc k) (suc i) l y z e f = put_at xs k i l y z e f

stands_put : (i k h : ℕ) (p : Peer) (l : PeerLink) (state : LinkState) (links : List PeerLink) (handed more : List TakenAnswer) → slice_get links k ≡ Some l →
    (holds h l.link.untaken ≡ true → l.peer ≡ p → IsKept p h state.untaken (handed ++ more)) → Stands i p h links handed → Stands i p h (with_link k l state links) (handed ++ more)
stands_put i k h p l state links handed more e f g = elim (put_at links k i l y g.link e g.there) [
  | inl (same, at) ↦ record { link = y; there = at; peer = ap (λ (z : PeerLink). z.peer) same ∙ g.peer; kept = mine same g.kept }
  | inr at ↦ record { link = g.link; there = at; peer = g.peer; kept = other g.kept }
]
  where
    y : PeerLink
    y = record { peer = l.peer; link = state }

    other : IsKept p h g.link.link.untaken handed → IsKept p h g.link.link.untaken (handed ++ more)
    other (inl held) = inl held
    other (inr (a, t)) = inr (a, in_more _ handed more t)

    mine : l ≡ g.link → IsKept p h g.link.link.untaken handed → IsKept p h state.untaken (handed ++ more)
    mine same (inl held) = f (ap (λ (z : PeerLink). holds h z.link.untaken) same ∙ held) (ap (λ (z : PeerLink). z.peer) same ∙ g.peer)
    mine same (inr (a, t)) = inr (a, in_more _ handed more t)

as_before : (i h : ℕ) (p : Peer) (links : List PeerLink) (handed : List TakenAnswer) → Stands i p h links (handed ++ []) → Stands i p h links handed
as_before i h p links handed g = rw append-nil at g

stands_step : (i h : ℕ) (p : Peer) (step : Step) (n : Network) → RenewsNothing p n (after_step step n) → Stands i p h n.links n.taken → Stands i p h (after_step step n).links (after_step step n).taken
stands_step i h p step n never g = after_each (λ _ m. RenewsNothing p n m → Stands i p h m.links m.taken) n (record {
  stays = λ _ _. g;
  submits = λ k r now l e _. put k l (after_submission (submission r l.link) r now l.link) e (λ q s. inl (by_answer l.link r now (submission r l.link) q));
  asks = λ k now l e _. put k l (gone_on now l.link) e (λ q s. inl (by_decision l.link (present_moment now l.link) (decision now l.link) q));
  delivers = λ _ _ _ _ _. g;
  receives = λ _ now d _ _. record {
    link = hears_datagram n.address d now g.link;
    there = slice_get-map (hears_datagram n.address d now) n.links i ∙ ap (λ o. option_map (hears_datagram n.address d now) o) g.there;
    peer = hears_peer n.address d now g.link ∙ g.peer;
    kept = heard d now g.kept;
  };
  hears = λ _ _ _ _ _. g;
  ticks = λ _ _. g;
  changes = λ _ _ _. g;
  takes = λ k j l e _.
      stands_put i k h p l (taken j l.link) n.links n.taken (taken_by l.peer j (answer_under j l.link.untaken)) e
      (λ q same. by_taken j l (answer_under j l.link.untaken) q same) g;
  renews = λ k first span now origin l e never.
      put k l (renewed_link first span now l.link) e (λ q same. absurd (not_its_renewal p l.peer (renewal_of l origin) n.renewed refl never same));
  keeps_alive = λ _ _ _ _ _. g;
}) step never
  where
    put : (k : ℕ) (l : PeerLink) (state : LinkState) → slice_get n.links k ≡ Some l → (holds h l.link.untaken ≡ true → l.peer ≡ p → IsKept p h state.untaken (n.taken ++ [])) →
        Stands i p h (with_link k l state n.links) n.taken
    put k l state e f = as_before i h p (with_link k l state n.links) n.taken (stands_put i k h p l state n.links n.taken [] e f g)

    by_answer : (l : LinkState) (r : Request) (now : ℕ) (x : Result Handle ControlFault) → holds h l.untaken ≡ true → holds h (after_submission x r now l).untaken ≡ true
    by_answer l r now (Ok k) q =
        let new = new_untaken (present_moment now l) (command_under k.0 r) in
        list_any-append (λ (u : Untaken). nat_eq u.command.handle h) l.untaken (new ∷ []) ∙ or_left (holds h l.untaken) (holds h (new ∷ [])) q
    by_answer l r now (Err fault) q = q

    by_decision : (l : LinkState) (now : ℕ) (d : Decision) → holds h l.untaken ≡ true → holds h (after_due d now l).untaken ≡ true
    by_decision l now (GivesCommand c) q = holds_marked_sent now c.handle h l.untaken ∙ q
    by_decision l now _ q = q

    hearing : (d : SentDatagram) (now : ℕ) (l : PeerLink) → holds h (hears_datagram n.address d now l).link.untaken ≡ holds h l.link.untaken
    hearing d now l =
        on_bool (same_peer l.peer d.peer) (λ b. (let y : PeerLink = cond b (record { peer = l.peer; link = received n.address (content_read d.bytes) now l.link }) l in holds h y.link.untaken) ≡ holds h l.link.untaken)
        (holds_received (same_peer n.address l.link.device) (content_read d.bytes) h l.link.untaken) refl

    heard : (d : SentDatagram) (now : ℕ) → IsKept p h g.link.link.untaken n.taken → IsKept p h (hears_datagram n.address d now g.link).link.untaken n.taken
    heard d now (inl held) = inl (hearing d now g.link ∙ held)
    heard d now (inr t) = inr t

    -- an answer is taken from the link that holds the command
    without : (k : ℕ) (us : List Untaken) (b : Bool) → holds h (without_handle k us) ≡ b → holds h us ≡ true → (a : AnswerFields) → IsKept p h (without_handle k us) (n.taken ++ taken_by p k (Some a))
    without k us true e q a = inl e
    without k us false e q a = elim (holds_without k h us e) [
      | inl same ↦ rw same (inr (a, in_last _ n.taken))
      | inr none ↦ cc
    ]

    by_taken : (k : ℕ) (l : PeerLink) (o : Option AnswerFields) → holds h l.link.untaken ≡ true → l.peer ≡ p →
        IsKept p h (cond (is_some o) (without_handle k l.link.untaken) l.link.untaken) (n.taken ++ taken_by l.peer k o)
    by_taken k l None q same = inl q
    by_taken k l (Some a) q same = rw same (without k l.link.untaken (holds h (without_handle k l.link.untaken)) refl q a)

pub stands_steps : (i h : ℕ) (p : Peer) (es : List Step) (n : Network) → RenewsNothing p n (after_steps es n) → Stands i p h n.links n.taken → Stands i p h (after_steps es n).links (after_steps es n).taken
stands_steps i h p [] n never g = g
stands_steps i h p (e ∷ es) n never g = let parts = nothing_in_parts p e es n never in stands_steps i h p es (after_step e n) parts.1 (stands_step i h p e n parts.0 g)

-- a member's handle is held
holds_in : (h : ℕ) (u : Untaken) (us : List Untaken) → IsIn u us → u.command.handle ≡ h → holds h us ≡ true
holds_in h u [] i e = absurd i
holds_in h u (x ∷ us) (inl q) e = let same : x.command.handle ≡ h = ap (λ (z : Untaken). z.command.handle) q ∙ e in or_left (nat_eq x.command.handle h) (holds h us) (rw same (equal_self h))
holds_in h u (x ∷ us) (inr i) e = or_right (nat_eq x.command.handle h) (holds h us) (holds_in h u us i e)

-- ---- a response comes to the link

-- a held command has an answer then, this one or an earlier one
has_answer : (h : ℕ) (a : AnswerFields) (us : List Untaken) → holds h us ≡ true → (b : AnswerFields) × (answer_under h (map (answered h a) us) ≡ Some b)
has_answer h a [] q = cc
has_answer h a (u ∷ us) q = by_test (nat_eq u.command.handle h) u.answer q (has_answer h a us)
  where
    by_test : (b : Bool) (o : Option AnswerFields) → (b || holds h us) ≡ true → (holds h us ≡ true → (c : AnswerFields) × (answer_under h (map (answered h a) us) ≡ Some c)) →
        (c : AnswerFields) × (cond b (cond (b && is_none o) (Some a) o) (answer_under h (map (answered h a) us)) ≡ Some c)
    by_test true None q rest = (a, refl)
    by_test true (Some x) q rest = (x, refl)
    by_test false o q rest = rest q

-- ---- what was executed was executed honestly

pub honest_of : (p : Peer) (g : Past) (x : Execution) (ns : List Note) → AreOwn p g ns → IsIn x (executed_for p ns) → IsHonest p x g
honest_of p g x [] own i = absurd i
honest_of p g x (n ∷ ns) own i =
    on_bool (same_peer n.peer p) (λ b. same_peer n.peer p ≡ b → IsIn x (cond b (executed_in n.what) [] ++ executed_for p ns) → (IsIn x (executed_for p ns) → IsHonest p x g) → IsHonest p x g)
    (λ q i rest. by_what n.what (own.0 (same_is n.peer p q)) i rest) (λ q i rest. rest i) refl i (honest_of p g x ns own.1)
  where
    by_what : (what : Noted) → IsOwn p g what → IsIn x (executed_in what ++ executed_for p ns) → (IsIn x (executed_for p ns) → IsHonest p x g) → IsHonest p x g
    by_what (Admitted ms) o i rest = rest i
    by_what (Heartbeat ms) o i rest = rest i
    by_what (Executed objects c r) o (inl q) rest = rw q at o
    by_what (Executed objects c r) o (inr i) rest = rest i

-- so the response with its reply is read as what it is
read_sent : WrittenIsReadBack → (p : Peer) (h : ℕ) (x : Execution) (g : Past) → h < 2 ^ 32 → IsHonest p x g →
    content_read (pdu_encoding (pdu_of (response h x.reply))) ≡ Some (Response (response_to h x.reply) ∷ [])
read_sent law p h x g low t =
    let small = reply_fits x.objects p x.command h low in
    ap messages_read (read_response law (response_to h x.reply) (rw t.reply small.0) (rw t.reply small.1))

-- ---- the response comes to the link

-- the network after the datagram came
abbrev pub arrived : ℕ → SentDatagram → Network → Network
arrived later x m = after_reception later (Some x) m

pub record Arrives (i : ℕ) (c : CommandFields) (l : PeerLink) (m m' : Network) : Type 0 where
  pub held : holds c.handle l.link.untaken ≡ true → HoldsItsAnswer i c l.peer m'
  pub got : IsKept l.peer c.handle l.link.untaken m.taken → GotItsAnswer i c l.peer m'

arrives : (s : Peer → ℕ) (i later : ℕ) (m : Network) (x : SentDatagram) (r : ResponseFields) (l : PeerLink) (c : CommandFields) → Sound s (arrived later x m) →
    slice_get m.links i ≡ Some l → l.link.device ≡ m.address → l.peer ≡ x.peer → content_read x.bytes ≡ Some (Response r ∷ []) → r.handle ≡ c.handle →
    IsSubmitted l.peer c m.submitted → Arrives i c l m (arrived later x m)
arrives s i later m x r l c sound there device peer content handle sub = record { held = holding; got = got }
  where
    m' : Network
    m' = arrived later x m

    l' : PeerLink
    l' = record { peer = l.peer; link = received m.address (content_read x.bytes) later l.link }

    there' : slice_get m'.links i ≡ Some l'
    there' =
        slice_get-map (hears_datagram m.address x later) m.links i ∙ ap (λ o. option_map (hears_datagram m.address x later) o) there
        ∙ ap (λ b. let y : PeerLink = cond b l' l in Some y) (same_of l.peer x.peer peer)

    of : LinkSound s m' l'
    of = each_at (LinkSound s m') m'.links i l' sound.each there'

    untaken_is : l'.link.untaken ≡ map (answered c.handle (answer_of_response r)) l.link.untaken
    untaken_is =
        ap (λ b. cond b (hears_content (content_read x.bytes) l.link.untaken) l.link.untaken) (same_of m.address l.link.device (sym device))
        ∙ ap (λ o. hears_content o l.link.untaken) content ∙ ap (λ h. map (answered h (answer_of_response r)) l.link.untaken) handle

    is_its : (a : AnswerFields) → IsTrueAnswer l.peer c.handle a (past m') → IsAnswerTo c l.peer a m'
    is_its a t =
        let its = true_answer l.peer c.handle a m' of.kept t in
        record { of_its_command = its; command = of.fair.unique its.execution.command c (contains_in _ m'.submitted its.submitted) sub its.handle }

    holding : holds c.handle l.link.untaken ≡ true → HoldsItsAnswer i c l.peer m'
    holding q =
        let b = has_answer c.handle (answer_of_response r) l.link.untaken q in
        let held : answer_under c.handle l'.link.untaken ≡ Some b.0 = ap (answer_under c.handle) untaken_is ∙ b.1 in
        record { link = l'; there = there'; peer = refl; answer = b.0; held = held; is_its = is_its b.0 (rw held at (held_answer l.peer (past m') c.handle l'.link.untaken of.fair.untaken)) }

    got : IsKept l.peer c.handle l.link.untaken m.taken → GotItsAnswer i c l.peer m'
    got (inl q) = let t = holding q in record { link = t.link; there = t.there; peer = t.peer; answer = t.answer; got = inl t.held; is_its = t.is_its }
    got (inr (a, t)) = record {
      link = l';
      there = there';
      peer = refl;
      answer = a;
      got = inr (in_contains _ m'.taken t);
      is_its = is_its a (each_in (λ (y : TakenAnswer). y.peer ≡ l.peer → IsTrueAnswer l.peer y.handle y.answer (past m')) _ m'.taken of.fair.was_taken t refl);
    }

-- ---- what was executed stays so

executed_steps : (p : Peer) (x : Execution) (es : List Step) (n : Network) → IsIn x (executed_for p (state_of (past n)).notes) → IsIn x (executed_for p (state_of (past (after_steps es n))).notes)
executed_steps p x [] n i = i
executed_steps p x (e ∷ es) n i = executed_steps p x es (after_step e n) (after_each (λ _ m. IsIn x (executed_for p (state_of (past m)).notes)) n (record {
  stays = λ _. i;
  submits = λ _ _ _ _ _. i;
  asks = λ _ _ _ _. i;
  delivers = λ _ now d _. executed_then p x (past n) (Datagram d.peer d.bytes now) i;
  receives = λ _ _ _ _. i;
  hears = λ from bytes now _. executed_then p x (past n) (Datagram from bytes now) i;
  ticks = λ now. executed_then p x (past n) (event.Tick now) i;
  changes = λ ono change. executed_then p x (past n) (event.Local ono change) i;
  takes = λ _ _ _ _. i;
  renews = λ _ _ _ _ _ _ _. i;
  keeps_alive = λ _ _ _ _. i;
}) e)

-- what a delivery is answered with was executed then or before
executed_by : (k now : ℕ) (p : Peer) (x : Execution) (n : Network) → IsExecutedNow k now p x n ⊎ WasExecuted k now p x n →
    IsIn x (executed_for p (state_of (past (asked k now n))).notes)
executed_by k now p x n e = subst (λ (xs : List Execution). IsIn x xs) (executions_are m.sizes p m.tree m.events) (by_kind e)
  where
    m : Network
    m = asked k now n

    by_kind : IsExecutedNow k now p x n ⊎ WasExecuted k now p x n → IsIn x (executions_for p m)
    by_kind (inl q) = subst (λ (xs : List Execution). IsIn x xs) (sym q.1) (inl refl)
    by_kind (inr q) = subst (λ (xs : List Execution). IsIn x xs) (sym q.1) (contains_in x (executions_for p n) q.2)

-- an execution under a handle is the only one where there is one
is_only : (h : ℕ) (x y : Execution) (xs : List Execution) → IsIn x xs → x.command.handle ≡ h → executions_under h xs ≡ y ∷ [] → x ≡ y
is_only h x y xs i e only = alone (subst (λ (zs : List Execution). IsIn x zs) only (under xs i))
  where
    alone : IsIn x (y ∷ []) → x ≡ y
    alone (inl q) = sym q
    alone (inr q) = absurd q

    handle_is : (z : Execution) → z ≡ x → nat_eq z.command.handle h ≡ true
    handle_is z q = ap (λ (u : ℕ). nat_eq u h) (ap (λ (v : Execution). v.command.handle) q ∙ e) ∙ equal_self h

    further : (z : Execution) (zs : List Execution) (b : Bool) → IsIn x zs → IsIn x (cond b (z ∷ zs) zs)
    further z zs true i = inr i
    further z zs false i = i

    under : (zs : List Execution) → IsIn x zs → IsIn x (executions_under h zs)
    under [] i = i
    under (z ∷ zs) (inl q) = subst (λ (b : Bool). IsIn x (cond b (z ∷ executions_under h zs) (executions_under h zs))) (sym (handle_is z q)) (inl q)
    under (z ∷ zs) (inr i) = further z (executions_under h zs) (nat_eq z.command.handle h) (under zs i)

-- ---- there and back

pub comes_back : WrittenIsReadBack → (s : Peer → ℕ) (n : Network) (k now i later : ℕ) (d : SentDatagram) (l : PeerLink) (c : CommandFields) (between : List Step) → Sound s n → AreToDevice n →
    slice_get n.to_device k ≡ Some d → slice_get n.links i ≡ Some l → CarriesUntaken d l c → AllByRecursion StepFits between → RenewsNothing l.peer n (meanwhile k now between n) →
    IsAnswered k now n d c → ComesBack k now between later i c l.peer n
comes_back law s n k now i later d l c between sound devices sent_to own carries fits never is_answered = record {
  sent_back = record { datagram = back; peer = sym carries.peer; reply = x.reply; bytes = refl; sent = is_answered.sent; delivered = delivered };
  held = λ h. rw delivered (subst (λ (y : Peer). HoldsItsAnswer i c y (arrived later back n2)) stands.peer (then.held (still h)));
  got = rw delivered (subst (λ (y : Peer). GotItsAnswer i c y (arrived later back n2)) stands.peer (then.got kept_own));
  carried = λ keeps answer its.
      let of = its.of_its_command in
      let same : x ≡ of.execution = is_only c.handle x of.execution (executions_for p n3) executed3 (ap (λ (y : CommandFields). y.handle) is_answered.command) (of.only keeps) in
      of.answer_is ∙ ap (λ (y : Execution). answer_of y.reply) (sym same);
}
  where
    p : Peer
    p = l.peer

    n1 : Network
    n1 = asked k now n

    n2 : Network
    n2 = meanwhile k now between n

    n3 : Network
    n3 = come_back k now between later n

    x : Execution
    x = is_answered.execution

    executed1 : IsIn x (executed_for p (state_of (past n1)).notes)
    executed1 = executed_by k now p x n (subst (λ (y : Peer). IsExecutedNow k now y x n ⊎ WasExecuted k now y x n) (sym carries.peer) is_answered.executed)

    executed3 : IsIn x (executions_for p n3)
    executed3 = subst (λ (xs : List Execution). IsIn x xs) (sym (executions_are n3.sizes p n3.tree n3.events))
        (executed_steps p x (ToLink (length n.to_links) later ∷ []) n2 (executed_steps p x between n1 executed1))

    back : SentDatagram
    back = record { peer = d.peer; bytes = pdu_encoding (pdu_of (response c.handle x.reply)) }

    sound1 : Sound s n1
    sound1 = sound_step law s (ToDevice k now) n tt sound

    sound3 : Sound s (after_step (ToLink (length n.to_links) later) n2)
    sound3 = sound_step law s (ToLink (length n.to_links) later) n2 tt (sound_steps law s between n1 fits sound1)

    own1 : slice_get n1.links i ≡ Some l
    own1 = rw sent_to own

    of : LinkSound s n l
    of = each_at (LinkSound s n) n.links i l sound.each own

    of1 : LinkSound s n1 l
    of1 = each_at (LinkSound s n1) n1.links i l sound1.each own1

    held : IsIn carries.untaken l.link.untaken
    held = contains_in carries.untaken l.link.untaken carries.held

    sub : IsSubmitted p c n.submitted
    sub = rw carries.command at (each_in (IsFair p (past n)) carries.untaken l.link.untaken of.fair.untaken held).0

    sendable : IsSendable c
    sendable = (each_in (λ (y : SubmittedCommand). y.peer ≡ p → IsSendable y.command × (y.command.handle < end_of l.link.next)) _ n.submitted of.fair.sendable sub refl).0

    honest : IsHonest p x (past n1)
    honest = honest_of p (past n1) x (state_of (past n1)).notes of1.fair.own executed1

    grown : Grown n1 n2
    grown = grown_steps between n1

    grown2 : Grown n n2
    grown2 = grown_on n n1 n2 (grown_step (ToDevice k now) n) grown

    delivered : slice_get n2.to_links (length n.to_links) ≡ Some back
    delivered = stays_at n.to_links back grown.sent n1.to_links n2.to_links is_answered.sent grown.to_links

    stands : Stands i p c.handle n2.links n2.taken
    stands = stands_steps i c.handle p between n1 (nothing_in_parts p (ToDevice k now) between n never).1
        (record { link = l; there = own1; peer = refl; kept = inl (holds_in c.handle carries.untaken l.link.untaken held (ap (λ (y : CommandFields). y.handle) carries.command)) })

    to_device : AreToDevice n2
    to_device = to_device_steps between n1 (to_device_step (ToDevice k now) n devices)

    sub2 : IsSubmitted p c n2.submitted
    sub2 = rw grown2.submitted (in_more _ n.submitted grown2.more sub)

    l2 : PeerLink
    l2 = stands.link

    then : Arrives i c l2 n2 (arrived later back n2)
    then = arrives s i later n2 back (response_to c.handle x.reply) l2 c (rw delivered at sound3) stands.there
        (each_at (λ (y : PeerLink). y.link.device ≡ n2.address) n2.links i l2 to_device stands.there)
        (stands.peer ∙ carries.peer) (read_sent law p c.handle x (past n1) sendable.fits.handle honest) refl (rw stands.peer sub2)

    kept_own : IsKept l2.peer c.handle l2.link.untaken n2.taken
    kept_own = rw stands.peer stands.kept

    still : HoldsUntaken i c n2 → holds c.handle l2.link.untaken ≡ true
    still h =
        let same : h.link ≡ l2 = same_Some h.link l2 (sym h.there ∙ stands.there) in
        ap (λ (y : PeerLink). holds c.handle y.link.untaken) (sym same)
        ∙ holds_in c.handle h.untaken h.link.link.untaken (contains_in h.untaken h.link.link.untaken h.held) (ap (λ (y : CommandFields). y.handle) h.command)

pub round_trip_law : WrittenIsReadBack → (w : DeviceSizes) (s : Setup) (tree : List Object) (starts : List Start) (es : List Step) (i : ℕ) (l : PeerLink) →
    slice_get (after_steps es (opening w s tree starts)).links i ≡ Some l → SpanFits w l (after_steps es (opening w s tree starts)) → are_apart s.address starts ≡ true → Fit starts es →
    RoundTrips i l (after_steps es (opening w s tree starts))
round_trip_law law w s tree starts es i l own wide apart fit k now d c between later sent_to carries finds keeps fits never =
    let start : Network = opening w s tree starts in
    let n : Network = after_steps es start in
    comes_back law s.span n k now i later d l c between (sound_after law w s tree starts es apart fit)
    (to_device_steps es start (to_device_opening w s tree starts)) sent_to own carries fits never
    (never_old_law law w s tree starts es i l own wide apart fit k now d c sent_to carries finds keeps)

-- What each step of a network that runs leads to.
use Rattle.oca_pair.proofs.Words.{◌≡◌, ℕ, ◌+◌, ◌<◌, ◌≤◌, Bool, true, false, List, [], ◌∷◌, ◌++◌, length, take, drop, get_or, Option, Some, None, refl, sym, ap, ◌∙◌, subst, arith, zero, suc}
use Rattle.oca_pair.proofs.Words.{append-nil, append_assoc, take_all, map, not, ◌&&◌, ◌||◌, is_some, if◌then◌else◌, slice_get, slice_set, list_any, list_all, flat_map, option_or, get_or_at, set_at}
use Rattle.oca_pair.proofs.Words.{drop_more, drop_all, map_more, length-map, length-take-le, slice_get-get_or, or_right, Peer, Handle, same_peer, DeviceSizes, PduFault, Msg, messages_of}
use Rattle.oca_pair.proofs.Words.{read_datagram, AreBytes, ReadsExactly, ReadingIsExact, Object, Verdict, Event, Datagram, packets, verdict, answer_under, ControlFault, LinkState, Request, submission}
use Rattle.oca_pair.proofs.Words.{after_submission, submitted, Decision, GivesCommand, GivesKeepAlive, GivesNothing, IsLost, decision, due_bytes, after_due, gone_on, present_moment, reception}
use Rattle.oca_pair.proofs.Words.{received, taken, Start, Network, PeerLink, SentDatagram, device_address, is_of_another_peer, Step, Submit, Due, ToDevice, ToLink, Take, has_link, sendings_in}
use Rattle.oca_pair.proofs.Words.{with_link, submit_outcome, after_submit, given_by, due_outcome, after_due_step, after_delivery, delivery_outcome, content_read, messages_read, hears_datagram}
use Rattle.oca_pair.proofs.Words.{after_reception, reception_outcomes, reception_outcome, take_outcome, after_take, Renew, is_no_lower, renewed_link, after_renewal, renewal_outcome, Beside}
use Rattle.oca_pair.proofs.Words.{after_beside, after_step, after_steps, on_link, outcomes_of, one_later, first_missing, IsTranscript, AreOfLinks, Shows, Took, in_its_place, is_of_peer, heard}
use Rattle.oca_pair.proofs.Words.{first_heard, same_self}
use Rattle.std.proofs.Common.{Result, Ok, Err}
use Rattle.oca_device.specs.Devices.{Represents}
use Rattle.oca_control.specs.declared.reception.Reception.{Reception}
use Rattle.oca_control.specs.Contents.{IsContent}
use Rattle.oca_pair.specs.declared.outcome.Outcome.{Outcome}
use Rattle.oca_pair.specs.declared.outcome.Outcome.TheVariants as outcomes
use Rattle.oca_pair.specs.declared.running.Running.{Running}
use Rattle.oca_pair.specs.declared.running.StepFault.{StepFault}
use Rattle.oca_pair.specs.declared.running.StepFault.TheVariants as faults
use Rattle.oca_pair.specs.declared.pair.Transcript.{Transcript}

-- ---- bytes

are_bytes : (bytes : List ℕ) → ((i : ℕ) → get_or bytes i 0 < 256) → AreBytes bytes
are_bytes [] fits = tt
are_bytes (b ∷ bytes) fits = (fits 0, are_bytes bytes (λ i. fits (suc i)))

pub content_is : ReadingIsExact → (bytes : List ℕ) → ((i : ℕ) → get_or bytes i 0 < 256) → IsContent (content_read bytes) bytes
content_is law bytes fits = by (read_datagram bytes) refl
  where
    exact : ReadsExactly bytes
    exact = law bytes (are_bytes bytes fits)

    not_both : (ms : List Msg) (f : PduFault) (r : Result (List Msg) PduFault) → r ≡ Ok ms → r ≡ Err f → ⊥
    not_both ms f (Ok ns) a b = cc
    not_both ms f (Err g) a b = cc

    by : (r : Result (List Msg) PduFault) → read_datagram bytes ≡ r → IsContent (messages_read r) bytes
    by (Ok ms) e = (exact.messages ms).0 e
    by (Err f) e = λ ps are. not_both (flat_map messages_of ps) f (read_datagram bytes) ((exact.messages (flat_map messages_of ps)).1 (ps, are, refl)) e

-- ---- lists

-- what stands at an index of a list whose first elements were changed
pub unchanged_at : {X : Type 0} (f : X → X) (old cur : List X) (i : ℕ) (x : X) → i < length old → cur ≡ map f (take i old) ++ drop i old → x ≡ get_or cur i x → x ≡ get_or old i x
unchanged_at f old cur i x h is e =
    let p = map f (take i old) in
    let len : length p ≡ i = length-map (take i old) f ∙ length-take-le i old (omega arith) in
    e ∙ ap (λ xs. get_or xs i x) (is ∙ ap (λ ys. p ++ ys) (drop_more old i x h)) ∙ get_or_at p (get_or old i x) (drop (i + 1) old) x i len

pub changed_next : {X : Type 0} (f : X → X) (old cur : List X) (i : ℕ) (x y : X) → i < length old → cur ≡ map f (take i old) ++ drop i old → x ≡ get_or cur i x → y ≡ f x →
    slice_set cur i y ≡ map f (take (i + 1) old) ++ drop (i + 1) old
changed_next f old cur i x y h is e eq =
    let p = map f (take i old) in
    let len : length p ≡ i = length-map (take i old) f ∙ length-take-le i old (omega arith) in
    let same : x ≡ get_or old i x = unchanged_at f old cur i x h is e in
    ap (λ xs. slice_set xs i y) (is ∙ ap (λ ys. p ++ ys) (drop_more old i x h))
    ∙ set_at p (get_or old i x) (drop (i + 1) old) y i len
    ∙ ap (λ z. p ++ z ∷ drop (i + 1) old) (eq ∙ ap f same)
    ∙ sym (append_assoc p (f (get_or old i x) ∷ []) (drop (i + 1) old))
    ∙ ap (λ xs. xs ++ drop (i + 1) old) (sym (map_more f old i x h))

pub changed_all : {X : Type 0} (f : X → X) (old cur : List X) (i : ℕ) → length old ≤ i → cur ≡ map f (take i old) ++ drop i old → cur ≡ map f old
changed_all f old cur i h is = is ∙ ap (λ xs. map f xs ++ drop i old) (take_all i old h) ∙ ap (λ ys. map f old ++ ys) (drop_all i old h) ∙ append-nil (map f old)

-- ---- links that hear

or_assoc : {X : Type 0} (a b c : Option X) → option_or (option_or a b) c ≡ option_or a (option_or b c)
or_assoc (Some x) b c = refl
or_assoc None b c = refl

or_none : {X : Type 0} (a : Option X) → option_or a None ≡ a
or_none (Some x) = refl
or_none None = refl

pub heard_next : (d : SentDatagram) (old : List PeerLink) (i : ℕ) (x : PeerLink) (a b a' : Option Reception) (all : Option Reception) → i < length old → x ≡ get_or old i x →
    b ≡ heard d x → a' ≡ option_or a b → option_or a (first_heard d (drop i old)) ≡ all → option_or a' (first_heard d (drop (i + 1) old)) ≡ all
heard_next d old i x a b a' all h same is both before =
    ap (λ (o : Option Reception). option_or o (first_heard d (drop (i + 1) old))) (both ∙ ap (λ (o : Option Reception). option_or a o) is)
    ∙ or_assoc a (heard d x) (first_heard d (drop (i + 1) old))
    ∙ ap (λ (z : PeerLink). option_or a (option_or (heard d z) (first_heard d (drop (i + 1) old)))) same
    ∙ ap (λ (xs : List PeerLink). option_or a (first_heard d xs)) (sym (drop_more old i x h))
    ∙ before

pub heard_all : (d : SentDatagram) (old : List PeerLink) (i : ℕ) (a : Option Reception) → length old ≤ i → option_or a (first_heard d (drop i old)) ≡ first_heard d old → a ≡ first_heard d old
heard_all d old i a h before = sym (or_none a) ∙ ap (λ (xs : List PeerLink). option_or a (first_heard d xs)) (sym (drop_all i old h)) ∙ before

-- where one of the links is of the peer, the first of them answers
pub one_answers : (d : SentDatagram) (links : List PeerLink) (r : Reception) → first_heard d links ≡ Some r → reception_outcomes device_address d links ≡ outcomes.Link r ∷ []
one_answers d [] r e = cc
one_answers d (l ∷ links) r e = by_test (one_answers d links r) (same_peer l.peer d.peer) e
  where
    by_test : (first_heard d links ≡ Some r → reception_outcomes device_address d links ≡ outcomes.Link r ∷ []) → (b : Bool) → option_or (if b then Some (reception device_address (content_read d.bytes) l.link) else None) (first_heard d links) ≡ Some r → (if b then outcomes.Link (reception device_address (content_read d.bytes) l.link) ∷ [] else reception_outcomes device_address d links) ≡ outcomes.Link r ∷ []
    by_test later true e = let same : reception device_address (content_read d.bytes) l.link ≡ r = cc in ap (λ (x : Reception). outcomes.Link x ∷ []) same
    by_test later false e = later e

pub none_answers : (d : SentDatagram) (links : List PeerLink) → first_heard d links ≡ None → has_link d.peer links ≡ false
none_answers d [] e = refl
none_answers d (l ∷ links) e = by_test (none_answers d links) (same_peer l.peer d.peer) e
  where
    by_test : (first_heard d links ≡ None → has_link d.peer links ≡ false) → (b : Bool) → option_or (if b then Some (reception device_address (content_read d.bytes) l.link) else None) (first_heard d links) ≡ None → (b || has_link d.peer links) ≡ false
    by_test later true e = cc
    by_test later false e = later e

-- ---- what is kept

-- a link that changes keeps its peer
pub same_links : (i : ℕ) (l : PeerLink) (state : LinkState) (links : List PeerLink) (p : Peer) → slice_get links i ≡ Some l → has_link p (with_link i l state links) ≡ has_link p links
same_links i l state [] p e = refl
same_links zero l state (x ∷ xs) p e = let same : x ≡ l = cc in ap (λ (y : PeerLink). same_peer y.peer p || has_link p xs) (sym same)
same_links (suc i) l state (x ∷ xs) p e = ap (λ (b : Bool). same_peer x.peer p || b) (same_links i l state xs p e)

pub hearing_links : (from : Peer) (d : SentDatagram) (now : ℕ) (links : List PeerLink) (p : Peer) → has_link p (map (hears_datagram from d now) links) ≡ has_link p links
hearing_links from d now [] p = refl
hearing_links from d now (l ∷ links) p = ap (λ (b : Bool). b || has_link p (map (hears_datagram from d now) links)) (by_test (same_peer l.peer d.peer)) ∙ ap (λ (b : Bool). same_peer l.peer p || b) (hearing_links from d now links p)
  where
    by_test : (b : Bool) → (let x : PeerLink = if b then record { peer = l.peer; link = received from (content_read d.bytes) now l.link } else l in same_peer x.peer p) ≡ same_peer l.peer p
    by_test true = refl
    by_test false = refl

pub of_links_kept : (links links' : List PeerLink) (sent : List SentDatagram) → ((p : Peer) → has_link p links' ≡ has_link p links) → AreOfLinks links sent → AreOfLinks links' sent
of_links_kept links links' [] same a = tt
of_links_kept links links' (d ∷ sent) same a = (same d.peer ∙ a.0, of_links_kept links links' sent same a.1)

pub of_links_more : (links : List PeerLink) (xs ys : List SentDatagram) → AreOfLinks links xs → AreOfLinks links ys → AreOfLinks links (xs ++ ys)
of_links_more links [] ys a b = b
of_links_more links (d ∷ xs) ys a b = (a.0, of_links_more links xs ys a.1 b)

pub sendings_of_links : (links : List PeerLink) (p : Peer) (packets : List (List ℕ)) → has_link p links ≡ true → AreOfLinks links (sendings_in p packets)
sendings_of_links links p [] h = tt
sendings_of_links links p (b ∷ packets) h = (h, sendings_of_links links p packets h)

pub of_a_link : (links : List PeerLink) (sent : List SentDatagram) (k : ℕ) (d : SentDatagram) → AreOfLinks links sent → slice_get sent k ≡ Some d → has_link d.peer links ≡ true
of_a_link links [] k d a e = cc
of_a_link links (x ∷ sent) zero d a e = let same : x ≡ d = cc in ap (λ (y : SentDatagram). has_link y.peer links) (sym same) ∙ a.0
of_a_link links (x ∷ sent) (suc k) d a e = of_a_link links sent k d a.1 e

-- the datagram has this peer and these bytes
pub datagram_is : (d : SentDatagram) (p : Peer) (b : List ℕ) → p ≡ d.peer → b ≡ d.bytes → d ≡ record { peer = p; bytes = b }
datagram_is d p b e f =
    ap (λ (x : Peer). let y : SentDatagram = record { peer = x; bytes = d.bytes } in y) (sym e)
    ∙ ap (λ (x : List ℕ). let y : SentDatagram = record { peer = p; bytes = x } in y) (sym f)

-- ---- steps that a link takes

-- only the links changed
pub record Relinked (old new : Running) : Type 0 where
  pub device : new.device ≡ old.device
  pub to_device : new.to_device.items ≡ old.to_device.items
  pub to_links : new.to_links.items ≡ old.to_links.items

pub relinked : (old new : Running) (n : Network) (links : List PeerLink) → Shows old n → Relinked old new → new.links.items ≡ links → ((p : Peer) → has_link p links ≡ has_link p n.links) →
    Shows new (record n { links = links })
relinked old new n links h r is same = record {
  address = h.address;
  device = subst (λ d. Represents n.sizes d n.tree n.events) (sym r.device) h.device;
  links = is;
  to_device = r.to_device ∙ h.to_device;
  to_links = r.to_links ∙ h.to_links;
  sent = of_links_kept n.links links n.to_device same h.sent;
  answered = of_links_kept n.links links n.to_links same h.answered;
}

pub linked : (old new : Running) (n : Network) (i : ℕ) (l : PeerLink) (state : LinkState) → Shows old n → slice_get n.links i ≡ Some l → Relinked old new →
    new.links.items ≡ slice_set old.links.items i (record { peer = l.peer; link = state }) → Shows new (record n { links = with_link i l state n.links })
linked old new n i l state h at r set =
    relinked old new n (with_link i l state n.links) h r (set ∙ ap (λ (xs : List PeerLink). with_link i l state xs) h.links) (λ p. same_links i l state n.links p at)

there : (old : Running) (n : Network) (i : ℕ) (l : PeerLink) → Shows old n → slice_get old.links.items i ≡ Some l → slice_get n.links i ≡ Some l
there old n i l h at = ap (λ (xs : List PeerLink). slice_get xs i) (sym h.links) ∙ at

pub took_submit : (old new : Running) (n : Network) (i : ℕ) (r : Request) (now : ℕ) (l : PeerLink) (o : Outcome) → Shows old n → slice_get old.links.items i ≡ Some l → Relinked old new →
    o ≡ submit_outcome (submission r l.link) → new.links.items ≡ slice_set old.links.items i (record { peer = l.peer; link = submitted r now l.link }) → Took (Ok o) (Submit i r now) n new
took_submit old new n i r now l o h at same is set =
    let at' : slice_get n.links i ≡ Some l = there old n i l h at in
    let s = linked old new n i l (submitted r now l.link) h at' same set in (
      ap (λ (x : Option PeerLink). is_some x) at',
      ap (λ (x : Option PeerLink). on_link (λ y. submit_outcome (submission r y.link)) x) at' ∙ ap (λ (x : Outcome). x ∷ []) (sym is),
      subst (λ (x : Option PeerLink). Shows new (after_submit i r now x n)) (sym at')
          (record { address = s.address; device = s.device; links = s.links; to_device = s.to_device; to_links = s.to_links; sent = s.sent; answered = s.answered }),
    )

pub took_take : (old new : Running) (n : Network) (i k : ℕ) (l : PeerLink) (o : Outcome) → Shows old n → slice_get old.links.items i ≡ Some l → Relinked old new →
    o ≡ take_outcome (answer_under k l.link.untaken) → new.links.items ≡ slice_set old.links.items i (record { peer = l.peer; link = taken k l.link }) → Took (Ok o) (Take i k) n new
took_take old new n i k l o h at same is set =
    let at' : slice_get n.links i ≡ Some l = there old n i l h at in
    let s = linked old new n i l (taken k l.link) h at' same set in (
      ap (λ (x : Option PeerLink). is_some x) at',
      ap (λ (x : Option PeerLink). on_link (λ y. take_outcome (answer_under k y.link.untaken)) x) at' ∙ ap (λ (x : Outcome). x ∷ []) (sym is),
      subst (λ (x : Option PeerLink). Shows new (after_take i k x n)) (sym at')
          (record { address = s.address; device = s.device; links = s.links; to_device = s.to_device; to_links = s.to_links; sent = s.sent; answered = s.answered }),
    )

-- a link that is put where it stands already
put_again : {X : Type 0} (xs : List X) (i : ℕ) (x : X) → slice_get xs i ≡ Some x → slice_set xs i x ≡ xs
put_again [] i x e = cc
put_again (y ∷ xs) zero x e = let same : y ≡ x = cc in ap (λ z. z ∷ xs) (sym same)
put_again (y ∷ xs) (suc i) x e = ap (λ zs. y ∷ zs) (put_again xs i x e)

-- what holds of either of two networks, where a test chooses one
chosen : (P : Network → Type 0) (b : Bool) (x y : Network) → (b ≡ true → P x) → (b ≡ false → P y) → P (if b then x else y)
chosen P true x y f g = f refl
chosen P false x y f g = g refl

pub took_renew : (old new : Running) (n : Network) (i first span now : ℕ) (l : PeerLink) (o : Outcome) → Shows old n → slice_get old.links.items i ≡ Some l → Relinked old new →
    o ≡ renewal_outcome (is_no_lower first l.link.next) → new.links.items ≡ slice_set old.links.items i (in_its_place first span now l) → Took (Ok o) (Renew i first span now 0) n new
took_renew old new n i first span now l o h at same is set =
    let at' : slice_get n.links i ≡ Some l = there old n i l h at in
    let place : (b : Bool) → is_no_lower first l.link.next ≡ b →
    new.links.items ≡ slice_set old.links.items i (if b then record { peer = l.peer; link = renewed_link first span now l.link } else l) =
    λ b e. set ∙ ap (λ (c : Bool). slice_set old.links.items i (if c then record { peer = l.peer; link = renewed_link first span now l.link } else l)) e in (
      ap (λ (x : Option PeerLink). is_some x) at',
      ap (λ (x : Option PeerLink). on_link (λ y. renewal_outcome (is_no_lower first y.link.next)) x) at' ∙ ap (λ (x : Outcome). x ∷ []) (sym is),
      subst (λ (x : Option PeerLink). Shows new (after_renewal i first span now 0 x n)) (sym at') (chosen (Shows new) (is_no_lower first l.link.next) _ n
          (λ e. let s = linked old new n i l (renewed_link first span now l.link) h at' same (place true e) in
          record { address = s.address; device = s.device; links = s.links; to_device = s.to_device; to_links = s.to_links; sent = s.sent; answered = s.answered })
          (λ e. let s = relinked old new n n.links h same (place false e ∙ put_again old.links.items i l at ∙ h.links) (λ p. refl) in
          record { address = s.address; device = s.device; links = s.links; to_device = s.to_device; to_links = s.to_links; sent = s.sent; answered = s.answered })),
    )

-- a link stays one to its device
pub device_submitted : (r : Request) (now : ℕ) (l : LinkState) → (submitted r now l).device ≡ l.device
device_submitted r now l = by_answer (submission r l)
  where
    by_answer : (x : Result Handle ControlFault) → (after_submission x r now l).device ≡ l.device
    by_answer (Ok h) = refl
    by_answer (Err fault) = refl

pub device_gone_on : (now : ℕ) (l : LinkState) → (gone_on now l).device ≡ l.device
device_gone_on now l = by_decision (decision now l)
  where
    by_decision : (d : Decision) → (after_due d (present_moment now l) l).device ≡ l.device
    by_decision (GivesCommand c) = refl
    by_decision _ = refl

-- the outcome of what a link gave out
sent_outcome : (number : ℕ) (d : Decision) (bytes : List ℕ) → given_by d ≡ bytes ∷ [] → due_outcome number d ≡ outcomes.Sent number
sent_outcome number (GivesCommand c) bytes e = refl
sent_outcome number GivesKeepAlive bytes e = refl
sent_outcome number _ bytes e = cc

-- a peer of a link is that of one
one_of : (l : PeerLink) (links : List PeerLink) (i : ℕ) → slice_get links i ≡ Some l → has_link l.peer links ≡ true
one_of l [] i e = cc
one_of l (x ∷ xs) zero e = let same : x ≡ l = cc in ap (λ (y : PeerLink). same_peer y.peer l.peer || has_link l.peer xs) same ∙ ap (λ (b : Bool). b || has_link l.peer xs) (same_self l.peer)
one_of l (x ∷ xs) (suc i) e = or_right (same_peer x.peer l.peer) (has_link l.peer xs) (one_of l xs i e)

-- what `due` did: the outcome, and the datagrams that were sent
pub took_due : (old new : Running) (n : Network) (i now : ℕ) (l : PeerLink) (o : Outcome) → Shows old n → slice_get old.links.items i ≡ Some l →
    due_outcome (length old.to_device.items) (decision now l.link) ≡ o →
    new.device ≡ old.device → new.to_links.items ≡ old.to_links.items → new.to_device.items ≡ old.to_device.items ++ sendings_in l.peer (given_by (decision now l.link)) →
    new.links.items ≡ slice_set old.links.items i (record { peer = l.peer; link = gone_on now l.link }) → Took (Ok o) (Due i now) n new
took_due old new n i now l o h at is device to_links to_device set =
    let at' : slice_get n.links i ≡ Some l = there old n i l h at in
    let kept : (p : Peer) → has_link p (with_link i l (gone_on now l.link) n.links) ≡ has_link p n.links = λ p. same_links i l (gone_on now l.link) n.links p at' in
    let given = given_by (decision now l.link) in (
      ap (λ (x : Option PeerLink). is_some x) at',
      ap (λ (x : Option PeerLink). on_link (λ y. due_outcome (length n.to_device) (decision now y.link)) x) at'
          ∙ ap (λ (xs : List SentDatagram). due_outcome (length xs) (decision now l.link) ∷ []) (sym h.to_device) ∙ ap (λ (x : Outcome). x ∷ []) is,
      subst (λ (x : Option PeerLink). Shows new (after_due_step i now x n)) (sym at') (record {
        address = h.address;
        device = subst (λ d. Represents n.sizes d n.tree n.events) (sym device) h.device;
        links = set ∙ ap (λ (xs : List PeerLink). with_link i l (gone_on now l.link) xs) h.links;
        to_device = to_device ∙ ap (λ (xs : List SentDatagram). xs ++ sendings_in l.peer given) h.to_device;
        to_links = to_links ∙ h.to_links;
        sent = of_links_kept n.links (with_link i l (gone_on now l.link) n.links) (n.to_device ++ sendings_in l.peer given) kept
            (of_links_more n.links n.to_device (sendings_in l.peer given) h.sent (sendings_of_links n.links l.peer given (one_of l n.links i at')));
        answered = of_links_kept n.links (with_link i l (gone_on now l.link) n.links) n.to_links kept h.answered;
      }),
    )

pub took_sent : (old new : Running) (n : Network) (i now : ℕ) (l : PeerLink) (number : ℕ) (p : Peer) (bytes : List ℕ) → Shows old n → slice_get old.links.items i ≡ Some l →
    number ≡ length old.to_device.items → p ≡ l.peer → given_by (decision now l.link) ≡ bytes ∷ [] →
    new.device ≡ old.device → new.to_links.items ≡ old.to_links.items → new.to_device.items ≡ old.to_device.items ++ (record { peer = p; bytes = bytes }) ∷ [] →
    new.links.items ≡ slice_set old.links.items i (record { peer = l.peer; link = gone_on now l.link }) → Took (Ok (outcomes.Sent number)) (Due i now) n new
took_sent old new n i now l number p bytes h at count owner given device to_links to_device set =
    took_due old new n i now l (outcomes.Sent number) h at
    (sent_outcome (length old.to_device.items) (decision now l.link) bytes given ∙ ap (λ (k : ℕ). outcomes.Sent k) (sym count))
    device to_links (to_device ∙ ap (λ (x : Peer). old.to_device.items ++ sendings_in x (bytes ∷ [])) owner ∙ ap (λ (xs : List (List ℕ)). old.to_device.items ++ sendings_in l.peer xs) (sym given)) set

pub took_nothing : (old new : Running) (n : Network) (i now : ℕ) (l : PeerLink) → Shows old n → slice_get old.links.items i ≡ Some l → decision now l.link ≡ GivesNothing → Relinked old new →
    new.links.items ≡ slice_set old.links.items i (record { peer = l.peer; link = gone_on now l.link }) → Took (Ok outcomes.Nothing) (Due i now) n new
took_nothing old new n i now l h at is same set =
    took_due old new n i now l outcomes.Nothing h at (ap (λ (d : Decision). due_outcome (length old.to_device.items) d) is) same.device same.to_links
    (same.to_device ∙ sym (append-nil old.to_device.items) ∙ ap (λ (d : Decision). old.to_device.items ++ sendings_in l.peer (given_by d)) (sym is)) set

pub took_lost : (old new : Running) (n : Network) (i now : ℕ) (l : PeerLink) → Shows old n → slice_get old.links.items i ≡ Some l → decision now l.link ≡ IsLost → Relinked old new →
    new.links.items ≡ slice_set old.links.items i (record { peer = l.peer; link = gone_on now l.link }) → Took (Ok outcomes.Lost) (Due i now) n new
took_lost old new n i now l h at is same set =
    took_due old new n i now l outcomes.Lost h at (ap (λ (d : Decision). due_outcome (length old.to_device.items) d) is) same.device same.to_links
    (same.to_device ∙ sym (append-nil old.to_device.items) ∙ ap (λ (d : Decision). old.to_device.items ++ sendings_in l.peer (given_by d)) (sym is)) set

-- a keep-alive is sent beside a link
pub took_beside : (old new : Running) (n : Network) (i now : ℕ) (l : PeerLink) (number : ℕ) (p : Peer) (bytes : List ℕ) → Shows old n → slice_get old.links.items i ≡ Some l →
    number ≡ length old.to_device.items → p ≡ l.peer → bytes ≡ due_bytes GivesKeepAlive →
    new.device ≡ old.device → new.to_links.items ≡ old.to_links.items → new.to_device.items ≡ old.to_device.items ++ (record { peer = p; bytes = bytes }) ∷ [] →
    new.links.items ≡ old.links.items → Took (Ok (outcomes.Sent number)) (Beside i now) n new
took_beside old new n i now l number p bytes h at count owner are device to_links to_device same =
    let at' : slice_get n.links i ≡ Some l = there old n i l h at in
    let given = given_by GivesKeepAlive in (
      ap (λ (x : Option PeerLink). is_some x) at',
      ap (λ (x : Option PeerLink). on_link (λ y. outcomes.Sent (length n.to_device)) x) at'
          ∙ ap (λ (xs : List SentDatagram). outcomes.Sent (length xs) ∷ []) (sym h.to_device) ∙ ap (λ (k : ℕ). outcomes.Sent k ∷ []) (sym count),
      subst (λ (x : Option PeerLink). Shows new (after_beside x n)) (sym at') (record {
        address = h.address;
        device = subst (λ d. Represents n.sizes d n.tree n.events) (sym device) h.device;
        links = same ∙ h.links;
        to_device = to_device ∙ ap (λ (x : Peer). old.to_device.items ++ sendings_in x (bytes ∷ [])) owner
            ∙ ap (λ (b : List ℕ). old.to_device.items ++ sendings_in l.peer (b ∷ [])) are ∙ ap (λ (xs : List SentDatagram). xs ++ sendings_in l.peer given) h.to_device;
        to_links = to_links ∙ h.to_links;
        sent = of_links_more n.links n.to_device (sendings_in l.peer given) h.sent (sendings_of_links n.links l.peer given (one_of l n.links i at'));
        answered = h.answered;
      }),
    )

-- ---- deliveries

pub took_to_device : (old new : Running) (n : Network) (k now : ℕ) (d : SentDatagram) (p : Peer) (bytes : List ℕ) (v : Verdict) (answers : List (List ℕ)) → Shows old n →
    slice_get old.to_device.items k ≡ Some d → p ≡ d.peer → bytes ≡ d.bytes →
    ((w : DeviceSizes) (T : List Object) (E : List Event) → Represents w old.device T E → Represents w new.device T (Datagram p bytes now ∷ E)) →
    ((w : DeviceSizes) (T : List Object) (E : List Event) → Represents w old.device T E → answers ≡ packets w T E (Datagram p bytes now)) →
    ((w : DeviceSizes) (T : List Object) (E : List Event) → Represents w old.device T E → v ≡ verdict w T E p bytes now) →
    new.links.items ≡ old.links.items → new.to_device.items ≡ old.to_device.items → new.to_links.items ≡ old.to_links.items ++ sendings_in p answers →
    Took (Ok (outcomes.Device v)) (ToDevice k now) n new
took_to_device old new n k now d p bytes v answers h at owner content represents answered told links to_device to_links =
    let x : SentDatagram = record { peer = p; bytes = bytes } in
    let at' : slice_get n.to_device k ≡ Some x =
    ap (λ (xs : List SentDatagram). slice_get xs k) (sym h.to_device) ∙ at ∙ ap (λ (y : SentDatagram). Some y) (datagram_is d p bytes owner content) in
    let all = packets n.sizes n.tree n.events (Datagram p bytes now) in
    let are : answers ≡ all = answered n.sizes n.tree n.events h.device in (
      ap (λ (o : Option SentDatagram). is_some o) at',
      ap (λ (o : Option SentDatagram). delivery_outcome now o n) at' ∙ ap (λ (o : Verdict). outcomes.Device o ∷ []) (sym (told n.sizes n.tree n.events h.device)),
      subst (λ (o : Option SentDatagram). Shows new (after_delivery now o n)) (sym at') (record {
        address = h.address;
        device = represents n.sizes n.tree n.events h.device;
        links = links ∙ h.links;
        to_device = to_device ∙ h.to_device;
        to_links = to_links ∙ ap (λ (xs : List SentDatagram). xs ++ sendings_in p answers) h.to_links ∙ ap (λ (xs : List (List ℕ)). n.to_links ++ sendings_in p xs) are;
        sent = h.sent;
        answered = of_links_more n.links n.to_links (sendings_in p all) h.answered (sendings_of_links n.links p all (of_a_link n.links n.to_device k x h.sent at'));
      }),
    )

pub took_to_link : (old new : Running) (n : Network) (k now : ℕ) (d : SentDatagram) (p : Peer) (bytes : List ℕ) (r : Reception) → Shows old n → slice_get old.to_links.items k ≡ Some d →
    p ≡ d.peer → bytes ≡ d.bytes → (let x : SentDatagram = record { peer = p; bytes = bytes } in (Some r ≡ first_heard x old.links.items) × (new.links.items ≡ map (hears_datagram device_address x now) old.links.items)) →
    Relinked old new → Took (Ok (outcomes.Link r)) (ToLink k now) n new
took_to_link old new n k now d p bytes r h at owner content hearing same =
    let x : SentDatagram = record { peer = p; bytes = bytes } in
    let at' : slice_get n.to_links k ≡ Some x =
    ap (λ (xs : List SentDatagram). slice_get xs k) (sym h.to_links) ∙ at ∙ ap (λ (y : SentDatagram). Some y) (datagram_is d p bytes owner content) in (
      ap (λ (o : Option SentDatagram). is_some o) at',
      ap (λ (o : Option SentDatagram). reception_outcome o n) at' ∙ ap (λ (q : Peer). reception_outcomes q x n.links) h.address ∙ one_answers x n.links r (sym (hearing.0 ∙ ap (λ (xs : List PeerLink). first_heard x xs) h.links)),
      subst (λ (o : Option SentDatagram). Shows new (after_reception now o n)) (sym at')
          (relinked old new n (map (hears_datagram n.address x now) n.links) h same
          (hearing.1 ∙ ap (λ (xs : List PeerLink). map (hears_datagram device_address x now) xs) h.links ∙ ap (λ (q : Peer). map (hears_datagram q x now) n.links) (sym h.address))
          (λ p. hearing_links n.address x now n.links p)),
    )

-- a datagram on its way to a link has one that hears it
pub no_deaf : (old : Running) (n : Network) (k : ℕ) (d : SentDatagram) (p : Peer) (bytes : List ℕ) → Shows old n → slice_get old.to_links.items k ≡ Some d → p ≡ d.peer → bytes ≡ d.bytes →
    (let x : SentDatagram = record { peer = p; bytes = bytes } in None ≡ first_heard x old.links.items) → ⊥
no_deaf old n k d p bytes h at owner content silent =
    let x : SentDatagram = record { peer = p; bytes = bytes } in
    let at' : slice_get n.to_links k ≡ Some x =
    ap (λ (xs : List SentDatagram). slice_get xs k) (sym h.to_links) ∙ at ∙ ap (λ (y : SentDatagram). Some y) (datagram_is d p bytes owner content) in
    let yes' : has_link p n.links ≡ true = of_a_link n.links n.to_links k x h.answered at' in
    let no' : has_link p n.links ≡ false = none_answers x n.links (sym (silent ∙ ap (λ (xs : List PeerLink). first_heard x xs) h.links)) in
    cc

-- ---- packets that are sent back

pub sent_next : (p : Peer) (packets : List (List ℕ)) (i : ℕ) (bytes : List ℕ) (before now later : List SentDatagram) → Some bytes ≡ slice_get packets i →
    now ≡ before ++ sendings_in p (take i packets) → later ≡ now ++ (record { peer = p; bytes = bytes }) ∷ [] → later ≡ before ++ sendings_in p (take (i + 1) packets)
sent_next p packets i bytes before now later at is more =
    let one : sendings_in p (take (i + 1) packets) ≡ sendings_in p (take i packets) ++ (record { peer = p; bytes = bytes }) ∷ [] = next packets i (sym at) in
    more ∙ ap (λ (xs : List SentDatagram). xs ++ (record { peer = p; bytes = bytes }) ∷ []) is
    ∙ append_assoc before (sendings_in p (take i packets)) ((record { peer = p; bytes = bytes }) ∷ []) ∙ ap (λ (xs : List SentDatagram). before ++ xs) (sym one)
  where
    next : (packets : List (List ℕ)) (i : ℕ) → slice_get packets i ≡ Some bytes → sendings_in p (take (i + 1) packets) ≡ sendings_in p (take i packets) ++ (record { peer = p; bytes = bytes }) ∷ []
    next [] i e = cc
    next (x ∷ xs) zero e = let same : x ≡ bytes = cc in ap (λ (b : List ℕ). let y : SentDatagram = record { peer = p; bytes = b } in y ∷ []) same
    next (x ∷ xs) (suc i) e = rest (next xs i e)
      where
        rest : sendings_in p (take (i + 1) xs) ≡ sendings_in p (take i xs) ++ (record { peer = p; bytes = bytes }) ∷ [] → sendings_in p (take (suc i + 1) (x ∷ xs)) ≡ sendings_in p (take (suc i) (x ∷ xs)) ++ (record { peer = p; bytes = bytes }) ∷ []
        rest e = let step : suc i + 1 ≡ suc (i + 1) = omega arith in
            ap (λ (k : ℕ). sendings_in p (take k (x ∷ xs))) step ∙ ap (λ (ys : List SentDatagram). (record { peer = p; bytes = x }) ∷ ys) e

-- ---- starts

pub none_of_peer : (p : Peer) (starts : List Start) → not (list_any (is_of_peer p) starts) ≡ list_all (is_of_another_peer p) starts
none_of_peer p [] = refl
none_of_peer p (x ∷ starts) = both (same_peer x.peer p) (list_any (is_of_peer p) starts) ∙ ap (λ (b : Bool). not (same_peer x.peer p) && b) (none_of_peer p starts)
  where
    both : (a b : Bool) → not (a || b) ≡ (not a && not b)
    both true b = refl
    both false b = refl

pub apart_is : (p : Peer) (later : List Start) (b : Bool) → same_peer p device_address ≡ false → b ≡ list_any (is_of_peer p) later →
    not b ≡ (not (same_peer p device_address) && list_all (is_of_another_peer p) later)
apart_is p later b device is =
    ap not is ∙ none_of_peer p later ∙ ap (λ (a : Bool). not a && list_all (is_of_another_peer p) later) (sym device)

-- ---- schedules

-- a number of the steps from k on, as a number of all steps
abbrev pub counted_from : ℕ → Option ℕ → Option ℕ
counted_from k (Some j) = Some (k + j)
counted_from k None = None

-- With these outcomes and these steps left, the network that runs is one from which the rest leads to what all steps lead to.
pub record IsHalfway (r : Running) (log : List Outcome) (k : ℕ) (rest all : List Step) (from : Network) : Type 0 where
  pub network : Network
  pub shows : Shows r network
  pub last : after_steps rest network ≡ after_steps all from
  pub outcomes : log ++ outcomes_of rest network ≡ outcomes_of all from
  pub missing : counted_from k (first_missing rest network) ≡ first_missing all from

pub begun : (r : Running) (all : List Step) (from : Network) → Shows r from → IsHalfway r [] 0 all all from
begun r all from h = record { network = from; shows = h; last = refl; outcomes = refl; missing = from_zero (first_missing all from) }
  where
    from_zero : (o : Option ℕ) → counted_from 0 o ≡ o
    from_zero (Some j) = let e : 0 + j ≡ j = omega arith in ap (λ (k : ℕ). Some k) e
    from_zero None = refl

one_more_counted : (k : ℕ) (o : Option ℕ) → counted_from (k + 1) o ≡ counted_from k (one_later o)
one_more_counted k (Some j) = let e : k + 1 + j ≡ k + (j + 1) = omega arith in ap (λ (m : ℕ). Some m) e
one_more_counted k None = refl

pub goes_on : (r r' : Running) (log log' : List Outcome) (k : ℕ) (s : Step) (rest all : List Step) (from : Network) (o : Outcome) → IsHalfway r log k (s ∷ rest) all from →
    ((n : Network) → Shows r n → Took (Ok o) s n r') → log' ≡ log ++ o ∷ [] → IsHalfway r' log' (k + 1) rest all from
goes_on r r' log log' k s rest all from o h took more =
    let n = h.network in
    let t = took n h.shows in
    record {
      network = after_step s n;
      shows = t.2;
      last = h.last;
      outcomes = ap (λ (xs : List Outcome). xs ++ outcomes_of rest (after_step s n)) more ∙ append_assoc log (o ∷ []) (outcomes_of rest (after_step s n))
          ∙ ap (λ (xs : List Outcome). log ++ (xs ++ outcomes_of rest (after_step s n))) (sym t.1) ∙ h.outcomes;
      missing = one_more_counted k (first_missing rest (after_step s n))
          ∙ ap (λ (b : Bool). counted_from k (if b then one_later (first_missing rest (after_step s n)) else Some 0)) (sym t.0) ∙ h.missing;
    }

pub stops : (r r' : Running) (log : List Outcome) (k : ℕ) (s : Step) (rest all : List Step) (from : Network) → IsHalfway r log k (s ∷ rest) all from →
    ((n : Network) → Shows r n → Took (Err faults.Missing) s n r') → first_missing all from ≡ Some k
stops r r' log k s rest all from h took =
    let n = h.network in
    let e : k + 0 ≡ k = omega arith in
    sym h.missing ∙ ap (λ (b : Bool). counted_from k (if b then one_later (first_missing rest (after_step s n)) else Some 0)) (took n h.shows) ∙ ap (λ (m : ℕ). Some m) e

-- the steps from an index on
rest_is : {X : Type 0} (f : X → Step) (xs : List X) (i : ℕ) (x : X) → i < length xs → x ≡ get_or xs i x → map f (drop i xs) ≡ f x ∷ map f (drop (i + 1) xs)
rest_is f xs i x h at = ap (λ ys. map f ys) (drop_more xs i x h) ∙ ap (λ y. f y ∷ map f (drop (i + 1) xs)) (sym at)

pub goes_on_at : {X : Type 0} (f : X → Step) (xs : List X) (i : ℕ) (x : X) (r r' : Running) (log log' : List Outcome) (from : Network) (o : Outcome) → i < length xs → x ≡ get_or xs i x →
    IsHalfway r log i (map f (drop i xs)) (map f xs) from → ((n : Network) → Shows r n → Took (Ok o) (f x) n r') → log' ≡ log ++ o ∷ [] →
    IsHalfway r' log' (i + 1) (map f (drop (i + 1) xs)) (map f xs) from
goes_on_at f xs i x r r' log log' from o h at before took more =
    goes_on r r' log log' i (f x) (map f (drop (i + 1) xs)) (map f xs) from o (subst (λ (ys : List Step). IsHalfway r log i ys (map f xs) from) (rest_is f xs i x h at) before) took more

pub stops_at : {X : Type 0} (f : X → Step) (xs : List X) (i : ℕ) (x : X) (r r' : Running) (log : List Outcome) (from : Network) (fault : StepFault) → i < length xs → x ≡ get_or xs i x → fault ≡ faults.Missing →
    IsHalfway r log i (map f (drop i xs)) (map f xs) from → ((n : Network) → Shows r n → Took (Err fault) (f x) n r') → first_missing (map f xs) from ≡ Some i
stops_at f xs i x r r' log from fault h at is before took =
    stops r r' log i (f x) (map f (drop (i + 1) xs)) (map f xs) from (subst (λ (ys : List Step). IsHalfway r log i ys (map f xs) from) (rest_is f xs i x h at) before)
    (λ n s. subst (λ (e : StepFault). Took (Err e) (f x) n r') is (took n s))

pub begun_at : (r : Running) (log : List Outcome) (all : List Step) (from : Network) → Shows r from → log ≡ [] → IsHalfway r log 0 all all from
begun_at r log all from h e = subst (λ (xs : List Outcome). IsHalfway r xs 0 all all from) (sym e) (begun r all from h)

pub ended_at : {X : Type 0} (f : X → Step) (xs : List X) (i : ℕ) (r : Running) (log : List Outcome) (from : Network) → length xs ≤ i →
    IsHalfway r log i (map f (drop i xs)) (map f xs) from → IsHalfway r log i [] (map f xs) from
ended_at f xs i r log from h before = subst (λ (ys : List Step). IsHalfway r log i ys (map f xs) from) (ap (λ ys. map f ys) (drop_all i xs h)) before

pub all_there : (r : Running) (log : List Outcome) (k : ℕ) (all : List Step) (from : Network) → IsHalfway r log k [] all from → first_missing all from ≡ None
all_there r log k all from h = sym h.missing

pub all_done : (t : Transcript) (r : Running) (log : List Outcome) (k : ℕ) (all : List Step) (from : Network) → IsHalfway r log k [] all from →
    t.device ≡ r.device → t.to_device.items ≡ r.to_device.items → t.to_links.items ≡ r.to_links.items → t.log.items ≡ log → IsTranscript t all from
all_done t r log k all from h device to_device to_links is =
    let n = h.network in record {
      device = subst (λ (x : Network). Represents x.sizes t.device x.tree x.events) h.last (subst (λ d. Represents n.sizes d n.tree n.events) (sym device) h.shows.device);
      to_device = to_device ∙ h.shows.to_device ∙ ap (λ (x : Network). x.to_device) h.last;
      to_links = to_links ∙ h.shows.to_links ∙ ap (λ (x : Network). x.to_links) h.last;
      log = is ∙ sym (append-nil log) ∙ h.outcomes;
    }

pub missing_at : (packets : List (List ℕ)) (i : ℕ) → i < length packets → None ≡ slice_get packets i → ⊥
missing_at packets i h e = let some : slice_get packets i ≡ Some (get_or packets i []) = slice_get-get_or packets i [] h in cc

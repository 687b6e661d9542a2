-- Each link of a network has a history; and each command of a link that is asked often enough gets through.
use Rattle.oca_pair.proofs.Words.{arith, append-nil, append_assoc, ◌≡◌, ℕ, ◌+◌, ◌*◌, ◌<◌, ◌≤◌, Bool, true, false, cond, List, [], ◌∷◌, ◌++◌, length, Option, Some, None, refl, sym, ap, ◌∙◌, subst}
use Rattle.oca_pair.proofs.Words.{zero, suc, ◌⊎◌, inl, inr, nat_eq, ◌||◌, map, filter, Result, Ok, Err, AllByRecursion, slice_get, slice_set, slice_get-map, same_Some, option_map, nat_tests, or_right}
use Rattle.oca_pair.proofs.Words.{eqb-true, Peer, Handle, same_peer, CommandFields, DeviceSizes, Commands, pdu_encoding, WrittenIsReadBack, Object, Datagram, ControlFault, AnswerFields, Untaken}
use Rattle.oca_pair.proofs.Words.{answer_under, holds, LinkState, new_link, present_moment, after_due, Request, command_under, submission, after_submission, Decision, GivesCommand, GivesKeepAlive}
use Rattle.oca_pair.proofs.Words.{GivesNothing, decision, due_answer, due_bytes, gone_on, reception, received, taken, IsAskedEvery, IsWaiting, Start, Network, PeerLink, SentDatagram, SubmittedCommand}
use Rattle.oca_pair.proofs.Words.{TakenAnswer, Setup, Renewal, left_behind, started, opening, Step, Submit, Due, ToDevice, ToLink, Other, Take, has_link, with_link, submitted_by, after_submit}
use Rattle.oca_pair.proofs.Words.{submit_outcome, given_by, after_due_step, after_delivery, content_read, hears_datagram, after_reception, after_take, Renew, Beside, after_beside, is_no_lower}
use Rattle.oca_pair.proofs.Words.{renewal_of, renewed_link, after_renewal, after_step, after_steps, on_link, outcome_of_step, CarriesUntaken, are_apart, StepFits, Fit, SpanFits}
use Rattle.oca_pair.proofs.Words.{KeepsItsSession, FindsRoom, IsAnswerTo, GotItsAnswer, ComesBack, asked, meanwhile, RenewsNothing, called, received_from, receiving, call_in, calls_in, copy_of}
use Rattle.oca_pair.proofs.Words.{WasSent, WaitsInTime, GetsThrough, ComesInSession, each_map, equal_self, each_both, on_bool}
use Rattle.std.proofs.Common.{max}
use Rattle.oca_control.specs.Links.{IsLost as LosesLink}
use Rattle.oca_control.specs.Histories.{Call, Submits, SendsDue, Receives, TakesAnswer, clock_of_calls, commands, command_accepted, Sending, sending_of, sendings, answers_to, first_of, is_untaken, is_lost, IsCopy}
use Rattle.oca_control.proofs.Calls.{answer_is}
use Rattle.oca_control.proofs.Following.{IsSent}
use Rattle.oca_control.proofs.Histories.{IsMade, IsMadeBy, HoldsAfter, holds_after_calls}
use Rattle.oca_control.proofs.InTime.{clock_from, sent_from, in_time_made}
use Rattle.oca_pair.specs.declared.outcome.Outcome.TheVariants as outcomes
use Rattle.oca_pair.specs.Steps as steps
use Rattle.oca_pair.specs.GettingThrough.{IsLost}
use Rattle.oca_pair.proofs.EachStep.{renewed_at}
use Rattle.oca_pair.proofs.Lists.{IsIn, contains_in, in_contains, in_more, in_behind, in_last, each_at, each_in, mapped_at}
use Rattle.oca_pair.proofs.Truths.{past, IsSubmitted, IsTrueAnswer}
use Rattle.oca_pair.proofs.Fair.{IsFair}
use Rattle.oca_pair.proofs.Delivering.{held_answer}
use Rattle.oca_pair.proofs.Networks.{LinkSound, Sound, sound_after}
use Rattle.oca_pair.proofs.Renewing.{by_renewal, renews_nothing, nothing_in_parts, not_its_renewal, left_steps}
use Rattle.oca_pair.proofs.Fixed.{peers_steps, link_before}
use Rattle.oca_pair.proofs.Lawful.{true_answer}
use Rattle.oca_pair.proofs.RoundTrip.{grown_steps, IsKept, Stands, stands_steps, round_trip_law, AreToDevice, to_device_step, to_device_opening}

-- ---- a link of a network is made by its calls

-- the datagram is among these
abbrev IsSentBy : Peer → List ℕ → List SentDatagram → Type 0
IsSentBy p bytes out = let d : SentDatagram = record { peer = p; bytes = bytes } in IsIn d out

abbrev AreSentBy : Peer → List SentDatagram → List Sending → Type 0
AreSentBy p out given = AllByRecursion (λ x. IsSentBy p x.bytes out) given

-- the link of this number is the peer's and was made at this moment and by these calls, and what they gave out was sent
-- to the device
record Runs (first born s i : ℕ) (p : Peer) (calls : List Call) (n : Network) : Type 0 where
  pub link : PeerLink
  pub there : slice_get n.links i ≡ Some link
  pub peer : link.peer ≡ p
  pub made : IsMadeBy n.address first born s calls link.link
  pub sent : (h : ℕ) → AreSentBy p n.to_device (sendings born h calls)

sent_more : (p : Peer) (out more : List SentDatagram) (given : List Sending) → AreSentBy p out given → AreSentBy p (out ++ more) given
sent_more p out more given a = each_map (λ x q. in_more _ out more q) given a

-- an element is put in at a place: there it stands, and elsewhere what stood
pub put_here : {X : Type 0} (xs : List X) (i : ℕ) (y z : X) → slice_get xs i ≡ Some z → slice_get (slice_set xs i y) i ≡ Some y
put_here [] i y z e = cc
put_here (x ∷ xs) zero y z e = refl
put_here (x ∷ xs) (suc i) y z e = put_here xs i y z e

one_less : (a b : ℕ) → nat_eq (suc a) (suc b) ≡ false → nat_eq a b ≡ false
one_less a b e = grind (arith, nat_tests)

pub put_elsewhere : {X : Type 0} (xs : List X) (k i : ℕ) (y : X) → nat_eq k i ≡ false → slice_get (slice_set xs k y) i ≡ slice_get xs i
put_elsewhere [] k i y e = refl
put_elsewhere (x ∷ xs) zero zero y e = cc
put_elsewhere (x ∷ xs) zero (suc i) y e = refl
put_elsewhere (x ∷ xs) (suc k) zero y e = refl
put_elsewhere (x ∷ xs) (suc k) (suc i) y e = put_elsewhere xs k i y (one_less k i e)

-- a call of the link of the number k
runs_link : (first born s i : ℕ) (p : Peer) (calls : List Call) (n m : Network) (k : ℕ) (l : PeerLink) (call : LinkState → Call) (state : LinkState → LinkState) (more : List SentDatagram) →
    slice_get n.links k ≡ Some l → m.address ≡ n.address → m.links ≡ with_link k l (state l.link) n.links → m.to_device ≡ n.to_device ++ more → IsMade l.link (call l.link) (state l.link) →
    (l.peer ≡ p → (h : ℕ) → AreSentBy p (n.to_device ++ more) (sendings born h calls) → AreSentBy p (n.to_device ++ more) (sendings born h (call l.link ∷ calls))) →
    Runs first born s i p calls n → Runs first born s i p (cond (nat_eq k i) (called call (slice_get n.links i)) [] ++ calls) m
runs_link first born s i p calls n m k l call state more e address links out made sent g =
    on_bool (nat_eq k i) (λ b. nat_eq k i ≡ b → Runs first born s i p (cond b (called call (slice_get n.links i)) [] ++ calls) m)
    (λ q. let is : k ≡ i = eqb-true k i q in subst (λ (o : Option PeerLink). Runs first born s i p (called call o ++ calls) m) (sym (ap (λ (j : ℕ). slice_get n.links j) (sym is) ∙ e)) (mine is))
    (λ q. record {
      link = g.link;
      there = ap (λ (xs : List PeerLink). slice_get xs i) links ∙ put_elsewhere n.links k i y q ∙ g.there;
      peer = g.peer;
      made = subst (λ (q : Peer). IsMadeBy q first born s calls g.link.link) (sym address) g.made;
      sent = λ h. subst (λ (xs : List SentDatagram). AreSentBy p xs (sendings born h calls)) (sym out) (sent_more p n.to_device more (sendings born h calls) (g.sent h));
    }) refl
  where
    y : PeerLink
    y = record { peer = l.peer; link = state l.link }

    mine : k ≡ i → Runs first born s i p (call l.link ∷ calls) m
    mine q =
        let there : slice_get n.links i ≡ Some l = ap (λ (j : ℕ). slice_get n.links j) (sym q) ∙ e in
        let same : g.link ≡ l = same_Some g.link l (sym g.there ∙ there) in
        let peer : l.peer ≡ p = ap (λ (z : PeerLink). z.peer) (sym same) ∙ g.peer in
        record {
          link = y;
          there = ap (λ (xs : List PeerLink). slice_get xs i) links ∙ ap (λ (j : ℕ). slice_get (slice_set n.links j y) i) q ∙ put_here n.links i y l there;
          peer = peer;
          made = (l.link, subst (λ (q : Peer). IsMadeBy q first born s calls l.link) (sym address) (subst (λ (z : PeerLink). IsMadeBy n.address first born s calls z.link) same g.made), made);
          sent = λ h. subst (λ (xs : List SentDatagram). AreSentBy p xs (sendings born h (call l.link ∷ calls))) (sym out)
              (sent peer h (sent_more p n.to_device more (sendings born h calls) (g.sent h)));
        }

-- a link that is not there is not this one
runs_none : (first born s i : ℕ) (p : Peer) (calls : List Call) (n : Network) (k : ℕ) (call : LinkState → Call) → slice_get n.links k ≡ None → Runs first born s i p calls n →
    Runs first born s i p (cond (nat_eq k i) (called call (slice_get n.links i)) [] ++ calls) n
runs_none first born s i p calls n k call e g = on_bool (nat_eq k i) (λ b. nat_eq k i ≡ b → Runs first born s i p (cond b (called call (slice_get n.links i)) [] ++ calls) n)
    (λ q. subst (λ (o : Option PeerLink). Runs first born s i p (called call o ++ calls) n) (sym (ap (λ (j : ℕ). slice_get n.links j) (sym (eqb-true k i q)) ∙ e)) g) (λ q. g) refl

runs_step : (first born s i : ℕ) (p : Peer) (calls : List Call) (step : Step) (n : Network) → RenewsNothing p n (after_step step n) → Runs first born s i p calls n →
    Runs first born s i p (call_in i step n ++ calls) (after_step step n)
runs_step first born s i p calls step n never g = one step never
  where
    none_more : n.to_device ≡ n.to_device ++ []
    none_more = sym (append-nil n.to_device)

    by_submit : (k : ℕ) (r : Request) (now : ℕ) (o : Option PeerLink) → slice_get n.links k ≡ o →
        Runs first born s i p (cond (nat_eq k i) (called (λ l. Submits r now (submission r l)) (slice_get n.links i)) [] ++ calls) (after_submit k r now o n)
    by_submit k r now None e = runs_none first born s i p calls n k (λ l. Submits r now (submission r l)) e g
    by_submit k r now (Some l) e =
        runs_link first born s i p calls n (after_submit k r now (Some l) n) k l (λ l. Submits r now (submission r l)) (λ l. after_submission (submission r l) r now l) [] e refl refl none_more
        (refl, refl) (λ same h a. a) g

    gives : (l : PeerLink) (now : ℕ) (d : Decision) → l.peer ≡ p → (h : ℕ) → AreSentBy p (n.to_device ++ steps.sendings_in l.peer (given_by d)) (sendings born h calls) →
        AreSentBy p (n.to_device ++ steps.sendings_in l.peer (given_by d)) (sending_of h (due_answer d) (record { at = max (clock_of_calls born calls) now; bytes = due_bytes d }) (sendings born h calls))
    gives l now (GivesCommand c) same h a =
        on_bool (nat_eq h c.handle) (λ b. AreSentBy p (n.to_device ++ steps.sendings_in l.peer (given_by (GivesCommand c))) (cond b ((let x : Sending = record { at = max (clock_of_calls born calls) now; bytes = due_bytes (GivesCommand c) } in x) ∷ sendings born h calls) (sendings born h calls)))
        ((in_behind _ n.to_device (steps.sendings_in l.peer (given_by (GivesCommand c))) (inl (ap (λ (q : Peer). let d : SentDatagram = record { peer = q; bytes = due_bytes (GivesCommand c) } in d) same)), a))
        a
    gives l now _ same h a = a

    by_due : (k now : ℕ) (o : Option PeerLink) → slice_get n.links k ≡ o →
        Runs first born s i p (cond (nat_eq k i) (called (λ l. SendsDue now (due_answer (decision now l)) (due_bytes (decision now l))) (slice_get n.links i)) [] ++ calls) (after_due_step k now o n)
    by_due k now None e = runs_none first born s i p calls n k (λ l. SendsDue now (due_answer (decision now l)) (due_bytes (decision now l))) e g
    by_due k now (Some l) e =
        runs_link first born s i p calls n (after_due_step k now (Some l) n) k l (λ l. SendsDue now (due_answer (decision now l)) (due_bytes (decision now l))) (gone_on now)
        (steps.sendings_in l.peer (given_by (decision now l.link))) e refl refl refl (refl, refl, refl) (gives l now (decision now l.link)) g

    by_delivery : (now : ℕ) (o : Option SentDatagram) → Runs first born s i p calls (after_delivery now o n)
    by_delivery now None = g
    by_delivery now (Some d) = record { link = g.link; there = g.there; peer = g.peer; made = g.made; sent = g.sent }

    heard : (now : ℕ) (d : SentDatagram) → Runs first born s i p (received_from n.address now d g.link ++ calls) (after_reception now (Some d) n)
    heard now d =
        on_bool (same_peer g.link.peer d.peer) (λ b. same_peer g.link.peer d.peer ≡ b → Runs first born s i p (cond b (Receives n.address d.bytes (content_read d.bytes) now (reception n.address
        (content_read d.bytes) g.link.link) ∷ []) [] ++ calls) (after_reception now (Some d) n))
        (λ q. record { link = y; there = there ∙ is true q; peer = g.peer; made = (g.link.link, g.made, refl); sent = g.sent })
        (λ q. record { link = g.link; there = there ∙ is false q; peer = g.peer; made = g.made; sent = g.sent }) refl
      where
        there : slice_get (map (hears_datagram n.address d now) n.links) i ≡ Some (hears_datagram n.address d now g.link)
        there = slice_get-map (hears_datagram n.address d now) n.links i ∙ ap (λ (o : Option PeerLink). option_map (hears_datagram n.address d now) o) g.there

        y : PeerLink
        y = record { peer = g.link.peer; link = received n.address (content_read d.bytes) now g.link.link }

        is : (b : Bool) → same_peer g.link.peer d.peer ≡ b → Some (hears_datagram n.address d now g.link) ≡ Some (cond b y g.link)
        is b q = ap (λ (c : Bool). Some (cond c y g.link)) q

    by_reception : (now : ℕ) (o : Option SentDatagram) → Runs first born s i p (receiving n.address now o (slice_get n.links i) ++ calls) (after_reception now o n)
    by_reception now None = g
    by_reception now (Some d) = subst (λ (z : Option PeerLink). Runs first born s i p (receiving n.address now (Some d) z ++ calls) (after_reception now (Some d) n)) (sym g.there) (heard now d)

    by_other : (from : Peer) (bytes : List ℕ) (now : ℕ) (b : Bool) → (let m : Network = cond b n (record n { events = Datagram from bytes now ∷ n.events }) in Runs first born s i p calls m)
    by_other from bytes now true = g
    by_other from bytes now false = record { link = g.link; there = g.there; peer = g.peer; made = g.made; sent = g.sent }

    by_take : (k j : ℕ) (o : Option PeerLink) → slice_get n.links k ≡ o →
        Runs first born s i p (cond (nat_eq k i) (called (λ l. TakesAnswer j (answer_under j l.untaken)) (slice_get n.links i)) [] ++ calls) (after_take k j o n)
    by_take k j None e = runs_none first born s i p calls n k (λ l. TakesAnswer j (answer_under j l.untaken)) e g
    by_take k j (Some l) e =
        runs_link first born s i p calls n (after_take k j (Some l) n) k l (λ l. TakesAnswer j (answer_under j l.untaken)) (taken j) [] e refl refl none_more (refl, refl)
        (taking l.link.untaken) g
      where
        by_answer : (o : Option AnswerFields) → (h : ℕ) → AreSentBy p (n.to_device ++ []) (sendings born h calls) → AreSentBy p (n.to_device ++ []) (sendings born h (TakesAnswer j o ∷ calls))
        by_answer o h a = a

        taking : (us : List Untaken) → l.peer ≡ p → (h : ℕ) → AreSentBy p (n.to_device ++ []) (sendings born h calls) → AreSentBy p (n.to_device ++ []) (sendings born h (TakesAnswer j (answer_under j us) ∷ calls))
        taking us same h a = by_answer (answer_under j us) h a

    by_renewal : (k f span now origin : ℕ) (o : Option PeerLink) → slice_get n.links k ≡ o → RenewsNothing p n (after_renewal k f span now origin o n) → Runs first born s i p calls (after_renewal k f span now origin o n)
    by_renewal k f span now origin None e never = g
    by_renewal k f span now origin (Some l) e never = by_test (is_no_lower f l.link.next) never
      where
        m : Network
        m = record n { links = with_link k l (renewed_link f span now l.link) n.links; renewed = renewal_of l origin ∷ n.renewed }

        is_another : RenewsNothing p n m → nat_eq k i ≡ false
        is_another never = on_bool (nat_eq k i) (λ b. nat_eq k i ≡ b → b ≡ false)
            (λ q.
            let there : slice_get n.links i ≡ Some l = ap (λ (j : ℕ). slice_get n.links j) (sym (eqb-true k i q)) ∙ e in
            let same : l ≡ g.link = same_Some l g.link (sym there ∙ g.there) in
            absurd (not_its_renewal p l.peer (renewal_of l origin) n.renewed refl never (ap (λ (z : PeerLink). z.peer) same ∙ g.peer)))
            (λ q. refl) refl

        by_test : (b : Bool) → RenewsNothing p n (cond b m n) → Runs first born s i p calls (cond b m n)
        by_test true never = record {
          link = g.link;
          there = put_elsewhere n.links k i (record { peer = l.peer; link = renewed_link f span now l.link }) (is_another never) ∙ g.there;
          peer = g.peer;
          made = g.made;
          sent = g.sent;
        }
        by_test false never = g

    by_beside : (o : Option PeerLink) → Runs first born s i p calls (after_beside o n)
    by_beside None = g
    by_beside (Some l) = record {
      link = g.link;
      there = g.there;
      peer = g.peer;
      made = g.made;
      sent = λ h. sent_more p n.to_device (steps.sendings_in l.peer (given_by GivesKeepAlive)) (sendings born h calls) (g.sent h);
    }

    one : (step : Step) → RenewsNothing p n (after_step step n) → Runs first born s i p (call_in i step n ++ calls) (after_step step n)
    one (Submit k r now) never = by_submit k r now (slice_get n.links k) refl
    one (Due k now) never = by_due k now (slice_get n.links k) refl
    one (ToDevice k now) never = by_delivery now (slice_get n.to_device k)
    one (ToLink k now) never = by_reception now (slice_get n.to_links k)
    one (Other from bytes now) never = by_other from bytes now (has_link from n.links)
    one (steps.Tick now) never = record { link = g.link; there = g.there; peer = g.peer; made = g.made; sent = g.sent }
    one (steps.Local ono change) never = record { link = g.link; there = g.there; peer = g.peer; made = g.made; sent = g.sent }
    one (Take k j) never = by_take k j (slice_get n.links k) refl
    one (Renew k f span now origin) never = by_renewal k f span now origin (slice_get n.links k) refl never
    one (Beside k now) never = by_beside (slice_get n.links k)

runs_steps : (first born s i : ℕ) (p : Peer) (calls : List Call) (es : List Step) (n : Network) → RenewsNothing p n (after_steps es n) → Runs first born s i p calls n →
    Runs first born s i p (calls_in i es n ++ calls) (after_steps es n)
runs_steps first born s i p calls [] n never g = g
runs_steps first born s i p calls (e ∷ es) n never g =
    subst (λ (xs : List Call). Runs first born s i p xs (after_steps es (after_step e n))) (sym (append_assoc (calls_in i es (after_step e n)) (call_in i e n) calls))
    (runs_steps first born s i p (call_in i e n ++ calls) es (after_step e n) (nothing_in_parts p e es n never).1 (runs_step first born s i p calls e n (nothing_in_parts p e es n never).0 g))

runs_opening : (w : DeviceSizes) (s : Setup) (tree : List Object) (starts : List Start) (i : ℕ) (x : Start) → slice_get starts i ≡ Some x →
    Runs x.first_handle.0 (s.made x.peer) (s.span x.peer) i x.peer [] (opening w s tree starts)
runs_opening w s tree starts i x e = record {
  link = started s x;
  there = slice_get-map (started s) starts i ∙ ap (λ (o : Option Start). option_map (started s) o) e;
  peer = refl;
  made = refl;
  sent = λ h. tt;
}

-- the link of this number, which is the peer's, was made by some calls since it was made or renewed
record WasMade (i : ℕ) (p : Peer) (n : Network) : Type 0 where
  pub first : ℕ
  pub born : ℕ
  pub span : ℕ
  pub calls : List Call
  pub runs : Runs first born span i p calls n

made_step : (i : ℕ) (p : Peer) (step : Step) (n : Network) → AreToDevice n → WasMade i p n → WasMade i p (after_step step n)
made_step i p step n devices g = by_renewal (λ _ m. WasMade i p m) n (λ e none. record {
  first = g.first;
  born = g.born;
  span = g.span;
  calls = call_in i e n ++ g.calls;
  runs = runs_step g.first g.born g.span i p g.calls e n (ap (λ rs. length (filter (λ (x : Renewal). same_peer x.peer p) rs)) (renews_nothing e n none)) g.runs;
}) (λ _. g) (λ k f span now origin l e. by_number k f span now origin l e (nat_eq k i) refl) step
  where
    by_number : (k f span now origin : ℕ) (l : PeerLink) → slice_get n.links k ≡ Some l → (b : Bool) → nat_eq k i ≡ b → WasMade i p (renewed_at k f span now origin l n)
    by_number k f span now origin l e true q =
        let y : PeerLink = record { peer = l.peer; link = renewed_link f span now l.link } in
        let there : slice_get n.links i ≡ Some l = ap (λ (j : ℕ). slice_get n.links j) (sym (eqb-true k i q)) ∙ e in
        let same : l ≡ g.runs.link = same_Some l g.runs.link (sym there ∙ g.runs.there) in
        let device : l.link.device ≡ n.address = each_at (λ (z : PeerLink). z.link.device ≡ n.address) n.links i l devices there in
        record {
          first = f;
          born = now;
          span = span;
          calls = [];
          runs = record {
            link = y;
            there = ap (λ (j : ℕ). slice_get (slice_set n.links j y) i) (eqb-true k i q) ∙ put_here n.links i y l there;
            peer = ap (λ (z : PeerLink). z.peer) same ∙ g.runs.peer;
            made = ap (λ (d : Peer). new_link d f now span) device;
            sent = λ h. tt;
          };
        }
    by_number k f span now origin l e false q = record {
      first = g.first;
      born = g.born;
      span = g.span;
      calls = g.calls;
      runs = record {
        link = g.runs.link;
        there = put_elsewhere n.links k i (record { peer = l.peer; link = renewed_link f span now l.link }) q ∙ g.runs.there;
        peer = g.runs.peer;
        made = g.runs.made;
        sent = g.runs.sent;
      };
    }

made_steps : (i : ℕ) (p : Peer) (es : List Step) (n : Network) → AreToDevice n → WasMade i p n → WasMade i p (after_steps es n)
made_steps i p [] n devices g = g
made_steps i p (e ∷ es) n devices g = made_steps i p es (after_step e n) (to_device_step e n devices) (made_step i p e n devices g)

-- of each link of a network after a schedule
was_made : (w : DeviceSizes) (s : Setup) (tree : List Object) (starts : List Start) (es : List Step) (i : ℕ) (l : PeerLink) → slice_get (after_steps es (opening w s tree starts)).links i ≡ Some l →
    WasMade i l.peer (after_steps es (opening w s tree starts))
was_made w s tree starts es i l own =
    let start : Network = opening w s tree starts in
    let z = link_before i start (after_steps es start) l (peers_steps es start) own in
    let x = mapped_at (started s) starts i z.0 z.1 in
    let peer : x.0.peer ≡ l.peer = ap (λ (y : PeerLink). y.peer) x.2 ∙ z.2 in
    subst (λ (p : Peer). WasMade i p (after_steps es start)) peer (made_steps i x.0.peer es start (to_device_opening w s tree starts)
    (record { first = x.0.first_handle.0; born = s.made x.0.peer; span = s.span x.0.peer; calls = []; runs = runs_opening w s tree starts i x.0 x.1 }))

-- no call changes the span
span_made : (l : LinkState) (call : Call) (after : LinkState) → IsMade l call after → after.span ≡ l.span
span_made l (Submits r now a) after c = ap (λ (x : LinkState). x.span) c.1 ∙ by (submission r l)
  where
    by : (a : Result Handle ControlFault) → (after_submission a r now l).span ≡ l.span
    by (Ok h) = refl
    by (Err fault) = refl
span_made l (SendsDue now a bytes) after c = ap (λ (x : LinkState). x.span) c.2 ∙ by (decision now l)
  where
    by : (d : Decision) → (after_due d (present_moment now l) l).span ≡ l.span
    by (GivesCommand c) = refl
    by _ = refl
span_made l (Receives from bytes content now a) after c = ap (λ (x : LinkState). x.span) c
span_made l (TakesAnswer h a) after c = ap (λ (x : LinkState). x.span) c.1

spans_made : (device : Peer) (first born s : ℕ) (calls : List Call) (l : LinkState) → IsMadeBy device first born s calls l → l.span ≡ s
spans_made device first born s [] l m = ap (λ (x : LinkState). x.span) m
spans_made device first born s (call ∷ calls) l m = span_made m.0 call l m.2 ∙ spans_made device first born s calls m.0 m.1

pub after_more : (es more : List Step) (n : Network) → after_steps (es ++ more) n ≡ after_steps more (after_steps es n)
after_more [] more n = refl
after_more (e ∷ es) more n = after_more es more (after_step e n)

-- ---- a command of a link

-- the step's outcome says that the link took it
pub took : (r : Request) (h : Handle) (l : LinkState) → submit_outcome (submission r l) ∷ [] ≡ outcomes.Submitted h ∷ [] → submission r l ≡ Ok h
took r h l e = by (submission r l) e
  where
    by : (a : Result Handle ControlFault) → submit_outcome a ∷ [] ≡ outcomes.Submitted h ∷ [] → a ≡ Ok h
    by (Ok k) e = cc
    by (Err f) e = cc

-- who holds a handle holds a command under it
held_one : (h : ℕ) (us : List Untaken) → holds h us ≡ true → (u : Untaken) × IsIn u us × (u.command.handle ≡ h)
held_one h [] e = cc
held_one h (u ∷ us) e =
    on_bool (nat_eq u.command.handle h) (λ b. nat_eq u.command.handle h ≡ b → (b || holds h us) ≡ true → (holds h us ≡ true → (v : Untaken) × IsIn v us × (v.command.handle ≡ h)) → (v : Untaken) × IsIn v (u ∷ us) × (v.command.handle ≡ h))
    (λ q e rest. (u, inl refl, eqb-true u.command.handle h q)) (λ q e rest. let t = rest e in (t.0, inr t.1, t.2)) refl e (held_one h us)

is_its : (s : Peer → ℕ) (n : Network) (l : PeerLink) (c : CommandFields) (a : AnswerFields) → LinkSound s n l → IsSubmitted l.peer c n.submitted → IsTrueAnswer l.peer c.handle a (past n) →
    IsAnswerTo c l.peer a n
is_its s n l c a of sub t =
    let its = true_answer l.peer c.handle a n of.kept t in
    record { of_its_command = its; command = of.fair.unique its.execution.command c (contains_in _ n.submitted its.submitted) sub its.handle }

-- Each delivery that so comes of a copy of the command, which the link of this number holds untaken, comes back.
abbrev pub TripsOf : (ℕ → ℕ → Type 0) → ℕ → CommandFields → PeerLink → Network → Type 0
TripsOf Comes i c l n = (k moment : ℕ) (between : List Step) (later : ℕ) → slice_get n.to_device k ≡ Some (copy_of l.peer c) → CarriesUntaken (copy_of l.peer c) l c → Comes k moment → AllByRecursion StepFits between →
    RenewsNothing l.peer n (meanwhile k moment between n) → ComesBack k moment between later i c l.peer n

module _ (Comes : ℕ → ℕ → Type 0) (spans : Peer → ℕ) (s first born i : ℕ) (some : 0 < s) (p : Peer) (before : List Call) (r : Request) (now ms : ℕ) (h : Handle) (calls : List Call) (n : Network) where
  abbrev c : CommandFields
  c = command_under h.0 r

  abbrev base : List Call
  base = Submits r now (Ok h) ∷ before

  abbrev since : ℕ
  since = max (clock_of_calls born before) now

  abbrev all : List Call
  all = calls ++ base

  -- the link holds the command's answer
  has : (a : AnswerFields) → (g : Runs first born s i p all n) → Sound spans n → IsSubmitted p c n.submitted → answer_under h.0 g.link.link.untaken ≡ Some a → GotItsAnswer i c p n
  has a g sound sub held = record {
    link = g.link;
    there = g.there;
    peer = g.peer;
    answer = a;
    got = inl held;
    is_its = subst (λ (q : Peer). IsAnswerTo c q a n) g.peer
        (is_its spans n g.link c a of (subst (λ (q : Peer). IsSubmitted q c n.submitted) (sym g.peer) sub) (rw held at (held_answer g.link.peer (past n) h.0 g.link.link.untaken of.fair.untaken)));
  }
    where
      of : LinkSound spans n g.link
      of = each_at (LinkSound spans n) n.links i g.link sound.each g.there

  -- it gave it
  gave : (k : Stands i p h.0 n.links n.taken) → Sound spans n → IsSubmitted p c n.submitted → holds h.0 k.link.link.untaken ≡ false → GotItsAnswer i c p n
  gave k sound sub none = by k.kept
    where
      of : LinkSound spans n k.link
      of = each_at (LinkSound spans n) n.links i k.link sound.each k.there

      never : true ≡ false → GotItsAnswer i c p n
      never e = cc

      by : IsKept p h.0 k.link.link.untaken n.taken → GotItsAnswer i c p n
      by (inl held) = never (sym held ∙ none)
      by (inr (a, t)) = record {
        link = k.link;
        there = k.there;
        peer = k.peer;
        answer = a;
        got = inr (in_contains _ n.taken t);
        is_its = subst (λ (q : Peer). IsAnswerTo c q a n) k.peer (is_its spans n k.link c a of (subst (λ (q : Peer). IsSubmitted q c n.submitted) (sym k.peer) sub)
            (each_in (λ (y : TakenAnswer). y.peer ≡ k.link.peer → IsTrueAnswer k.link.peer y.handle y.answer (past n)) _ n.taken of.fair.was_taken t (sym k.peer)));
      }

  -- it waits
  waits : (g : Runs first born s i p all n) → Sound spans n → IsSubmitted p c n.submitted → TripsOf Comes i c g.link n → sendings born h.0 before ≡ [] → IsAskedEvery ms since calls → IsWaiting n.address h.0 all →
      WaitsInTime Comes ms since i c p calls n
  waits g sound sub trips none asked w = record {
    in_time = rw (clock_is, sent_is) at (in_time_made n.address first born s some before r now ms h calls g.link.link g.made asked w);
    copies = rw sent_is at copies;
    enough = λ k moment between later there comes fits never. subst (λ (q : Peer). ComesBack k moment between later i c q n) g.peer
        (trips k moment between later (subst (λ (q : Peer). slice_get n.to_device k ≡ Some (copy_of q c)) (sym g.peer) there) (record {
          peer = refl;
          untaken = u.0;
          held = in_contains u.0 g.link.link.untaken u.1;
          command = command_is;
          bytes = refl;
        }) comes fits (subst (λ (q : Peer). RenewsNothing q n (meanwhile k moment between n)) (sym g.peer) never));
  }
    where
      of : LinkSound spans n g.link
      of = each_at (LinkSound spans n) n.links i g.link sound.each g.there

      b : HoldsAfter n.address first born s all g.link.link
      b = holds_after_calls n.address first born s all g.link.link some g.made

      clock_is : clock_of_calls born all ≡ clock_of_calls since calls
      clock_is = clock_from n.address first born s some before r now ms h calls

      sent_is : sendings born h.0 all ≡ sendings since h.0 calls
      sent_is = sent_from n.address first born s some before r now ms h calls none

      u : (v : Untaken) × IsIn v g.link.link.untaken × (v.command.handle ≡ h.0)
      u = held_one h.0 g.link.link.untaken (b.now.held h.0 ∙ w.untaken)

      command_is : u.0.command ≡ c
      command_is = of.fair.unique u.0.command c (each_in (IsFair g.link.peer (past n)) u.0 g.link.link.untaken of.fair.untaken u.1).0
          (subst (λ (q : Peer). IsSubmitted q c n.submitted) (sym g.peer) sub) u.2

      accepted : command_accepted h.0 (commands all) ≡ Some c
      accepted = under u.0.command u.0.times u.0.last (each_in _ u.0 g.link.link.untaken b.now.are_sent u.1) command_is
        where
          under : (d : CommandFields) (times last : ℕ) → IsSent s (first + length (commands all)) (commands all) (λ y. sendings born y all) d times last → d ≡ c → command_accepted h.0 (commands all) ≡ Some c
          under d times last q e = ap (λ (y : CommandFields). command_accepted y.handle (commands all)) (sym e) ∙ q.command ∙ ap Some e

      copy : (y : Sending) → IsSentBy p y.bytes n.to_device → IsCopy h.0 (commands all) y.bytes → WasSent p c y.bytes n
      copy y there q =
          let same : q.command ≡ c = same_Some q.command c (sym q.accepted_under ∙ accepted) in
          let bytes : y.bytes ≡ (copy_of p c).bytes = q.bytes_are ∙ ap (λ (d : CommandFields). pdu_encoding (Commands true (d ∷ []))) same in
          record { bytes_are = bytes; sent = in_contains (copy_of p c) n.to_device (subst (λ (xs : List ℕ). IsSentBy p xs n.to_device) bytes there) }

      copies : AllByRecursion (λ (y : Sending). WasSent p c y.bytes n) (sendings born h.0 all)
      copies = each_both copy (sendings born h.0 all) (g.sent h.0) (b.now.copies h.0)

-- a link of a schedule that took the command, and is not renewed from then on
pub gets_through_by : WrittenIsReadBack → (Comes : ℕ → ℕ → Type 0) (w : DeviceSizes) (s : Setup) (tree : List Object) (starts : List Start) (before later : List Step) (i : ℕ) (l : PeerLink) (r : Request) (now ms : ℕ) (h : Handle) →
    slice_get (after_steps before (opening w s tree starts)).links i ≡ Some l → 0 < l.link.span → are_apart s.address starts ≡ true →
    Fit starts (before ++ Submit i r now ∷ later) →
    outcome_of_step (Submit i r now) (after_steps before (opening w s tree starts)) ≡ outcomes.Submitted h ∷ [] →
    RenewsNothing l.peer (after_steps before (opening w s tree starts)) (after_steps later (after_step (Submit i r now) (after_steps before (opening w s tree starts)))) →
    IsAskedEvery ms (present_moment now l.link) (calls_in i later (after_step (Submit i r now) (after_steps before (opening w s tree starts)))) →
    ((g : PeerLink) → slice_get (after_steps (before ++ Submit i r now ∷ later) (opening w s tree starts)).links i ≡ Some g → g.peer ≡ l.peer → g.link.span ≡ l.link.span →
    TripsOf Comes i (command_under h.0 r) g (after_steps (before ++ Submit i r now ∷ later) (opening w s tree starts))) →
    GetsThrough Comes ms (present_moment now l.link) i (command_under h.0 r) l.peer
    (calls_in i later (after_step (Submit i r now) (after_steps before (opening w s tree starts))))
    (after_steps later (after_step (Submit i r now) (after_steps before (opening w s tree starts))))
gets_through_by law Comes w s tree starts before later i l r now ms h own wide apart fit outcome never asked tripping =
    subst (λ (t : ℕ). GetsThrough Comes ms t i c p calls n) (sym since_is) (by_lost (is_lost all) refl)
  where
    start : Network
    start = opening w s tree starts

    old : Network
    old = after_steps before start

    new : Network
    new = after_step (Submit i r now) old

    n : Network
    n = after_steps later new

    p : Peer
    p = l.peer

    was : WasMade i p old
    was = was_made w s tree starts before i l own

    f : ℕ
    f = was.first

    born : ℕ
    born = was.born

    s0 : ℕ
    s0 = was.span

    earlier : List Call
    earlier = was.calls

    c : CommandFields
    c = command_under h.0 r

    calls : List Call
    calls = calls_in i later new

    all : List Call
    all = calls ++ Submits r now (Ok h) ∷ earlier

    never_new : RenewsNothing p old new
    never_new = (nothing_in_parts p (Submit i r now) later old never).0

    never_later : RenewsNothing p new n
    never_later = (nothing_in_parts p (Submit i r now) later old never).1

    runs_old : Runs f born s0 i p earlier old
    runs_old = was.runs

    is_its_link : runs_old.link ≡ l
    is_its_link = same_Some runs_old.link l (sym runs_old.there ∙ own)

    made_old : IsMadeBy old.address f born s0 earlier l.link
    made_old = subst (λ (z : PeerLink). IsMadeBy old.address f born s0 earlier z.link) is_its_link runs_old.made

    span_is : l.link.span ≡ s0
    span_is = spans_made old.address f born s0 earlier l.link made_old

    some : 0 < s0
    some = rw span_is at wide

    since_is : present_moment now l.link ≡ max (clock_of_calls born earlier) now
    since_is = ap (λ m. max m now) (holds_after_calls old.address f born s0 earlier l.link some made_old).now.moment_is

    asked_since : IsAskedEvery ms (max (clock_of_calls born earlier) now) calls
    asked_since = subst (λ (t : ℕ). IsAskedEvery ms t calls) since_is asked

    accepted : submission r l.link ≡ Ok h
    accepted = took r h l.link (sym (ap (λ (o : Option PeerLink). on_link (λ y. submit_outcome (submission r y.link)) o) own) ∙ outcome)

    call_is : call_in i (Submit i r now) old ≡ Submits r now (Ok h) ∷ []
    call_is =
        ap (λ (b : Bool). cond b (called (λ y. Submits r now (submission r y)) (slice_get old.links i)) []) (equal_self i)
        ∙ ap (λ (o : Option PeerLink). called (λ y. Submits r now (submission r y)) o) own
        ∙ ap (λ (a : Result Handle ControlFault). Submits r now a ∷ []) accepted

    runs_new : Runs f born s0 i p (Submits r now (Ok h) ∷ earlier) new
    runs_new = subst (λ (xs : List Call). Runs f born s0 i p (xs ++ earlier) new) call_is (runs_step f born s0 i p earlier (Submit i r now) old never_new runs_old)

    runs : Runs f born s0 i p all n
    runs = runs_steps f born s0 i p (Submits r now (Ok h) ∷ earlier) later new never_later runs_new

    run_is : after_steps (before ++ Submit i r now ∷ later) start ≡ n
    run_is = after_more before (Submit i r now ∷ later) start

    sound : Sound s.span n
    sound = subst (Sound s.span) run_is (sound_after law w s tree starts (before ++ Submit i r now ∷ later) apart fit)

    trips : TripsOf Comes i c runs.link n
    trips = subst (TripsOf Comes i c runs.link) run_is (tripping runs.link (subst (λ (m : Network). slice_get m.links i ≡ Some runs.link) (sym run_is) runs.there) runs.peer
        (spans_made n.address f born s0 all runs.link.link runs.made ∙ sym span_is))

    submitted_is : new.submitted ≡ old.submitted ++ (let it : SubmittedCommand = record { peer = p; command = c } in it) ∷ []
    submitted_is =
        ap (λ (o : Option PeerLink). (after_submit i r now o old).submitted) own
        ∙ ap (λ (a : Result Handle ControlFault). old.submitted ++ submitted_by l.peer r a) accepted

    sub : IsSubmitted p c n.submitted
    sub =
        let grown = grown_steps later new in
        subst (IsSubmitted p c) (sym grown.submitted) (in_more _ new.submitted grown.more (subst (IsSubmitted p c) (sym submitted_is) (in_last _ old.submitted)))

    at_submit : HoldsAfter new.address f born s0 (Submits r now (Ok h) ∷ earlier) runs_new.link.link
    at_submit = holds_after_calls new.address f born s0 (Submits r now (Ok h) ∷ earlier) runs_new.link.link some runs_new.made

    at_end : HoldsAfter n.address f born s0 all runs.link.link
    at_end = holds_after_calls n.address f born s0 all runs.link.link some runs.made

    none : sendings born h.0 earlier ≡ []
    none = (holds_after_calls old.address f born s0 earlier l.link some made_old).now.fresh h.0 (at_least (f + length (commands earlier)) h.0 at_submit.now.handles.0)
      where
        at_least : (a b : ℕ) → b ≡ a → a ≤ b
        at_least a b e = omega arith

    stands : Stands i p h.0 n.links n.taken
    stands = stands_steps i h.0 p later new never_later (record {
      link = runs_new.link;
      there = runs_new.there;
      peer = runs_new.peer;
      kept = inl (at_submit.now.held h.0 ∙ or_right (is_untaken h.0 earlier) (nat_eq h.0 h.0) (equal_self h.0));
    })

    same_link : stands.link ≡ runs.link
    same_link = same_Some stands.link runs.link (sym stands.there ∙ runs.there)

    by_answer : is_lost all ≡ false → is_untaken h.0 all ≡ true → (o : Option AnswerFields) → first_of (answers_to n.address h.0 all) ≡ o →
        GotItsAnswer i c p n ⊎ (IsLost i n ⊎ WaitsInTime Comes ms (max (clock_of_calls born earlier) now) i c p calls n)
    by_answer kept untaken (Some a) e = inl (has Comes s.span s0 f born i some p earlier r now ms h calls n a runs sound sub
        (answer_is h.0 (λ y. answers_to n.address y all) runs.link.link.untaken at_end.now.are_answered
        ∙ ap (λ (b : Bool). cond b (first_of (answers_to n.address h.0 all)) None) (at_end.now.held h.0 ∙ untaken) ∙ e))
    by_answer kept untaken None e = inr (inr (waits Comes s.span s0 f born i some p earlier r now ms h calls n runs sound sub trips none asked_since (record { untaken = untaken; unanswered = e; not_lost = kept })))

    by_untaken : is_lost all ≡ false → (b : Bool) → is_untaken h.0 all ≡ b → GotItsAnswer i c p n ⊎ (IsLost i n ⊎ WaitsInTime Comes ms (max (clock_of_calls born earlier) now) i c p calls n)
    by_untaken kept true e = by_answer kept e (first_of (answers_to n.address h.0 all)) refl
    by_untaken kept false e = inl (gave Comes s.span s0 f born i some p earlier r now ms h calls n stands sound sub
        (ap (λ (y : PeerLink). holds h.0 y.link.untaken) same_link ∙ at_end.now.held h.0 ∙ e))

    by_lost : (b : Bool) → is_lost all ≡ b → GotItsAnswer i c p n ⊎ (IsLost i n ⊎ WaitsInTime Comes ms (max (clock_of_calls born earlier) now) i c p calls n)
    by_lost true e = inr (inl (record { link = runs.link; there = runs.there; lost = at_end.others_are.lost_is ∙ e }))
    by_lost false e = by_untaken e (is_untaken h.0 all) refl

pub gets_through : WrittenIsReadBack → (w : DeviceSizes) (s : Setup) (tree : List Object) (starts : List Start) (before later : List Step) (i : ℕ) (l : PeerLink) (r : Request) (now ms : ℕ) (h : Handle) →
    slice_get (after_steps before (opening w s tree starts)).links i ≡ Some l → SpanFits w l (after_steps before (opening w s tree starts)) → are_apart s.address starts ≡ true →
    Fit starts (before ++ Submit i r now ∷ later) →
    outcome_of_step (Submit i r now) (after_steps before (opening w s tree starts)) ≡ outcomes.Submitted h ∷ [] →
    RenewsNothing l.peer (after_steps before (opening w s tree starts)) (after_steps later (after_step (Submit i r now) (after_steps before (opening w s tree starts)))) →
    IsAskedEvery ms (present_moment now l.link) (calls_in i later (after_step (Submit i r now) (after_steps before (opening w s tree starts)))) →
    GetsThrough (ComesInSession l.peer (after_steps later (after_step (Submit i r now) (after_steps before (opening w s tree starts))))) ms (present_moment now l.link) i (command_under h.0 r) l.peer
    (calls_in i later (after_step (Submit i r now) (after_steps before (opening w s tree starts))))
    (after_steps later (after_step (Submit i r now) (after_steps before (opening w s tree starts))))
gets_through law w s tree starts before later i l r now ms h own wide apart fit outcome never often =
    gets_through_by law (ComesInSession l.peer (after_steps later (after_step (Submit i r now) old))) w s tree starts before later i l r now ms h own wide.some apart fit outcome never often
    (subst (λ (m : Network). (g : PeerLink) → slice_get n.links i ≡ Some g → g.peer ≡ l.peer → g.link.span ≡ l.link.span → TripsOf (ComesInSession l.peer m) i c g n) (after_more before (Submit i r now ∷ later) start)
    (λ g there peer span k moment between end sent carries comes fits still.
    round_trip_law law w s tree starts all i g there (wide_then g peer span) apart fit k moment (copy_of g.peer c) c between end sent carries
    (subst (λ (q : Peer). FindsRoom q moment n) (sym peer) comes.0) (subst (λ (q : Peer). KeepsItsSession q (asked k moment n)) (sym peer) comes.1) fits still))
  where
    start : Network
    start = opening w s tree starts

    old : Network
    old = after_steps before start

    all : List Step
    all = before ++ Submit i r now ∷ later

    n : Network
    n = after_steps all start

    c : CommandFields
    c = command_under h.0 r

    -- at the end it has the span that it had, and its earlier links left behind what they had left
    wide_then : (g : PeerLink) → g.peer ≡ l.peer → g.link.span ≡ l.link.span → SpanFits w g n
    wide_then g peer span =
        let left : left_behind g.peer n ≡ left_behind l.peer old = ap (λ (q : Peer). left_behind q n) peer
        ∙ ap (λ (m : Network). left_behind l.peer m) (after_more before (Submit i r now ∷ later) start) ∙ ap length (left_steps l.peer (Submit i r now ∷ later) old never) in
        record { some = also g.link.span l.link.span span wide.some; wide = as_wide g.link.span l.link.span (left_behind g.peer n) (left_behind l.peer old) span left wide.wide }
      where
        also : (a b : ℕ) → a ≡ b → 0 < b → 0 < a
        also a b e k = omega arith

        as_wide : (a b x y : ℕ) → a ≡ b → x ≡ y → 2 * b + y ≤ w.window + 1 → 2 * a + x ≤ w.window + 1
        as_wide a b x y e f k = omega arith

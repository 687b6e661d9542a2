-- What holds of each link of a network is kept by each step; and the laws.
use Rattle.oca_pair.proofs.Words.{append-nil, ◌≡◌, ℕ, ◌+◌, ◌^◌, ◌<◌, ◌≤◌, ◌≢◌, Bool, true, false, cond, List, [], ◌∷◌, ◌++◌, Option, Some, None, refl, sym, ap, ◌∙◌, subst, arith, zero, suc, ◌⊎◌, inl}
use Rattle.oca_pair.proofs.Words.{inr, ◌&&◌, map, max, is_none, is_some, Result, Ok, Err, list_all, AllByRecursion, slice_get, slice_set, and_parts, not-true, Peer, Handle, same_peer, CommandFields}
use Rattle.oca_pair.proofs.Words.{DeviceSizes, Form, Seconds, Msg, Command, KeepAlive, read_datagram, WrittenIsReadBack, Object, Entry, LocalChange, Datagram, packets, ControlFault, AnswerFields}
use Rattle.oca_pair.proofs.Words.{answer_of_response, Untaken, answer_under, without_handle, LinkState, Request, submission, after_submission, Decision, GivesCommand, GivesKeepAlive, GivesNothing}
use Rattle.oca_pair.proofs.Words.{IsLost, decision, after_due, gone_on, hears_content, received, taken, present_moment, Start, Network, PeerLink, SentDatagram, SubmittedCommand, TakenAnswer, Setup}
use Rattle.oca_pair.proofs.Words.{started, opening, is_renewed, left_by, handles_of, AreConsecutive, Step, Submit, Due, ToDevice, ToLink, Other, Take, Renew, Beside, after_beside, with_link, same_is}
use Rattle.oca_pair.proofs.Words.{is_no_lower, unanswered, renewal_of, renewed_link, after_renewal, has_link, sendings_in, submitted_by, after_submit, given_by, after_due_step, after_delivery}
use Rattle.oca_pair.proofs.Words.{content_read, hears_datagram, after_reception, after_take, after_step, after_steps, is_of_another_peer, are_apart, RequestFits, StepFits, StartFits, Fit, each_map}
use Rattle.oca_pair.proofs.Words.{same_turned, same_self, end_of, room_each, on_bool}
use Rattle.std.specs.List.{IsDistinct}
use Rattle.oca_pair.specs.Steps as steps
use Rattle.oca_pair.proofs.Core.{none_passes, has}
use Rattle.oca_pair.proofs.Lists.{other_of, each_at, each_in, each_set, IsIn, differs, other_is}
use Rattle.oca_pair.proofs.Arrivals.{Keeps, keeps_before}
use Rattle.oca_pair.proofs.Wire.{IsSendable, read_command, read_keep_alive}
use Rattle.oca_pair.proofs.Truths.{Past, past, and_then, state_of, IsSubmitted, IsTrueAnswer}
use Rattle.oca_pair.proofs.Fair.{IsOut, IsBack, IsHeld, Fair, fair_other, fair_tick, fair_local}
use Rattle.oca_pair.proofs.Renewing.{above_next, fair_renewed, now_renewed, other_renewed}
use Rattle.oca_pair.proofs.Delivering.{granted, handles_submit, handles_submitted_by, fair_command, fair_keep_alive, fair_submit, fair_submitted_by, fair_gone_on, fair_sent, fair_alive, fair_received, fair_taken, fair_taken_by, held_answer}
use Rattle.oca_pair.proofs.Keeping.{Kept, Once, accepted_by, IsGrown, delivers, grows_once, once_before, kept_other, accepted_other, executed_has}
use Rattle.oca_pair.proofs.Span.{GoodSince, IsKnown, since_by, good_renewed, good_submit, good_submitted, good_marked_sent, good_answered, good_without, good_grown}

-- No two links have one peer.
abbrev pub Apart : List PeerLink → Type 0
Apart [] = Unit {0}
Apart (x ∷ xs) = AllByRecursion (λ y. y.peer ≢ x.peer) xs × Apart xs

-- the link at k changes, and what holds of the others has to hold for other peers only
each_put : (P Q : PeerLink → Type 0) (xs : List PeerLink) (k : ℕ) (l y : PeerLink) → slice_get xs k ≡ Some l → Apart xs →
    ((z : PeerLink) → z.peer ≢ l.peer → P z → Q z) → Q y → AllByRecursion P xs → AllByRecursion Q (slice_set xs k y)
each_put P Q [] k l y e a f q p = tt
each_put P Q (x ∷ xs) zero l y e a f q p = let same : x ≡ l = cc in (q, others xs (rw same at a.0) p.1)
  where
    others : (zs : List PeerLink) → AllByRecursion (λ z. z.peer ≢ l.peer) zs → AllByRecursion P zs → AllByRecursion Q zs
    others [] a p = tt
    others (z ∷ zs) a p = (f z a.0 p.0, others zs a.1 p.1)
each_put P Q (x ∷ xs) (suc k) l y e a f q p =
    let other : l.peer ≢ x.peer = each_at (λ z. z.peer ≢ x.peer) xs k l a.0 e in
    (f x (λ h. other (sym h)) p.0, each_put P Q xs k l y e a.1 f q p.1)

apart_put : (xs : List PeerLink) (k : ℕ) (l y : PeerLink) → slice_get xs k ≡ Some l → y.peer ≡ l.peer → Apart xs → Apart (slice_set xs k y)
apart_put [] k l y e s a = tt
apart_put (x ∷ xs) zero l y e s a = let q : x ≡ l = cc in let same : x.peer ≡ y.peer = ap (λ (z : PeerLink). z.peer) q ∙ sym s in (rw same at a.0, a.1)
apart_put (x ∷ xs) (suc k) l y e s a =
    let other : l.peer ≢ x.peer = each_at (λ z. z.peer ≢ x.peer) xs k l a.0 e in
    (each_set (λ z. z.peer ≢ x.peer) xs k y (λ h. other (sym s ∙ h)) a.0, apart_put xs k l y e s a.1)

pub hears_peer : (from : Peer) (d : SentDatagram) (now : ℕ) (z : PeerLink) → (hears_datagram from d now z).peer ≡ z.peer
hears_peer from d now z = on_bool (same_peer z.peer d.peer) (λ b. (let y : PeerLink = cond b (record { peer = z.peer; link = received from (content_read d.bytes) now z.link }) z in y).peer ≡ z.peer)
    refl refl

apart_hears : (from : Peer) (d : SentDatagram) (now : ℕ) (xs : List PeerLink) → Apart xs → Apart (map (hears_datagram from d now) xs)
apart_hears from d now [] a = tt
apart_hears from d now (x ∷ xs) a = (heads xs a.0, apart_hears from d now xs a.1)
  where
    heads : (ys : List PeerLink) → AllByRecursion (λ y. y.peer ≢ x.peer) ys → AllByRecursion (λ y. y.peer ≢ (hears_datagram from d now x).peer) (map (hears_datagram from d now) ys)
    heads [] q = tt
    heads (y ∷ ys) q = ((λ h. q.0 (sym (hears_peer from d now y) ∙ h ∙ hears_peer from d now x)), heads ys q.1)

-- a span of at least 1
abbrev pub one_or : ℕ → ℕ
one_or s = max 1 s

-- What holds of a link of a network.
pub record LinkSound (s : Peer → ℕ) (n : Network) (l : PeerLink) : Type 0 where
  pub span : is_renewed l.peer n ≡ false → l.link.span ≡ s l.peer
  pub fair : Fair l.peer l.link.next l.link.untaken (past n) n.to_device n.to_links n.taken
  pub kept : Keeps l.peer (past n) → Kept l.peer (past n)
  pub consecutive : is_renewed l.peer n ≡ false → AreConsecutive (handles_of l.peer n.submitted ++ end_of l.link.next ∷ [])
  pub good : Once l.peer (past n) → GoodSince (one_or l.link.span) (left_by n.renewed l.peer) l.peer l.link.next l.link.untaken n.submitted (accepted_by l.peer (past n))

pub record Sound (s : Peer → ℕ) (n : Network) : Type 0 where
  pub apart : Apart n.links
  pub each : AllByRecursion (LinkSound s n) n.links

-- an answered command was accepted
held_has : (p : Peer) (g : Past) (h : ℕ) (a : AnswerFields) → IsTrueAnswer p h a g → has h (accepted_by p g) ≡ true
held_has p g h a t = executed_has h p (state_of g).notes t.execution t.executed t.handle

-- ---- submit

sound_submit : (s : Peer → ℕ) (i : ℕ) (r : Request) (now : ℕ) (n : Network) → RequestFits r → Sound s n → (o : Option PeerLink) → slice_get n.links i ≡ o → Sound s (after_submit i r now o n)
sound_submit s i r now n fits g None e = g
sound_submit s i r now n fits g (Some l) e = record {
  apart = apart_put n.links i l y e refl g.apart;
  each = each_put (LinkSound s n) (LinkSound s n') n.links i l y e g.apart others mine g.each;
}
  where
    y : PeerLink
    y = record { peer = l.peer; link = after_submission (submission r l.link) r now l.link }

    n' : Network
    n' = after_submit i r now (Some l) n

    was : LinkSound s n l
    was = each_at (LinkSound s n) n.links i l g.each e

    not_his : (p : Peer) (a : Result Handle ControlFault) → (l.peer ≡ p → ⊥) → AllByRecursion (λ (x : SubmittedCommand). x.peer ≡ p → ⊥) (submitted_by l.peer r a)
    not_his p (Ok h) other = (other, tt)
    not_his p (Err fault) other = tt

    others : (z : PeerLink) → z.peer ≢ l.peer → LinkSound s n z → LinkSound s n' z
    others z other w = record {
      span = w.span;
      fair = fair_submitted_by z.peer l.peer r (submission r l.link) z.link.next z.link.untaken (past n) n.to_device n.to_links n.taken (λ same. other (sym same)) w.fair;
      kept = w.kept;
      consecutive = λ first. handles_submitted_by (λ x y. y ≡ x + 1) z.peer l.peer r (submission r l.link) (end_of z.link.next) n.submitted (λ same. other (sym same)) (w.consecutive first);
      good = λ once. since_by (λ f. good_submitted (one_or z.link.span) f (left_by n.renewed z.peer) z.peer z.link.next z.link.untaken n.submitted (submitted_by l.peer r (submission r l.link)) (accepted_by z.peer (past n))
          (not_his z.peer (submission r l.link) (λ same. other (sym same)))) (w.good once);
    }

    span_kept : (a : Result Handle ControlFault) → (after_submission a r now l.link).span ≡ l.link.span
    span_kept (Ok h) = refl
    span_kept (Err fault) = refl

    Of : LinkState → List SubmittedCommand → Type 0
    Of x more = GoodSince (one_or x.span) (left_by n.renewed l.peer) l.peer x.next x.untaken (n.submitted ++ more) (accepted_by l.peer (past n))

    good_kept : (a : Result Handle ControlFault) → submission r l.link ≡ a → GoodSince (one_or l.link.span) (left_by n.renewed l.peer) l.peer l.link.next l.link.untaken n.submitted (accepted_by l.peer (past n)) →
        Of (after_submission a r now l.link) (submitted_by l.peer r a)
    good_kept (Err fault) q w = since_by (λ f. good_submitted (one_or l.link.span) f (left_by n.renewed l.peer) l.peer l.link.next l.link.untaken n.submitted [] (accepted_by l.peer (past n)) tt) w
    good_kept (Ok h) q w =
        let t = granted r l.link h q in
        since_by (λ f. good_submit (one_or l.link.span) f (left_by n.renewed l.peer) l.peer l.link.next l.link.untaken n.submitted (accepted_by l.peer (past n)) h.0 (present_moment now l.link) r (some l.link.span) t.0
        (each_map (λ u k. wider u.command.handle h.0 l.link.span k) l.link.untaken (room_each l.link.span h.0 l.link.untaken t.1))) w
      where
        some : (x : ℕ) → 0 < one_or x
        some x = omega arith

        wider : (x h s : ℕ) → h < x + s → h < x + one_or s
        wider x h s k = omega arith

    mine : LinkSound s n' y
    mine = record {
      span = λ first. span_kept (submission r l.link) ∙ was.span first;
      fair = fair_submit l.peer r now l.link (past n) n.to_device n.to_links n.taken fits was.fair;
      kept = was.kept;
      consecutive = λ first. handles_submit (λ x y. y ≡ x + 1) (λ h. refl) l.peer r now l.link n.submitted (was.consecutive first);
      good = λ once. good_kept (submission r l.link) refl (was.good once);
    }

-- ---- due

sound_due : (s : Peer → ℕ) (i now : ℕ) (n : Network) → Sound s n → (o : Option PeerLink) → slice_get n.links i ≡ o → Sound s (after_due_step i now o n)
sound_due s i now n g None e = g
sound_due s i now n g (Some l) e = record {
  apart = apart_put n.links i l y e refl g.apart;
  each = each_put (LinkSound s n) (LinkSound s n') n.links i l y e g.apart others mine g.each;
}
  where
    y : PeerLink
    y = record { peer = l.peer; link = gone_on now l.link }

    n' : Network
    n' = after_due_step i now (Some l) n

    was : LinkSound s n l
    was = each_at (LinkSound s n) n.links i l g.each e

    others : (z : PeerLink) → z.peer ≢ l.peer → LinkSound s n z → LinkSound s n' z
    others z other w = record {
      span = w.span;
      fair = fair_sent z.peer l.peer z.link.next z.link.untaken (past n) n.to_device n.to_links n.taken (given_by (decision now l.link)) (λ same. other (sym same)) w.fair;
      kept = w.kept;
      consecutive = w.consecutive;
      good = w.good;
    }

    span_kept : (d : Decision) → (after_due d (present_moment now l.link) l.link).span ≡ l.link.span
    span_kept (GivesCommand c) = refl
    span_kept _ = refl

    next_kept : (d : Decision) → (after_due d (present_moment now l.link) l.link).next ≡ l.link.next
    next_kept (GivesCommand c) = refl
    next_kept _ = refl

    Of : LinkState → Type 0
    Of x = GoodSince (one_or x.span) (left_by n.renewed l.peer) l.peer x.next x.untaken n.submitted (accepted_by l.peer (past n))

    good_kept : (d : Decision) → Of l.link → Of (after_due d (present_moment now l.link) l.link)
    good_kept (GivesCommand c) w = since_by (λ f. good_marked_sent (one_or l.link.span) f (left_by n.renewed l.peer) l.peer l.link.next l.link.untaken n.submitted (accepted_by l.peer (past n)) (present_moment now l.link) c.handle) w
    good_kept _ w = w

    mine : LinkSound s n' y
    mine = record {
      span = λ first. span_kept (decision now l.link) ∙ was.span first;
      fair = fair_gone_on l.peer now l.link (past n) n.to_device n.to_links n.taken was.fair;
      kept = was.kept;
      consecutive = λ first. subst (λ (o : Option ℕ). AreConsecutive (handles_of l.peer n.submitted ++ end_of o ∷ [])) (sym (next_kept (decision now l.link))) (was.consecutive first);
      good = λ once. good_kept (decision now l.link) (was.good once);
    }

-- ---- a keep-alive beside a link

sound_beside : (s : Peer → ℕ) (n : Network) → Sound s n → (o : Option PeerLink) → Sound s (after_beside o n)
sound_beside s n g None = g
sound_beside s n g (Some l) = record { apart = g.apart; each = each_map one n.links g.each }
  where
    one : (z : PeerLink) → LinkSound s n z → LinkSound s (after_beside (Some l) n) z
    one z w = record {
      span = w.span;
      fair = fair_alive z.peer l.peer z.link.next z.link.untaken (past n) n.to_device n.to_links n.taken w.fair;
      kept = w.kept;
      consecutive = w.consecutive;
      good = w.good;
    }

-- ---- take

sound_take : (s : Peer → ℕ) (i h : ℕ) (n : Network) → Sound s n → (o : Option PeerLink) → slice_get n.links i ≡ o → Sound s (after_take i h o n)
sound_take s i h n g None e = g
sound_take s i h n g (Some l) e = record {
  apart = apart_put n.links i l y e refl g.apart;
  each = each_put (LinkSound s n) (LinkSound s n') n.links i l y e g.apart others mine g.each;
}
  where
    y : PeerLink
    y = record { peer = l.peer; link = taken h l.link }

    n' : Network
    n' = after_take i h (Some l) n

    was : LinkSound s n l
    was = each_at (LinkSound s n) n.links i l g.each e

    others : (z : PeerLink) → z.peer ≢ l.peer → LinkSound s n z → LinkSound s n' z
    others z other w = record {
      span = w.span;
      fair = fair_taken_by z.peer l.peer h (answer_under h l.link.untaken) z.link.next z.link.untaken (past n) n.to_device n.to_links n.taken (λ same. other (sym same)) w.fair;
      kept = w.kept;
      consecutive = w.consecutive;
      good = w.good;
    }

    Of : List Untaken → Type 0
    Of us = GoodSince (one_or l.link.span) (left_by n.renewed l.peer) l.peer l.link.next us n.submitted (accepted_by l.peer (past n))

    good_kept : (o : Option AnswerFields) → IsHeld l.peer (past n) h o → Of l.link.untaken → Of (cond (is_some o) (without_handle h l.link.untaken) l.link.untaken)
    good_kept None held w = w
    good_kept (Some a) held w = since_by (λ f. good_without (one_or l.link.span) f (left_by n.renewed l.peer) l.peer l.link.next l.link.untaken n.submitted (accepted_by l.peer (past n)) h (held_has l.peer (past n) h a held)) w

    mine : LinkSound s n' y
    mine = record {
      span = was.span;
      fair = fair_taken l.peer h l.link (past n) n.to_device n.to_links n.taken was.fair;
      kept = was.kept;
      consecutive = was.consecutive;
      good = λ once. good_kept (answer_under h l.link.untaken) (held_answer l.peer (past n) h l.link.untaken was.fair.untaken) (was.good once);
    }

-- ---- renew

sound_renewal : (s : Peer → ℕ) (i first span now origin : ℕ) (n : Network) → first < 2 ^ 32 → Sound s n → (o : Option PeerLink) → slice_get n.links i ≡ o → Sound s (after_renewal i first span now origin o n)
sound_renewal s i first span now origin n low g None e = g
sound_renewal s i first span now origin n low g (Some l) e = by_test (is_no_lower first l.link.next) refl
  where
    y : PeerLink
    y = record { peer = l.peer; link = renewed_link first span now l.link }

    n' : Network
    n' = record n { links = with_link i l (renewed_link first span now l.link) n.links; renewed = renewal_of l origin ∷ n.renewed }

    was : LinkSound s n l
    was = each_at (LinkSound s n) n.links i l g.each e

    others : (z : PeerLink) → z.peer ≢ l.peer → LinkSound s n z → LinkSound s n' z
    others z other w = record {
      span = λ never. w.span (other_renewed z.peer l.peer (is_renewed z.peer n) never);
      fair = w.fair;
      kept = w.kept;
      consecutive = λ never. w.consecutive (other_renewed z.peer l.peer (is_renewed z.peer n) never);
      good = λ once. subst (λ (late : List ℕ). GoodSince (one_or z.link.span) late z.peer z.link.next z.link.untaken n.submitted (accepted_by z.peer (past n)))
          (sym (ap (λ b. cond b (unanswered l.link.untaken ++ left_by n.renewed z.peer) (left_by n.renewed z.peer)) (other_is l.peer z.peer (λ same. other (sym same))))) (w.good once);
    }

    -- what has an answer was accepted
    answered_has : (h : ℕ) (o : Option AnswerFields) → IsHeld l.peer (past n) h o → is_none o ≡ false → has h (accepted_by l.peer (past n)) ≡ true
    answered_has h None held some = cc
    answered_has h (Some a) held some = held_has l.peer (past n) h a held

    mine : end_of l.link.next ≤ first → LinkSound s n' y
    mine above = record {
      span = λ never. absurd (now_renewed l.peer l.peer (is_renewed l.peer n) refl never);
      fair = fair_renewed l.peer first l.link.next l.link.untaken (past n) n.to_device n.to_links n.taken low above was.fair;
      kept = was.kept;
      consecutive = λ never. absurd (now_renewed l.peer l.peer (is_renewed l.peer n) refl never);
      good = λ once. subst (λ (late : List ℕ). GoodSince (one_or span) late l.peer (Some first) [] n.submitted (accepted_by l.peer (past n)))
          (sym (ap (λ b. cond b (unanswered l.link.untaken ++ left_by n.renewed l.peer) (left_by n.renewed l.peer)) (same_self l.peer)))
          (good_renewed (one_or l.link.span) (one_or span) (left_by n.renewed l.peer) l.peer l.link.next l.link.untaken n.submitted (accepted_by l.peer (past n)) first above
          (each_map (λ u f some. answered_has u.command.handle u.answer f.1 some) l.link.untaken was.fair.untaken) (each_map (λ x f same. (f same).1) n.submitted was.fair.sendable) (was.good once));
    }

    by_test : (b : Bool) → is_no_lower first l.link.next ≡ b → Sound s (cond b n' n)
    by_test true q = record {
      apart = apart_put n.links i l y e refl g.apart;
      each = each_put (LinkSound s n) (LinkSound s n') n.links i l y e g.apart others (mine (above_next first l.link.next q)) g.each;
    }
    by_test false q = g

-- ---- a datagram comes to a link

sound_reception : (s : Peer → ℕ) (now : ℕ) (n : Network) → Sound s n → (d : SentDatagram) (k : ℕ) → slice_get n.to_links k ≡ Some d → Sound s (after_reception now (Some d) n)
sound_reception s now n g d k e = record { apart = apart_hears n.address d now n.links g.apart; each = each n.links g.each }
  where
    n' : Network
    n' = after_reception now (Some d) n

    one : (z : PeerLink) → LinkSound s n z → LinkSound s n' (hears_datagram n.address d now z)
    one z w = on_bool (same_peer z.peer d.peer) (λ b. same_peer z.peer d.peer ≡ b → LinkSound s n' (cond b y z))
        (λ q. heard (each_at (λ (x : SentDatagram). x.peer ≡ z.peer → IsBack z.peer (past n) x.bytes) n.to_links k d w.fair.incoming e (sym (same_is z.peer d.peer q)))) (λ q. unheard) refl
      where
        y : PeerLink
        y = record { peer = z.peer; link = received n.address (content_read d.bytes) now z.link }

        Of : List Untaken → Type 0
        Of us = GoodSince (one_or z.link.span) (left_by n.renewed z.peer) z.peer z.link.next us n.submitted (accepted_by z.peer (past n))

        good_heard : IsBack z.peer (past n) d.bytes → Of z.link.untaken → Of (hears_content (content_read d.bytes) z.link.untaken)
        good_heard (inl (r, t, read)) q = rw read (since_by (λ f. good_answered (one_or z.link.span) f (left_by n.renewed z.peer) z.peer z.link.next z.link.untaken n.submitted (accepted_by z.peer (past n)) r.handle (answer_of_response r)) q)
        good_heard (inr read) q = rw read q

        good_received : (b : Bool) → IsBack z.peer (past n) d.bytes → Of z.link.untaken → Of (cond b (hears_content (content_read d.bytes) z.link.untaken) z.link.untaken)
        good_received true back q = good_heard back q
        good_received false back q = q

        heard : IsBack z.peer (past n) d.bytes → LinkSound s n' y
        heard back = record {
          span = w.span;
          fair = fair_received n.address z.peer d.bytes now z.link (past n) n.to_device n.to_links n.taken back w.fair;
          kept = w.kept;
          consecutive = w.consecutive;
          good = λ once. good_received (same_peer n.address z.link.device) back (w.good once);
        }

        unheard : LinkSound s n' z
        unheard = record { span = w.span; fair = w.fair; kept = w.kept; consecutive = w.consecutive; good = w.good }

    each : (zs : List PeerLink) → AllByRecursion (LinkSound s n) zs → AllByRecursion (LinkSound s n') (map (hears_datagram n.address d now) zs)
    each [] a = tt
    each (z ∷ zs) a = (one z a.0, each zs a.1)

-- ---- a datagram comes to the device

-- of another peer
sound_elsewhere : (s : Peer → ℕ) (n : Network) (q : Peer) (bytes : List ℕ) (now : ℕ) (packets : List (List ℕ)) (z : PeerLink) → same_peer q z.peer ≡ false → LinkSound s n z →
    Fair z.peer z.link.next z.link.untaken (and_then (Datagram q bytes now) (past n)) n.to_device (n.to_links ++ sendings_in q packets) n.taken
    × (Keeps z.peer (and_then (Datagram q bytes now) (past n)) → Kept z.peer (and_then (Datagram q bytes now) (past n)))
    × (Once z.peer (and_then (Datagram q bytes now) (past n)) →
    GoodSince (one_or z.link.span) (left_by n.renewed z.peer) z.peer z.link.next z.link.untaken n.submitted (accepted_by z.peer (and_then (Datagram q bytes now) (past n))))
sound_elsewhere s n q bytes now packets z other w = (
  fair_other z.peer q z.link.next z.link.untaken (past n) n.to_device n.to_links n.taken bytes now packets (other_of q z.peer other) w.fair,
  (λ keeps. kept_other z.peer q bytes now (past n) other (w.kept (keeps_before z.peer (Datagram q bytes now) (past n) keeps))),
  (λ once. moved (accepted_by z.peer (and_then (Datagram q bytes now) (past n))) (accepted_other z.peer q bytes now (past n) other) (w.good (once_before z.peer (Datagram q bytes now) (past n) once))),
)
  where
    Of : List Entry → Type 0
    Of A = GoodSince (one_or z.link.span) (left_by n.renewed z.peer) z.peer z.link.next z.link.untaken n.submitted A

    moved : (B : List Entry) → B ≡ accepted_by z.peer (past n) → Of (accepted_by z.peer (past n)) → Of B
    moved B e g = rw e g

-- of the link itself
own_fair : (law : WrittenIsReadBack) (p : Peer) (next : Option ℕ) (us : List Untaken) (g : Past) (out back : List SentDatagram) (handed : List TakenAnswer) (bytes : List ℕ) (now : ℕ) →
    IsOut p g.submitted bytes → Fair p next us g out back handed →
    Fair p next us (and_then (Datagram p bytes now) g) out (back ++ sendings_in p (packets g.sizes g.tree g.events (Datagram p bytes now))) handed
own_fair law p next us g out back handed bytes now (inl (c, sub, is)) f =
    rw is (fair_command law p next us g out back handed c now (sendable_of c sub) sub f)
  where
    sendable_of : (c : CommandFields) → IsSubmitted p c g.submitted → IsSendable c
    sendable_of c sub = (each_in (λ (x : SubmittedCommand). x.peer ≡ p → IsSendable x.command × (x.command.handle < end_of next)) _ g.submitted f.sendable sub refl).0
own_fair law p next us g out back handed bytes now (inr is) f = rw is (fair_keep_alive law p next us g out back handed now f)

-- the bytes that a link sent are read as one message
pub out_read : (law : WrittenIsReadBack) (p : Peer) (next : Option ℕ) (us : List Untaken) (g : Past) (out back : List SentDatagram) (handed : List TakenAnswer) (bytes : List ℕ) → IsOut p g.submitted bytes → Fair p next us g out back handed →
    (m : Msg) × (read_datagram bytes ≡ Ok (m ∷ [])) × (((c : CommandFields) × (m ≡ Command true c)) ⊎ ((form : Form) × (m ≡ KeepAlive form)))
    × ((c : CommandFields) → m ≡ Command true c → IsSubmitted p c g.submitted × (c.handle < end_of next))
out_read law p next us g out back handed bytes (inl (c, sub, is)) fair =
    let its = each_in (λ (x : SubmittedCommand). x.peer ≡ p → IsSendable x.command × (x.command.handle < end_of next)) _ g.submitted fair.sendable sub refl in
    (Command true c, ap read_datagram is ∙ read_command law c its.0, inl (c, refl), λ d e. let same : c ≡ d = command_is c d e in let both : IsSubmitted p c g.submitted × (c.handle < end_of next) = (sub, its.1) in rw same at both)
  where
    command_is : (x y : CommandFields) → Command true x ≡ Command true y → x ≡ y
    command_is x y q = cc
out_read law p next us g out back handed bytes (inr is) fair =
    (KeepAlive (Seconds 5), ap read_datagram is ∙ read_keep_alive law, inr (Seconds 5, refl), λ d e. absurd (no_command d e))
  where
    no_command : (d : CommandFields) → KeepAlive (Seconds 5) ≡ Command true d → ⊥
    no_command d e = cc

own_kept : (law : WrittenIsReadBack) (p : Peer) (next : Option ℕ) (us : List Untaken) (g : Past) (out back : List SentDatagram) (handed : List TakenAnswer) (bytes : List ℕ) (now : ℕ) →
    IsOut p g.submitted bytes → Fair p next us g out back handed → Keeps p (and_then (Datagram p bytes now) g) → Kept p g → Kept p (and_then (Datagram p bytes now) g)
own_kept law p next us g out back handed bytes now is_out fair keeps k =
    let (m, read, kind, of) = out_read law p next us g out back handed bytes is_out fair in
    delivers p m bytes now g read kind keeps k

own_good : (law : WrittenIsReadBack) (s : ℕ) (late : List ℕ) (p : Peer) (next : Option ℕ) (us : List Untaken) (g : Past) (out back : List SentDatagram) (handed : List TakenAnswer) (bytes : List ℕ) (now : ℕ) →
    IsOut p g.submitted bytes → Fair p next us g out back handed → Once p (and_then (Datagram p bytes now) g) →
    GoodSince s late p next us g.submitted (accepted_by p g) → GoodSince s late p next us g.submitted (accepted_by p (and_then (Datagram p bytes now) g))
own_good law s late p next us g out back handed bytes now is_out fair once good =
    let (m, read, kind, of) = out_read law p next us g out back handed bytes is_out fair in
    grown m of (accepted_by p (and_then (Datagram p bytes now) g)) (grows_once p m bytes now g read kind once)
  where
    of_link : (f : ℕ) (h : ℕ) (A : List Entry) → has h A ≡ false → IsKnown f late A h → (f ≤ h) ⊎ IsIn h late
    of_link f h A new (inl mine) = inl mine
    of_link f h A new (inr (inl there)) = differs (sym there ∙ new)
    of_link f h A new (inr (inr left)) = inr left

    grown : (m : Msg) → ((c : CommandFields) → m ≡ Command true c → IsSubmitted p c g.submitted × (c.handle < end_of next)) →
        (B : List Entry) → IsGrown m (accepted_by p g) B → GoodSince s late p next us g.submitted B
    grown m of B (inl same) = rw same good
    grown m of B (inr (c, r, m_is, new, grows)) =
        let its = of c m_is in
        rw grows (since_by (λ f q. good_grown s f late p next us g.submitted (accepted_by p g) (record { command = c; reply = r }) (
          its.1,
          of_link f c.handle (accepted_by p g) new (each_in (λ (y : SubmittedCommand). y.peer ≡ p → IsKnown f late (accepted_by p g) y.command.handle) _ g.submitted q.from its.0 refl),
        ) new q) good)

sound_own : (law : WrittenIsReadBack) (s : Peer → ℕ) (n : Network) (bytes : List ℕ) (now : ℕ) (z : PeerLink) → IsOut z.peer n.submitted bytes → LinkSound s n z →
    Fair z.peer z.link.next z.link.untaken (and_then (Datagram z.peer bytes now) (past n)) n.to_device (n.to_links ++ sendings_in z.peer (packets n.sizes n.tree n.events (Datagram z.peer bytes now))) n.taken
    × (Keeps z.peer (and_then (Datagram z.peer bytes now) (past n)) → Kept z.peer (and_then (Datagram z.peer bytes now) (past n)))
    × (Once z.peer (and_then (Datagram z.peer bytes now) (past n)) →
    GoodSince (one_or z.link.span) (left_by n.renewed z.peer) z.peer z.link.next z.link.untaken n.submitted (accepted_by z.peer (and_then (Datagram z.peer bytes now) (past n))))
sound_own law s n bytes now z out w = (
  own_fair law z.peer z.link.next z.link.untaken (past n) n.to_device n.to_links n.taken bytes now out w.fair,
  (λ keeps. own_kept law z.peer z.link.next z.link.untaken (past n) n.to_device n.to_links n.taken bytes now out w.fair keeps (w.kept (keeps_before z.peer (Datagram z.peer bytes now) (past n) keeps))),
  (λ once. own_good law (one_or z.link.span) (left_by n.renewed z.peer) z.peer z.link.next z.link.untaken (past n) n.to_device n.to_links n.taken bytes now out w.fair once (w.good (once_before z.peer (Datagram z.peer bytes now) (past n) once))),
)

-- what is known of a link after a datagram of the peer q with these bytes came, and these packets were sent back
abbrev AfterDatagram : (Peer → ℕ) → Network → PeerLink → Peer → List ℕ → ℕ → Type 0
AfterDatagram s n z q bytes now =
    Fair z.peer z.link.next z.link.untaken (and_then (Datagram q bytes now) (past n)) n.to_device (n.to_links ++ sendings_in q (packets n.sizes n.tree n.events (Datagram q bytes now))) n.taken
    × (Keeps z.peer (and_then (Datagram q bytes now) (past n)) → Kept z.peer (and_then (Datagram q bytes now) (past n)))
    × (Once z.peer (and_then (Datagram q bytes now) (past n)) →
    GoodSince (one_or z.link.span) (left_by n.renewed z.peer) z.peer z.link.next z.link.untaken n.submitted (accepted_by z.peer (and_then (Datagram q bytes now) (past n))))

sound_delivery : (law : WrittenIsReadBack) (s : Peer → ℕ) (now : ℕ) (n : Network) → Sound s n → (d : SentDatagram) (k : ℕ) → slice_get n.to_device k ≡ Some d → Sound s (after_delivery now (Some d) n)
sound_delivery law s now n g d k e = record { apart = g.apart; each = each_map one n.links g.each }
  where
    n' : Network
    n' = after_delivery now (Some d) n

    as_own : (z : PeerLink) (q : Peer) → q ≡ z.peer → AfterDatagram s n z z.peer d.bytes now → AfterDatagram s n z q d.bytes now
    as_own z q same a = let P : Peer → Type 0 = λ x. AfterDatagram s n z x d.bytes now in subst P (sym same) a

    by_test : (z : PeerLink) (b : Bool) → same_peer d.peer z.peer ≡ b → LinkSound s n z → AfterDatagram s n z d.peer d.bytes now
    by_test z true q w =
        let same : d.peer ≡ z.peer = same_is d.peer z.peer q in
        as_own z d.peer same (sound_own law s n d.bytes now z
        (each_at (λ (x : SentDatagram). x.peer ≡ z.peer → IsOut z.peer n.submitted x.bytes) n.to_device k d w.fair.outgoing e same) w)
    by_test z false q w = sound_elsewhere s n d.peer d.bytes now (packets n.sizes n.tree n.events (Datagram d.peer d.bytes now)) z q w

    one : (z : PeerLink) → LinkSound s n z → LinkSound s n' z
    one z w = let a = by_test z (same_peer d.peer z.peer) refl w in record { span = w.span; fair = a.0; kept = a.1; consecutive = w.consecutive; good = a.2 }

-- other bytes come to the device
sound_other : (s : Peer → ℕ) (from : Peer) (bytes : List ℕ) (now : ℕ) (n : Network) → Sound s n → Sound s (after_step (Other from bytes now) n)
sound_other s from bytes now n g = on_bool (has_link from n.links) (λ b. has_link from n.links ≡ b → Sound s (cond b n n'))
    (λ q. g) (λ q. record { apart = g.apart; each = each n.links (none_passes (λ (l : PeerLink). same_peer l.peer from) n.links q) g.each }) refl
  where
    n' : Network
    n' = record n { events = Datagram from bytes now ∷ n.events }

    quiet : (z : PeerLink) (back : List SentDatagram) → back ≡ n.to_links →
        Fair z.peer z.link.next z.link.untaken (and_then (Datagram from bytes now) (past n)) n.to_device back n.taken →
        Fair z.peer z.link.next z.link.untaken (and_then (Datagram from bytes now) (past n)) n.to_device n.to_links n.taken
    quiet z back same f = rw same at f

    one : (z : PeerLink) → same_peer z.peer from ≡ false → LinkSound s n z → LinkSound s n' z
    one z other w =
        let a = sound_elsewhere s n from bytes now [] z (same_turned from z.peer ∙ other) w in
        record { span = w.span; fair = quiet z (n.to_links ++ []) (append-nil n.to_links) a.0; kept = a.1; consecutive = w.consecutive; good = a.2 }

    each : (zs : List PeerLink) → AllByRecursion (λ (l : PeerLink). same_peer l.peer from ≡ false) zs → AllByRecursion (LinkSound s n) zs → AllByRecursion (LinkSound s n') zs
    each [] a p = tt
    each (z ∷ zs) a p = (one z a.0 p.0, each zs a.1 p.1)

sound_tick : (s : Peer → ℕ) (now : ℕ) (n : Network) → Sound s n → Sound s (after_step (steps.Tick now) n)
sound_tick s now n g = record {
  apart = g.apart;
  each = each_map (λ z w. record {
    span = w.span;
    fair = fair_tick z.peer z.link.next z.link.untaken (past n) n.to_device n.to_links n.taken now w.fair;
    kept = w.kept;
    consecutive = w.consecutive;
    good = w.good;
  }) n.links g.each;
}

sound_local : (s : Peer → ℕ) (ono : ℕ) (change : LocalChange) (n : Network) → Sound s n → Sound s (after_step (steps.Local ono change) n)
sound_local s ono change n g = record {
  apart = g.apart;
  each = each_map (λ z w. record {
    span = w.span;
    fair = fair_local z.peer z.link.next z.link.untaken (past n) n.to_device n.to_links n.taken ono change w.fair;
    kept = w.kept;
    consecutive = w.consecutive;
    good = w.good;
  }) n.links g.each;
}

-- ---- a step, a schedule, and the network at first

pub sound_step : (law : WrittenIsReadBack) (s : Peer → ℕ) (step : Step) (n : Network) → StepFits step → Sound s n → Sound s (after_step step n)
sound_step law s (Submit i r now) n fits g = sound_submit s i r now n fits g (slice_get n.links i) refl
sound_step law s (Due i now) n fits g = sound_due s i now n g (slice_get n.links i) refl
sound_step law s (ToDevice k now) n fits g = by_sent (slice_get n.to_device k) refl
  where
    by_sent : (o : Option SentDatagram) → slice_get n.to_device k ≡ o → Sound s (after_delivery now o n)
    by_sent None e = g
    by_sent (Some d) e = sound_delivery law s now n g d k e
sound_step law s (ToLink k now) n fits g = by_sent (slice_get n.to_links k) refl
  where
    by_sent : (o : Option SentDatagram) → slice_get n.to_links k ≡ o → Sound s (after_reception now o n)
    by_sent None e = g
    by_sent (Some d) e = sound_reception s now n g d k e
sound_step law s (Other from bytes now) n fits g = sound_other s from bytes now n g
sound_step law s (steps.Tick now) n fits g = sound_tick s now n g
sound_step law s (steps.Local ono change) n fits g = sound_local s ono change n g
sound_step law s (Take i h) n fits g = sound_take s i h n g (slice_get n.links i) refl
sound_step law s (Renew i first span now origin) n fits g = sound_renewal s i first span now origin n fits g (slice_get n.links i) refl
sound_step law s (Beside i now) n fits g = sound_beside s n g (slice_get n.links i)

pub sound_steps : (law : WrittenIsReadBack) (s : Peer → ℕ) (es : List Step) (n : Network) → AllByRecursion StepFits es → Sound s n → Sound s (after_steps es n)
sound_steps law s [] n fits g = g
sound_steps law s (e ∷ es) n fits g = sound_steps law s es (after_step e n) fits.1 (sound_step law s e n fits.0 g)

pub sound_opening : (w : DeviceSizes) (s : Setup) (tree : List Object) (starts : List Start) → are_apart s.address starts ≡ true → AllByRecursion StartFits starts → Sound s.span (opening w s tree starts)
unfolding IsDistinct
sound_opening w s tree starts a fits = record { apart = apart starts a; each = each starts fits }
  where
    other : (p : Peer) (x : Start) → is_of_another_peer p x ≡ true → x.peer ≢ p
    other p x e = other_of x.peer p (not-true (same_peer x.peer p) e)

    heads : (p : Peer) (xs : List Start) → list_all (is_of_another_peer p) xs ≡ true → AllByRecursion (λ (y : PeerLink). y.peer ≢ p) (map (started s) xs)
    heads p [] q = tt
    heads p (x ∷ xs) q = let t = and_parts (is_of_another_peer p x) (list_all (is_of_another_peer p) xs) q in (other p x t.0, heads p xs t.1)

    apart : (xs : List Start) → are_apart s.address xs ≡ true → Apart (map (started s) xs)
    apart [] q = tt
    apart (x ∷ xs) q =
        let t = and_parts (is_of_another_peer s.address x && list_all (is_of_another_peer x.peer) xs) (are_apart s.address xs) q in
        let u = and_parts (is_of_another_peer s.address x) (list_all (is_of_another_peer x.peer) xs) t.0 in
        (heads x.peer xs u.1, apart xs t.1)

    nothing : (f x : ℕ) → f ≤ x → x < f → false ≡ true
    nothing f x p q = absurd (omega arith)

    each : (xs : List Start) → AllByRecursion StartFits xs → AllByRecursion (LinkSound s.span (opening w s tree starts)) (map (started s) xs)
    each [] f = tt
    each (x ∷ xs) f = (
      record {
        span = λ never. refl;
        fair = record { fits = f.0; own = tt; outgoing = tt; incoming = tt; untaken = tt; was_taken = tt; sendable = tt; unique = λ c d i j e. absurd i; rising = tt };
        kept = λ keeps. record { whole = refl; once = tt };
        consecutive = λ never. tt;
        good = λ once. record {
          first = x.first_handle.0;
          good = record { start = omega arith; low = tt; untaken = tt; taken = λ y p q free. nothing x.first_handle.0 y p q; earlier = []; since = []; accepted = refl; below = tt; own = tt; order = tt; from = tt };
        };
      },
      each xs f.1,
    )

-- THE NETWORK AFTER ANY SCHEDULE.
pub sound_after : (law : WrittenIsReadBack) (w : DeviceSizes) (s : Setup) (tree : List Object) (starts : List Start) (es : List Step) → are_apart s.address starts ≡ true → Fit starts es →
    Sound s.span (after_steps es (opening w s tree starts))
sound_after law w s tree starts es a fit = sound_steps law s.span es (opening w s tree starts) fit.1 (sound_opening w s tree starts a fit.0)

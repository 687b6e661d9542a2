-- Where a link and the network are in time, each command in flight is answered.
use Rattle.oca_pair.proofs.Words.{append-nil, ◌≡◌, ℕ, ◌+◌, ◌*◌, ◌<◌, ◌≤◌, ◌≢◌, Bool, true, false, cond, List, [], ◌∷◌, ◌++◌, length, Option, Some, None, refl, sym, ap, ◌∙◌, subst, arith, ◌⊎◌, inl}
use Rattle.oca_pair.proofs.Words.{inr, nat_eq, nat_lt, nat_le, max, ◌&&◌, map, is_some, Result, Ok, Err, AllByRecursion, slice_get, eqb, le-max_left, Peer, Handle, same_peer, CommandFields, end_after}
use Rattle.oca_pair.proofs.Words.{DeviceSizes, PduFault, Form, Seconds, Msg, Command, KeepAlive, read_datagram, WrittenIsReadBack, Object, Entry, Event, Datagram, ControlFault, AnswerFields, Untaken}
use Rattle.oca_pair.proofs.Words.{new_untaken, first_due, marked_sent, answer_under, without_handle, IsAskedEvery, LinkState, Request, command_under, submission, after_submission, handle_after}
use Rattle.oca_pair.proofs.Words.{Decision, GivesCommand, GivesKeepAlive, GivesNothing, IsLost, decision_among, decision, after_due, gone_on, received, taken, present_moment, Start, Network, PeerLink}
use Rattle.oca_pair.proofs.Words.{SentDatagram, Renewal, Setup, started, opening, zero_after, zero_of, left_by, all_left_out, device_zero_of, Step, Submit, Due, ToDevice, ToLink, Other, Take, Renew}
use Rattle.oca_pair.proofs.Words.{Beside, has_link, given_by, on_link, submit_outcome, after_submit, after_due_step, after_delivery, content_read, hears_datagram, after_reception, after_take, on_bool}
use Rattle.oca_pair.proofs.Words.{after_beside, with_link, is_no_lower, renewed_link, renewal_of, after_renewal, after_step, after_steps, outcome_of_step, are_apart, StepFits, Fit, FindsRoom, end_of}
use Rattle.oca_pair.proofs.Words.{CarriesUntaken, RenewsNothing, calls_in, copy_of, GetsThrough, Departure, leaving, leaving_beside, departures_in, clock_at, ArrivesInTime, longest_delay, same_turned}
use Rattle.oca_pair.proofs.Words.{StepIsInTime, AreInTime, left_off, left_since, SpanFitsSince, AnswersUntakenInTime, RoundTripsInTime, ComesWithRoom, each_map, each_append, equal_self, same_is}
use Rattle.std.specs.Prelude.{◌-◌}
use Rattle.std.specs.List.{IsDistinct}
use Rattle.oca_device.specs.Events as events
use Rattle.oca_pair.specs.declared.outcome.Outcome.TheVariants as outcomes
use Rattle.oca_pair.specs.Steps as steps
use Rattle.oca_pair.proofs.Fixed.{sizes_kept}
use Rattle.oca_pair.proofs.Core.{Trails, none_passes}
use Rattle.oca_pair.proofs.EachStep.{after_each}
use Rattle.oca_pair.proofs.Lists.{IsIn, contains_in, each_at, each_in, other_is, mapped_at, differs}
use Rattle.oca_pair.proofs.Wire.{IsSendable, read_command, read_keep_alive}
use Rattle.oca_pair.proofs.Clocks.{moment_reading}
use Rattle.oca_pair.proofs.Truths.{past, and_then, state_of}
use Rattle.oca_pair.proofs.Arrivals.{looked_at}
use Rattle.oca_pair.proofs.Fair.{IsOut}
use Rattle.oca_pair.proofs.Renewing.{nothing_in_parts, not_its_renewal, same_renewals}
use Rattle.oca_pair.proofs.Delivering.{granted}
use Rattle.oca_pair.proofs.Keeping.{handles_for, accepted_by, IsGrown, grows_once, accepted_other}
use Rattle.oca_pair.proofs.Span.{GoodSince, below_next, low_handles}
use Rattle.oca_pair.proofs.Networks.{one_or, LinkSound, Sound, out_read, sound_step, sound_opening, sound_after}
use Rattle.oca_pair.proofs.Lawful.{delivered}
use Rattle.oca_pair.proofs.RoundTrip.{to_device_steps, to_device_opening, comes_back}
use Rattle.oca_pair.proofs.GettingThrough.{TripsOf, after_more, took, gets_through_by}
use Rattle.oca_pair.proofs.Timed.{TimedBytes, TimedDeparture, Timed, Zeros, first_due_in}
use Rattle.oca_pair.proofs.Stragglers.{stamps, stamps_marked_sent, stamps_received, stamps_more, in_stamps, each_stamp, without_stamps, Left, LeftSo, Straggling, straggling_later, straggling_behind, straggling_taken, straggling_submit, straggling_more, leaves_now, straggling_renewed, straggling_other, straggling_passes, straggling_accepted}
use Rattle.oca_pair.proofs.InTime.{zeros, TimedAt, at_put, apart_at, sendable_untaken, clock_is, falls_behind, departed, timed_step, timed_steps, timed_opening}

-- ---- the network

abbrev StragglingOf : Setup → List Departure → Network → PeerLink → Type 0
StragglingOf s left n l = Straggling s l.peer (zeros s n l.peer) l.link.moment (stamps l.link.untaken) n.renewed left (state_of (past n)).moment (accepted_by l.peer (past n))

-- the link of this number is so
abbrev StragglingAt : Setup → ℕ → List Departure → Network → Type 0
StragglingAt s i left n = (l : PeerLink) → slice_get n.links i ≡ Some l → StragglingOf s left n l

-- what is known of the link in time and of its span
good_at : (s : Setup) (i : ℕ) (left : List Departure) (n : Network) → Sound s.span n → TimedAt s i left n → (l : PeerLink) → slice_get n.links i ≡ Some l →
    GoodSince (one_or l.link.span) (left_by n.renewed l.peer) l.peer l.link.next l.link.untaken n.submitted (accepted_by l.peer (past n))
good_at s i left n sound timed l own = (each_at (LinkSound s.span n) n.links i l sound.each own).good (timed l own).once

-- ---- submit

-- what left was submitted before
sent_below : (born : ℕ → ℕ) (end : ℕ) (p : Peer) (x : Departure) → TimedDeparture born end p x → x.datagram.peer ≡ p → (c : CommandFields) → read_datagram x.datagram.bytes ≡ Ok (Command true c ∷ []) → c.handle < end
sent_below born end p x timed own c read = by (timed own)
  where
    command_is : (a b : CommandFields) (r : Result (List Msg) PduFault) → r ≡ Ok (Command true a ∷ []) → r ≡ Ok (Command true b ∷ []) → a ≡ b
    command_is a b r e f = cc

    no_command : (a : CommandFields) (form : Form) (r : Result (List Msg) PduFault) → r ≡ Ok (KeepAlive form ∷ []) → r ≡ Ok (Command true a ∷ []) → ⊥
    no_command a form r e f = cc

    by : TimedBytes born end x.at x.datagram.bytes → c.handle < end
    by (inl (d, read', k)) = subst (λ (y : CommandFields). y.handle < end) (command_is d c _ read' read) k.below
    by (inr (form, alive)) = absurd (no_command c form _ alive read)

step_submit : (s : Setup) (i k : ℕ) (r : Request) (now : ℕ) (left : List Departure) (n : Network) → Sound s.span n → TimedAt s i left n → StragglingAt s i left n → (o : Option PeerLink) → slice_get n.links k ≡ o →
    StragglingAt s i left (after_submit k r now o n)
step_submit s i k r now left n sound timed g None e = g
step_submit s i k r now left n sound timed g (Some x) e =
    at_put (StragglingOf s left n) i k x (record { peer = x.peer; link = after_submission (submission r x.link) r now x.link }) n.links e (λ is own. mine own) (λ l other own. g l own)
  where
    Of : LinkState → Type 0
    Of state = Straggling s x.peer (zeros s n x.peer) state.moment (stamps state.untaken) n.renewed left (state_of (past n)).moment (accepted_by x.peer (past n))

    mine : slice_get n.links i ≡ Some x → Of (after_submission (submission r x.link) r now x.link)
    mine own = by_answer (submission r x.link) refl
      where
        t : ℕ
        t = present_moment now x.link

        by_answer : (a : Result Handle ControlFault) → submission r x.link ≡ a → Of (after_submission a r now x.link)
        by_answer (Err fault) q = g x own
        by_answer (Ok h) q =
            let f = timed x own in
            let was : end_of x.link.next ≡ h.0 = ap end_of (granted r x.link h q).0 in
            subst (λ (K : List (ℕ × ℕ)). Straggling s x.peer (zeros s n x.peer) t K n.renewed left (state_of (past n)).moment (accepted_by x.peer (past n)))
            (sym (stamps_more x.link.untaken (new_untaken t (command_under h.0 r))))
            (straggling_submit s x.peer (zeros s n x.peer) x.link.moment t h.0 (stamps x.link.untaken) n.renewed left (state_of (past n)).moment (accepted_by x.peer (past n)) (le-max_left x.link.moment now)
            (each_map (λ d b same c read. rw was at (sent_below f.born (end_of x.link.next) x.peer d b same c read)) left f.departures)
            (rw was at (below_next (good_at s i left n sound timed x own))) (g x own))

-- ---- due

-- what a link gives now
leaves_so : WrittenIsReadBack → (s : Setup) (i now : ℕ) (left : List Departure) (n : Network) → Sound s.span n → TimedAt s i left n → (x : PeerLink) → slice_get n.links i ≡ Some x →
    AllByRecursion (LeftSo s x.peer (zero_of s x.peer n) (present_moment now x.link) (stamps x.link.untaken) n.renewed) (leaving s n now (Some x))
leaves_so law s i now left n sound timed x own = on_bool x.link.lost (λ b. Are (cond b IsLost (decision_among t x.link.sent (first_due t x.link.untaken))))
    tt (by_first (first_due t x.link.untaken) refl)
  where
    t : ℕ
    t = present_moment now x.link

    origin : ℕ
    origin = zero_of s x.peer n

    good : GoodSince (one_or x.link.span) (left_by n.renewed x.peer) x.peer x.link.next x.link.untaken n.submitted (accepted_by x.peer (past n))
    good = good_at s i left n sound timed x own

    Are : Decision → Type 0
    Are d = AllByRecursion (LeftSo s x.peer origin t (stamps x.link.untaken) n.renewed) (map (λ bytes. record { datagram = record { peer = x.peer; bytes = bytes }; at = origin + t }) (given_by d))

    earlier : (a : ℕ) → a ≤ x.link.moment → a ≤ t
    earlier a q = omega arith

    past_submits : AllByRecursion (λ (u : Untaken). u.submitted ≤ t) x.link.untaken
    past_submits = each_map (λ u a. earlier u.submitted a.1) x.link.untaken (timed x own).untaken

    command_is : (a b : CommandFields) (r : Result (List Msg) PduFault) → r ≡ Ok (Command true a ∷ []) → r ≡ Ok (Command true b ∷ []) → a ≡ b
    command_is a b r e f = cc

    by_many : (u : Untaken) → IsIn u x.link.untaken → (b : Bool) → Are (cond b (GivesCommand u.command) IsLost)
    by_many u here true = (
      (λ same c read.
          let is : u.command ≡ c = command_is u.command c _ (read_command law u.command (each_in (λ (y : Untaken). IsSendable y.command) u x.link.untaken (sendable_untaken s.span n x (each_at (LinkSound s.span n) n.links i x sound.each own)) here)) read in
          subst (λ (y : CommandFields). Left s x.peer origin t (stamps x.link.untaken) n.renewed (origin + t) y.handle) is
          (leaves_now s x.peer origin t u.command.handle x.link.untaken n.renewed past_submits (low_handles u good here))),
      tt,
    )
    by_many u here false = tt

    no_command : (c : CommandFields) (r : Result (List Msg) PduFault) → r ≡ Ok (KeepAlive (Seconds 5) ∷ []) → r ≡ Ok (Command true c ∷ []) → ⊥
    no_command c r e f = cc

    by_quiet : (b : Bool) → Are (cond b GivesKeepAlive GivesNothing)
    by_quiet true = ((λ same c read. absurd (no_command c _ (read_keep_alive law) read)), tt)
    by_quiet false = tt

    by_first : (o : Option Untaken) → first_due t x.link.untaken ≡ o → Are (decision_among t x.link.sent o)
    by_first None e = by_quiet (nat_le 2500 (t - x.link.sent))
    by_first (Some u) e = by_many u (first_due_in t x.link.untaken u e).0 (nat_lt u.times 20)

-- what other peers sent is not asked of this one
not_its : (s : Setup) (p q : Peer) (origin m at : ℕ) (K : List (ℕ × ℕ)) (rs : List Renewal) (packets : List (List ℕ)) → q ≢ p →
    AllByRecursion (LeftSo s p origin m K rs) (map (λ bytes. record { datagram = record { peer = q; bytes = bytes }; at = at }) packets)
not_its s p q origin m at K rs [] other = tt
not_its s p q origin m at K rs (b ∷ bs) other = ((λ same c read. absurd (other same)), not_its s p q origin m at K rs bs other)

step_due : WrittenIsReadBack → (s : Setup) (i k now : ℕ) (left : List Departure) (n : Network) → Sound s.span n → TimedAt s i left n → StragglingAt s i left n → (o : Option PeerLink) → slice_get n.links k ≡ o →
    StragglingAt s i (left ++ leaving s n now o) (after_due_step k now o n)
step_due law s i k now left n sound timed g None e = λ l own. rw append-nil (g l own)
step_due law s i k now left n sound timed g (Some x) e =
    at_put (StragglingOf s (left ++ leaving s n now (Some x)) (after_due_step k now (Some x) n)) i k x (record { peer = x.peer; link = gone_on now x.link }) n.links e (λ is own. mine own)
    (λ l other own. straggling_more s l.peer (zeros s n l.peer) l.link.moment (stamps l.link.untaken) n.renewed left (leaving s n now (Some x)) (state_of (past n)).moment (accepted_by l.peer (past n))
    (not_its s l.peer x.peer (zero_of s l.peer n) l.link.moment (zero_of s x.peer n + present_moment now x.link) (stamps l.link.untaken) n.renewed (given_by (decision now x.link)) (apart_at n.links k i x l sound.apart e own other)) (g l own))
  where
    t : ℕ
    t = present_moment now x.link

    Of : LinkState → Type 0
    Of state = Straggling s x.peer (zeros s n x.peer) state.moment (stamps state.untaken) n.renewed (left ++ leaving s n now (Some x)) (state_of (past n)).moment (accepted_by x.peer (past n))

    mine : slice_get n.links i ≡ Some x → Of (gone_on now x.link)
    mine own = by_decision (decision now x.link)
      where
        with_same : (K : List (ℕ × ℕ)) → K ≡ stamps x.link.untaken → Straggling s x.peer (zeros s n x.peer) t K n.renewed (left ++ leaving s n now (Some x)) (state_of (past n)).moment (accepted_by x.peer (past n))
        with_same K same = rw same (straggling_more s x.peer (zeros s n x.peer) t (stamps x.link.untaken) n.renewed left (leaving s n now (Some x)) (state_of (past n)).moment (accepted_by x.peer (past n))
            (leaves_so law s i now left n sound timed x own)
            (straggling_later s x.peer (zeros s n x.peer) x.link.moment t (stamps x.link.untaken) (stamps x.link.untaken) n.renewed left (state_of (past n)).moment (accepted_by x.peer (past n)) (le-max_left x.link.moment now) refl (g x own)))

        by_decision : (d : Decision) → Of (after_due d t x.link)
        by_decision (GivesCommand c) = with_same (stamps (map (marked_sent t c.handle) x.link.untaken)) (stamps_marked_sent t c.handle x.link.untaken)
        by_decision _ = with_same (stamps x.link.untaken) refl

step_beside : WrittenIsReadBack → (s : Setup) (i now : ℕ) (left : List Departure) (n : Network) → StragglingAt s i left n → (o : Option PeerLink) → StragglingAt s i (left ++ leaving_beside s n now o) (after_beside o n)
step_beside law s i now left n g None = λ l own. rw append-nil (g l own)
step_beside law s i now left n g (Some x) = λ l own. straggling_more s l.peer (zeros s n l.peer) l.link.moment (stamps l.link.untaken) n.renewed left (leaving_beside s n now (Some x)) (state_of (past n)).moment (accepted_by l.peer (past n))
    ((λ same c read. absurd (no_command c _ (read_keep_alive law) read)), tt) (g l own)
  where
    no_command : (c : CommandFields) (r : Result (List Msg) PduFault) → r ≡ Ok (KeepAlive (Seconds 5) ∷ []) → r ≡ Ok (Command true c ∷ []) → ⊥
    no_command c r e f = cc

-- ---- take, renew, and a datagram that comes to a link

step_take : (s : Setup) (i k h : ℕ) (left : List Departure) (n : Network) → StragglingAt s i left n → (o : Option PeerLink) → slice_get n.links k ≡ o → StragglingAt s i left (after_take k h o n)
step_take s i k h left n g None e = g
step_take s i k h left n g (Some x) e =
    at_put (StragglingOf s left n) i k x (record { peer = x.peer; link = taken h x.link }) n.links e (λ is own. by_answer (answer_under h x.link.untaken) (g x own)) (λ l other own. g l own)
  where
    Of : List Untaken → Type 0
    Of us = Straggling s x.peer (zeros s n x.peer) x.link.moment (stamps us) n.renewed left (state_of (past n)).moment (accepted_by x.peer (past n))

    by_answer : (o : Option AnswerFields) → Of x.link.untaken → Of (cond (is_some o) (without_handle h x.link.untaken) x.link.untaken)
    by_answer None f = f
    by_answer (Some a) f = straggling_taken s x.peer (zeros s n x.peer) x.link.moment h x.link.untaken n.renewed left (state_of (past n)).moment (accepted_by x.peer (past n)) f

step_renewal : (s : Setup) (i k first span now origin : ℕ) (left : List Departure) (n : Network) → Sound s.span n → StragglingAt s i left n → (o : Option PeerLink) → slice_get n.links k ≡ o →
    StragglingAt s i left (after_renewal k first span now origin o n)
step_renewal s i k first span now origin left n sound g None e = g
step_renewal s i k first span now origin left n sound g (Some x) e = on_bool (is_no_lower first x.link.next) (λ b. StragglingAt s i left (cond b m n))
    (at_put (StragglingOf s left m) i k x y n.links e (λ is own. straggling_renewed s x.peer (zeros s n x.peer) (zeros s m x.peer) x.link.moment now x.link.untaken n.renewed left (state_of (past n)).moment
    (accepted_by x.peer (past n)) (renewal_of x origin) refl refl (g x own)) others)
    g
  where
    y : PeerLink
    y = record { peer = x.peer; link = renewed_link first span now x.link }

    m : Network
    m = record n { links = with_link k x (renewed_link first span now x.link) n.links; renewed = renewal_of x origin ∷ n.renewed }

    others : (l : PeerLink) → nat_eq k i ≡ false → slice_get n.links i ≡ Some l → StragglingOf s left m l
    others l other own =
        let apart : same_peer x.peer l.peer ≡ false = other_is x.peer l.peer (apart_at n.links k i x l sound.apart e own other) in
        subst (λ (z : ℕ). Straggling s l.peer (record { link = z; device = device_zero_of s n }) l.link.moment (stamps l.link.untaken) (renewal_of x origin ∷ n.renewed) left (state_of (past n)).moment (accepted_by l.peer (past n)))
        (sym (ap (λ c. cond c origin (zero_of s l.peer n)) apart))
        (straggling_other s l.peer (zeros s n l.peer) l.link.moment (stamps l.link.untaken) n.renewed left (state_of (past n)).moment (accepted_by l.peer (past n)) (renewal_of x origin) apart (g l own))

step_reception : (s : Setup) (i now : ℕ) (left : List Departure) (n : Network) → StragglingAt s i left n → (o : Option SentDatagram) → StragglingAt s i left (after_reception now o n)
step_reception s i now left n g None = g
step_reception s i now left n g (Some d) = λ l own. let z = mapped_at (hears_datagram n.address d now) n.links i l own in subst (StragglingOf s left n) z.2 (one z.0 (same_peer z.0.peer d.peer) (g z.0 z.1))
  where
    one : (z : PeerLink) (b : Bool) → StragglingOf s left n z → let y : PeerLink = cond b (record { peer = z.peer; link = received n.address (content_read d.bytes) now z.link }) z in StragglingOf s left n y
    one z true f = straggling_later s z.peer (zeros s n z.peer) z.link.moment (present_moment now z.link) (stamps z.link.untaken) (stamps (received n.address (content_read d.bytes) now z.link).untaken) n.renewed left (state_of (past n)).moment
        (accepted_by z.peer (past n)) (le-max_left z.link.moment now) (stamps_received (same_peer n.address z.link.device) (content_read d.bytes) z.link.untaken) f
    one z false f = f

-- ---- a datagram comes to the device

-- the zeros of the clocks with an event more
abbrev behind : Setup → Network → Peer → Event → Zeros
behind s n p e = record { link = zero_of s p n; device = s.device_zero + all_left_out s.left_out (e ∷ n.events) }

straggling_event : (s : Setup) (n : Network) (p : Peer) (e : Event) (m : ℕ) (K : List (ℕ × ℕ)) (left : List Departure) (moment : ℕ) (A : List Entry) → Straggling s p (zeros s n p) m K n.renewed left moment A →
    Straggling s p (behind s n p e) m K n.renewed left moment A
straggling_event s n p e m K left moment A g = straggling_behind s p (zeros s n p) (s.device_zero + all_left_out s.left_out (e ∷ n.events)) m K n.renewed left moment A (falls_behind s n e) g

-- of another peer
elsewhere : (s : Setup) (left : List Departure) (n : Network) (q : Peer) (bytes : List ℕ) (now : ℕ) (l : PeerLink) → same_peer q l.peer ≡ false → StragglingOf s left n l →
    Straggling s l.peer (behind s n l.peer (Datagram q bytes now)) l.link.moment (stamps l.link.untaken) n.renewed left (state_of (and_then (Datagram q bytes now) (past n))).moment (accepted_by l.peer (and_then (Datagram q bytes now) (past n)))
elsewhere s left n q bytes now l other g = straggling_event s n l.peer (Datagram q bytes now) l.link.moment (stamps l.link.untaken) left (state_of (and_then (Datagram q bytes now) (past n))).moment (accepted_by l.peer (and_then (Datagram q bytes now) (past n)))
    (straggling_passes s l.peer (zeros s n l.peer) l.link.moment (stamps l.link.untaken) n.renewed left (state_of (past n)).moment
    (state_of (and_then (Datagram q bytes now) (past n))).moment (accepted_by l.peer (past n)) (accepted_by l.peer (and_then (Datagram q bytes now) (past n)))
    (later ((state_of (and_then (Datagram q bytes now) (past n))).moment) (moment_reading n.sizes q (read_datagram bytes) (looked_at now (past n)))) (accepted_other l.peer q bytes now (past n) other) g)
  where
    later : (t : ℕ) → t ≡ max (state_of (past n)).moment now → (state_of (past n)).moment ≤ t
    later t e = omega arith

step_other : (s : Setup) (i : ℕ) (from : Peer) (bytes : List ℕ) (now : ℕ) (left : List Departure) (n : Network) → StragglingAt s i left n → StragglingAt s i left (after_step (Other from bytes now) n)
step_other s i from bytes now left n g = on_bool (has_link from n.links) (λ b. has_link from n.links ≡ b → StragglingAt s i left (cond b n m))
    (λ q. g)
    (λ q. λ l own. elsewhere s left n from bytes now l (same_turned from l.peer ∙ each_at (λ (z : PeerLink). same_peer z.peer from ≡ false) n.links i l (none_passes (λ (z : PeerLink). same_peer z.peer from) n.links q) own) (g l own)) refl
  where
    m : Network
    m = record n { events = Datagram from bytes now ∷ n.events }

step_delivery : WrittenIsReadBack → (s : Setup) (i k now : ℕ) (left : List Departure) (n : Network) → Sound s.span n → StepIsInTime s i left (ToDevice k now) n → TimedAt s i left n → (o : Option SentDatagram) → slice_get n.to_device k ≡ o →
    TimedAt s i left (after_delivery now o n) → StragglingAt s i left n → StragglingAt s i left (after_delivery now o n)
step_delivery law s i k now left n sound in_time timed None e then g = g
step_delivery law s i k now left n sound in_time timed (Some d) e then g = λ l own. by_test l own (same_peer d.peer l.peer) refl
  where
    m : Network
    m = after_delivery now (Some d) n

    mine : (l : PeerLink) → slice_get n.links i ≡ Some l → d.peer ≡ l.peer → StragglingOf s left m l
    mine l own same = straggling_event s n l.peer (Datagram d.peer d.bytes now) l.link.moment (stamps l.link.untaken) left (state_of (past m)).moment (accepted_by l.peer (past m))
        (subst (λ (q : Peer). Straggling s p (zeros s n p) l.link.moment (stamps l.link.untaken) n.renewed left (state_of (and_then (Datagram q d.bytes now) (past n))).moment (accepted_by p (and_then (Datagram q d.bytes now) (past n)))) (sym same)
        (by_grown (grows_once p read.0 d.bytes now (past n) read.1 read.2 (subst (λ (q : Peer). IsDistinct eqb (handles_for p (state_of (and_then (Datagram q d.bytes now) (past n))).notes)) same (then l own).once))))
      where
        p : Peer
        p = l.peer

        moment' : ℕ
        moment' = (state_of (and_then (Datagram p d.bytes now) (past n))).moment

        A : List Entry
        A = accepted_by p (past n)

        A' : List Entry
        A' = accepted_by p (and_then (Datagram p d.bytes now) (past n))

        of : LinkSound s.span n l
        of = each_at (LinkSound s.span n) n.links i l sound.each own

        read : (x : Msg) × (read_datagram d.bytes ≡ Ok (x ∷ [])) × (((c : CommandFields) × (x ≡ Command true c)) ⊎ ((form : Form) × (x ≡ KeepAlive form)))
        read =
            let (x, is, kind, rest) = out_read law p l.link.next l.link.untaken (past n) n.to_device n.to_links n.taken d.bytes
            (each_at (λ (x : SentDatagram). x.peer ≡ p → IsOut p n.submitted x.bytes) n.to_device k d of.fair.outgoing e same) of.fair in
            (x, is, kind)

        f : Timed (zeros s n p) p (end_of l.link.next) l.link.moment l.link.untaken left n.to_device (state_of (past n)).notes
        f = timed l own

        at : (x : Departure) × (slice_get left k ≡ Some x) × (x.datagram ≡ d)
        at = mapped_at (λ (x : Departure). x.datagram) left k d (ap (λ (xs : List SentDatagram). slice_get xs k) f.are ∙ e)

        its : at.0.datagram.peer ≡ p
        its = ap (λ (x : SentDatagram). x.peer) at.2 ∙ same

        clock : moment' ≡ clock_at now n
        clock = moment_reading n.sizes p (read_datagram d.bytes) (looked_at now (past n)) ∙ clock_is now n

        came : ArrivesInTime at.0.at (device_zero_of s n + moment')
        came = subst (λ (t : ℕ). ArrivesInTime at.0.at (device_zero_of s n + t)) (sym clock) (in_time l at.0 own at.1 its)

        later : (t : ℕ) → t ≡ max (state_of (past n)).moment now → (state_of (past n)).moment ≤ t
        later t q = omega arith

        goes_on : (state_of (past n)).moment ≤ moment'
        goes_on = later moment' (moment_reading n.sizes p (read_datagram d.bytes) (looked_at now (past n)))

        by_grown : IsGrown read.0 A A' → Straggling s p (zeros s n p) l.link.moment (stamps l.link.untaken) n.renewed left moment' A'
        by_grown (inl same_list) = straggling_passes s p (zeros s n p) l.link.moment (stamps l.link.untaken) n.renewed left (state_of (past n)).moment moment' A A' goes_on same_list (g l own)
        by_grown (inr (c, r, is, new, grown)) = straggling_accepted s p (zeros s n p) l.link.moment (stamps l.link.untaken) n.renewed left (state_of (past n)).moment moment' A A' (record { command = c; reply = r }) at.0.at goes_on grown
            (each_at (LeftSo s p (zero_of s p n) l.link.moment (stamps l.link.untaken) n.renewed) left k at.0 (g l own).sent at.1 its c
            (ap (λ (x : SentDatagram). read_datagram x.bytes) at.2 ∙ read.1 ∙ ap (λ (x : Msg). let y : Result (List Msg) PduFault = Ok (x ∷ []) in y) is)) came.not_before came.not_late (g l own)

    by_test : (l : PeerLink) → slice_get n.links i ≡ Some l → (b : Bool) → same_peer d.peer l.peer ≡ b → StragglingOf s left m l
    by_test l own true q = mine l own (same_is d.peer l.peer q)
    by_test l own false q = elsewhere s left n d.peer d.bytes now l q (g l own)

-- ---- a step, and a schedule

step_straggling : WrittenIsReadBack → (s : Setup) (i : ℕ) (left : List Departure) (step : Step) (n : Network) → Sound s.span n → StepIsInTime s i left step n → TimedAt s i left n → TimedAt s i (left ++ departures_in s step n) (after_step step n) →
    StragglingAt s i left n → StragglingAt s i (left ++ departures_in s step n) (after_step step n)
step_straggling law s i left step n sound in_time timed then g = one step in_time then
  where
    none : (m : Network) → StragglingAt s i left m → StragglingAt s i (left ++ []) m
    none m f l own = rw append-nil (f l own)

    passes : (now : ℕ) (l : PeerLink) → StragglingOf s left n l → StragglingOf s left (after_step (steps.Tick now) n) l
    passes now l f = straggling_event s n l.peer (events.Tick now) l.link.moment (stamps l.link.untaken) left (max (state_of (past n)).moment now) (accepted_by l.peer (past n)) (straggling_passes s l.peer (zeros s n l.peer) l.link.moment (stamps l.link.untaken) n.renewed left (state_of (past n)).moment (max (state_of (past n)).moment now) (accepted_by l.peer (past n)) (accepted_by l.peer (past n))
        (le-max_left (state_of (past n)).moment now) refl f)

    one : (step : Step) → StepIsInTime s i left step n → TimedAt s i (left ++ departures_in s step n) (after_step step n) → StragglingAt s i (left ++ departures_in s step n) (after_step step n)
    one (Submit k r now) t then = none (after_step (Submit k r now) n) (step_submit s i k r now left n sound timed g (slice_get n.links k) refl)
    one (Due k now) t then = step_due law s i k now left n sound timed g (slice_get n.links k) refl
    one (ToDevice k now) t then = none (after_step (ToDevice k now) n) (step_delivery law s i k now left n sound t timed (slice_get n.to_device k) refl (λ l own. rw append-nil at (then l own)) g)
    one (ToLink k now) t then = none (after_step (ToLink k now) n) (step_reception s i now left n g (slice_get n.to_links k))
    one (Other from bytes now) t then = none (after_step (Other from bytes now) n) (step_other s i from bytes now left n g)
    one (steps.Tick now) t then = none (after_step (steps.Tick now) n) (λ l own. passes now l (g l own))
    one (steps.Local ono change) t then = none (after_step (steps.Local ono change) n)
        (λ l own. straggling_event s n l.peer (events.Local ono change) l.link.moment (stamps l.link.untaken) left (state_of (past n)).moment (accepted_by l.peer (past n)) (g l own))
    one (Take k h) t then = none (after_step (Take k h) n) (step_take s i k h left n g (slice_get n.links k) refl)
    one (Renew k first span now origin) t then = none (after_step (Renew k first span now origin) n) (step_renewal s i k first span now origin left n sound g (slice_get n.links k) refl)
    one (Beside k now) t then = step_beside law s i now left n g (slice_get n.links k)

straggling_steps : (law : WrittenIsReadBack) (s : Setup) (i : ℕ) (left : List Departure) (es : List Step) (n : Network) → AllByRecursion StepFits es → Sound s.span n → AreInTime s i left es n → TimedAt s i left n → StragglingAt s i left n →
    StragglingAt s i (departed s left es n) (after_steps es n)
straggling_steps law s i left [] n fits sound in_time timed g = g
straggling_steps law s i left (e ∷ es) n fits sound in_time timed g =
    let then : TimedAt s i (left ++ departures_in s e n) (after_step e n) = timed_step law s i left e n sound in_time.0 timed in
    straggling_steps law s i (left ++ departures_in s e n) es (after_step e n) fits.1 (sound_step law s.span e n fits.0 sound) in_time.1 then (step_straggling law s i left e n sound in_time.0 timed then g)

straggling_after : (law : WrittenIsReadBack) (w : DeviceSizes) (s : Setup) (tree : List Object) (starts : List Start) (es : List Step) (i : ℕ) → are_apart s.address starts ≡ true → Fit starts es →
    AreInTime s i [] es (opening w s tree starts) → StragglingAt s i (departed s [] es (opening w s tree starts)) (after_steps es (opening w s tree starts))
straggling_after law w s tree starts es i apart fit in_time =
    straggling_steps law s i [] es (opening w s tree starts) fit.1 (sound_opening w s tree starts apart fit.0) in_time (timed_opening w s tree starts i) opened
  where
    opened : StragglingAt s i [] (opening w s tree starts)
    opened l own =
        let z = mapped_at (started s) starts i l own in
        subst (StragglingOf s [] (opening w s tree starts)) z.2 (record { sent = tt; heard = tt; trails = tt })

-- ---- the laws

pub answered_in_time : WrittenIsReadBack → (w : DeviceSizes) (s : Setup) (tree : List Object) (starts : List Start) (es : List Step) (i : ℕ) (l : PeerLink) → are_apart s.address starts ≡ true → Fit starts es →
    AreInTime s i [] es (opening w s tree starts) → slice_get (after_steps es (opening w s tree starts)).links i ≡ Some l → AnswersUntakenInTime w s l (after_steps es (opening w s tree starts))
answered_in_time law w s tree starts es i l apart fit in_time own k now d c there of fits finds =
    let n : Network = after_steps es (opening w s tree starts) in
    let sound : Sound s.span n = sound_after law w s tree starts es apart fit in
    let t : ℕ = zero_of s l.peer n + of.untaken.submitted in
    let few : List ℕ = left_since s t l.peer n.renewed in
    let sizes : n.sizes ≡ w = sizes_kept es (opening w s tree starts) in
    let wide : 2 * l.link.span + length few ≤ n.sizes.window + 1 = subst (λ (x : DeviceSizes). 2 * l.link.span + length few ≤ x.window + 1) (sym sizes) fits.wide in
    let trails : Trails of.untaken.command.handle (left_by n.renewed l.peer) few (accepted_by l.peer (past n)) =
    each_in _ (of.untaken.command.handle, of.untaken.submitted) (stamps l.link.untaken) (straggling_after law w s tree starts es i apart fit in_time l own).trails (in_stamps of.untaken l.link.untaken (contains_in of.untaken l.link.untaken of.held)) in
    delivered law s.span few n k now d l c fits.some wide there (each_at (LinkSound s.span n) n.links i l sound.each own) of trails finds
    (timed_steps law s i [] es (opening w s tree starts) fit.1 (sound_opening w s tree starts apart fit.0) in_time (timed_opening w s tree starts i) l own).once

pub round_trips_in_time : WrittenIsReadBack → (w : DeviceSizes) (s : Setup) (tree : List Object) (starts : List Start) (es : List Step) (i : ℕ) (l : PeerLink) → are_apart s.address starts ≡ true → Fit starts es →
    AreInTime s i [] es (opening w s tree starts) → slice_get (after_steps es (opening w s tree starts)).links i ≡ Some l → RoundTripsInTime w s i l (after_steps es (opening w s tree starts))
round_trips_in_time law w s tree starts es i l apart fit in_time own k now d c between later there of finds wide fits never =
    let start : Network = opening w s tree starts in
    comes_back law s.span (after_steps es start) k now i later d l c between (sound_after law w s tree starts es apart fit) (to_device_steps es start (to_device_opening w s tree starts)) there own of fits never
    (answered_in_time law w s tree starts es i l apart fit in_time own k now d c there of wide finds)

-- ---- a command of a link keeps its submit

abbrev Stamped : ℕ → ℕ → LinkState → Type 0
Stamped h t state = AllByRecursion (λ q. q.0 ≡ h → q.1 ≡ t) (stamps state.untaken) × (h < end_of state.next)

-- whatever the link of this number, where it is the peer's, holds under the handle was submitted then
abbrev StampedAt : ℕ → Peer → ℕ → ℕ → Network → Type 0
StampedAt i p h t n = (l : PeerLink) → slice_get n.links i ≡ Some l → l.peer ≡ p → Stamped h t l.link

-- it submits another command
stamped_submit : (h t now : ℕ) (r : Request) (l : LinkState) (a : Result Handle ControlFault) → submission r l ≡ a → Stamped h t l → Stamped h t (after_submission a r now l)
stamped_submit h t now r l (Err fault) e g = g
stamped_submit h t now r l (Ok x) e g =
    let was : end_of l.next ≡ x.0 = ap end_of (granted r l x e).0 in
    let is : end_of (handle_after x.0) ≡ x.0 + 1 = end_after x.0 in
    let below : h < end_of l.next = g.1 in
    (rw (stamps_more l.untaken (new_untaken (present_moment now l) (command_under x.0 r))) (each_append _ (stamps l.untaken) ((x.0, present_moment now l) ∷ []) g.0 ((λ same. absurd (other same below was)), tt)), omega arith)
  where
    other : x.0 ≡ h → h < end_of l.next → end_of l.next ≡ x.0 → ⊥
    other a b c = omega arith

stamped_due : (h t now : ℕ) (l : LinkState) (d : Decision) → Stamped h t l → Stamped h t (after_due d now l)
stamped_due h t now l (GivesCommand c) g = (rw (stamps_marked_sent now c.handle l.untaken) g.0, g.1)
stamped_due h t now l _ g = g

stamped_taken : (h t x : ℕ) (l : LinkState) (o : Option AnswerFields) → Stamped h t l → AllByRecursion (λ q. q.0 ≡ h → q.1 ≡ t) (stamps (cond (is_some o) (without_handle x l.untaken) l.untaken))
stamped_taken h t x l None g = g.0
stamped_taken h t x l (Some a) g = without_stamps _ x l.untaken g.0

stamped_step : (i h t : ℕ) (p : Peer) (step : Step) (n : Network) → RenewsNothing p n (after_step step n) → StampedAt i p h t n → StampedAt i p h t (after_step step n)
stamped_step i h t p step n never g = after_each (λ _ m. RenewsNothing p n m → StampedAt i p h t m) n (record {
  stays = λ _ _. g;
  submits = λ k r now x e _. put k x (after_submission (submission r x.link) r now x.link) e (λ same f. stamped_submit h t now r x.link (submission r x.link) refl f);
  asks = λ k now x e _. put k x (gone_on now x.link) e (λ same f. stamped_due h t (present_moment now x.link) x.link (decision now x.link) f);
  delivers = λ _ _ _ _ _. again;
  receives = λ _ now d _ _ l own. let z = mapped_at (hears_datagram n.address d now) n.links i l own in
      subst (λ (y : PeerLink). y.peer ≡ p → Stamped h t y.link) z.2 (heard d now z.0 (same_peer z.0.peer d.peer) (g z.0 z.1));
  hears = λ _ _ _ _ _. again;
  ticks = λ _ _. again;
  changes = λ _ _ _. again;
  takes = λ k x z e _. put k z (taken x z.link) e (λ same f. (stamped_taken h t x z.link (answer_under x z.link.untaken) f, f.1));
  renews = λ k first span now origin x e never.
      put k x (renewed_link first span now x.link) e (λ same f. absurd (not_its_renewal p x.peer (renewal_of x origin) n.renewed refl never same));
  keeps_alive = λ _ _ _ _ _. again;
}) step never
  where
    again : (l : PeerLink) → slice_get n.links i ≡ Some l → l.peer ≡ p → Stamped h t l.link
    again l own same = let f = g l own same in f

    put : (k : ℕ) (x : PeerLink) (state : LinkState) → slice_get n.links k ≡ Some x → (x.peer ≡ p → Stamped h t x.link → Stamped h t state) →
        (l : PeerLink) → slice_get (with_link k x state n.links) i ≡ Some l → l.peer ≡ p → Stamped h t l.link
    put k x state e keeps = at_put (λ l. l.peer ≡ p → Stamped h t l.link) i k x (record { peer = x.peer; link = state }) n.links e (λ is own same. keeps same (g x own same)) (λ l other own. g l own)

    heard : (d : SentDatagram) (now : ℕ) (z : PeerLink) (b : Bool) → (z.peer ≡ p → Stamped h t z.link) →
        let y : PeerLink = cond b (record { peer = z.peer; link = received n.address (content_read d.bytes) now z.link }) z in y.peer ≡ p → Stamped h t y.link
    heard d now z true f same = (rw (stamps_received (same_peer n.address z.link.device) (content_read d.bytes) z.link.untaken) (f same).0, (f same).1)
    heard d now z false f same = f same

stamped_steps : (i h t : ℕ) (p : Peer) (es : List Step) (n : Network) → RenewsNothing p n (after_steps es n) → StampedAt i p h t n → StampedAt i p h t (after_steps es n)
stamped_steps i h t p [] n never g = g
stamped_steps i h t p (e ∷ es) n never g = let parts = nothing_in_parts p e es n never in stamped_steps i h t p es (after_step e n) parts.1 (stamped_step i h t p e n parts.0 g)

-- ---- a command of a link that is in time gets through

pub gets_through_in_time : WrittenIsReadBack → (w : DeviceSizes) (s : Setup) (tree : List Object) (starts : List Start) (before later : List Step) (i : ℕ) (l : PeerLink) (r : Request) (now ms : ℕ) (h : Handle) →
    slice_get (after_steps before (opening w s tree starts)).links i ≡ Some l →
    SpanFitsSince w s (zero_of s l.peer (after_steps before (opening w s tree starts)) + present_moment now l.link) l (after_steps before (opening w s tree starts)) → are_apart s.address starts ≡ true →
    Fit starts (before ++ Submit i r now ∷ later) → AreInTime s i [] (before ++ Submit i r now ∷ later) (opening w s tree starts) →
    outcome_of_step (Submit i r now) (after_steps before (opening w s tree starts)) ≡ outcomes.Submitted h ∷ [] →
    RenewsNothing l.peer (after_steps before (opening w s tree starts)) (after_steps later (after_step (Submit i r now) (after_steps before (opening w s tree starts)))) →
    IsAskedEvery ms (present_moment now l.link) (calls_in i later (after_step (Submit i r now) (after_steps before (opening w s tree starts)))) →
    GetsThrough (ComesWithRoom l.peer (after_steps later (after_step (Submit i r now) (after_steps before (opening w s tree starts))))) ms (present_moment now l.link) i (command_under h.0 r) l.peer
    (calls_in i later (after_step (Submit i r now) (after_steps before (opening w s tree starts))))
    (after_steps later (after_step (Submit i r now) (after_steps before (opening w s tree starts))))
gets_through_in_time law w s tree starts before later i l r now ms h own wide apart fit in_time outcome never often =
    gets_through_by law (ComesWithRoom l.peer (after_steps later new)) w s tree starts before later i l r now ms h own wide.some apart fit outcome never often
    (subst (λ (m : Network). (g : PeerLink) → slice_get n.links i ≡ Some g → g.peer ≡ l.peer → g.link.span ≡ l.link.span → TripsOf (ComesWithRoom l.peer m) i c g n) run_is
    (λ g there peer span k moment between end sent carries comes fits still.
    round_trips_in_time law w s tree starts all i g apart fit in_time there k moment (copy_of g.peer c) c between end sent carries (subst (λ (q : Peer). FindsRoom q moment n) (sym peer) comes)
    (wide_then g there peer span carries) fits still))
  where
    start : Network
    start = opening w s tree starts

    old : Network
    old = after_steps before start

    new : Network
    new = after_step (Submit i r now) old

    all : List Step
    all = before ++ Submit i r now ∷ later

    n : Network
    n = after_steps all start

    run_is : n ≡ after_steps later new
    run_is = after_more before (Submit i r now ∷ later) start

    c : CommandFields
    c = command_under h.0 r

    since : ℕ
    since = present_moment now l.link

    of : LinkSound s.span old l
    of = each_at (LinkSound s.span old) old.links i l (sound_after law w s tree starts before apart (fit.0, first_fit before fit.1)).each own
      where
        first_fit : (xs : List Step) → AllByRecursion StepFits (xs ++ Submit i r now ∷ later) → AllByRecursion StepFits xs
        first_fit [] a = tt
        first_fit (x ∷ xs) a = (a.0, first_fit xs a.1)

    accepted : submission r l.link ≡ Ok h
    accepted = took r h l.link (sym (ap (λ (o : Option PeerLink). on_link (λ y. submit_outcome (submission r y.link)) o) own) ∙ outcome)

    stamped_new : StampedAt i l.peer h.0 since new
    stamped_new = subst (λ (o : Option PeerLink). StampedAt i l.peer h.0 since (after_submit i r now o old)) (sym own)
        (at_put (λ z. z.peer ≡ l.peer → Stamped h.0 since z.link) i i l (record { peer = l.peer; link = after_submission (submission r l.link) r now l.link }) old.links own (λ is there same. by_answer (submission r l.link) accepted)
        (λ z other. absurd (not_other other)))
      where
        not_other : nat_eq i i ≡ false → ⊥
        not_other e = differs (sym (equal_self i) ∙ e)

        by_answer : (a : Result Handle ControlFault) → a ≡ Ok h → Stamped h.0 since (after_submission a r now l.link)
        by_answer (Err fault) e = cc
        by_answer (Ok x) e =
            let same : x ≡ h = handle_is x e in
            let is : end_of (handle_after h.0) ≡ h.0 + 1 = end_after h.0 in
            let was : end_of l.link.next ≡ h.0 = ap end_of (granted r l.link h accepted).0 in
            rw same (
              rw (stamps_more l.link.untaken (new_untaken since c)) (each_append _ (stamps l.link.untaken) ((h.0, since) ∷ [])
                  (each_stamp _ l.link.untaken (each_map (λ u k same. absurd (below u.command.handle (each_in _ _ old.submitted of.fair.sendable k.0 refl).1 was same)) l.link.untaken of.fair.untaken)) ((λ same. refl), tt)),
              omega arith,
            )
          where
            handle_is : (x : Handle) → (let a : Result Handle ControlFault = Ok x in a) ≡ Ok h → x ≡ h
            handle_is x e = cc

            below : (x : ℕ) → x < end_of l.link.next → end_of l.link.next ≡ h.0 → x ≡ h.0 → ⊥
            below x a b e = omega arith

    -- at the end the command has the submit that it had, its link the span, and its earlier links left behind what they had left
    wide_then : (g : PeerLink) → slice_get n.links i ≡ Some g → g.peer ≡ l.peer → g.link.span ≡ l.link.span → (carries : CarriesUntaken (copy_of g.peer c) g c) →
        SpanFitsSince w s (zero_of s g.peer n + carries.untaken.submitted) g n
    wide_then g there peer span carries =
        let still : RenewsNothing l.peer old (after_steps (Submit i r now ∷ later) old) = never in
        let zero : zero_of s g.peer n ≡ zero_of s l.peer old = ap (λ (q : Peer). zero_of s q n) peer ∙ ap (λ (m : Network). zero_of s l.peer m) run_is
        ∙ same_renewals l.peer (λ rs. zero_after rs l.peer (s.zero l.peer)) (λ x rs other. ap (λ b. cond b x.zero (zero_after rs l.peer (s.zero l.peer))) other) (Submit i r now ∷ later) old still in
        let stamp : carries.untaken.submitted ≡ since = each_in (λ q. q.0 ≡ h.0 → q.1 ≡ since) (carries.untaken.command.handle, carries.untaken.submitted) (stamps g.link.untaken)
        (stamped_steps i h.0 since l.peer later new (nothing_in_parts l.peer (Submit i r now) later old still).1 stamped_new g (subst (λ (m : Network). slice_get m.links i ≡ Some g) run_is there) peer).0
        (in_stamps carries.untaken g.link.untaken (contains_in carries.untaken g.link.untaken carries.held)) (ap (λ (y : CommandFields). y.handle) carries.command) in
        let at : zero_of s g.peer n + carries.untaken.submitted ≡ zero_of s l.peer old + since = ap (λ z. z + carries.untaken.submitted) zero ∙ ap (λ x. zero_of s l.peer old + x) stamp in
        let left : left_since s (zero_of s g.peer n + carries.untaken.submitted) g.peer n.renewed ≡ left_since s (zero_of s l.peer old + since) l.peer old.renewed =
        ap (λ t. left_since s t g.peer n.renewed) at ∙ ap (λ (q : Peer). left_since s (zero_of s l.peer old + since) q n.renewed) peer ∙ ap (λ (m : Network). left_since s (zero_of s l.peer old + since) l.peer m.renewed) run_is
        ∙ same_renewals l.peer (left_since s (zero_of s l.peer old + since) l.peer)
        (λ x rs other. ap (λ b. cond (b && nat_le (zero_of s l.peer old + since) (left_off s l.peer x rs + longest_delay)) (x.left ++ left_since s (zero_of s l.peer old + since) l.peer rs) (left_since s (zero_of s l.peer old + since) l.peer rs)) other)
        (Submit i r now ∷ later) old still in
        record {
          some = also g.link.span l.link.span span wide.some;
          wide = as_wide g.link.span l.link.span (length (left_since s (zero_of s g.peer n + carries.untaken.submitted) g.peer n.renewed)) (length (left_since s (zero_of s l.peer old + since) l.peer old.renewed)) span (ap length left) wide.wide;
        }
      where
        also : (a b : ℕ) → a ≡ b → 0 < b → 0 < a
        also a b e k = omega arith

        as_wide : (a b x y : ℕ) → a ≡ b → x ≡ y → 2 * b + y ≤ w.window + 1 → 2 * a + x ≤ w.window + 1
        as_wide a b x y e f k = omega arith

-- Where a link and the network are in time, no command is executed twice.
use Rattle.oca_pair.proofs.Words.{append-nil, ◌≡◌, ℕ, ◌+◌, ◌<◌, ◌≤◌, ◌≢◌, Bool, true, false, cond, List, [], ◌∷◌, ◌++◌, Option, Some, None, refl, sym, ap, ◌∙◌, subst, arith, zero, suc, ◌⊎◌, inl, inr}
use Rattle.oca_pair.proofs.Words.{nat_eq, ◌||◌, map, Result, Ok, list_any, AllByRecursion, slice_get, slice_set, eqb, nat_tests, eqb-true, same_Some, Peer, same_peer, CommandFields, DeviceSizes}
use Rattle.oca_pair.proofs.Words.{PduFault, Form, Msg, Command, KeepAlive, read_datagram, WrittenIsReadBack, Object, Entry, Event, Datagram, Admitted, Note, run, accepted, State, noted, Passes}
use Rattle.oca_pair.proofs.Words.{admitted, accepted_by, AnswerFields, longest_life, Untaken, answer_under, Request, submission, after_submission, decision, gone_on, received, taken, present_moment}
use Rattle.oca_pair.proofs.Words.{Start, Network, PeerLink, SentDatagram, SubmittedCommand, TakenAnswer, Setup, started, opening, zero_of, all_left_out, device_zero_of, Step, Submit, Due, ToDevice}
use Rattle.oca_pair.proofs.Words.{ToLink, Other, Take, has_link, after_submit, after_due_step, after_delivery, content_read, hears_datagram, after_reception, after_take, after_step, after_steps}
use Rattle.oca_pair.proofs.Words.{Renew, Beside, after_beside, with_link, is_no_lower, renewal_of, renewed_link, after_renewal, happenings, are_apart, StepFits, Fit, Execution, executions_for}
use Rattle.oca_pair.proofs.Words.{executions_under, WasSubmitted, WasTaken, copy_of, Departure, leaving, leaving_beside, departures_in, clock_at, ArrivesInTime, StepIsInTime, AreInTime}
use Rattle.oca_pair.proofs.Words.{IsAnswerOfOneExecution, accepted_in_session, each_map, same_is, same_turned, same_self, end_of, on_bool}
use Rattle.std.specs.List.{IsDistinct}
use Rattle.oca_device.specs.Events as events
use Rattle.oca_device.proofs.Messages.{executed_of}
use Rattle.oca_device.proofs.Sessions.{let_in_executed}
use Rattle.oca_device.proofs.Standing.{Stands, passing}
use Rattle.oca_pair.specs.Steps as steps
use Rattle.oca_pair.proofs.Core.{none_passes}
use Rattle.oca_pair.proofs.Lists.{contains_in, in_contains, each_at, each_in, other_is, mapped_at}
use Rattle.oca_pair.proofs.Wire.{IsSendable, read_command}
use Rattle.oca_pair.proofs.ByEvents.{stands_by}
use Rattle.oca_pair.proofs.Executions.{executed_for, executions_are}
use Rattle.oca_pair.proofs.Truths.{past, and_then, state_of, IsTrueAnswer}
use Rattle.oca_pair.proofs.Arrivals.{looked_at}
use Rattle.oca_pair.proofs.Renewing.{above_next}
use Rattle.oca_pair.proofs.Delivering.{held_answer}
use Rattle.oca_pair.proofs.Keeping.{handles_for}
use Rattle.oca_pair.proofs.Networks.{LinkSound, Sound, Apart, sound_step, sound_opening, sound_after}
use Rattle.oca_pair.proofs.Lawful.{only_one}
use Rattle.oca_pair.proofs.GettingThrough.{put_here, put_elsewhere}
use Rattle.oca_pair.proofs.Timed.{TimedBytes, TimedDeparture, Zeros, Timed, timed_behind, timed_due, timed_due_other, timed_beside, timed_submit, timed_received, timed_taken, timed_renewed, timed_elsewhere, accepted_then, timed_own}

-- ---- the network

-- the zeros of the clock of a peer's link and of the device's clock
abbrev pub zeros : Setup → Network → Peer → Zeros
zeros s n p = record { link = zero_of s p n; device = device_zero_of s n }

-- with an event more the device's clock shows no more
pub falls_behind : (s : Setup) (n : Network) (e : Event) → device_zero_of s n ≤ s.device_zero + all_left_out s.left_out (e ∷ n.events)
falls_behind s n e = omega arith

-- the link of this number is so
abbrev pub TimedAt : Setup → ℕ → List Departure → Network → Type 0
TimedAt s i left n = (l : PeerLink) → slice_get n.links i ≡ Some l → Timed (zeros s n l.peer) l.peer (end_of l.link.next) l.link.moment l.link.untaken left n.to_device (state_of (past n)).notes

-- a link of another number is of another peer
pub apart_at : (xs : List PeerLink) (k i : ℕ) (x z : PeerLink) → Apart xs → slice_get xs k ≡ Some x → slice_get xs i ≡ Some z → nat_eq k i ≡ false → x.peer ≢ z.peer
apart_at [] k i x z a e f other = cc
apart_at (y ∷ ys) zero zero x z a e f other = absurd (not_so other)
  where
    not_so : nat_eq 0 0 ≡ false → ⊥
    not_so q = cc
apart_at (y ∷ ys) zero (suc i) x z a e f other = let same : y ≡ x = same_Some y x e in λ h. each_at (λ (w : PeerLink). w.peer ≢ y.peer) ys i z a.0 f (sym h ∙ ap (λ (w : PeerLink). w.peer) (sym same))
apart_at (y ∷ ys) (suc k) zero x z a e f other = let same : y ≡ z = same_Some y z f in λ h. each_at (λ (w : PeerLink). w.peer ≢ y.peer) ys k x a.0 e (h ∙ ap (λ (w : PeerLink). w.peer) (sym same))
apart_at (y ∷ ys) (suc k) (suc i) x z a e f other = apart_at ys k i x z a.1 e f (fewer k i other)
  where
    fewer : (a b : ℕ) → nat_eq (suc a) (suc b) ≡ false → nat_eq a b ≡ false
    fewer a b q = grind (arith, nat_tests)

-- one link changes: what is so of it, and of the others
pub at_put : (P : PeerLink → Type 0) (i k : ℕ) (x y : PeerLink) (links : List PeerLink) → slice_get links k ≡ Some x → (k ≡ i → slice_get links i ≡ Some x → P y) →
    ((l : PeerLink) → nat_eq k i ≡ false → slice_get links i ≡ Some l → P l) → (l : PeerLink) → slice_get (slice_set links k y) i ≡ Some l → P l
at_put P i k x y links e mine others l own = on_bool (nat_eq k i) (λ b. nat_eq k i ≡ b → P l)
    (λ q. let is : k ≡ i = eqb-true k i q in let same : y ≡ l = same_Some y l (sym (put_here links i y x (here is)) ∙ ap (λ (j : ℕ). slice_get (slice_set links j y) i) (sym is) ∙ own) in subst P same (mine is (here is)))
    (λ q. others l q (sym (put_elsewhere links k i y q) ∙ own)) refl
  where
    here : k ≡ i → slice_get links i ≡ Some x
    here q = ap (λ (j : ℕ). slice_get links j) (sym q) ∙ e

timed_put : (s : Setup) (i k : ℕ) (x y : PeerLink) (left : List Departure) (n m : Network) → slice_get n.links k ≡ Some x → m.links ≡ slice_set n.links k y →
    (k ≡ i → slice_get n.links i ≡ Some x → Timed (zeros s m y.peer) y.peer (end_of y.link.next) y.link.moment y.link.untaken left m.to_device (state_of (past m)).notes) →
    ((l : PeerLink) → nat_eq k i ≡ false → slice_get n.links i ≡ Some l → Timed (zeros s m l.peer) l.peer (end_of l.link.next) l.link.moment l.link.untaken left m.to_device (state_of (past m)).notes) → TimedAt s i left m
timed_put s i k x y left n m e links mine others l own = at_put (λ z. Timed (zeros s m z.peer) z.peer (end_of z.link.next) z.link.moment z.link.untaken left m.to_device (state_of (past m)).notes) i k x y n.links e mine others l
    (ap (λ (xs : List PeerLink). slice_get xs i) (sym links) ∙ own)

-- the commands of a link can be sent
pub sendable_untaken : (s : Peer → ℕ) (n : Network) (l : PeerLink) → LinkSound s n l → AllByRecursion (λ (u : Untaken). IsSendable u.command) l.link.untaken
sendable_untaken s n l w = each_map (λ u h. (each_in _ _ n.submitted w.fair.sendable h.0 refl).0) l.link.untaken w.fair.untaken

timed_step_submit : (s : Setup) (i k : ℕ) (r : Request) (now : ℕ) (left : List Departure) (n : Network) → TimedAt s i left n → (o : Option PeerLink) → slice_get n.links k ≡ o → TimedAt s i left (after_submit k r now o n)
timed_step_submit s i k r now left n g None e = g
timed_step_submit s i k r now left n g (Some x) e =
    timed_put s i k x (record { peer = x.peer; link = after_submission (submission r x.link) r now x.link }) left n (after_submit k r now (Some x) n) e refl
    (λ is own. timed_submit (zeros s n x.peer) x.peer r now x.link left n.to_device (state_of (past n)).notes (g x own)) (λ l other own. g l own)

timed_step_take : (s : Setup) (i k h : ℕ) (left : List Departure) (n : Network) → TimedAt s i left n → (o : Option PeerLink) → slice_get n.links k ≡ o → TimedAt s i left (after_take k h o n)
timed_step_take s i k h left n g None e = g
timed_step_take s i k h left n g (Some x) e =
    timed_put s i k x (record { peer = x.peer; link = taken h x.link }) left n (after_take k h (Some x) n) e refl
    (λ is own. timed_taken (zeros s n x.peer) x.peer h x.link left n.to_device (state_of (past n)).notes (g x own)) (λ l other own. g l own)

timed_step_renewal : (s : Setup) (i k first span now origin : ℕ) (left : List Departure) (n : Network) → Sound s.span n → TimedAt s i left n → (o : Option PeerLink) → slice_get n.links k ≡ o →
    TimedAt s i left (after_renewal k first span now origin o n)
timed_step_renewal s i k first span now origin left n sound g None e = g
timed_step_renewal s i k first span now origin left n sound g (Some x) e = on_bool (is_no_lower first x.link.next) (λ b. is_no_lower first x.link.next ≡ b → TimedAt s i left (cond b m n))
    (λ q. timed_put s i k x y left n m e refl (λ is own. mine (above_next first x.link.next q) own) others) (λ q. g) refl
  where
    y : PeerLink
    y = record { peer = x.peer; link = renewed_link first span now x.link }

    m : Network
    m = record n { links = with_link k x (renewed_link first span now x.link) n.links; renewed = renewal_of x origin ∷ n.renewed }

    zero_by : (p : Peer) (b : Bool) → same_peer x.peer p ≡ b → zero_of s p m ≡ cond b origin (zero_of s p n)
    zero_by p b q = ap (λ c. cond c origin (zero_of s p n)) q

    mine : end_of x.link.next ≤ first → slice_get n.links i ≡ Some x → Timed (zeros s m x.peer) x.peer first now [] left n.to_device (state_of (past n)).notes
    mine above own =
        subst (λ (z : ℕ). Timed (record { link = z; device = device_zero_of s n }) x.peer first now [] left n.to_device (state_of (past n)).notes) (sym (zero_by x.peer true (same_self x.peer)))
        (timed_renewed (zeros s n x.peer) x.peer origin (end_of x.link.next) first x.link.moment now x.link.untaken left n.to_device (state_of (past n)).notes above (g x own))

    others : (l : PeerLink) → nat_eq k i ≡ false → slice_get n.links i ≡ Some l → Timed (zeros s m l.peer) l.peer (end_of l.link.next) l.link.moment l.link.untaken left n.to_device (state_of (past n)).notes
    others l other own =
        subst (λ (z : ℕ). Timed (record { link = z; device = device_zero_of s n }) l.peer (end_of l.link.next) l.link.moment l.link.untaken left n.to_device (state_of (past n)).notes)
        (sym (zero_by l.peer false (other_is x.peer l.peer (apart_at n.links k i x l sound.apart e own other)))) (g l own)

no_more : (zs : Zeros) (p : Peer) (end m : ℕ) (us : List Untaken) (left : List Departure) (out : List SentDatagram) (ns : List Note) → Timed zs p end m us left out ns → Timed zs p end m us (left ++ []) out ns
no_more zs p end m us left out ns g = rw append-nil g

timed_step_due : WrittenIsReadBack → (s : Setup) (i k now : ℕ) (left : List Departure) (n : Network) → Sound s.span n → StepIsInTime s i left (Due k now) n → TimedAt s i left n → (o : Option PeerLink) → slice_get n.links k ≡ o →
    TimedAt s i (left ++ leaving s n now o) (after_due_step k now o n)
timed_step_due law s i k now left n sound in_time g None e = λ l own. no_more (zeros s n l.peer) l.peer (end_of l.link.next) l.link.moment l.link.untaken left n.to_device (state_of (past n)).notes (g l own)
timed_step_due law s i k now left n sound in_time g (Some x) e =
    timed_put s i k x (record { peer = x.peer; link = gone_on now x.link }) (left ++ leaving s n now (Some x)) n (after_due_step k now (Some x) n) e refl
    (λ is own. timed_due law (zeros s n x.peer) x.peer now x.link left n.to_device (state_of (past n)).notes (sendable_untaken s.span n x (each_at (LinkSound s.span n) n.links i x sound.each own)) (in_time x is own) (g x own))
    (λ l other own. timed_due_other (zeros s n l.peer) l.peer x.peer (zero_of s x.peer n + present_moment now x.link) (end_of l.link.next) l.link.moment l.link.untaken (decision now x.link) left n.to_device (state_of (past n)).notes
    (apart_at n.links k i x l sound.apart e own other) (g l own))

timed_step_beside : WrittenIsReadBack → (s : Setup) (i now : ℕ) (left : List Departure) (n : Network) → TimedAt s i left n → (o : Option PeerLink) → TimedAt s i (left ++ leaving_beside s n now o) (after_beside o n)
timed_step_beside law s i now left n g None = λ l own. no_more (zeros s n l.peer) l.peer (end_of l.link.next) l.link.moment l.link.untaken left n.to_device (state_of (past n)).notes (g l own)
timed_step_beside law s i now left n g (Some x) = λ l own. timed_beside law (zeros s n l.peer) l.peer x.peer (zero_of s x.peer n + now) (end_of l.link.next) l.link.moment l.link.untaken left n.to_device (state_of (past n)).notes (g l own)

timed_step_reception : (s : Setup) (i now : ℕ) (left : List Departure) (n : Network) → TimedAt s i left n → (o : Option SentDatagram) → TimedAt s i left (after_reception now o n)
timed_step_reception s i now left n g None = g
timed_step_reception s i now left n g (Some d) = λ l own. let z = mapped_at (hears_datagram n.address d now) n.links i l own in
    subst (λ (y : PeerLink). Timed (zeros s n y.peer) y.peer (end_of y.link.next) y.link.moment y.link.untaken left n.to_device (state_of (past n)).notes) z.2 (one z.0 (same_peer z.0.peer d.peer) (g z.0 z.1))
  where
    one : (z : PeerLink) (b : Bool) → Timed (zeros s n z.peer) z.peer (end_of z.link.next) z.link.moment z.link.untaken left n.to_device (state_of (past n)).notes →
        let y : PeerLink = cond b (record { peer = z.peer; link = received n.address (content_read d.bytes) now z.link }) z in
        Timed (zeros s n y.peer) y.peer (end_of y.link.next) y.link.moment y.link.untaken left n.to_device (state_of (past n)).notes
    one z true f = timed_received n.address (zeros s n z.peer) z.peer (content_read d.bytes) now z.link left n.to_device (state_of (past n)).notes f
    one z false f = f

-- the device's clock when a datagram comes
pub clock_is : (now : ℕ) (n : Network) → (looked_at now (past n)).moment ≡ clock_at now n
clock_is now n = let stands1 : Stands n.sizes n.tree (looked_at now (past n)) (Passes now ∷ happenings n.events) = passing n.sizes n.tree now (state_of (past n)) (happenings n.events) (stands_by n.sizes n.tree n.events) in stands1.clock_is

timed_step_delivery : (s : Setup) (i k now : ℕ) (left : List Departure) (n : Network) → StepIsInTime s i left (ToDevice k now) n → TimedAt s i left n → (o : Option SentDatagram) → slice_get n.to_device k ≡ o →
    TimedAt s i left (after_delivery now o n)
timed_step_delivery s i k now left n in_time g None e = g
timed_step_delivery s i k now left n in_time g (Some d) e = λ l own. behind l (by_test l own (same_peer d.peer l.peer) refl)
  where
    m : Network
    m = after_delivery now (Some d) n

    behind : (l : PeerLink) → Timed (zeros s n l.peer) l.peer (end_of l.link.next) l.link.moment l.link.untaken left n.to_device (state_of (past m)).notes →
        Timed (zeros s m l.peer) l.peer (end_of l.link.next) l.link.moment l.link.untaken left m.to_device (state_of (past m)).notes
    behind l f = timed_behind (zeros s n l.peer) (device_zero_of s m) l.peer (end_of l.link.next) l.link.moment l.link.untaken left n.to_device (state_of (past m)).notes (falls_behind s n (Datagram d.peer d.bytes now)) f

    by_test : (l : PeerLink) → slice_get n.links i ≡ Some l → (b : Bool) → same_peer d.peer l.peer ≡ b →
        Timed (zeros s n l.peer) l.peer (end_of l.link.next) l.link.moment l.link.untaken left n.to_device (state_of (and_then (Datagram d.peer d.bytes now) (past n))).notes
    by_test l own true q =
        let f : Timed (zeros s n l.peer) l.peer (end_of l.link.next) l.link.moment l.link.untaken left n.to_device (state_of (past n)).notes = g l own in
        let same : d.peer ≡ l.peer = same_is d.peer l.peer q in
        let at = mapped_at (λ (x : Departure). x.datagram) left k d (ap (λ (xs : List SentDatagram). slice_get xs k) f.are ∙ e) in
        let its : at.0.datagram.peer ≡ l.peer = ap (λ (x : SentDatagram). x.peer) at.2 ∙ same in
        let timed : TimedBytes f.born (end_of l.link.next) at.0.at at.0.datagram.bytes = each_at (TimedDeparture f.born (end_of l.link.next) l.peer) left k at.0 f.departures at.1 its in
        let came : ArrivesInTime at.0.at (device_zero_of s n + clock_at now n) = in_time l at.0 own at.1 its in
        subst (λ (p : Peer). Timed (zeros s n l.peer) l.peer (end_of l.link.next) l.link.moment l.link.untaken left n.to_device (state_of (and_then (Datagram p d.bytes now) (past n))).notes) (sym same)
        (timed_own (zeros s n l.peer) l.peer (end_of l.link.next) l.link.moment l.link.untaken left n.to_device (past n) d.bytes now at.0.at f
        (subst (λ (bytes : List ℕ). TimedBytes f.born (end_of l.link.next) at.0.at bytes) (ap (λ (x : SentDatagram). x.bytes) at.2) timed)
        (subst (λ (t : ℕ). ArrivesInTime at.0.at (device_zero_of s n + t)) (sym (clock_is now n)) came))
    by_test l own false q = timed_elsewhere (zeros s n l.peer) l.peer d.peer (end_of l.link.next) l.link.moment l.link.untaken left n.to_device (past n) d.bytes now q (g l own)

timed_step_other : (s : Setup) (i : ℕ) (from : Peer) (bytes : List ℕ) (now : ℕ) (left : List Departure) (n : Network) → TimedAt s i left n → TimedAt s i left (after_step (Other from bytes now) n)
timed_step_other s i from bytes now left n g = on_bool (has_link from n.links) (λ b. has_link from n.links ≡ b → TimedAt s i left (cond b n (record n { events = Datagram from bytes now ∷ n.events })))
    (λ q. g)
    (λ q. λ l own. timed_behind (zeros s n l.peer) (s.device_zero + all_left_out s.left_out (Datagram from bytes now ∷ n.events)) l.peer (end_of l.link.next) l.link.moment l.link.untaken left n.to_device
    (state_of (and_then (Datagram from bytes now) (past n))).notes (falls_behind s n (Datagram from bytes now)) (timed_elsewhere (zeros s n l.peer) l.peer from
    (end_of l.link.next) l.link.moment l.link.untaken left n.to_device (past n) bytes now (same_turned from l.peer ∙ each_at (λ (z : PeerLink). same_peer z.peer from ≡ false) n.links i l (none_passes
    (λ (z : PeerLink). same_peer z.peer from) n.links q) own) (g l own))) refl

pub timed_step : WrittenIsReadBack → (s : Setup) (i : ℕ) (left : List Departure) (step : Step) (n : Network) → Sound s.span n → StepIsInTime s i left step n → TimedAt s i left n → TimedAt s i (left ++ departures_in s step n) (after_step step n)
timed_step law s i left step n sound in_time g = one step in_time
  where
    none : (m : Network) → TimedAt s i left m → TimedAt s i (left ++ []) m
    none m f l own = no_more (zeros s m l.peer) l.peer (end_of l.link.next) l.link.moment l.link.untaken left m.to_device (state_of (past m)).notes (f l own)

    behind : (e : Event) (l : PeerLink) → Timed (zeros s n l.peer) l.peer (end_of l.link.next) l.link.moment l.link.untaken left n.to_device (state_of (past n)).notes →
        Timed (record { link = zero_of s l.peer n; device = s.device_zero + all_left_out s.left_out (e ∷ n.events) }) l.peer (end_of l.link.next) l.link.moment l.link.untaken left n.to_device (state_of (past n)).notes
    behind e l f = timed_behind (zeros s n l.peer) (s.device_zero + all_left_out s.left_out (e ∷ n.events)) l.peer (end_of l.link.next) l.link.moment l.link.untaken left n.to_device (state_of (past n)).notes (falls_behind s n e) f

    one : (step : Step) → StepIsInTime s i left step n → TimedAt s i (left ++ departures_in s step n) (after_step step n)
    one (Submit k r now) t = none (after_step (Submit k r now) n) (timed_step_submit s i k r now left n g (slice_get n.links k) refl)
    one (Due k now) t = timed_step_due law s i k now left n sound t g (slice_get n.links k) refl
    one (ToDevice k now) t = none (after_step (ToDevice k now) n) (timed_step_delivery s i k now left n t g (slice_get n.to_device k) refl)
    one (ToLink k now) t = none (after_step (ToLink k now) n) (timed_step_reception s i now left n g (slice_get n.to_links k))
    one (Other from bytes now) t = none (after_step (Other from bytes now) n) (timed_step_other s i from bytes now left n g)
    one (steps.Tick now) t = none (after_step (steps.Tick now) n) (λ l own. behind (events.Tick now) l (g l own))
    one (steps.Local ono change) t = none (after_step (steps.Local ono change) n) (λ l own. behind (events.Local ono change) l (g l own))
    one (Take k h) t = none (after_step (Take k h) n) (timed_step_take s i k h left n g (slice_get n.links k) refl)
    one (Renew k first span now origin) t = none (after_step (Renew k first span now origin) n) (timed_step_renewal s i k first span now origin left n sound g (slice_get n.links k) refl)
    one (Beside k now) t = timed_step_beside law s i now left n g (slice_get n.links k)

-- what left with the steps
abbrev pub departed : Setup → List Departure → List Step → Network → List Departure
departed s left [] n = left
departed s left (step ∷ es) n = departed s (left ++ departures_in s step n) es (after_step step n)

pub timed_steps : (law : WrittenIsReadBack) (s : Setup) (i : ℕ) (left : List Departure) (es : List Step) (n : Network) → AllByRecursion StepFits es → Sound s.span n → AreInTime s i left es n → TimedAt s i left n →
    TimedAt s i (departed s left es n) (after_steps es n)
timed_steps law s i left [] n fits sound in_time g = g
timed_steps law s i left (e ∷ es) n fits sound in_time g =
    timed_steps law s i (left ++ departures_in s e n) es (after_step e n) fits.1 (sound_step law s.span e n fits.0 sound) in_time.1 (timed_step law s i left e n sound in_time.0 g)

pub timed_opening : (w : DeviceSizes) (s : Setup) (tree : List Object) (starts : List Start) (i : ℕ) → TimedAt s i [] (opening w s tree starts)
unfolding IsDistinct
timed_opening w s tree starts i l own =
    let z = mapped_at (started s) starts i l own in
    subst (λ (y : PeerLink). Timed (zeros s (opening w s tree starts) y.peer) y.peer (end_of y.link.next) y.link.moment y.link.untaken [] [] []) z.2
    (record { born = λ x. 0; are = refl; untaken = tt; departures = tt; executed = tt; once = tt })

pub timed_after : (law : WrittenIsReadBack) (w : DeviceSizes) (s : Setup) (tree : List Object) (starts : List Start) (es : List Step) (i : ℕ) → are_apart s.address starts ≡ true → Fit starts es →
    AreInTime s i [] es (opening w s tree starts) → TimedAt s i (departed s [] es (opening w s tree starts)) (after_steps es (opening w s tree starts))
timed_after law w s tree starts es i apart fit in_time =
    timed_steps law s i [] es (opening w s tree starts) fit.1 (sound_opening w s tree starts apart fit.0) in_time (timed_opening w s tree starts i)

-- ---- the law

pub once_in_time : WrittenIsReadBack → (w : DeviceSizes) (s : Setup) (tree : List Object) (starts : List Start) (es : List Step) (i : ℕ) (l : PeerLink) → are_apart s.address starts ≡ true → Fit starts es →
    AreInTime s i [] es (opening w s tree starts) → slice_get (after_steps es (opening w s tree starts)).links i ≡ Some l →
    IsDistinct eqb (map (λ (x : Execution). x.command.handle) (executions_for l.peer (after_steps es (opening w s tree starts))))
once_in_time law w s tree starts es i l apart fit in_time own =
    let n : Network = after_steps es (opening w s tree starts) in
    subst (λ (xs : List Execution). IsDistinct eqb (map (λ (x : Execution). x.command.handle) xs)) (sym (executions_are n.sizes l.peer n.tree n.events))
    (timed_after law w s tree starts es i apart fit in_time l own).once

pub answers_in_time : WrittenIsReadBack → (w : DeviceSizes) (s : Setup) (tree : List Object) (starts : List Start) (es : List Step) (i : ℕ) (l : PeerLink) (h : ℕ) (a : AnswerFields) → are_apart s.address starts ≡ true → Fit starts es →
    AreInTime s i [] es (opening w s tree starts) → slice_get (after_steps es (opening w s tree starts)).links i ≡ Some l →
    (answer_under h l.link.untaken ≡ Some a) ⊎ WasTaken l.peer h a (after_steps es (opening w s tree starts)).taken → IsAnswerOfOneExecution l.peer h a (after_steps es (opening w s tree starts))
answers_in_time law w s tree starts es i l h a apart fit in_time own which = elim which [
  | inl held ↦ of_one (rw held at (held_answer l.peer (past n) h l.link.untaken of.fair.untaken))
  | inr was ↦ of_one (each_in (λ (t : TakenAnswer). t.peer ≡ l.peer → IsTrueAnswer l.peer t.handle t.answer (past n)) _ n.taken of.fair.was_taken (contains_in _ n.taken was) refl)
]
  where
    n : Network
    n = after_steps es (opening w s tree starts)

    of : LinkSound s.span n l
    of = each_at (LinkSound s.span n) n.links i l (sound_after law w s tree starts es apart fit).each own

    of_one : IsTrueAnswer l.peer h a (past n) → IsAnswerOfOneExecution l.peer h a n
    of_one t = record {
      execution = t.execution;
      only = subst (λ (xs : List Execution). executions_under h xs ≡ t.execution ∷ []) (sym (executions_are n.sizes l.peer n.tree n.events))
          (only_one h t.execution (executed_for l.peer (state_of (past n)).notes) (timed_after law w s tree starts es i apart fit in_time l own).once t.executed t.handle);
      submitted = in_contains _ n.submitted t.honest.submitted;
      answer_is = t.answer_is;
    }

-- the last of the steps
pub last_in_time : (s : Setup) (i : ℕ) (left : List Departure) (es : List Step) (step : Step) (n : Network) → AreInTime s i left (es ++ step ∷ []) n → AreInTime s i left es n × StepIsInTime s i (departed s left es n) step (after_steps es n)
last_in_time s i left [] step n a = (tt, a.0)
last_in_time s i left (e ∷ es) step n a = let rest = last_in_time s i (left ++ departures_in s e n) es step (after_step e n) a.1 in ((a.0, rest.0), rest.1)

any_mapped : {X Y : Type 0} (f : X → Y) (test : Y → Bool) (xs : List X) → list_any test (map f xs) ≡ list_any (λ x. test (f x)) xs
any_mapped f test [] = refl
any_mapped f test (x ∷ xs) = ap (λ b. test (f x) || b) (any_mapped f test xs)

pub session_in_time : WrittenIsReadBack → (w : DeviceSizes) (s : Setup) (tree : List Object) (starts : List Start) (es : List Step) (i k now : ℕ) (l : PeerLink) (c : CommandFields) → are_apart s.address starts ≡ true → Fit starts es →
    AreInTime s i [] (es ++ ToDevice k now ∷ []) (opening w s tree starts) → slice_get (after_steps es (opening w s tree starts)).links i ≡ Some l →
    WasSubmitted l.peer c (after_steps es (opening w s tree starts)).submitted → slice_get (after_steps es (opening w s tree starts)).to_device k ≡ Some (copy_of l.peer c) →
    list_any (λ (x : Execution). nat_eq x.command.handle c.handle) (executions_for l.peer (after_steps es (opening w s tree starts))) ≡ true →
    list_any (λ (x : CommandFields). nat_eq x.handle c.handle) (accepted_in_session l.peer now (after_steps es (opening w s tree starts))) ≡ true
session_in_time law w s tree starts es i k now l c apart fit in_time own submitted there was = by_kind timed
  where
    n : Network
    n = after_steps es (opening w s tree starts)

    left : List Departure
    left = departed s [] es (opening w s tree starts)

    parts : AreInTime s i [] es (opening w s tree starts) × StepIsInTime s i left (ToDevice k now) n
    parts = last_in_time s i [] es (ToDevice k now) (opening w s tree starts) in_time

    of : LinkSound s.span n l
    of = each_at (LinkSound s.span n) n.links i l (sound_after law w s tree starts es apart fit).each own

    f : Timed (zeros s n l.peer) l.peer (end_of l.link.next) l.link.moment l.link.untaken left n.to_device (state_of (past n)).notes
    f = timed_after law w s tree starts es i apart fit parts.0 l own

    s1 : State
    s1 = looked_at now (past n)

    x : (x : Departure) × (slice_get left k ≡ Some x) × (x.datagram ≡ copy_of l.peer c)
    x = mapped_at (λ (x : Departure). x.datagram) left k (copy_of l.peer c) (ap (λ (xs : List SentDatagram). slice_get xs k) f.are ∙ there)

    its : x.0.datagram.peer ≡ l.peer
    its = ap (λ (d : SentDatagram). d.peer) x.2

    timed : TimedBytes f.born (end_of l.link.next) x.0.at (copy_of l.peer c).bytes
    timed = subst (λ (d : SentDatagram). TimedBytes f.born (end_of l.link.next) x.0.at d.bytes) x.2 (each_at (TimedDeparture f.born (end_of l.link.next) l.peer) left k x.0 f.departures x.1 its)

    came : ArrivesInTime x.0.at (device_zero_of s n + s1.moment)
    came = subst (λ (t : ℕ). ArrivesInTime x.0.at (device_zero_of s n + t)) (sym (clock_is now n)) (parts.1 l x.0 own x.1 its)

    read : read_datagram (copy_of l.peer c).bytes ≡ Ok (Command true c ∷ [])
    read = read_command law c (each_in (λ (y : SubmittedCommand). y.peer ≡ l.peer → IsSendable y.command × (y.command.handle < end_of l.link.next)) _ n.submitted of.fair.sendable (contains_in _ n.submitted submitted) refl).0

    command_is : (a b : CommandFields) (r : Result (List Msg) PduFault) → r ≡ Ok (Command true a ∷ []) → r ≡ Ok (Command true b ∷ []) → a ≡ b
    command_is a b r p q = cc

    not_both : {X : Type 0} (a : CommandFields) (form : Form) (r : Result (List Msg) PduFault) → r ≡ Ok (Command true a ∷ []) → r ≡ Ok (KeepAlive form ∷ []) → X
    not_both a form r p q = cc

    stands1 : Stands n.sizes n.tree s1 (Passes now ∷ happenings n.events)
    stands1 = passing n.sizes n.tree now (state_of (past n)) (happenings n.events) (stands_by n.sizes n.tree n.events)

    -- what was executed in the session that the peer has
    accepted_are : executed_of l.peer (noted l.peer (Admitted []) s1).notes ≡ accepted_in_session l.peer now n
    accepted_are = let_in_executed n.sizes l.peer [] s1 (admitted n.sizes (happenings n.events)) (stands1.bridged.each l.peer)
        ∙ ap (λ (t : ℕ). accepted_by n.sizes t l.peer (admitted n.sizes (happenings n.events))) (clock_is now n)

    executed : list_any (λ y. eqb y c.handle) (handles_for l.peer (state_of (past n)).notes) ≡ true
    executed = any_mapped (λ (x : Execution). x.command.handle) (λ y. eqb y c.handle) (executed_for l.peer (state_of (past n)).notes)
        ∙ ap (λ (xs : List Execution). list_any (λ (x : Execution). nat_eq x.command.handle c.handle) xs) (sym (executions_are n.sizes l.peer n.tree n.events)) ∙ was

    by_kind : TimedBytes f.born (end_of l.link.next) x.0.at (copy_of l.peer c).bytes → list_any (λ (x : CommandFields). nat_eq x.handle c.handle) (accepted_in_session l.peer now n) ≡ true
    by_kind (inl (d, read', i)) =
        let same : d ≡ c = command_is d c _ read' read in
        let late : x.0.at ≤ f.born c.handle + longest_life = subst (λ (y : CommandFields). x.0.at ≤ f.born y.handle + longest_life) same i.not_late in
        ap (λ (xs : List CommandFields). list_any (λ (x : CommandFields). nat_eq x.handle c.handle) xs) (sym accepted_are)
        ∙ any_mapped (λ (e : Entry). e.command) (λ (x : CommandFields). nat_eq x.handle c.handle) (accepted (run l.peer (noted l.peer (Admitted []) s1).notes))
        ∙ accepted_then (zeros s n l.peer) l.peer (end_of l.link.next) l.link.moment l.link.untaken left n.to_device (past n) now x.0.at c.handle [] f late came.not_late executed
    by_kind (inr (form, alive)) = not_both c form _ read alive

-- What is known of one link that is in time: when its commands were submitted, left and were executed; and that each of its own
-- steps and each datagram keeps it.
use Rattle.oca_pair.proofs.Words.{◌≡◌, ℕ, ◌+◌, ◌-◌, ◌<◌, ◌≤◌, ◌≢◌, Bool, true, false, cond, List, [], ◌∷◌, ◌++◌, Option, Some, None, refl, sym, ap, ◌∙◌, subst, arith, ◌⊎◌, inl, inr, nat_eq, nat_lt}
use Rattle.oca_pair.proofs.Words.{equal_self, unequal, nat_le, not, ◌&&◌, ◌||◌, map, is_none, is_some, Result, Ok, Err, list_any, AllByRecursion, eqb, nat_tests, le-max_left, le_refl, and_parts, eqb-true, Peer, Handle}
use Rattle.oca_pair.proofs.Words.{Reply, same_peer, CommandFields, Form, Seconds, Msg, Command, Response, KeepAlive, read_datagram, WrittenIsReadBack, Object, Judgement, Fresh, Duplicate, Reused, Old}
use Rattle.oca_pair.proofs.Words.{longest_silence, Datagram, Noted, Admitted, Heartbeat, Executed, Note, notes_of, unbroken, run, accepted, State, noted, admits, judged_in, reply_of, after_command}
use Rattle.oca_pair.proofs.Words.{after_message, time_of, ControlFault, AnswerFields, answer_of_response, longest_life, Untaken, new_untaken, is_due, is_late, first_due, marked_sent, answered}
use Rattle.oca_pair.proofs.Words.{hears_all, answer_under, without_handle, LinkState, Request, command_under, submission, handle_after, after_submission, Decision, GivesCommand, GivesKeepAlive}
use Rattle.oca_pair.proofs.Words.{GivesNothing, IsLost, decision_among, decision, after_due, gone_on, hears_content, received, taken, present_moment, late_at, SentDatagram, sendings_in, given_by}
use Rattle.oca_pair.proofs.Words.{Execution, Departure, longest_delay, ArrivesInTime, each_map, each_append, same_is, end_of, end_after, on_bool}
use Rattle.std.specs.List.{IsDistinct}
use Rattle.oca_pair.proofs.Core.{has, none_passes}
use Rattle.oca_pair.proofs.Lists.{IsIn, each_in, other_of, flipped}
use Rattle.oca_pair.proofs.Wire.{IsSendable, read_command, read_keep_alive}
use Rattle.oca_pair.proofs.Clocks.{Grows, grows_reading}
use Rattle.oca_pair.proofs.Executions.{executed_in, executed_for}
use Rattle.oca_pair.proofs.Truths.{Past, and_then, state_of}
use Rattle.oca_pair.proofs.Ordered.{AreOrdered, ordered_till, ordered_after, ordered_of, WasNoted, WereNoted, still_accepted}
use Rattle.oca_pair.proofs.Arrivals.{looked_at}
use Rattle.oca_pair.proofs.Fair.{judged_fresh}
use Rattle.oca_pair.proofs.Delivering.{let_in, after_read, granted}
use Rattle.oca_pair.proofs.Keeping.{handles_for, notes_noted, executed_noted}

-- ---- what is known of when commands were submitted: `born` says it of each handle, by the common clock, and the handles
-- below `end` were given

-- an untaken command knows its submit, by its link's clock, which showed 0 at this moment of the common clock
abbrev pub TimedUntaken : ℕ → (ℕ → ℕ) → ℕ → ℕ → Untaken → Type 0
TimedUntaken origin born end m u = (born u.command.handle ≡ origin + u.submitted) × (u.submitted ≤ m) × (u.command.handle < end)

-- A copy left no earlier than its submit, and at most 15,000 ms later.
pub record LeftInTime (born : ℕ → ℕ) (end at h : ℕ) : Type 0 where
  pub not_before : born h ≤ at
  pub not_late : at ≤ born h + longest_life
  pub below : h < end

abbrev pub TimedBytes : (ℕ → ℕ) → ℕ → ℕ → List ℕ → Type 0
TimedBytes born end at bytes =
    ((c : CommandFields) × (read_datagram bytes ≡ Ok (Command true c ∷ [])) × LeftInTime born end at c.handle) ⊎ ((form : Form) × (read_datagram bytes ≡ Ok (KeepAlive form ∷ [])))

abbrev pub TimedDeparture : (ℕ → ℕ) → ℕ → Peer → Departure → Type 0
TimedDeparture born end p x = x.datagram.peer ≡ p → TimedBytes born end x.at x.datagram.bytes

-- nothing was executed before its submit
abbrev pub TimedNoted : (ℕ → ℕ) → ℕ → ℕ → Noted → Type 0
TimedNoted born end at (Executed objects c r) = (born c.handle ≤ at) × (c.handle < end)
TimedNoted born end at _ = Unit {0}

abbrev pub TimedNote : (ℕ → ℕ) → ℕ → Peer → Note → Type 0
TimedNote born end p n = n.peer ≡ p → TimedNoted born end n.at n.what

-- when the link's clock and the device's showed 0, by a common clock
pub record Zeros : Type 0 where
  pub link : ℕ
  pub device : ℕ

-- what the device's clock shows at this moment of the common clock
abbrev pub by_device : Zeros → ℕ → ℕ
by_device zs t = t - zs.device

-- of a link of this peer with this next handle, moment and untaken commands
pub record Timed (zs : Zeros) (p : Peer) (end m : ℕ) (us : List Untaken) (left : List Departure) (out : List SentDatagram) (ns : List Note) : Type 0 where
  pub born : ℕ → ℕ
  pub are : map (λ (x : Departure). x.datagram) left ≡ out
  pub untaken : AllByRecursion (TimedUntaken zs.link born end m) us
  pub departures : AllByRecursion (TimedDeparture born end p) left
  pub executed : AllByRecursion (TimedNote (λ h. by_device zs (born h)) end p) ns
  pub once : IsDistinct eqb (handles_for p ns)

-- the device's clock falls behind
pub timed_behind : (zs : Zeros) (d : ℕ) (p : Peer) (end m : ℕ) (us : List Untaken) (left : List Departure) (out : List SentDatagram) (ns : List Note) → zs.device ≤ d → Timed zs p end m us left out ns → Timed (record { link = zs.link; device = d }) p end m us left out ns
timed_behind zs d p end m us left out ns le g = record {
  born = g.born;
  are = g.are;
  untaken = g.untaken;
  departures = g.departures;
  executed = each_map (λ n a same. still n.what n.at (a same)) ns g.executed;
  once = g.once;
}
  where
    earlier : (b at : ℕ) → b - zs.device ≤ at → b - d ≤ at
    earlier b at q = omega arith

    still : (what : Noted) (at : ℕ) → TimedNoted (λ h. by_device zs (g.born h)) end at what → TimedNoted (λ h. by_device (record { link = zs.link; device = d }) (g.born h)) end at what
    still (Executed objects c r) at a = (earlier (g.born c.handle) at a.0, a.1)
    still _ at a = tt

-- ---- untaken commands

untaken_later : (origin : ℕ) (born : ℕ → ℕ) (end m m' : ℕ) (us : List Untaken) → m ≤ m' → AllByRecursion (TimedUntaken origin born end m) us → AllByRecursion (TimedUntaken origin born end m') us
untaken_later origin born end m m' us le a = each_map (λ u h. (h.0, later u.submitted h.1, h.2)) us a
  where
    later : (x : ℕ) → x ≤ m → x ≤ m'
    later x q = omega arith

untaken_marked_sent : (origin : ℕ) (born : ℕ → ℕ) (end m t h : ℕ) (us : List Untaken) → AllByRecursion (TimedUntaken origin born end m) us → AllByRecursion (TimedUntaken origin born end m) (map (marked_sent t h) us)
untaken_marked_sent origin born end m t h [] a = tt
untaken_marked_sent origin born end m t h (u ∷ us) a = ((a.0.0, a.0.1, a.0.2), untaken_marked_sent origin born end m t h us a.1)

untaken_answered : (origin : ℕ) (born : ℕ → ℕ) (end m h : ℕ) (x : AnswerFields) (us : List Untaken) → AllByRecursion (TimedUntaken origin born end m) us → AllByRecursion (TimedUntaken origin born end m) (map (answered h x) us)
untaken_answered origin born end m h x [] a = tt
untaken_answered origin born end m h x (u ∷ us) a = ((a.0.0, a.0.1, a.0.2), untaken_answered origin born end m h x us a.1)

untaken_heard : (origin : ℕ) (born : ℕ → ℕ) (end m : ℕ) (ms : List Msg) (us : List Untaken) → AllByRecursion (TimedUntaken origin born end m) us → AllByRecursion (TimedUntaken origin born end m) (hears_all ms us)
untaken_heard origin born end m [] us a = a
untaken_heard origin born end m (Response r ∷ ms) us a = untaken_heard origin born end m ms (map (answered r.handle (answer_of_response r)) us) (untaken_answered origin born end m r.handle (answer_of_response r) us a)
untaken_heard origin born end m (KeepAlive form ∷ ms) us a = untaken_heard origin born end m ms us a
untaken_heard origin born end m (Command respond c ∷ ms) us a = untaken_heard origin born end m ms us a

untaken_without : (origin : ℕ) (born : ℕ → ℕ) (end m h : ℕ) (us : List Untaken) → AllByRecursion (TimedUntaken origin born end m) us → AllByRecursion (TimedUntaken origin born end m) (without_handle h us)
untaken_without origin born end m h [] a = tt
untaken_without origin born end m h (u ∷ us) a =
    on_bool (nat_eq u.command.handle h) (λ b. AllByRecursion (TimedUntaken origin born end m) (without_handle h us) → AllByRecursion (TimedUntaken origin born end m) (cond (not b) (u ∷ without_handle h us) (without_handle h us)))
    (λ rest. rest) (λ rest. (a.0, rest)) (untaken_without origin born end m h us a.1)

-- ---- the link's own steps

-- the link changes, and submits nothing
timed_link : (zs : Zeros) (p : Peer) (end m m' : ℕ) (us vs : List Untaken) (left : List Departure) (out : List SentDatagram) (ns : List Note) → m ≤ m' →
    ((born : ℕ → ℕ) → AllByRecursion (TimedUntaken zs.link born end m') us → AllByRecursion (TimedUntaken zs.link born end m') vs) → Timed zs p end m us left out ns → Timed zs p end m' vs left out ns
timed_link zs p end m m' us vs left out ns later kept g = record {
  born = g.born;
  are = g.are;
  untaken = kept g.born (untaken_later zs.link g.born end m m' us later g.untaken);
  departures = g.departures;
  executed = g.executed;
  once = g.once;
}

-- more leaves
timed_more : (zs : Zeros) (p : Peer) (end m : ℕ) (us : List Untaken) (left more : List Departure) (out more' : List SentDatagram) (ns : List Note) → map (λ (x : Departure). x.datagram) more ≡ more' →
    (g : Timed zs p end m us left out ns) → AllByRecursion (TimedDeparture g.born end p) more → Timed zs p end m us (left ++ more) (out ++ more') ns
timed_more zs p end m us left more out more' ns are g new = record {
  born = g.born;
  are = mapped left ∙ ap (λ (xs : List SentDatagram). map (λ (x : Departure). x.datagram) left ++ xs) are ∙ ap (λ (xs : List SentDatagram). xs ++ more') g.are;
  untaken = g.untaken;
  departures = each_append _ left more g.departures new;
  executed = g.executed;
  once = g.once;
}
  where
    mapped : (xs : List Departure) → map (λ (x : Departure). x.datagram) (xs ++ more) ≡ map (λ (x : Departure). x.datagram) xs ++ map (λ (x : Departure). x.datagram) more
    mapped [] = refl
    mapped (x ∷ xs) = ap (λ (ys : List SentDatagram). x.datagram ∷ ys) (mapped xs)

-- the departures of a decision
abbrev of_decision : Peer → ℕ → Decision → List Departure
of_decision p t d = map (λ bytes. record { datagram = record { peer = p; bytes = bytes }; at = t }) (given_by d)

of_decision_are : (p : Peer) (t : ℕ) (d : Decision) → map (λ (x : Departure). x.datagram) (of_decision p t d) ≡ sendings_in p (given_by d)
of_decision_are p t (GivesCommand c) = refl
of_decision_are p t _ = refl

pub first_due_in : (t : ℕ) (us : List Untaken) (u : Untaken) → first_due t us ≡ Some u → IsIn u us × (is_due t u ≡ true)
first_due_in t [] u e = cc
first_due_in t (x ∷ xs) u e = by_test (first_due_in t xs u) (is_due t x) refl e
  where
    by_test : (first_due t xs ≡ Some u → IsIn u xs × (is_due t u ≡ true)) → (b : Bool) → is_due t x ≡ b → cond b (Some x) (first_due t xs) ≡ Some u → ((x ≡ u) ⊎ IsIn u xs) × (is_due t u ≡ true)
    by_test rest true q e = let same : x ≡ u = cc in (inl same, ap (is_due t) (sym same) ∙ q)
    by_test rest false q e = let r = rest e in (inr r.0, r.1)

-- what is due of a link that is not late leaves in time
leaves_in_time : (origin : ℕ) (born : ℕ → ℕ) (end m t : ℕ) (us : List Untaken) (u : Untaken) → m ≤ t → AllByRecursion (TimedUntaken origin born end m) us → list_any (is_late t) us ≡ false → first_due t us ≡ Some u →
    LeftInTime born end (origin + t) u.command.handle
leaves_in_time origin born end m t us u later a none first =
    let i = first_due_in t us u first in
    let its : TimedUntaken origin born end m u = each_in (TimedUntaken origin born end m) u us a i.0 in
    let not_late : is_late t u ≡ false = each_in (λ x. is_late t x ≡ false) u us (none_passes (is_late t) us none) i.0 in
    let unanswered : is_none u.answer ≡ true = (and_parts (is_none u.answer) _ i.1).0 in
    let young : nat_lt longest_life (t - u.submitted) ≡ false = second (is_none u.answer) (nat_lt longest_life (t - u.submitted)) unanswered not_late in
    record { not_before = at_least u.submitted (born u.command.handle) its.0 its.1; not_late = at_most u.submitted (born u.command.handle) its.0 young; below = its.2 }
  where
    second : (x y : Bool) → x ≡ true → (x && y) ≡ false → y ≡ false
    second x y p q = cc

    at_least : (x b : ℕ) → b ≡ origin + x → x ≤ m → b ≤ origin + t
    at_least x b e q = omega arith

    at_most : (x b : ℕ) → b ≡ origin + x → nat_lt longest_life (t - x) ≡ false → origin + t ≤ b + longest_life
    at_most x b e q = grind (arith, nat_tests)

timed_leaving : WrittenIsReadBack → (p : Peer) (origin now : ℕ) (l : LinkState) (born : ℕ → ℕ) (end : ℕ) → AllByRecursion (TimedUntaken origin born end l.moment) l.untaken → AllByRecursion (λ (u : Untaken). IsSendable u.command) l.untaken →
    late_at now l ≡ false → AllByRecursion (TimedDeparture born end p) (of_decision p (origin + present_moment now l) (decision now l))
timed_leaving law p origin now l born end a sendable none = on_bool l.lost (λ b. AreTimed (cond b IsLost (decision_among t l.sent (first_due t l.untaken)))) tt (by_first (first_due t l.untaken) refl)
  where
    t : ℕ
    t = present_moment now l

    AreTimed : Decision → Type 0
    AreTimed d = AllByRecursion (TimedDeparture born end p) (of_decision p (origin + t) d)

    by_many : (u : Untaken) → first_due t l.untaken ≡ Some u → (b : Bool) → AreTimed (cond b (GivesCommand u.command) IsLost)
    by_many u first true = (
      (λ same. inl (
        u.command,
        read_command law u.command (each_in (λ (x : Untaken). IsSendable x.command) u l.untaken sendable (first_due_in t l.untaken u first).0),
        leaves_in_time origin born end l.moment t l.untaken u (le-max_left l.moment now) a none first,
      )),
      tt,
    )
    by_many u first false = tt

    by_quiet : (b : Bool) → AreTimed (cond b GivesKeepAlive GivesNothing)
    by_quiet true = ((λ same. inr (Seconds 5, read_keep_alive law)), tt)
    by_quiet false = tt

    by_first : (o : Option Untaken) → first_due t l.untaken ≡ o → AreTimed (decision_among t l.sent o)
    by_first None e = by_quiet (nat_le 2500 (t - l.sent))
    by_first (Some u) e = by_many u e (nat_lt u.times 20)

-- the link is asked what is due
pub timed_due : WrittenIsReadBack → (zs : Zeros) (p : Peer) (now : ℕ) (l : LinkState) (left : List Departure) (out : List SentDatagram) (ns : List Note) → AllByRecursion (λ (u : Untaken). IsSendable u.command) l.untaken →
    late_at now l ≡ false → Timed zs p (end_of l.next) l.moment l.untaken left out ns →
    Timed zs p (end_of (gone_on now l).next) (gone_on now l).moment (gone_on now l).untaken (left ++ of_decision p (zs.link + present_moment now l) (decision now l)) (out ++ sendings_in p (given_by (decision now l))) ns
timed_due law zs p now l left out ns sendable none g = by_decision (decision now l) (timed_leaving law p zs.link now l g.born (end_of l.next) g.untaken sendable none)
  where
    t : ℕ
    t = present_moment now l

    by_decision : (d : Decision) → AllByRecursion (TimedDeparture g.born (end_of l.next) p) (of_decision p (zs.link + t) d) →
        Timed zs p (end_of (after_due d t l).next) (after_due d t l).moment (after_due d t l).untaken (left ++ of_decision p (zs.link + t) d) (out ++ sendings_in p (given_by d)) ns
    by_decision (GivesCommand c) new =
        timed_link zs p (end_of l.next) l.moment t l.untaken (map (marked_sent t c.handle) l.untaken) (left ++ of_decision p (zs.link + t) (GivesCommand c)) (out ++ sendings_in p (given_by (GivesCommand c))) ns (le-max_left l.moment now)
        (λ born a. untaken_marked_sent zs.link born (end_of l.next) t t c.handle l.untaken a)
        (timed_more zs p (end_of l.next) l.moment l.untaken left (of_decision p (zs.link + t) (GivesCommand c)) out (sendings_in p (given_by (GivesCommand c))) ns refl g new)
    by_decision GivesKeepAlive new =
        timed_link zs p (end_of l.next) l.moment t l.untaken l.untaken (left ++ of_decision p (zs.link + t) GivesKeepAlive) (out ++ sendings_in p (given_by GivesKeepAlive)) ns (le-max_left l.moment now) (λ born a. a)
        (timed_more zs p (end_of l.next) l.moment l.untaken left (of_decision p (zs.link + t) GivesKeepAlive) out (sendings_in p (given_by GivesKeepAlive)) ns refl g new)
    by_decision GivesNothing new =
        timed_link zs p (end_of l.next) l.moment t l.untaken l.untaken (left ++ []) (out ++ []) ns (le-max_left l.moment now) (λ born a. a)
        (timed_more zs p (end_of l.next) l.moment l.untaken left [] out [] ns refl g new)
    by_decision IsLost new =
        timed_link zs p (end_of l.next) l.moment t l.untaken l.untaken (left ++ []) (out ++ []) ns (le-max_left l.moment now) (λ born a. a)
        (timed_more zs p (end_of l.next) l.moment l.untaken left [] out [] ns refl g new)

-- another link is asked
pub timed_due_other : (zs : Zeros) (p q : Peer) (t end m : ℕ) (us : List Untaken) (d : Decision) (left : List Departure) (out : List SentDatagram) (ns : List Note) → q ≢ p → Timed zs p end m us left out ns →
    Timed zs p end m us (left ++ of_decision q t d) (out ++ sendings_in q (given_by d)) ns
timed_due_other zs p q t end m us d left out ns other g = timed_more zs p end m us left (of_decision q t d) out (sendings_in q (given_by d)) ns (of_decision_are q t d) g (none (given_by d))
  where
    none : (packets : List (List ℕ)) → AllByRecursion (TimedDeparture g.born end p) (map (λ bytes. record { datagram = record { peer = q; bytes = bytes }; at = t }) packets)
    none [] = tt
    none (b ∷ bs) = ((λ same. absurd (other same)), none bs)

-- a keep-alive is sent beside a link
pub timed_beside : WrittenIsReadBack → (zs : Zeros) (p q : Peer) (t end m : ℕ) (us : List Untaken) (left : List Departure) (out : List SentDatagram) (ns : List Note) → Timed zs p end m us left out ns →
    Timed zs p end m us (left ++ of_decision q t GivesKeepAlive) (out ++ sendings_in q (given_by GivesKeepAlive)) ns
timed_beside law zs p q t end m us left out ns g = timed_more zs p end m us left (of_decision q t GivesKeepAlive) out (sendings_in q (given_by GivesKeepAlive)) ns (of_decision_are q t GivesKeepAlive) g ((λ same. inr (Seconds 5, read_keep_alive law)), tt)

-- the link takes a command: from now on its handle has a submit
pub timed_submit : (zs : Zeros) (p : Peer) (r : Request) (now : ℕ) (l : LinkState) (left : List Departure) (out : List SentDatagram) (ns : List Note) → Timed zs p (end_of l.next) l.moment l.untaken left out ns →
    Timed zs p (end_of (after_submission (submission r l) r now l).next) (after_submission (submission r l) r now l).moment (after_submission (submission r l) r now l).untaken left out ns
timed_submit zs p r now l left out ns g = by_answer (submission r l) refl
  where
    t : ℕ
    t = present_moment now l

    by_answer : (a : Result Handle ControlFault) → submission r l ≡ a →
        Timed zs p (end_of (after_submission a r now l).next) (after_submission a r now l).moment (after_submission a r now l).untaken left out ns
    by_answer (Err fault) e = g
    by_answer (Ok h) e = record {
      born = born';
      are = g.are;
      untaken = each_append _ l.untaken (new_untaken t (command_under h.0 r) ∷ [])
          (each_map (λ u a. (older u.command.handle a.2 ∙ a.0, later u.submitted a.1, more u.command.handle a.2)) l.untaken g.untaken)
          ((here, same, last), tt);
      departures = each_map (λ x a same. sent_before x.at x.datagram.bytes (a same)) left g.departures;
      executed = each_map (λ n a same. noted_before n.at n.what (a same)) ns g.executed;
      once = g.once;
    }
      where
        born' : ℕ → ℕ
        born' x = cond (nat_eq x h.0) (zs.link + t) (g.born x)

        was : end_of l.next ≡ h.0
        was = ap end_of (granted r l h e).0

        is : end_of (handle_after h.0) ≡ h.0 + 1
        is = end_after h.0

        below : (x : ℕ) → x < end_of l.next → x < h.0
        below x q = omega (arith, was)

        older : (x : ℕ) → x < end_of l.next → born' x ≡ g.born x
        older x q = ap (λ b. cond b (zs.link + t) (g.born x)) (unequal x h.0 (below x q))

        here : born' h.0 ≡ zs.link + t
        here = ap (λ b. cond b (zs.link + t) (g.born h.0)) (equal_self h.0)

        more : (x : ℕ) → x < end_of l.next → x < end_of (handle_after h.0)
        more x q = omega (arith, was, is)

        last : h.0 < end_of (handle_after h.0)
        last = omega (arith, is)

        same : t ≤ t
        same = omega arith

        later : (x : ℕ) → x ≤ l.moment → x ≤ t
        later x q = omega arith

        moved : (a b c : ℕ) → b ≡ a → a ≤ c → b ≤ c
        moved a b c q k = omega arith

        moved' : (a b c : ℕ) → b ≡ a → c ≤ a + longest_life → c ≤ b + longest_life
        moved' a b c q k = omega arith

        sent_before : (at : ℕ) (bytes : List ℕ) → TimedBytes g.born (end_of l.next) at bytes → TimedBytes born' (end_of (handle_after h.0)) at bytes
        sent_before at bytes (inl (c, read, i)) = inl (
          c,
          read,
          record {
            not_before = moved (g.born c.handle) (born' c.handle) at (older c.handle i.below) i.not_before;
            not_late = moved' (g.born c.handle) (born' c.handle) at (older c.handle i.below) i.not_late;
            below = more c.handle i.below;
          },
        )
        sent_before at bytes (inr k) = inr k

        noted_before : (at : ℕ) (x : Noted) → TimedNoted (λ y. by_device zs (g.born y)) (end_of l.next) at x → TimedNoted (λ y. by_device zs (born' y)) (end_of (handle_after h.0)) at x
        noted_before at (Executed objects c r) a = (moved (by_device zs (g.born c.handle)) (by_device zs (born' c.handle)) at (ap (by_device zs) (older c.handle a.1)) a.0, more c.handle a.1)
        noted_before at _ a = tt

pub timed_received : (from : Peer) (zs : Zeros) (p : Peer) (content : Option (List Msg)) (now : ℕ) (l : LinkState) (left : List Departure) (out : List SentDatagram) (ns : List Note) → Timed zs p (end_of l.next) l.moment l.untaken left out ns →
    Timed zs p (end_of (received from content now l).next) (received from content now l).moment (received from content now l).untaken left out ns
timed_received from zs p content now l left out ns g =
    timed_link zs p (end_of l.next) l.moment (present_moment now l) l.untaken (received from content now l).untaken left out ns (le-max_left l.moment now)
    (λ born a. by_from born (same_peer from l.device) content a) g
  where
    by_from : (born : ℕ → ℕ) (b : Bool) (content : Option (List Msg)) → AllByRecursion (TimedUntaken zs.link born (end_of l.next) (present_moment now l)) l.untaken →
        AllByRecursion (TimedUntaken zs.link born (end_of l.next) (present_moment now l)) (cond b (hears_content content l.untaken) l.untaken)
    by_from born true (Some ms) a = untaken_heard zs.link born (end_of l.next) (present_moment now l) ms l.untaken a
    by_from born true None a = a
    by_from born false content a = a

pub timed_taken : (zs : Zeros) (p : Peer) (h : ℕ) (l : LinkState) (left : List Departure) (out : List SentDatagram) (ns : List Note) → Timed zs p (end_of l.next) l.moment l.untaken left out ns →
    Timed zs p (end_of (taken h l).next) (taken h l).moment (taken h l).untaken left out ns
timed_taken zs p h l left out ns g =
    timed_link zs p (end_of l.next) l.moment l.moment l.untaken (taken h l).untaken left out ns (le_refl l.moment) (λ born a. by_answer born (answer_under h l.untaken) a) g
  where
    by_answer : (born : ℕ → ℕ) (o : Option AnswerFields) → AllByRecursion (TimedUntaken zs.link born (end_of l.next) l.moment) l.untaken →
        AllByRecursion (TimedUntaken zs.link born (end_of l.next) l.moment) (cond (is_some o) (without_handle h l.untaken) l.untaken)
    by_answer born (Some x) a = untaken_without zs.link born (end_of l.next) l.moment h l.untaken a
    by_answer born None a = a

-- the link is renewed: its handles go on above
pub timed_renewed : (zs : Zeros) (p : Peer) (origin end first m now : ℕ) (us : List Untaken) (left : List Departure) (out : List SentDatagram) (ns : List Note) → end ≤ first → Timed zs p end m us left out ns →
    Timed (record { link = origin; device = zs.device }) p first now [] left out ns
timed_renewed zs p origin end first m now us left out ns above g = record {
  born = g.born;
  are = g.are;
  untaken = tt;
  departures = each_map (λ x a same. sent x.at x.datagram.bytes (a same)) left g.departures;
  executed = each_map (λ n a same. was_noted n.at n.what (a same)) ns g.executed;
  once = g.once;
}
  where
    more : (x : ℕ) → x < end → x < first
    more x q = omega arith

    sent : (at : ℕ) (bytes : List ℕ) → TimedBytes g.born end at bytes → TimedBytes g.born first at bytes
    sent at bytes (inl (c, read, i)) = inl (c, read, record { not_before = i.not_before; not_late = i.not_late; below = more c.handle i.below })
    sent at bytes (inr k) = inr k

    was_noted : (at : ℕ) (x : Noted) → TimedNoted (λ y. by_device zs (g.born y)) end at x → TimedNoted (λ y. by_device zs (g.born y)) first at x
    was_noted at (Executed objects c r) a = (a.0, more c.handle a.1)
    was_noted at _ a = tt

-- ---- a datagram comes to the device

-- what is noted changes
timed_noted : (zs : Zeros) (p : Peer) (end m : ℕ) (us : List Untaken) (left : List Departure) (out : List SentDatagram) (ns ns' : List Note) → (g : Timed zs p end m us left out ns) →
    AllByRecursion (TimedNote (λ h. by_device zs (g.born h)) end p) ns' → IsDistinct eqb (handles_for p ns') → Timed zs p end m us left out ns'
timed_noted zs p end m us left out ns ns' g executed once =
    record { born = g.born; are = g.are; untaken = g.untaken; departures = g.departures; executed = executed; once = once }

-- of another peer
pub timed_elsewhere : (zs : Zeros) (p q : Peer) (end m : ℕ) (us : List Untaken) (left : List Departure) (out : List SentDatagram) (g : Past) (bytes : List ℕ) (now : ℕ) → same_peer q p ≡ false →
    Timed zs p end m us left out (state_of g).notes → Timed zs p end m us left out (state_of (and_then (Datagram q bytes now) g)).notes
timed_elsewhere zs p q end m us left out g bytes now other f =
    let grows : Grows q (looked_at now g).moment (state_of g).notes (state_of (and_then (Datagram q bytes now) g)).notes = grows_reading g.sizes q (read_datagram bytes) (looked_at now g) in
    grown (state_of (and_then (Datagram q bytes now) g)).notes grows.more grows.is grows.own
  where
    skipped : (more : List Note) → AllByRecursion (λ n. (n.peer ≡ q) × (n.at ≡ (looked_at now g).moment)) more → executed_for p (more ++ (state_of g).notes) ≡ executed_for p (state_of g).notes
    skipped [] own = refl
    skipped (n ∷ more) own =
        ap (λ b. cond b (executed_in n.what) [] ++ executed_for p (more ++ (state_of g).notes)) (ap (λ x. same_peer x p) own.0.0 ∙ other) ∙ skipped more own.1

    none : (more : List Note) → AllByRecursion (λ n. (n.peer ≡ q) × (n.at ≡ (looked_at now g).moment)) more → AllByRecursion (TimedNote (λ h. by_device zs (f.born h)) end p) more
    none more own = each_map (λ n h same. absurd (other_of q p other (sym h.0 ∙ same))) more own

    grown : (ns more : List Note) → ns ≡ more ++ (state_of g).notes → AllByRecursion (λ n. (n.peer ≡ q) × (n.at ≡ (looked_at now g).moment)) more → Timed zs p end m us left out ns
    grown ns more is own = rw is (timed_noted zs p end m us left out (state_of g).notes (more ++ (state_of g).notes) f
        (each_append _ more (state_of g).notes (none more own) f.executed)
        (subst (λ (xs : List Execution). IsDistinct eqb (map (λ (x : Execution). x.command.handle) xs)) (sym (skipped more own)) f.once))

-- what was executed under a handle was noted since its submit
were_noted : (born : ℕ → ℕ) (end : ℕ) (p : Peer) (h : ℕ) (ns : List Note) → AllByRecursion (TimedNote born end p) ns → list_any (λ y. eqb y h) (handles_for p ns) ≡ true → WereNoted h (born h) (notes_of p ns)
were_noted born end p h [] a e = cc
were_noted born end p h (n ∷ ns) a e =
    on_bool (same_peer n.peer p) (λ b. same_peer n.peer p ≡ b → list_any (λ y. eqb y h) (map (λ (z : Execution). z.command.handle) (cond b (executed_in n.what) [] ++ executed_for p ns)) ≡ true → (list_any
    (λ y. eqb y h) (handles_for p ns) ≡ true → WereNoted h (born h) (notes_of p ns)) → WereNoted h (born h) (cond b (n ∷ notes_of p ns) (notes_of p ns)))
    (λ q e rest. by_what n.what refl (a.0 (same_is n.peer p q)) e rest) (λ q e rest. rest e) refl e (were_noted born end p h ns a.1)
  where
    by_handle : (objects : List Object) (c : CommandFields) (r : Reply) (b : Bool) → n.what ≡ Executed objects c r → born c.handle ≤ n.at → eqb c.handle h ≡ b → (b || list_any (λ y. eqb y h) (handles_for p ns)) ≡ true →
        (list_any (λ y. eqb y h) (handles_for p ns) ≡ true → WereNoted h (born h) (notes_of p ns)) → WasNoted h (born h) n ⊎ WereNoted h (born h) (notes_of p ns)
    by_handle objects c r true what since same e rest = let is : c.handle ≡ h = eqb-true c.handle h same in inl (objects, c, r, what, is, rw is at since)
    by_handle objects c r false what since same e rest = inr (rest e)

    by_what : (x : Noted) → n.what ≡ x → TimedNoted born end n.at x → list_any (λ y. eqb y h) (map (λ (z : Execution). z.command.handle) (executed_in x ++ executed_for p ns)) ≡ true →
        (list_any (λ y. eqb y h) (handles_for p ns) ≡ true → WereNoted h (born h) (notes_of p ns)) → WasNoted h (born h) n ⊎ WereNoted h (born h) (notes_of p ns)
    by_what (Admitted ms) what t e rest = inr (rest e)
    by_what (Heartbeat ms) what t e rest = inr (rest e)
    by_what (Executed objects c r) what t e rest = by_handle objects c r (eqb c.handle h) what t.0 refl e rest

-- What was executed for the peer under the handle of a copy that is in time is accepted in the session that the peer has.
pub accepted_then : (zs : Zeros) (p : Peer) (end m : ℕ) (us : List Untaken) (left : List Departure) (out : List SentDatagram) (g : Past) (now at h : ℕ) (ms : List Msg) → (f : Timed zs p end m us left out (state_of g).notes) →
    at ≤ f.born h + longest_life → zs.device + (looked_at now g).moment ≤ at + longest_delay → list_any (λ y. eqb y h) (handles_for p (state_of g).notes) ≡ true →
    has h (accepted (run p (noted p (Admitted ms) (looked_at now g)).notes)) ≡ true
accepted_then zs p end m us left out g now at h ms f in_time arrives was =
    let s1 : State = looked_at now g in
    let n : Note = record { peer = p; at = s1.moment; what = Admitted ms } in
    let found = still_accepted h (by_device zs (f.born h)) s1.moment (notes_of p (state_of g).notes)
    (ordered_of p s1.moment (state_of g).notes (later (ordered_after g.sizes g.tree g.events)))
    (near (f.born h) s1.moment in_time arrives) (were_noted (λ y. by_device zs (f.born y)) end p h (state_of g).notes f.executed was) in
    ap (λ (xs : List Note). has h (accepted (unbroken xs))) (notes_noted p (Admitted ms) s1)
    ∙ ap (λ b. has h (accepted (n ∷ cond b (unbroken (notes_of p (state_of g).notes)) []))) found.0 ∙ found.1
  where
    near : (b t : ℕ) → at ≤ b + longest_life → zs.device + t ≤ at + longest_delay → t ≤ by_device zs b + longest_silence
    near b t p q = omega arith

    later : AreOrdered (state_of g).moment (state_of g).notes → AreOrdered (looked_at now g).moment (state_of g).notes
    later o = ordered_till (state_of g).moment (looked_at now g).moment (state_of g).notes (omega arith) o

-- of the link itself
pub timed_own : (zs : Zeros) (p : Peer) (end m : ℕ) (us : List Untaken) (left : List Departure) (out : List SentDatagram) (g : Past) (bytes : List ℕ) (now at : ℕ) → (f : Timed zs p end m us left out (state_of g).notes) →
    TimedBytes f.born end at bytes → ArrivesInTime at (zs.device + (looked_at now g).moment) → Timed zs p end m us left out (state_of (and_then (Datagram p bytes now) g)).notes
unfolding IsDistinct
timed_own zs p end m us left out g bytes now at f kind arrives = elim kind [
  | inl (c, read, i) ↦ by_room (Command true c) read (admits g.sizes s1 p) refl (λ room. by_judgement c read i room (judged_in g.sizes (let_in p (Command true c) now g) p c) refl)
  | inr (form, read) ↦ by_room (KeepAlive form) read (admits g.sizes s1 p) refl
      (λ room. made (KeepAlive form) read room (noted p (Heartbeat (time_of form)) (let_in p (KeepAlive form) now g)) refl ((λ same. tt), executed2 (KeepAlive form)) (rw (executed_noted p (Heartbeat (time_of form)) (let_in p (KeepAlive form) now g)) (once2 (KeepAlive form))))
]
  where
    s1 : State
    s1 = looked_at now g

    g' : Past
    g' = and_then (Datagram p bytes now) g

    settled : (s : State) → state_of g' ≡ s → AllByRecursion (TimedNote (λ h. by_device zs (f.born h)) end p) s.notes → IsDistinct eqb (handles_for p s.notes) → Timed zs p end m us left out (state_of g').notes
    settled s is executed once = rw is (timed_noted zs p end m us left out (state_of g).notes s.notes f executed once)

    executed2 : (x : Msg) → AllByRecursion (TimedNote (λ h. by_device zs (f.born h)) end p) (let_in p x now g).notes
    executed2 x = ((λ same. tt), f.executed)

    once2 : (x : Msg) → IsDistinct eqb (handles_for p (let_in p x now g).notes)
    once2 x = subst (λ (xs : List Execution). IsDistinct eqb (map (λ (y : Execution). y.command.handle) xs)) (sym (executed_noted p (Admitted (x ∷ [])) s1)) f.once

    made : (x : Msg) → read_datagram bytes ≡ Ok (x ∷ []) → admits g.sizes s1 p ≡ true → (s : State) → after_message g.sizes p x (let_in p x now g) ≡ s →
        AllByRecursion (TimedNote (λ h. by_device zs (f.born h)) end p) s.notes → IsDistinct eqb (handles_for p s.notes) → Timed zs p end m us left out (state_of g').notes
    made x read room s is executed once = settled s (after_read g.sizes p x bytes now g true read room ∙ is) executed once

    by_room : (x : Msg) → read_datagram bytes ≡ Ok (x ∷ []) → (b : Bool) → admits g.sizes s1 p ≡ b → (admits g.sizes s1 p ≡ true → Timed zs p end m us left out (state_of g').notes) →
        Timed zs p end m us left out (state_of g').notes
    by_room x read true room served = served room
    by_room x read false room served = settled s1 (after_read g.sizes p x bytes now g false read room) f.executed f.once

    by_judgement : (c : CommandFields) → read_datagram bytes ≡ Ok (Command true c ∷ []) → LeftInTime f.born end at c.handle → admits g.sizes s1 p ≡ true →
        (j : Judgement) → judged_in g.sizes (let_in p (Command true c) now g) p c ≡ j → Timed zs p end m us left out (state_of g').notes
    by_judgement c read i room Fresh q =
        let s2 : State = let_in p (Command true c) now g in
        let r : Reply = reply_of s2.tree p c in
        made (Command true c) read room (after_command Fresh p c s2) (ap (λ j. after_command j p c s2) q)
        ((λ same. (since (f.born c.handle) i.not_before arrives.not_before, i.below)), executed2 (Command true c))
        (subst (λ (xs : List Execution). IsDistinct eqb (map (λ (y : Execution). y.command.handle) xs)) (sym (executed_noted p (Executed s2.tree c r) s2'))
        (subst (λ (xs : List ℕ). AllByRecursion (λ y. eqb c.handle y ≡ false) xs) (sym same_handles) (each_map (λ y t. flipped y c.handle t) (handles_for p (state_of g).notes) (none_passes (λ y. eqb y c.handle) (handles_for p (state_of g).notes) new)), once2 (Command true c)))
      where
        s2' : State
        s2' = record { tree = (let_in p (Command true c) now g).tree; moment = s1.moment; notes = (let_in p (Command true c) now g).notes }

        since : (b : ℕ) → b ≤ at → at ≤ zs.device + s1.moment → by_device zs b ≤ s1.moment
        since b p q = omega arith

        same_handles : handles_for p (let_in p (Command true c) now g).notes ≡ handles_for p (state_of g).notes
        same_handles = ap (λ (xs : List Execution). map (λ (y : Execution). y.command.handle) xs) (executed_noted p (Admitted (Command true c ∷ [])) s1)

        -- under its handle nothing was executed before: else it were accepted
        new : list_any (λ y. eqb y c.handle) (handles_for p (state_of g).notes) ≡ false
        new = on_bool (list_any (λ y. eqb y c.handle) (handles_for p (state_of g).notes)) (λ b. list_any (λ y. eqb y c.handle) (handles_for p (state_of g).notes) ≡ b → b ≡ false)
            (λ e. sym (accepted_then zs p end m us left out g now at c.handle (Command true c ∷ []) f i.not_late arrives.not_late e) ∙ judged_fresh g.sizes.window (accepted (run p (let_in p (Command true c) now g).notes)) c q)
            (λ e. refl) refl
    by_judgement c read i room _ q = made (Command true c) read room (let_in p (Command true c) now g) (ap (λ j. after_command j p c (let_in p (Command true c) now g)) q) (executed2 (Command true c)) (once2 (Command true c))

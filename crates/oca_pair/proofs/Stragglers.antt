-- What earlier links of a peer left behind comes to the device at most 100,000 ms after its link left off, where the link is in time. So
-- few of it stands behind a command that was submitted later.
use Rattle.oca_pair.proofs.Words.{◌≡◌, ℕ, ◌+◌, ◌<◌, ◌≤◌, Bool, true, false, cond, List, [], ◌∷◌, ◌++◌, length, Option, Some, None, refl, sym, ap, ◌∙◌, subst, arith, inl, inr, nat_eq, nat_le, not}
use Rattle.oca_pair.proofs.Words.{◌&&◌, map, filter, is_none, Ok, AllByRecursion, length-append, nat_tests, Peer, same_peer, CommandFields, Msg, Command, Response, KeepAlive, read_datagram, Entry}
use Rattle.oca_pair.proofs.Words.{AnswerFields, answer_of_response, Untaken, marked_sent, answered, hears_all, without_handle, hears_content, Network, PeerLink, Renewal, Setup, zero_after, zero_of}
use Rattle.oca_pair.proofs.Words.{left_by, Renew, with_link, renewed_link, unanswered, renewal_of, after_renewal, after_step, Departure, longest_delay, left_off, left_since, FewerMayStillCome}
use Rattle.oca_pair.proofs.Words.{EveryRenewalIsNoted, each_map, each_both, each_append, same_self, on_bool}
use Rattle.oca_pair.proofs.Core.{Trails}
use Rattle.oca_pair.proofs.Lists.{IsIn, in_more, in_behind, in_parts, differs}
use Rattle.oca_pair.proofs.Timed.{Zeros}

-- ---- untaken commands by their handles and their submits

abbrev pub stamps : List Untaken → List (ℕ × ℕ)
stamps us = map (λ u. (u.command.handle, u.submitted)) us

pub stamps_marked_sent : (t h : ℕ) (us : List Untaken) → stamps (map (marked_sent t h) us) ≡ stamps us
stamps_marked_sent t h [] = refl
stamps_marked_sent t h (u ∷ us) = ap (λ (qs : List (ℕ × ℕ)). (u.command.handle, u.submitted) ∷ qs) (stamps_marked_sent t h us)

stamps_answered : (h : ℕ) (a : AnswerFields) (us : List Untaken) → stamps (map (answered h a) us) ≡ stamps us
stamps_answered h a [] = refl
stamps_answered h a (u ∷ us) = ap (λ (qs : List (ℕ × ℕ)). (u.command.handle, u.submitted) ∷ qs) (stamps_answered h a us)

stamps_heard : (ms : List Msg) (us : List Untaken) → stamps (hears_all ms us) ≡ stamps us
stamps_heard [] us = refl
stamps_heard (Response r ∷ ms) us = stamps_heard ms (map (answered r.handle (answer_of_response r)) us) ∙ stamps_answered r.handle (answer_of_response r) us
stamps_heard (KeepAlive form ∷ ms) us = stamps_heard ms us
stamps_heard (Command respond c ∷ ms) us = stamps_heard ms us

pub stamps_received : (b : Bool) (content : Option (List Msg)) (us : List Untaken) → stamps (cond b (hears_content content us) us) ≡ stamps us
stamps_received true None us = refl
stamps_received true (Some ms) us = stamps_heard ms us
stamps_received false content us = refl

pub stamps_more : (us : List Untaken) (u : Untaken) → stamps (us ++ u ∷ []) ≡ stamps us ++ (u.command.handle, u.submitted) ∷ []
stamps_more [] u = refl
stamps_more (x ∷ us) u = ap (λ (qs : List (ℕ × ℕ)). (x.command.handle, x.submitted) ∷ qs) (stamps_more us u)

pub in_stamps : (u : Untaken) (us : List Untaken) → IsIn u us → IsIn (u.command.handle, u.submitted) (stamps us)
in_stamps u [] i = absurd i
in_stamps u (x ∷ us) (inl e) = inl (ap (λ (z : Untaken). (z.command.handle, z.submitted)) e)
in_stamps u (x ∷ us) (inr i) = inr (in_stamps u us i)

pub each_stamp : (P : ℕ × ℕ → Type 0) (us : List Untaken) → AllByRecursion (λ u. P (u.command.handle, u.submitted)) us → AllByRecursion P (stamps us)
each_stamp P [] a = tt
each_stamp P (u ∷ us) a = (a.0, each_stamp P us a.1)

pub without_stamps : (P : ℕ × ℕ → Type 0) (h : ℕ) (us : List Untaken) → AllByRecursion P (stamps us) → AllByRecursion P (stamps (without_handle h us))
without_stamps P h [] a = tt
without_stamps P h (u ∷ us) a =
    on_bool (nat_eq u.command.handle h) (λ b. AllByRecursion P (stamps (without_handle h us)) → AllByRecursion P (stamps (cond (not b) (u ∷ without_handle h us) (without_handle h us))))
    (λ rest. rest) (λ rest. (a.0, rest)) (without_stamps P h us a.1)

-- ---- what is known of commands that left, by when they left

-- A command of this handle left at this moment, which is no later than each link of the peer that left it behind left off.
abbrev pub LeftOff : Setup → Peer → ℕ → ℕ → List Renewal → Type 0
LeftOff s p at h [] = Unit {0}
LeftOff s p at h (x ∷ before) = (same_peer x.peer p ≡ true → IsIn h x.left → at ≤ left_off s p x before) × LeftOff s p at h before

-- The same beside the untaken commands of the peer's link, whose clock shows m, and showed 0 at the moment `origin`: it left no later than
-- now where it is untaken, and no earlier than the submits of those that are not above it.
pub record Left (s : Setup) (p : Peer) (origin m : ℕ) (K : List (ℕ × ℕ)) (rs : List Renewal) (at h : ℕ) : Type 0 where
  pub own : AllByRecursion (λ q. q.0 ≡ h → at ≤ origin + m) K
  pub after : AllByRecursion (λ q. q.0 ≤ h → origin + q.1 ≤ at) K
  pub off : LeftOff s p at h rs

abbrev pub LeftSo : Setup → Peer → ℕ → ℕ → List (ℕ × ℕ) → List Renewal → Departure → Type 0
LeftSo s p origin m K rs x = x.datagram.peer ≡ p → (c : CommandFields) → read_datagram x.datagram.bytes ≡ Ok (Command true c ∷ []) → Left s p origin m K rs x.at c.handle

-- of the accepted commands A, where the device's clock shows `moment`: those at or above the handle of an untaken command were accepted
-- no earlier than its submit; and behind them stands only what could still come then of what earlier links left behind
pub record Straggling (s : Setup) (p : Peer) (zs : Zeros) (m : ℕ) (K : List (ℕ × ℕ)) (rs : List Renewal) (left : List Departure) (moment : ℕ) (A : List Entry) : Type 0 where
  pub sent : AllByRecursion (LeftSo s p zs.link m K rs) left
  pub heard : AllByRecursion (λ q. AllByRecursion (λ e. q.0 ≤ e.command.handle → zs.link + q.1 ≤ zs.device + moment) A) K
  pub trails : AllByRecursion (λ q. Trails q.0 (left_by rs p) (left_since s (zs.link + q.1) p rs) A) K

-- what left no later than its links left off may still come for 100,000 ms
still_comes : (s : Setup) (t : ℕ) (p : Peer) (at h : ℕ) (rs : List Renewal) → LeftOff s p at h rs → t ≤ at + longest_delay → IsIn h (left_by rs p) → IsIn h (left_since s t p rs)
still_comes s t p at h [] off soon i = i
still_comes s t p at h (x ∷ rs) off soon i = by_peer (same_peer x.peer p) refl i (λ j. still_comes s t p at h rs off.1 soon j)
  where
    early : (b : ℕ) → at ≤ b → nat_le t (b + longest_delay) ≡ true
    early b q = grind (arith, nat_tests)

    further : (b : Bool) → IsIn h (left_since s t p rs) → IsIn h (cond b (x.left ++ left_since s t p rs) (left_since s t p rs))
    further true j = in_behind h x.left (left_since s t p rs) j
    further false j = j

    by_peer : (b : Bool) → same_peer x.peer p ≡ b → IsIn h (cond b (x.left ++ left_by rs p) (left_by rs p)) → (IsIn h (left_by rs p) → IsIn h (left_since s t p rs)) →
        IsIn h (cond (b && nat_le t (left_off s p x rs + longest_delay)) (x.left ++ left_since s t p rs) (left_since s t p rs))
    by_peer true same j rest = elim (in_parts h x.left (left_by rs p) j) [
      | inl here ↦
          let included : nat_le t (left_off s p x rs + longest_delay) ≡ true = early (left_off s p x rs) (off.0 same here) in
          subst (λ (b : Bool). IsIn h (cond b (x.left ++ left_since s t p rs) (left_since s t p rs))) (sym included) (in_more h x.left (left_since s t p rs) here)
      | inr there ↦ further (nat_le t (left_off s p x rs + longest_delay)) (rest there)
    ]
    by_peer false other j rest = rest j

-- a handle above all that was left behind was not left behind
never_left : (s : Setup) (p : Peer) (at h : ℕ) (rs : List Renewal) → AllByRecursion (λ x. x < h) (left_by rs p) → LeftOff s p at h rs
never_left s p at h [] low = tt
never_left s p at h (x ∷ rs) low =
    on_bool (same_peer x.peer p) (λ b. same_peer x.peer p ≡ b → AllByRecursion (λ z. z < h) (cond b (x.left ++ left_by rs p) (left_by rs p)) → (AllByRecursion (λ z. z < h)
    (left_by rs p) → LeftOff s p at h rs) → (same_peer x.peer p ≡ true → IsIn h x.left → at ≤ left_off s p x rs) × LeftOff s p at h rs)
    (λ q a rest. ((λ same i. absurd (first_part x.left (left_by rs p) a i)), rest (second_part x.left (left_by rs p) a)))
    (λ q a rest. ((λ same i. differs (sym same ∙ q)), rest a)) refl low (λ a. never_left s p at h rs a)
  where
    contra : h < h → ⊥
    contra q = omega arith

    first_part : (xs ys : List ℕ) → AllByRecursion (λ z. z < h) (xs ++ ys) → IsIn h xs → ⊥
    first_part [] ys a i = absurd i
    first_part (z ∷ xs) ys a (inl same) = contra (rw same at a.0)
    first_part (z ∷ xs) ys a (inr i) = first_part xs ys a.1 i

    second_part : (xs ys : List ℕ) → AllByRecursion (λ z. z < h) (xs ++ ys) → AllByRecursion (λ z. z < h) ys
    second_part [] ys a = a
    second_part (z ∷ xs) ys a = second_part xs ys a.1

-- ---- the link's own steps

-- its clock goes on, and it submits nothing
left_later : (s : Setup) (p : Peer) (origin m m' : ℕ) (K : List (ℕ × ℕ)) (rs : List Renewal) (at h : ℕ) → m ≤ m' → Left s p origin m K rs at h → Left s p origin m' K rs at h
left_later s p origin m m' K rs at h le o = record { own = each_map (λ q f same. later (f same)) K o.own; after = o.after; off = o.off }
  where
    later : at ≤ origin + m → at ≤ origin + m'
    later q = omega arith

pub straggling_later : (s : Setup) (p : Peer) (zs : Zeros) (m m' : ℕ) (K K' : List (ℕ × ℕ)) (rs : List Renewal) (left : List Departure) (moment : ℕ) (A : List Entry) → m ≤ m' → K' ≡ K →
    Straggling s p zs m K rs left moment A → Straggling s p zs m' K' rs left moment A
straggling_later s p zs m m' K K' rs left moment A le same g = rw same (record {
  sent = each_map (λ x f own c read. left_later s p zs.link m m' K rs x.at c.handle le (f own c read)) left g.sent;
  heard = g.heard;
  trails = g.trails;
})

-- an answer is taken
pub straggling_taken : (s : Setup) (p : Peer) (zs : Zeros) (m h : ℕ) (us : List Untaken) (rs : List Renewal) (left : List Departure) (moment : ℕ) (A : List Entry) →
    Straggling s p zs m (stamps us) rs left moment A → Straggling s p zs m (stamps (without_handle h us)) rs left moment A
straggling_taken s p zs m h us rs left moment A g = record {
  sent = each_map (λ x f own c read. let o = f own c read in record { own = without_stamps _ h us o.own; after = without_stamps _ h us o.after; off = o.off }) left g.sent;
  heard = without_stamps _ h us g.heard;
  trails = without_stamps _ h us g.trails;
}

-- nothing stands behind a handle above all
trails_none : (h : ℕ) (late few : List ℕ) (A : List Entry) → AllByRecursion (λ e. e.command.handle < h) A → Trails h late few A
trails_none h late few [] a = tt
trails_none h late few (e ∷ A) a = ((λ above. absurd (contra e.command.handle a.0 above)), trails_none h late few A a.1)
  where
    contra : (x : ℕ) → x < h → h ≤ x → ⊥
    contra x p q = omega arith

-- it submits a command, whose handle is above all
pub straggling_submit : (s : Setup) (p : Peer) (zs : Zeros) (m t h : ℕ) (K : List (ℕ × ℕ)) (rs : List Renewal) (left : List Departure) (moment : ℕ) (A : List Entry) → m ≤ t →
    AllByRecursion (λ x. x.datagram.peer ≡ p → (c : CommandFields) → read_datagram x.datagram.bytes ≡ Ok (Command true c ∷ []) → c.handle < h) left → AllByRecursion (λ e. e.command.handle < h) A →
    Straggling s p zs m K rs left moment A → Straggling s p zs t (K ++ (h, t) ∷ []) rs left moment A
straggling_submit s p zs m t h K rs left moment A le below low g = record {
  sent = each_both (λ x f b own c read. new x.at c.handle (b own c read) (left_later s p zs.link m t K rs x.at c.handle le (f own c read))) left g.sent below;
  heard = each_append _ K ((h, t) ∷ []) g.heard (each_map (λ e q above. absurd (contra e.command.handle q above)) A low, tt);
  trails = each_append _ K ((h, t) ∷ []) g.trails (trails_none h (left_by rs p) (left_since s (zs.link + t) p rs) A low, tt);
}
  where
    contra : (x : ℕ) → x < h → h ≤ x → ⊥
    contra x q above = omega arith

    contra_same : (x : ℕ) → x < h → h ≡ x → ⊥
    contra_same x q same = omega arith

    new : (at x : ℕ) → x < h → Left s p zs.link t K rs at x → Left s p zs.link t (K ++ (h, t) ∷ []) rs at x
    new at x q o = record {
      own = each_append _ K ((h, t) ∷ []) o.own ((λ same. absurd (contra_same x q same)), tt);
      after = each_append _ K ((h, t) ∷ []) o.after ((λ above. absurd (contra x q above)), tt);
      off = o.off;
    }

-- more leaves
pub straggling_more : (s : Setup) (p : Peer) (zs : Zeros) (m : ℕ) (K : List (ℕ × ℕ)) (rs : List Renewal) (left more : List Departure) (moment : ℕ) (A : List Entry) → AllByRecursion (LeftSo s p zs.link m K rs) more →
    Straggling s p zs m K rs left moment A → Straggling s p zs m K rs (left ++ more) moment A
straggling_more s p zs m K rs left more moment A new g = record { sent = each_append _ left more g.sent new; heard = g.heard; trails = g.trails }

-- an untaken command leaves now
pub leaves_now : (s : Setup) (p : Peer) (origin t h : ℕ) (us : List Untaken) (rs : List Renewal) → AllByRecursion (λ u. u.submitted ≤ t) us → AllByRecursion (λ x. x < h) (left_by rs p) → Left s p origin t (stamps us) rs (origin + t) h
leaves_now s p origin t h us rs past low = record {
  own = each_stamp _ us (each_map (λ u q same. now) us past);
  after = each_stamp _ us (each_map (λ u q above. earlier u.submitted q) us past);
  off = never_left s p (origin + t) h rs low;
}
  where
    now : origin + t ≤ origin + t
    now = omega arith

    earlier : (x : ℕ) → x ≤ t → origin + x ≤ origin + t
    earlier x q = omega arith

-- ---- the link is renewed

pub straggling_renewed : (s : Setup) (p : Peer) (zs zs' : Zeros) (m m' : ℕ) (us : List Untaken) (rs : List Renewal) (left : List Departure) (moment : ℕ) (A : List Entry) (x : Renewal) → x.left ≡ unanswered us → zs.link + m ≡ left_off s p x rs →
    Straggling s p zs m (stamps us) rs left moment A → Straggling s p zs' m' [] (x ∷ rs) left moment A
straggling_renewed s p zs zs' m m' us rs left moment A x left_is off_is g = record {
  sent = each_map (λ d f own c read. let o = f own c read in record { own = tt; after = tt; off = ((λ same i. rw (← off_is) (by_own d.at c.handle us o.own (rw left_is at i))), o.off) }) left g.sent;
  heard = tt;
  trails = tt;
}
  where
    by_own : (at h : ℕ) (us : List Untaken) → AllByRecursion (λ q. q.0 ≡ h → at ≤ zs.link + m) (stamps us) → IsIn h (unanswered us) → at ≤ zs.link + m
    by_own at h [] own i = absurd i
    by_own at h (u ∷ us) own i = by_test (is_none u.answer) i (λ j. by_own at h us own.1 j)
      where
        by_test : (b : Bool) → IsIn h (map (λ (u : Untaken). u.command.handle) (cond b (u ∷ filter (λ (u : Untaken). is_none u.answer) us) (filter (λ (u : Untaken). is_none u.answer) us))) → (IsIn h (unanswered us) → at ≤ zs.link + m) →
            at ≤ zs.link + m
        by_test true (inl same) rest = own.0 same
        by_test true (inr j) rest = rest j
        by_test false j rest = rest j

-- the link of another peer is renewed
pub straggling_other : (s : Setup) (p : Peer) (zs : Zeros) (m : ℕ) (K : List (ℕ × ℕ)) (rs : List Renewal) (left : List Departure) (moment : ℕ) (A : List Entry) (x : Renewal) → same_peer x.peer p ≡ false →
    Straggling s p zs m K rs left moment A → Straggling s p zs m K (x ∷ rs) left moment A
straggling_other s p zs m K rs left moment A x other g = record {
  sent = each_map (λ d f own c read. let o = f own c read in record { own = o.own; after = o.after; off = ((λ same i. differs (sym same ∙ other)), o.off) }) left g.sent;
  heard = g.heard;
  trails = each_map (λ q t. subst (λ (few : List ℕ). Trails q.0 (left_by (x ∷ rs) p) few A) (sym (since (zs.link + q.1))) (subst (λ (late : List ℕ). Trails q.0 late (left_since s (zs.link + q.1) p rs) A) (sym all) t)) K g.trails;
}
  where
    all : left_by (x ∷ rs) p ≡ left_by rs p
    all = ap (λ b. cond b (x.left ++ left_by rs p) (left_by rs p)) other

    since : (t : ℕ) → left_since s t p (x ∷ rs) ≡ left_since s t p rs
    since t = ap (λ b. cond (b && nat_le t (left_off s p x rs + longest_delay)) (x.left ++ left_since s t p rs) (left_since s t p rs)) other

-- ---- the device

-- its clock goes on
pub straggling_passes : (s : Setup) (p : Peer) (zs : Zeros) (m : ℕ) (K : List (ℕ × ℕ)) (rs : List Renewal) (left : List Departure) (moment moment' : ℕ) (A A' : List Entry) → moment ≤ moment' → A' ≡ A →
    Straggling s p zs m K rs left moment A → Straggling s p zs m K rs left moment' A'
straggling_passes s p zs m K rs left moment moment' A A' le same g = rw same (record {
  sent = g.sent;
  heard = each_map (λ q a. each_map (λ e f above. later q.1 (f above)) A a) K g.heard;
  trails = g.trails;
})
  where
    later : (x : ℕ) → zs.link + x ≤ zs.device + moment → zs.link + x ≤ zs.device + moment'
    later x q = omega arith

trails_more : (h : ℕ) (late few : List ℕ) (A : List Entry) (e : Entry) → Trails h late few A → AllByRecursion (λ y. h ≤ y.command.handle → IsIn e.command.handle late → IsIn e.command.handle few) A →
    Trails h late few (A ++ e ∷ [])
trails_more h late few [] e t a = ((λ above. tt), tt)
trails_more h late few (y ∷ A) e t a = ((λ above. each_append _ A (e ∷ []) (t.0 above) (a.0 above, tt)), trails_more h late few A e t.1 a.1)

-- its clock falls behind
pub straggling_behind : (s : Setup) (p : Peer) (zs : Zeros) (d m : ℕ) (K : List (ℕ × ℕ)) (rs : List Renewal) (left : List Departure) (moment : ℕ) (A : List Entry) → zs.device ≤ d →
    Straggling s p zs m K rs left moment A → Straggling s p (record { link = zs.link; device = d }) m K rs left moment A
straggling_behind s p zs d m K rs left moment A le g = record {
  sent = g.sent;
  heard = each_map (λ q a. each_map (λ e f above. later q.1 (f above)) A a) K g.heard;
  trails = g.trails;
}
  where
    later : (x : ℕ) → zs.link + x ≤ zs.device + moment → zs.link + x ≤ d + moment
    later x q = omega arith

-- a command is accepted, which left at this moment and came at most 100,000 ms later
pub straggling_accepted : (s : Setup) (p : Peer) (zs : Zeros) (m : ℕ) (K : List (ℕ × ℕ)) (rs : List Renewal) (left : List Departure) (moment moment' : ℕ) (A A' : List Entry) (e : Entry) (at : ℕ) → moment ≤ moment' → A' ≡ A ++ e ∷ [] →
    Left s p zs.link m K rs at e.command.handle → at ≤ zs.device + moment' → zs.device + moment' ≤ at + longest_delay → Straggling s p zs m K rs left moment A → Straggling s p zs m K rs left moment' A'
straggling_accepted s p zs m K rs left moment moment' A A' e at le is o not_before not_late g = rw is (record {
  sent = g.sent;
  heard = each_both (λ q a f. each_append _ A (e ∷ []) (each_map (λ y k above. later q.1 (k above)) A a) ((λ above. came q.1 (f above)), tt)) K g.heard o.after;
  trails = each_both (λ q t a. trails_more q.0 (left_by rs p) (left_since s (zs.link + q.1) p rs) A e t
      (each_map (λ y k above i. still_comes s (zs.link + q.1) p at e.command.handle rs o.off (soon q.1 (k above)) i) A a)) K g.trails g.heard;
})
  where
    later : (x : ℕ) → zs.link + x ≤ zs.device + moment → zs.link + x ≤ zs.device + moment'
    later x q = omega arith

    came : (x : ℕ) → zs.link + x ≤ at → zs.link + x ≤ zs.device + moment'
    came x q = omega arith

    soon : (x : ℕ) → zs.link + x ≤ zs.device + moment → zs.link + x ≤ at + longest_delay
    soon x q = omega arith

-- ---- no more may still come than was left behind

pub fewer_may_still_come : FewerMayStillCome
fewer_may_still_come s t p n = fewer n.renewed
  where
    fewer : (rs : List Renewal) → length (left_since s t p rs) ≤ length (left_by rs p)
    fewer [] = omega arith
    fewer (x ∷ rs) = by_test (same_peer x.peer p) (nat_le t (left_off s p x rs + longest_delay)) (fewer rs)
      where
        by_test : (b c : Bool) → length (left_since s t p rs) ≤ length (left_by rs p) →
            length (cond (b && c) (x.left ++ left_since s t p rs) (left_since s t p rs)) ≤ length (cond b (x.left ++ left_by rs p) (left_by rs p))
        by_test true true rest =
            let a : length (x.left ++ left_since s t p rs) ≡ length x.left + length (left_since s t p rs) = length-append x.left (left_since s t p rs) in
            let b : length (x.left ++ left_by rs p) ≡ length x.left + length (left_by rs p) = length-append x.left (left_by rs p) in
            omega arith
        by_test true false rest = let b : length (x.left ++ left_by rs p) ≡ length x.left + length (left_by rs p) = length-append x.left (left_by rs p) in omega arith
        by_test false c rest = rest

-- ---- what is noted of a renewal

pub renewals_are_noted : EveryRenewalIsNoted
renewals_are_noted s n i first span now origin t l own above = (
  ap (λ (rs : List Renewal). zero_after rs l.peer (s.zero l.peer)) is ∙ ap (λ b. cond b origin (zero_after n.renewed l.peer (s.zero l.peer))) (same_self l.peer),
  (λ past. ap (λ (rs : List Renewal). left_since s t l.peer rs) is ∙ ap (λ b. cond (b && soon) (unanswered us ++ rest) rest) (same_self l.peer) ∙ ap (λ b. cond b (unanswered us ++ rest) rest) (over (zero_of s l.peer n + l.link.moment) past)),
  (λ all. ap (λ (rs : List Renewal). length (left_by rs l.peer)) is ∙ ap (λ b. length (cond b (unanswered us ++ left_by n.renewed l.peer) (left_by n.renewed l.peer))) (same_self l.peer)
      ∙ ap (λ (hs : List ℕ). length (hs ++ left_by n.renewed l.peer)) (none us all)),
)
  where
    us : List Untaken
    us = l.link.untaken

    rest : List ℕ
    rest = left_since s t l.peer n.renewed

    soon : Bool
    soon = nat_le t (zero_of s l.peer n + l.link.moment + longest_delay)

    m : Network
    m = record n { links = with_link i l (renewed_link first span now l.link) n.links; renewed = renewal_of l origin ∷ n.renewed }

    is : (after_step (Renew i first span now origin) n).renewed ≡ renewal_of l origin ∷ n.renewed
    is = ap (λ (o : Option PeerLink). (after_renewal i first span now origin o n).renewed) own ∙ ap (λ b. (let x : Network = cond b m n in x).renewed) above

    over : (x : ℕ) → x + 100000 < t → nat_le t (x + longest_delay) ≡ false
    over x q = grind (arith, nat_tests)

    none : (us : List Untaken) → AllByRecursion (λ u. is_none u.answer ≡ false) us → unanswered us ≡ []
    none [] a = refl
    none (u ∷ us) a = ap (λ b. map (λ (u : Untaken). u.command.handle) (cond b (u ∷ filter (λ (u : Untaken). is_none u.answer) us) (filter (λ (u : Untaken). is_none u.answer) us))) a.0 ∙ none us a.1

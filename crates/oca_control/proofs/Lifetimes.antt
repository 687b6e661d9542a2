-- Commands that are lost before they are late.
use Rattle.oca_control.proofs.Words.{◌≡◌, ℕ, zero, suc, ◌+◌, ◌-◌, ◌*◌, ◌<◌, ◌≤◌, Bool, true, false, cond, ◌&&◌, ◌||◌, max, List, [], ◌∷◌, ◌++◌, length, map, Option, Some, None, Ok, is_none, refl, sym}
use Rattle.oca_control.proofs.Words.{ap, ◌∙◌, arith, subst, nat_eq, nat_lt, nat_le, AllByRecursion, list_any, eqb, suc-mul, mul-le-mul_right, nat_tests, or_from, Peer, Handle, RequestFields, Msg}
use Rattle.oca_control.proofs.Words.{Command, Response, KeepAlive, AnswerFields, answer_of_response, Untaken, new_untaken, is_due, is_late, marked_sent, waits, answered, hears_all, LinkState}
use Rattle.oca_control.proofs.Words.{present_moment, late_at, command_under, submission, submitted, after_submission, Decision, GivesCommand, GivesKeepAlive, GivesNothing, IsLost, decision, after_due}
use Rattle.oca_control.proofs.Words.{hears_content, Call, IsHistory, sendings, goes_on, NothingIsLeft, HasTimeLeft, HaveTimeLeft, HasTimeAt}
use Rattle.oca_control.specs.Driving.{link_from}
use Rattle.oca_control.proofs.Following.{each_map, each_both, each_append}
use Rattle.oca_control.proofs.Dues.{none_first}
use Rattle.oca_control.proofs.Histories.{holds_after}
use Rattle.oca_control.proofs.Settling.{is_quiet, again}

-- how many sendings a command had at most
pub few_sendings : (device : Peer) (first opened s : ℕ) (calls : List Call) (l : LinkState) → 0 < s → IsHistory device first opened s calls l → AllByRecursion (λ u. u.times ≤ 20) l.untaken
few_sendings device first opened s calls l some p =
    let g = holds_after device first opened s calls l some p in
    each_map (λ u q. most u.times (length (sendings opened u.command.handle calls)) q.count (g.now.at_most_20 u.command.handle)) l.untaken g.now.are_sent
  where
    most : (a b : ℕ) → a ≡ b → b ≤ 20 → a ≤ 20
    most a b e q = omega arith

-- Of a command at a moment t: once it was sent it has time left, and all sendings that are left to it from t on come
-- before it is late.
abbrev pub Fits : ℕ → ℕ → Untaken → Type 0
Fits ms t u = is_none u.answer ≡ true →
    (nat_eq u.times 0 ≡ false → u.last + (21 - u.times) * (250 + ms) ≤ u.submitted + 15000) × (t + (20 - u.times) * (250 + ms) ≤ u.submitted + 15000)

one_more : (n k : ℕ) → n ≤ 20 → (21 - n) * k ≡ (20 - n) * k + k
one_more n k p = ap (λ m. m * k) (by n p) ∙ suc-mul (20 - n) k
  where
    by : (n : ℕ) → n ≤ 20 → 21 - n ≡ suc (20 - n)
    by n p = omega arith

waits_young : (a z b : Bool) → a ≡ true → (a && (z || b)) ≡ false → (z ≡ false) × (b ≡ false)
waits_young true true b p d = cc
waits_young true false b p d = (refl, d)
waits_young false z b p d = cc

-- A link at which nothing is left, soon after.
pub fits_soon : (ms now : ℕ) (l : LinkState) → NothingIsLeft l → now ≤ l.moment + ms → AllByRecursion (λ u. u.times ≤ 20) l.untaken → HaveTimeLeft ms l → AllByRecursion (Fits ms (present_moment now l)) l.untaken
fits_soon ms now l left soon few time =
    let q = is_quiet (max l.moment l.moment) l.sent l.lost l.untaken false left in
    each_both {R = λ (u : Untaken). Fits ms (present_moment now l) u}
    (λ u (p : (u.times ≤ 20) × (is_due (max l.moment l.moment) u ≡ false)) (b : HasTimeLeft ms u) w. one u p.0 (waits_young (is_none u.answer) (nat_eq u.times 0) (nat_le 250 (max l.moment l.moment - u.last)) w p.1).1 (b w)) l.untaken
    (each_both {R = λ (u : Untaken). (u.times ≤ 20) × (is_due (max l.moment l.moment) u ≡ false)} (λ u n d. (n, d)) l.untaken few (none_first (max l.moment l.moment) l.untaken q.none)) time
  where
    early : (k : ℕ) → nat_le 250 (max l.moment l.moment - k) ≡ false → max l.moment now ≤ k + (250 + ms)
    early k p = grind (arith, nat_tests)

    further : (t last at rest step more : ℕ) → more ≡ rest + step → t ≤ last + step → last + more ≤ at + 15000 → t + rest ≤ at + 15000
    further t last at rest step more e p q = omega arith

    one : (u : Untaken) → u.times ≤ 20 → nat_le 250 (max l.moment l.moment - u.last) ≡ false → u.last + (21 - u.times) * (250 + ms) ≤ u.submitted + 15000 →
        (nat_eq u.times 0 ≡ false → u.last + (21 - u.times) * (250 + ms) ≤ u.submitted + 15000) × (max l.moment now + (20 - u.times) * (250 + ms) ≤ u.submitted + 15000)
    one u n young bound =
        ((λ q. bound), further (max l.moment now) u.last u.submitted ((20 - u.times) * (250 + ms)) (250 + ms) ((21 - u.times) * (250 + ms)) (one_more u.times (250 + ms) n) (early u.last young) bound)

fits_answered : (ms t h : ℕ) (a : AnswerFields) (us : List Untaken) → AllByRecursion (Fits ms t) us → AllByRecursion (Fits ms t) (map (answered h a) us)
fits_answered ms t h a [] q = tt
fits_answered ms t h a (u ∷ us) q = (by (waits h u) u.answer q.0, fits_answered ms t h a us q.1)
  where
    by : (b : Bool) (o : Option AnswerFields) → (is_none o ≡ true → (nat_eq u.times 0 ≡ false → u.last + (21 - u.times) * (250 + ms) ≤ u.submitted + 15000) × (t + (20 - u.times) * (250 + ms) ≤ u.submitted + 15000)) →
        is_none (cond b (Some a) o) ≡ true → (nat_eq u.times 0 ≡ false → u.last + (21 - u.times) * (250 + ms) ≤ u.submitted + 15000) × (t + (20 - u.times) * (250 + ms) ≤ u.submitted + 15000)
    by true o p w = absurd (never w)
      where
        never : false ≡ true → ⊥
        never e = cc
    by false o p w = p w

fits_heard : (ms t : ℕ) (xs : List Msg) (us : List Untaken) → AllByRecursion (Fits ms t) us → AllByRecursion (Fits ms t) (hears_all xs us)
fits_heard ms t [] us q = q
fits_heard ms t (Response x ∷ xs) us q = fits_heard ms t xs (map (answered x.handle (answer_of_response x)) us) (fits_answered ms t x.handle (answer_of_response x) us q)
fits_heard ms t (KeepAlive form ∷ xs) us q = fits_heard ms t xs us q
fits_heard ms t (Command respond c ∷ xs) us q = fits_heard ms t xs us q

-- What is received changes nothing of it.
pub fits_received : (ms t : ℕ) (b : Bool) (content : Option (List Msg)) (us : List Untaken) → AllByRecursion (Fits ms t) us → AllByRecursion (Fits ms t) (cond b (hears_content content us) us)
fits_received ms t true None us q = q
fits_received ms t true (Some xs) us q = fits_heard ms t xs us q
fits_received ms t false content us q = q

fits_given : (ms t h : ℕ) (us : List Untaken) → AllByRecursion (Fits ms t) us → AllByRecursion (Fits ms t) (map (marked_sent t h) us)
fits_given ms t h [] q = tt
fits_given ms t h (u ∷ us) q = (by (eqb u.command.handle h) q.0, fits_given ms t h us q.1)
  where
    fewer : (n : ℕ) → (20 - (n + 1)) * (250 + ms) ≤ (20 - n) * (250 + ms)
    fewer n = mul-le-mul_right (250 + ms) (less n)
      where
        less : (n : ℕ) → 20 - (n + 1) ≤ 20 - n
        less n = omega arith

    same : (n : ℕ) → (21 - (n + 1)) * (250 + ms) ≡ (20 - n) * (250 + ms)
    same n = ap (λ m. m * (250 + ms)) (equal n)
      where
        equal : (n : ℕ) → 21 - (n + 1) ≡ 20 - n
        equal n = omega arith

    less : (a b c : ℕ) → a ≤ b → t + b ≤ c → t + a ≤ c
    less a b c p q = omega arith

    by : (b : Bool) → Fits ms t u → is_none u.answer ≡ true →
        (nat_eq (cond b (u.times + 1) u.times) 0 ≡ false → cond b t u.last + (21 - cond b (u.times + 1) u.times) * (250 + ms) ≤ u.submitted + 15000)
        × (t + (20 - cond b (u.times + 1) u.times) * (250 + ms) ≤ u.submitted + 15000)
    by true p w = (
      (λ e. subst (λ (k : ℕ). t + k ≤ u.submitted + 15000) (sym (same u.times)) (p w).1),
      less ((20 - (u.times + 1)) * (250 + ms)) ((20 - u.times) * (250 + ms)) (u.submitted + 15000) (fewer u.times) (p w).1,
    )
    by false p w = p w

fits_due : (ms now : ℕ) (l : LinkState) (d : Decision) → AllByRecursion (Fits ms (present_moment now l)) l.untaken → AllByRecursion (Fits ms (present_moment now l)) (after_due d (present_moment now l) l).untaken
fits_due ms now l (GivesCommand c) q = fits_given ms (present_moment now l) c.handle l.untaken q
fits_due ms now l _ q = q

due_moment : (now : ℕ) (l : LinkState) (d : Decision) → present_moment now (after_due d (present_moment now l) l) ≡ present_moment now l
due_moment now l (GivesCommand c) = again l.moment now
due_moment now l _ = again l.moment now

-- What is sent at the moment changes nothing of it.
pub fits_from : (ms now n : ℕ) (l : LinkState) → AllByRecursion (Fits ms (present_moment now l)) l.untaken → AllByRecursion (Fits ms (present_moment now l)) (link_from now n l).untaken
unfolding link_from
fits_from ms now zero l q = q
fits_from ms now (suc n) l q =
    let k = after_due (decision now l) (present_moment now l) l in
    let one = fits_due ms now l (decision now l) q in
    by (goes_on (decision now l)) one
    (subst (λ (t : ℕ). AllByRecursion (Fits ms t) (link_from now n k).untaken) (due_moment now l (decision now l))
    (fits_from ms now n k (subst (λ (t : ℕ). AllByRecursion (Fits ms t) k.untaken) (sym (due_moment now l (decision now l))) one)))
  where
    by : (b : Bool) → AllByRecursion (Fits ms (present_moment now l)) (after_due (decision now l) (present_moment now l) l).untaken →
        AllByRecursion (Fits ms (present_moment now l)) (link_from now n (after_due (decision now l) (present_moment now l) l)).untaken →
        AllByRecursion (Fits ms (present_moment now l)) (cond b (link_from now n (after_due (decision now l) (present_moment now l) l)) (after_due (decision now l) (present_moment now l) l)).untaken
    by true one rest = rest
    by false one rest = one

-- A command that is submitted now fits too, where the pauses are short.
pub fits_submitted : (ms : ℕ) (request : RequestFields) (now : ℕ) (l : LinkState) (h : Handle) → submission request l ≡ Ok h → 20 * (250 + ms) ≤ 15000 → AllByRecursion (Fits ms (present_moment now l)) l.untaken →
    AllByRecursion (Fits ms (present_moment now (submitted request now l))) (submitted request now l).untaken
fits_submitted ms request now l h e short q =
    subst (λ a. AllByRecursion (Fits ms (present_moment now (after_submission a request now l))) (after_submission a request now l).untaken) (sym e)
    (subst (λ (t : ℕ). AllByRecursion (Fits ms t) (l.untaken ++ new_untaken (present_moment now l) (command_under h.0 request) ∷ [])) (sym (again l.moment now))
    (each_append (Fits ms (present_moment now l)) l.untaken (new_untaken (present_moment now l) (command_under h.0 request) ∷ []) q
    ((λ w. ((λ z. absurd (never z)), within (present_moment now l))), tt)))
  where
    never : true ≡ false → ⊥
    never z = cc

    within : (t : ℕ) → t + 20 * (250 + ms) ≤ t + 15000
    within t = omega arith

none_any : (p : Untaken → Bool) (us : List Untaken) → AllByRecursion (λ u. p u ≡ false) us → list_any p us ≡ false
none_any p [] a = refl
none_any p (u ∷ us) a = or_from (p u) (list_any p us) a.0 (none_any p us a.1)

-- A link whose commands fit is not late.
pub calm_fits : (ms now : ℕ) (l : LinkState) → AllByRecursion (Fits ms (present_moment now l)) l.untaken → late_at now l ≡ false
calm_fits ms now l q = none_any (is_late (present_moment now l)) l.untaken (each_map (λ u p. by (is_none u.answer) (λ w. young (max l.moment now) u.submitted ((20 - u.times) * (250 + ms)) (p w).1)) l.untaken q)
  where
    young : (t at rest : ℕ) → t + rest ≤ at + 15000 → nat_lt 15000 (t - at) ≡ false
    young t at rest p = grind (arith, nat_tests)

    by : {b : Bool} (a : Bool) → (a ≡ true → b ≡ false) → (a && b) ≡ false
    by true p = p refl
    by false p = refl

-- Where nothing is left, a command that fits has time left.
pub time_of : (ms : ℕ) (l : LinkState) → NothingIsLeft l → AllByRecursion (Fits ms l.moment) l.untaken → HaveTimeLeft ms l
time_of ms l left fits =
    let q = is_quiet (max l.moment l.moment) l.sent l.lost l.untaken false left in
    each_both {R = λ (u : Untaken). HasTimeLeft ms u}
    (λ u (d : is_due (max l.moment l.moment) u ≡ false) (p : Fits ms l.moment u) w. (p w).0 (waits_young (is_none u.answer) (nat_eq u.times 0) (nat_le 250 (max l.moment l.moment - u.last)) w d).0)
    l.untaken (none_first (max l.moment l.moment) l.untaken q.none) fits

positive : (n : ℕ) → nat_eq n 0 ≡ false → 0 < n
positive n e = grind (arith, nat_tests)

not_zero : (n : ℕ) → 0 < n → nat_eq n 0 ≡ false
not_zero n p = grind (arith, nat_tests)

-- A command that has time at a moment fits.
pub fits_at : (ms t : ℕ) (us : List Untaken) → AllByRecursion (HasTimeAt ms t) us → AllByRecursion (Fits ms t) us
fits_at ms t us time = each_map {Q = Fits ms t} (λ u (p : HasTimeAt ms t u) w. ((λ z. (p w).1 (positive u.times z)), (p w).0)) us time

-- Soon after nothing was left each command has time.
pub time_soon : (device : Peer) (first opened span ms : ℕ) (before : List Call) (l : LinkState) (now : ℕ) → 0 < span → IsHistory device first opened span before l →
    NothingIsLeft l → HaveTimeLeft ms l → now ≤ l.moment + ms → AllByRecursion (HasTimeAt ms (present_moment now l)) l.untaken
time_soon device first opened span ms before l now some p left time soon =
    each_map {Q = HasTimeAt ms (present_moment now l)} (λ u (q : Fits ms (present_moment now l) u) w. ((q w).1, (λ z. (q w).0 (not_zero u.times z)))) l.untaken
    (fits_soon ms now l left soon (few_sendings device first opened span before l some p) time)

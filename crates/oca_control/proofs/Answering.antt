-- What was answered stays so, and what is due is sent.
use Rattle.oca_control.proofs.Words.{◌≡◌, ◌⊎◌, ℕ, suc, ◌+◌, ◌-◌, ◌<◌, ◌≤◌, Bool, true, false, cond, not, ◌&&◌, ◌||◌, max, List, [], ◌∷◌, ◌++◌, length, Some, None, Ok, Err, is_none, is_some, refl, sym}
use Rattle.oca_control.proofs.Words.{ap, ◌∙◌, arith, subst, inl, inr, nat_eq, nat_le, filter, AllByRecursion, list_any, nat_tests, or-true, and_from, eqb-true, and_parts, Peer, same_peer, Msg, Due}
use Rattle.oca_control.proofs.Words.{Reception, AnswerFields, answer_under, LinkState, Call, Submits, SendsDue, Receives, TakesAnswer, IsHistory, clock_of_calls, commands, Sending, sendings}
use Rattle.oca_control.proofs.Words.{answers_among, answers_of, answers_to, first_of, is_untaken, is_answered, may_be_sent, is_due_at, is_lost_answer, is_lost, IsDueAnswer, GivesWhatIsDue}
use Rattle.oca_control.proofs.Words.{has_response, TakesNothingOf, CallsDueAt, is_given_in, is_among, on_bool}
use Rattle.oca_control.specs.declared.due.Due.TheVariants as dues
use Rattle.oca_control.proofs.Following.{each_map, unequal}
use Rattle.oca_control.proofs.Calls.{answer_is}
use Rattle.oca_control.proofs.Dues.{each_held}
use Rattle.oca_control.proofs.Histories.{holds_after}

differs : false ≡ true → ⊥
differs e = cc

-- ---- what was answered stays so

some_more : (xs ys : List AnswerFields) → is_some (first_of xs) ≡ true → is_some (first_of (xs ++ ys)) ≡ true
some_more [] ys e = cc
some_more (x ∷ xs) ys e = refl

some_behind : (xs ys : List AnswerFields) → is_some (first_of ys) ≡ true → is_some (first_of (xs ++ ys)) ≡ true
some_behind [] ys e = e
some_behind (x ∷ xs) ys e = refl

-- a handle that is untaken is not the next one
not_next : (device : Peer) (first opened s h : ℕ) (calls : List Call) (l : LinkState) → 0 < s → IsHistory device first opened s calls l → is_untaken h calls ≡ true → h < first + length (commands calls)
not_next device first opened s h calls l some p open_now =
    let g = (holds_after device first opened s calls l some p).now in
    each_held (λ y. y < first + length (commands calls)) h l.untaken (each_map (λ u q. q.below) l.untaken g.are_sent) (g.held h ∙ open_now)

-- one call more
answered_still : (device : Peer) (first opened s h : ℕ) (call : Call) (calls : List Call) (after : LinkState) → 0 < s → IsHistory device first opened s (call ∷ calls) after →
    TakesNothingOf h call → is_answered device h calls ≡ true → is_answered device h (call ∷ calls) ≡ true
answered_still device first opened s h (Submits r now (Ok x)) calls after some p none so =
    let b = and_parts (is_untaken h calls) (is_some (first_of (answers_to device h calls))) so in
    let below = not_next device first opened s h calls p.0 some p.1 b.0 in
    let number : x.0 ≡ first + length (commands calls) = (holds_after device first opened s (Submits r now (Ok x) ∷ calls) after some p).now.handles.0 in
    and_from (is_untaken h calls || nat_eq x.0 h) (is_some (first_of (cond (nat_eq h x.0) [] (answers_to device h calls))))
    (ap (λ c. c || nat_eq x.0 h) b.0)
    (ap (λ c. is_some (first_of (cond c [] (answers_to device h calls)))) (unequal h x.0 (omega arith)) ∙ b.1)
answered_still device first opened s h (Submits r now (Err fault)) calls after some p none so = so
answered_still device first opened s h (SendsDue now a bytes) calls after some p none so = so
answered_still device first opened s h (Receives from bytes content now a) calls after some p none so =
    let b = and_parts (is_untaken h calls) (is_some (first_of (answers_to device h calls))) so in
    and_from (is_untaken h calls) (is_some (first_of (answers_to device h calls ++ cond (same_peer from device) (answers_of h content) []))) b.0
    (some_more (answers_to device h calls) (cond (same_peer from device) (answers_of h content) []) b.1)
answered_still device first opened s h (TakesAnswer x (Some a)) calls after some p none so =
    let b = and_parts (is_untaken h calls) (is_some (first_of (answers_to device h calls))) so in
    and_from (not (nat_eq x h) && is_untaken h calls) (is_some (first_of (answers_to device h calls)))
    (ap (λ c. not c && is_untaken h calls) (unequal x h none) ∙ b.0) b.1
  where
    unequal : (a b : ℕ) → (a ≡ b → ⊥) → nat_eq a b ≡ false
    unequal a b p = by_test (nat_eq a b) refl
      where
        by_test : (c : Bool) → nat_eq a b ≡ c → c ≡ false
        by_test true q = absurd (p (eqb-true a b q))
        by_test false q = refl
answered_still device first opened s h (TakesAnswer x None) calls after some p none so = so

answered_first : (device : Peer) (h : ℕ) (before : List Call) (from : Peer) (bytes : List ℕ) (messages : List Msg) (now : ℕ) (a : Reception) → same_peer from device ≡ true →
    is_untaken h before ≡ true → has_response h messages ≡ true → is_answered device h (Receives from bytes (Some messages) now a ∷ before) ≡ true
answered_first device h before from bytes messages now a same open_now has =
    and_from (is_untaken h before) (is_some (first_of (answers_to device h before ++ cond (same_peer from device) (answers_among h messages) []))) open_now
    (ap (λ b. is_some (first_of (answers_to device h before ++ cond b (answers_among h messages) []))) same ∙ some_behind (answers_to device h before) (answers_among h messages) has)

answered_later : (device : Peer) (first opened s h : ℕ) (later calls : List Call) (after : LinkState) → 0 < s → IsHistory device first opened s (later ++ calls) after →
    AllByRecursion (TakesNothingOf h) later → is_answered device h calls ≡ true → is_answered device h (later ++ calls) ≡ true
answered_later device first opened s h [] calls after some p none so = so
answered_later device first opened s h (call ∷ later) calls after some p none so =
    answered_still device first opened s h call (later ++ calls) after some p none.0 (answered_later device first opened s h later calls p.0 some p.1 none.1 so)

-- After a well-formed datagram of the device with a response to an untaken command, a link whose span is not 0 holds an
-- answer to it, as long as no take of its handle is called.
pub answer_kept : (device : Peer) (first opened span : ℕ) (before later : List Call) (after : LinkState) (h : ℕ) (from : Peer) (bytes : List ℕ) (messages : List Msg) (now : ℕ) (a : Reception) →
    0 < span → IsHistory device first opened span (later ++ Receives from bytes (Some messages) now a ∷ before) after → same_peer from device ≡ true → is_untaken h before ≡ true →
    has_response h messages ≡ true → AllByRecursion (TakesNothingOf h) later → is_some (answer_under h after.untaken) ≡ true
answer_kept device first opened span before later after h from bytes messages now a some p same open_now has none =
    let calls : List Call = later ++ Receives from bytes (Some messages) now a ∷ before in
    let g = (holds_after device first opened span calls after some p).now in
    let so = answered_later device first opened span h later (Receives from bytes (Some messages) now a ∷ before) after some p none
    (answered_first device h before from bytes messages now a same open_now has) in
    let b = and_parts (is_untaken h calls) (is_some (first_of (answers_to device h calls))) so in
    ap is_some (answer_is h (λ x. answers_to device x calls) after.untaken g.are_answered ∙ ap (λ c. cond c (first_of (answers_to device h calls)) None) (g.held h ∙ b.0)) ∙ b.1

-- ---- what is due is sent

abbrev without : ℕ → List ℕ → List ℕ
without x xs = filter (λ y. not (nat_eq y x)) xs

among_without : (x y : ℕ) (xs : List ℕ) → is_among y xs ≡ true → nat_eq y x ≡ false → is_among y (without x xs) ≡ true
among_without x y [] e d = cc
among_without x y (z ∷ zs) e d = by_tests (nat_eq z x) refl (nat_eq z y) refl e (λ f. among_without x y zs f d)
  where
    clash : nat_eq z x ≡ true → nat_eq z y ≡ true → nat_eq y x ≡ false → ⊥
    clash p q r = grind (arith, nat_tests)

    by_tests : (a : Bool) → nat_eq z x ≡ a → (b : Bool) → nat_eq z y ≡ b → (b || is_among y zs) ≡ true → (is_among y zs ≡ true → is_among y (without x zs) ≡ true) →
        is_among y (cond (not a) (z ∷ without x zs) (without x zs)) ≡ true
    by_tests true p true q e rest = absurd (clash p q d)
    by_tests true p false q e rest = rest e
    by_tests false p true q e rest = ap (λ b. b || is_among y (without x zs)) q
    by_tests false p false q e rest = ap (λ b. b || is_among y (without x zs)) q ∙ rest e

no_longer : (x : ℕ) (xs : List ℕ) → length (without x xs) ≤ length xs
no_longer x [] = omega arith
no_longer x (z ∷ zs) = by_test (nat_eq z x) (no_longer x zs)
  where
    by_test : (b : Bool) → length (without x zs) ≤ length zs → length (cond (not b) (z ∷ without x zs) (without x zs)) ≤ suc (length zs)
    by_test true p = further (length (without x zs)) (length zs) p
      where
        further : (a b : ℕ) → a ≤ b → a ≤ suc b
        further a b p = omega arith
    by_test false p = further (length (without x zs)) (length zs) p
      where
        further : (a b : ℕ) → a ≤ b → suc a ≤ suc b
        further a b p = omega arith

shorter : (x : ℕ) (xs : List ℕ) → is_among x xs ≡ true → length (without x xs) < length xs
shorter x [] e = cc
shorter x (z ∷ zs) e = by_test (nat_eq z x) e (shorter x zs)
  where
    by_test : (b : Bool) → (b || is_among x zs) ≡ true → (is_among x zs ≡ true → length (without x zs) < length zs) → length (cond (not b) (z ∷ without x zs) (without x zs)) < suc (length zs)
    by_test true e rest = further (length (without x zs)) (length zs) (no_longer x zs)
      where
        further : (a b : ℕ) → a ≤ b → a < suc b
        further a b p = omega arith
    by_test false e rest = further (length (without x zs)) (length zs) (rest e)
      where
        further : (a b : ℕ) → a < b → suc a < suc b
        further a b p = omega arith

some_among : (x : ℕ) (xs : List ℕ) → is_among x xs ≡ true → 0 < length xs
some_among x [] e = cc
some_among x (z ∷ zs) e = above (length zs)
  where
    above : (n : ℕ) → 0 < suc n
    above n = omega arith

-- the handle is still due, and all that are due stand in a list, which is shorter by each call
record StillDue (device : Peer) (opened t h most : ℕ) (calls : List Call) (made : ℕ) : Type 0 where
  pub left : List ℕ
  pub covers : (x : ℕ) → is_due_at device opened t x calls ≡ true → is_among x left ≡ true
  pub due : is_due_at device opened t h calls ≡ true
  pub count : length left + made ≤ most

module _ (device : Peer) (opened now t h most : ℕ) (calls : List Call) (made : ℕ) (t_is : max (clock_of_calls opened calls) now ≡ t) where
  abbrev sent_now : List ℕ → Sending
  sent_now bytes = record { at = max (clock_of_calls opened calls) now; bytes = bytes }

  -- what was just sent is not due
  not_again : (y : ℕ) (bytes : List ℕ) → (is_untaken y calls && (is_none (first_of (answers_to device y calls)) && may_be_sent t (sent_now bytes ∷ sendings opened y calls))) ≡ true → ⊥
  not_again y bytes e =
      let b = and_parts (is_untaken y calls) (is_none (first_of (answers_to device y calls)) && may_be_sent t (sent_now bytes ∷ sendings opened y calls)) e in
      let c = and_parts (is_none (first_of (answers_to device y calls))) (may_be_sent t (sent_now bytes ∷ sendings opened y calls)) b.1 in
      differs (sym (young (max (clock_of_calls opened calls) now) t_is) ∙ c.1)
    where
      young : (m : ℕ) → m ≡ t → nat_le 250 (t - m) ≡ false
      young m e = grind (arith, nat_tests)

  one_call : (a : Due) (bytes : List ℕ) → IsDueAnswer device opened t bytes calls a → StillDue device opened t h most calls made →
      (is_lost (SendsDue now a bytes ∷ calls) ≡ true) ⊎ ((is_given_in h (SendsDue now a bytes) ≡ true) ⊎ StillDue device opened t h most (SendsDue now a bytes ∷ calls) (suc made))
  one_call (dues.Send x) bytes q s =
      on_bool (nat_eq x.0 h) (λ b. nat_eq x.0 h ≡ b → (is_lost (SendsDue now (dues.Send x) bytes ∷ calls) ≡ true) ⊎ ((is_given_in h (SendsDue now
      (dues.Send x) bytes) ≡ true) ⊎ StillDue device opened t h most (SendsDue now (dues.Send x) bytes ∷ calls) (suc made)))
      (λ p. inr (inl p))
      (λ p. inr (inr (record {
        left = without x.0 s.left;
        covers = λ y e. covered y (nat_eq y x.0) refl e;
        due = other h (turned x.0 h p) ∙ s.due;
        count = fewer (length (without x.0 s.left)) (length s.left) (shorter x.0 s.left (s.covers x.0 q.1.due)) s.count;
      }))) refl
    where
      other : (y : ℕ) → nat_eq y x.0 ≡ false → is_due_at device opened t y (SendsDue now (dues.Send x) bytes ∷ calls) ≡ is_due_at device opened t y calls
      other y p = ap (λ b. is_untaken y calls && (is_none (first_of (answers_to device y calls)) && may_be_sent t (cond b (sent_now bytes ∷ sendings opened y calls) (sendings opened y calls)))) p

      covered : (y : ℕ) (b : Bool) → nat_eq y x.0 ≡ b →
          (is_untaken y calls && (is_none (first_of (answers_to device y calls)) && may_be_sent t (cond b (sent_now bytes ∷ sendings opened y calls) (sendings opened y calls)))) ≡ true →
          is_among y (without x.0 s.left) ≡ true
      covered y true p e = absurd (not_again y bytes e)
      covered y false p e = among_without x.0 y s.left (s.covers y e) p

      turned : (a b : ℕ) → nat_eq a b ≡ false → nat_eq b a ≡ false
      turned a b p = grind (arith, nat_tests)

      fewer : (a b : ℕ) → a < b → b + made ≤ most → a + suc made ≤ most
      fewer a b p q = omega arith
  one_call dues.KeepAlive bytes q s = absurd (differs (sym (q.1 h) ∙ s.due))
  one_call dues.Nothing bytes q s = absurd (differs (sym (q.1 h) ∙ s.due))
  one_call dues.Lost bytes q s = inl refl

-- the clock at the moment of the calls
clock_stays : (opened now : ℕ) (before calls : List Call) → AllByRecursion (CallsDueAt now) calls → max (clock_of_calls opened (calls ++ before)) now ≡ max (clock_of_calls opened before) now
clock_stays opened now before [] e = refl
clock_stays opened now before (SendsDue n a bytes ∷ calls) e = same (clock_of_calls opened (calls ++ before)) n e.0 ∙ clock_stays opened now before calls e.1
  where
    same : (c n : ℕ) → n ≡ now → max (max c n) now ≡ max c now
    same c n e = omega arith
clock_stays opened now before _ e = absurd e.0

goes_on_until : (device : Peer) (opened now h : ℕ) (before calls : List Call) (due : List ℕ) → GivesWhatIsDue device opened (calls ++ before) → AllByRecursion (CallsDueAt now) calls →
    is_due_at device opened (max (clock_of_calls opened before) now) h before ≡ true → ((x : ℕ) → is_due_at device opened (max (clock_of_calls opened before) now) x before ≡ true → is_among x due ≡ true) →
    (is_lost (calls ++ before) ≡ true) ⊎ ((list_any (is_given_in h) calls ≡ true) ⊎ StillDue device opened (max (clock_of_calls opened before) now) h (length due) (calls ++ before) (length calls))
goes_on_until device opened now h before [] due g e d covers = inr (inr (record { left = due; covers = covers; due = d; count = at_first (length due) }))
  where
    at_first : (n : ℕ) → n + 0 ≤ n
    at_first n = omega arith
goes_on_until device opened now h before (SendsDue n a bytes ∷ calls) due g e d covers = by (goes_on_until device opened now h before calls due g.1 e.1 d covers)
  where
    t_is : max (clock_of_calls opened (calls ++ before)) now ≡ max (clock_of_calls opened before) now
    t_is = clock_stays opened now before calls e.1

    same_now : max (clock_of_calls opened (calls ++ before)) n ≡ max (clock_of_calls opened before) now
    same_now = ap (λ m. max (clock_of_calls opened (calls ++ before)) m) e.0 ∙ t_is

    by_call : (is_lost (SendsDue n a bytes ∷ (calls ++ before)) ≡ true) ⊎ ((is_given_in h (SendsDue n a bytes) ≡ true) ⊎ StillDue device opened (max (clock_of_calls opened before) now) h (length due) (SendsDue n a bytes ∷ (calls ++ before)) (suc (length calls))) →
        (is_lost (SendsDue n a bytes ∷ (calls ++ before)) ≡ true) ⊎ ((list_any (is_given_in h) (SendsDue n a bytes ∷ calls) ≡ true) ⊎ StillDue device opened (max (clock_of_calls opened before) now) h (length due) (SendsDue n a bytes ∷ (calls ++ before)) (suc (length calls)))
    by_call (inl lost) = inl lost
    by_call (inr (inl given)) = inr (inl (ap (λ b. b || list_any (is_given_in h) calls) given))
    by_call (inr (inr s)) = inr (inr s)

    by : (is_lost (calls ++ before) ≡ true) ⊎ ((list_any (is_given_in h) calls ≡ true) ⊎ StillDue device opened (max (clock_of_calls opened before) now) h (length due) (calls ++ before) (length calls)) →
        (is_lost (SendsDue n a bytes ∷ (calls ++ before)) ≡ true) ⊎ ((list_any (is_given_in h) (SendsDue n a bytes ∷ calls) ≡ true) ⊎ StillDue device opened (max (clock_of_calls opened before) now) h (length due) (SendsDue n a bytes ∷ (calls ++ before)) (suc (length calls)))
    by (inl lost) = inl (ap (λ b. is_lost_answer a || b) lost ∙ or-true (is_lost_answer a))
    by (inr (inl given)) = inr (inl (ap (λ b. is_given_in h (SendsDue n a bytes) || b) given ∙ or-true (is_given_in h (SendsDue n a bytes))))
    by (inr (inr s)) = by_call (one_call device opened n (max (clock_of_calls opened before) now) h (length due) (calls ++ before) (length calls) same_now a bytes
        (subst (λ (m : ℕ). IsDueAnswer device opened m bytes (calls ++ before) a) same_now g.0) s)
goes_on_until device opened now h before _ due g e d covers = absurd e.0

-- Among calls of `due` alone, at one moment, and at least as many of them as handles are due then, each handle that is
-- due is sent, or the link is lost (span not 0).
pub marked_sent : (device : Peer) (first opened span : ℕ) (before calls : List Call) (after : LinkState) (now h : ℕ) (due : List ℕ) → 0 < span → IsHistory device first opened span (calls ++ before) after →
    AllByRecursion (CallsDueAt now) calls → is_due_at device opened (max (clock_of_calls opened before) now) h before ≡ true →
    ((x : ℕ) → is_due_at device opened (max (clock_of_calls opened before) now) x before ≡ true → is_among x due ≡ true) → length due ≤ length calls →
    (is_lost (calls ++ before) ≡ true) ⊎ (list_any (is_given_in h) calls ≡ true)
marked_sent device first opened span before calls after now h due some p e d covers enough =
    by (goes_on_until device opened now h before calls due (holds_after device first opened span (calls ++ before) after some p).dues_are e d covers)
  where
    too_many : (n k m : ℕ) → 0 < n → n + k ≤ m → m ≤ k → ⊥
    too_many n k m p q r = omega arith

    by : (is_lost (calls ++ before) ≡ true) ⊎ ((list_any (is_given_in h) calls ≡ true) ⊎ StillDue device opened (max (clock_of_calls opened before) now) h (length due) (calls ++ before) (length calls)) →
        (is_lost (calls ++ before) ≡ true) ⊎ (list_any (is_given_in h) calls ≡ true)
    by (inl lost) = inl lost
    by (inr (inl given)) = inr given
    by (inr (inr s)) = absurd (too_many (length s.left) (length calls) (length due) (some_among h s.left (s.covers h s.due)) s.count enough)

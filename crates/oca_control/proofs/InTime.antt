-- A link that is asked often enough gives each command that waits out in time.
use Rattle.oca_control.proofs.Words.{◌≡◌, ℕ, suc, ◌+◌, ◌-◌, ◌*◌, ◌<◌, ◌≤◌, Bool, true, false, cond, not, ◌&&◌, ◌||◌, max, List, [], ◌∷◌, ◌++◌, length, Some, None, Ok, Err, is_none, refl, sym, ap, ◌∙◌}
use Rattle.oca_control.proofs.Words.{arith, nat_eq, nat_le, nat_tests, or_parts, and_parts, le_refl, Peer, Handle, same_peer, Due, AnswerFields, LinkState, Request, Call, Submits, SendsDue, Receives}
use Rattle.oca_control.proofs.Words.{TakesAnswer, IsHistory, clock_of_calls, commands, Sending, sending_of, sendings, answers_of, answers_to, first_of, is_untaken, may_be_sent, is_lost_answer}
use Rattle.oca_control.proofs.Words.{is_lost, NoneIsDue, IsDueAnswer, is_none_left, last_asked, IsAskedEvery, IsWaiting, IsSentInTime}
use Rattle.std.proofs.lemmas.Nat.{row_fits}
use Rattle.oca_control.specs.declared.due.Due.TheVariants as dues
use Rattle.oca_control.proofs.Following.{unequal}
use Rattle.oca_control.proofs.Histories.{IsMadeBy, is_made_by, holds_after_calls}

none_more : (xs ys : List AnswerFields) → first_of (xs ++ ys) ≡ None → first_of xs ≡ None
none_more [] ys e = refl
none_more (x ∷ xs) ys e = cc

first_alone : (a b : Bool) → (a || b) ≡ true → b ≡ false → a ≡ true
first_alone true b e q = refl
first_alone false b e q = cc

-- ---- how long ago

abbrev IsRested : ℕ → ℕ → List Sending → Type 0
IsRested since asked [] = asked ≤ since
IsRested since asked (x ∷ given) = asked < x.at + 250

abbrev IsEarly : ℕ → ℕ → List Sending → Type 0
IsEarly ms since [] = Unit {0}
IsEarly ms since (x ∷ given) = x.at ≤ since + ms + length given * (250 + ms)

-- it was sent less than 250 ms before no command was left for the last time, and each time soon after the one before
pub record Given (ms since asked : ℕ) (given : List Sending) : Type 0 where
  pub rested : IsRested since asked given
  pub early : IsEarly ms since given

-- it is sent once more
once_more : (ms since asked t : ℕ) (bytes : List ℕ) (given : List Sending) → asked ≤ t → t ≤ asked + ms → Given ms since asked given →
    Given ms since asked ((let x : Sending = record { at = t; bytes = bytes } in x) ∷ given)
once_more ms since asked t bytes given p q g = record { rested = omega arith; early = by given g.rested g.early }
  where
    by : (xs : List Sending) → IsRested since asked xs → IsEarly ms since xs → t ≤ since + ms + length xs * (250 + ms)
    by [] r e = omega arith
    by (x ∷ xs) r e = let r' : asked < x.at + 250 = r in let e' : x.at ≤ since + ms + length xs * (250 + ms) = e in omega arith

-- no command is left to send
none_left : (ms since asked t : ℕ) (given : List Sending) → may_be_sent t given ≡ false → Given ms since asked given → Given ms since t given
none_left ms since asked t [] e g = cc
none_left ms since asked t (x ∷ xs) e g = record { rested = young x.at e; early = g.early }
  where
    young : (s : ℕ) → nat_le 250 (t - s) ≡ false → t < s + 250
    young s q = grind (arith, nat_tests)

in_time_by : (ms since asked t : ℕ) (given : List Sending) → t ≤ asked + ms → length given ≤ 20 → Given ms since asked given → IsSentInTime ms since t given
in_time_by ms since asked t [] p few g = let r : asked ≤ since = g.rested in record { recent = omega arith; ends = omega arith }
in_time_by ms since asked t (x ∷ xs) p few g =
    let r : asked < x.at + 250 = g.rested in
    let e : x.at ≤ since + ms + length xs * (250 + ms) = g.early in
    let m : length xs * (250 + ms) + (250 + ms) ≤ 20 * (250 + ms) = row_fits (length xs) (250 + ms) 20 (250 + ms) (below (length xs) few) (le_refl (250 + ms)) in
    record { recent = omega arith; ends = omega arith }
  where
    below : (n : ℕ) → suc n ≤ 20 → n < 20
    below n p = omega arith

-- ---- from a submit on

module _ (device : Peer) (first opened s : ℕ) (some : 0 < s) (before : List Call) (r : Request) (now ms : ℕ) (h : Handle) where
  abbrev base : List Call
  base = Submits r now (Ok h) ∷ before

  abbrev since : ℕ
  since = max (clock_of_calls opened before) now

  pub clock_from : (later : List Call) → clock_of_calls opened (later ++ base) ≡ clock_of_calls since later
  clock_from [] = refl
  clock_from (Submits q n (Ok x) ∷ later) = ap (λ m. max m n) (clock_from later)
  clock_from (Submits q n (Err f) ∷ later) = clock_from later
  clock_from (SendsDue n a bytes ∷ later) = ap (λ m. max m n) (clock_from later)
  clock_from (Receives from bytes content n a ∷ later) = ap (λ m. max m n) (clock_from later)
  clock_from (TakesAnswer x a ∷ later) = clock_from later

  -- so do the sendings, where there were none before
  pub sent_from : (later : List Call) → sendings opened h.0 before ≡ [] → sendings opened h.0 (later ++ base) ≡ sendings since h.0 later
  sent_from [] e = e
  sent_from (Submits q n (Ok x) ∷ later) e = sent_from later e
  sent_from (Submits q n (Err f) ∷ later) e = sent_from later e
  sent_from (SendsDue n a bytes ∷ later) e =
      ap (λ (c : ℕ). sending_of h.0 a (record { at = max c n; bytes = bytes }) (sendings opened h.0 (later ++ base))) (clock_from later)
      ∙ ap (λ (xs : List Sending). sending_of h.0 a (record { at = max (clock_of_calls since later) n; bytes = bytes }) xs) (sent_from later e)
  sent_from (Receives from bytes content n a ∷ later) e = sent_from later e
  sent_from (TakesAnswer x a ∷ later) e = sent_from later e

  further : (a c n : ℕ) → a ≤ c → a ≤ max c n
  further a c n p = omega arith

  asked_then : (later : List Call) → last_asked since later ≤ clock_of_calls since later
  asked_then [] = omega arith
  asked_then (Submits q n (Ok x) ∷ later) = further (last_asked since later) (clock_of_calls since later) n (asked_then later)
  asked_then (Submits q n (Err f) ∷ later) = asked_then later
  asked_then (SendsDue n a bytes ∷ later) = by (is_none_left a) (clock_of_calls since later) (last_asked since later) (asked_then later)
    where
      by : (b : Bool) (c l : ℕ) → l ≤ c → cond b (max c n) l ≤ max c n
      by true c l p = omega arith
      by false c l p = omega arith
  asked_then (Receives from bytes content n a ∷ later) = further (last_asked since later) (clock_of_calls since later) n (asked_then later)
  asked_then (TakesAnswer x a ∷ later) = asked_then later

  lately : (later : List Call) → IsAskedEvery ms since later → clock_of_calls since later ≤ last_asked since later + ms
  lately [] e = omega arith
  lately (call ∷ later) e = e.0

  -- the command is one of those that were accepted
  accepted_more : (later : List Call) → length (commands before) < length (commands (later ++ base))
  accepted_more [] = more (length (commands before))
    where
      more : (n : ℕ) → n < suc n
      more n = omega arith
  accepted_more (Submits q n (Ok x) ∷ later) = more (length (commands before)) (length (commands (later ++ base))) (accepted_more later)
    where
      more : (a b : ℕ) → a < b → a < suc b
      more a b p = omega arith
  accepted_more (Submits q n (Err f) ∷ later) = accepted_more later
  accepted_more (SendsDue n a bytes ∷ later) = accepted_more later
  accepted_more (Receives from bytes content n a ∷ later) = accepted_more later
  accepted_more (TakesAnswer x a ∷ later) = accepted_more later

  number_of : (later : List Call) (after : LinkState) → IsMadeBy device first opened s (later ++ base) after → h.0 ≡ first + length (commands before)
  number_of [] after p = (holds_after_calls device first opened s base after some p).now.handles.0
  number_of (call ∷ later) after p = number_of later p.0 p.1

  -- a later command has another handle
  other : (later : List Call) (q : Request) (n : ℕ) (x : Handle) (after : LinkState) → IsMadeBy device first opened s (Submits q n (Ok x) ∷ (later ++ base)) after → h.0 < x.0
  other later q n x after p =
      let mine : h.0 ≡ first + length (commands before) = number_of later p.0 p.1 in
      let its : x.0 ≡ first + length (commands (later ++ base)) = (holds_after_calls device first opened s (Submits q n (Ok x) ∷ (later ++ base)) after some p).now.handles.0 in
      let more : length (commands before) < length (commands (later ++ base)) = accepted_more later in
      omega arith

  unequal_turned : (a b : ℕ) → a < b → nat_eq b a ≡ false
  unequal_turned a b p = grind (arith, nat_tests)

  abbrev GivenAfter : List Call → Type 0
  GivenAfter later = Given ms since (last_asked since later) (sendings opened h.0 (later ++ base))

  -- a call of `due`, whatever it answers
  by_due : (later : List Call) (n : ℕ) (a : Due) (bytes : List ℕ) → clock_of_calls since (SendsDue n a bytes ∷ later) ≤ last_asked since (SendsDue n a bytes ∷ later) + ms →
      IsDueAnswer device opened (max (clock_of_calls opened (later ++ base)) n) bytes (later ++ base) a → IsWaiting device h.0 (SendsDue n a bytes ∷ (later ++ base)) → GivenAfter later →
      GivenAfter (SendsDue n a bytes ∷ later)
  by_due later n a bytes soon d w g = by a soon d w
    where
      t : ℕ
      t = max (clock_of_calls opened (later ++ base)) n

      t_is : t ≡ max (clock_of_calls since later) n
      t_is = ap (λ m. max m n) (clock_from later)

      at_t : (bytes : List ℕ) → max (clock_of_calls since later) n ≤ last_asked since later + ms →
          Given ms since (last_asked since later) ((let x : Sending = record { at = max (clock_of_calls opened (later ++ base)) n; bytes = bytes } in x) ∷ (sendings opened h.0 (later ++ base)))
      at_t bytes p = once_more ms since (last_asked since later) t bytes (sendings opened h.0 (later ++ base))
          (rw t_is (further (last_asked since later) (clock_of_calls since later) n (asked_then later))) (rw t_is p) g

      sent : (x : Handle) (bytes : List ℕ) (b : Bool) → max (clock_of_calls since later) n ≤ last_asked since later + ms →
          Given ms since (last_asked since later) (cond b ((let x : Sending = record { at = max (clock_of_calls opened (later ++ base)) n; bytes = bytes } in x) ∷ (sendings opened h.0 (later ++ base))) (sendings opened h.0 (later ++ base)))
      sent x bytes true p = at_t bytes p
      sent x bytes false p = g

      resting : is_untaken h.0 (later ++ base) ≡ true → first_of (answers_to device h.0 (later ++ base)) ≡ None → NoneIsDue device opened t (later ++ base) → may_be_sent t (sendings opened h.0 (later ++ base)) ≡ false
      resting u none d = second (is_untaken h.0 (later ++ base)) (is_none (first_of (answers_to device h.0 (later ++ base)))) (may_be_sent t (sendings opened h.0 (later ++ base))) u (ap is_none none) (d h.0)
        where
          second : (a b c : Bool) → a ≡ true → b ≡ true → (a && (b && c)) ≡ false → c ≡ false
          second true true c p q e = e
          second true false c p q e = cc
          second false b c p q e = cc

      left : is_untaken h.0 (later ++ base) ≡ true → first_of (answers_to device h.0 (later ++ base)) ≡ None → NoneIsDue device opened t (later ++ base) → Given ms since (max (clock_of_calls since later) n) (sendings opened h.0 (later ++ base))
      left u none d = rw t_is at (none_left ms since (last_asked since later) t (sendings opened h.0 (later ++ base)) (resting u none d) g)

      by : (a : Due) → clock_of_calls since (SendsDue n a bytes ∷ later) ≤ last_asked since (SendsDue n a bytes ∷ later) + ms →
          IsDueAnswer device opened (max (clock_of_calls opened (later ++ base)) n) bytes (later ++ base) a → IsWaiting device h.0 (SendsDue n a bytes ∷ (later ++ base)) →
          GivenAfter (SendsDue n a bytes ∷ later)
      by (dues.Send x) soon d w = sent x bytes (nat_eq h.0 x.0) soon
      by dues.KeepAlive soon d w = left w.untaken w.unanswered d.1
      by dues.Nothing soon d w = left w.untaken w.unanswered d.1
      by dues.Lost soon d w = let q : true ≡ false = w.not_lost in cc

  given : (later : List Call) (after : LinkState) → IsMadeBy device first opened s (later ++ base) after → IsAskedEvery ms since later → IsWaiting device h.0 (later ++ base) → GivenAfter later
  given [] after p e w = rw none (record { rested = le_refl since; early = tt })
    where
      none : sendings opened h.0 before ≡ []
      none = let n : h.0 ≡ first + length (commands before) = number_of [] after p in (holds_after_calls device first opened s before p.0 some p.1).now.fresh h.0 (omega arith)
  given (SendsDue n a bytes ∷ later) after p e w =
      let lost = or_parts (is_lost_answer a) (is_lost (later ++ base)) w.not_lost in
      by_due later n a bytes e.0 (holds_after_calls device first opened s (SendsDue n a bytes ∷ (later ++ base)) after some p).dues_are.0 w
      (given later p.0 p.1 e.1 (record { untaken = w.untaken; unanswered = w.unanswered; not_lost = lost.1 }))
  given (Submits q n (Ok x) ∷ later) after p e w =
      let above : h.0 < x.0 = other later q n x after p in
      given later p.0 p.1 e.1 (record {
        untaken = first_alone (is_untaken h.0 (later ++ base)) (nat_eq x.0 h.0) w.untaken (unequal_turned h.0 x.0 above);
        unanswered = sym (ap (λ b. first_of (cond b [] (answers_to device h.0 (later ++ base)))) (unequal h.0 x.0 above)) ∙ w.unanswered;
        not_lost = w.not_lost;
      })
  given (Submits q n (Err f) ∷ later) after p e w = given later p.0 p.1 e.1 (record { untaken = w.untaken; unanswered = w.unanswered; not_lost = w.not_lost })
  given (Receives from bytes content n a ∷ later) after p e w = given later p.0 p.1 e.1 (record {
    untaken = w.untaken;
    unanswered = none_more (answers_to device h.0 (later ++ base)) (cond (same_peer from device) (answers_of h.0 content) []) w.unanswered;
    not_lost = w.not_lost;
  })
  given (TakesAnswer x (Some a) ∷ later) after p e w = given later p.0 p.1 e.1 (record {
    untaken = (and_parts (not (nat_eq x h.0)) (is_untaken h.0 (later ++ base)) w.untaken).1;
    unanswered = w.unanswered;
    not_lost = w.not_lost;
  })
  given (TakesAnswer x None ∷ later) after p e w = given later p.0 p.1 e.1 (record { untaken = w.untaken; unanswered = w.unanswered; not_lost = w.not_lost })

  pub in_time_made : (later : List Call) (after : LinkState) → IsMadeBy device first opened s (later ++ base) after → IsAskedEvery ms since later → IsWaiting device h.0 (later ++ base) →
      IsSentInTime ms since (clock_of_calls opened (later ++ base)) (sendings opened h.0 (later ++ base))
  in_time_made later after p e w =
      in_time_by ms since (last_asked since later) (clock_of_calls opened (later ++ base)) (sendings opened h.0 (later ++ base)) (rw (clock_from later) (lately later e))
      ((holds_after_calls device first opened s (later ++ base) after some p).now.at_most_20 h.0) (given later after p e w)

-- Where a link whose span is not 0 is asked every so many ms from the submit of a command on, the command is sent
-- in time as long as it is waiting.
pub in_time : (device : Peer) (first opened span : ℕ) (before later : List Call) (after : LinkState) (r : Request) (now ms : ℕ) (h : Handle) → 0 < span →
    IsHistory device first opened span (later ++ Submits r now (Ok h) ∷ before) after → IsAskedEvery ms (max (clock_of_calls opened before) now) later →
    IsWaiting device h.0 (later ++ Submits r now (Ok h) ∷ before) →
    IsSentInTime ms (max (clock_of_calls opened before) now) (clock_of_calls opened (later ++ Submits r now (Ok h) ∷ before)) (sendings opened h.0 (later ++ Submits r now (Ok h) ∷ before))
in_time device first opened span before later after r now ms h some p e w =
    in_time_made device first opened span some before r now ms h later after (is_made_by device first opened span (later ++ Submits r now (Ok h) ∷ before) after p) e w

-- How many commands a datagram answers.
use Rattle.oca_control.proofs.Words.{◌≡◌, ℕ, suc, ◌+◌, ◌<◌, Bool, true, false, cond, ◌&&◌, ◌||◌, List, [], ◌∷◌, length, map, Option, Some, None, is_none, is_some, refl, sym, ap, ◌∙◌, arith, subst}
use Rattle.oca_control.proofs.Words.{nat_eq, filter, AllByRecursion, list_any, nat_tests, and-false, and-true, eqb-true, Peer, same_peer, Msg, Command, Response, KeepAlive, Reception, AnswerFields}
use Rattle.oca_control.proofs.Words.{answer_of_response, Untaken, waits, answered, answers_by_all, holds, LinkState, reception, reception_of, reception_counted, Call, Submits, SendsDue, Receives}
use Rattle.oca_control.proofs.Words.{TakesAnswer, IsHistory, answers_among, answers_to, first_of, is_untaken, on_bool}
use Rattle.oca_control.specs.declared.reception.Reception.TheVariants as receptions
use Rattle.oca_control.specs.Receptions.{AreRising, AnswersSoMany, AnswersOfDevice, IsReception, AnswersDatagrams}
use Rattle.oca_control.proofs.Following.{each_map, AreAnswered}
use Rattle.oca_control.proofs.Dues.{Rises, rises_answered}
use Rattle.oca_control.proofs.Histories.{holds_after}

-- it gets its first answer among these messages
abbrev fresh : List Msg → Untaken → Bool
fresh ms u = is_none u.answer && is_some (first_of (answers_among u.command.handle ms))

none_fresh : (us : List Untaken) → length (filter (fresh []) us) ≡ 0
none_fresh [] = refl
none_fresh (u ∷ us) = ap (λ b. length (cond b (u ∷ filter (fresh []) us) (filter (fresh []) us))) (and-false (is_none u.answer)) ∙ none_fresh us

-- no other waits behind
none_waits : (h k : ℕ) (us : List Untaken) → h ≡ k → AllByRecursion (λ v. k < v.command.handle) us → list_any (waits h) us ≡ false
none_waits h k [] e p = refl
none_waits h k (u ∷ us) e p = ap (λ b. (b && is_none u.answer) || list_any (waits h) us) (unequal u.command.handle p.0) ∙ none_waits h k us e p.1
  where
    unequal : (x : ℕ) → k < x → nat_eq x h ≡ false
    unequal x q = grind (arith, nat_tests)

-- a response answers one, and of those behind it as many as before
one_answered : (h : ℕ) (a : AnswerFields) (ms : List Msg) (f : Untaken → Bool) (us : List Untaken) → Rises us →
    ((u : Untaken) → nat_eq u.command.handle h ≡ true → f u ≡ is_none u.answer) → ((u : Untaken) → nat_eq u.command.handle h ≡ false → f u ≡ fresh ms u) →
    cond (list_any (waits h) us) 1 0 + length (filter (fresh ms) (map (answered h a) us)) ≡ length (filter f us)
one_answered h a ms f [] r same other = refl
one_answered h a ms f (u ∷ us) r same other = by_handle (nat_eq u.command.handle h) refl (one_answered h a ms f us r.1 same other)
  where
    -- this one
    by_answer : (o : Option AnswerFields) → list_any (waits h) us ≡ false → cond (list_any (waits h) us) 1 0 + length (filter (fresh ms) (map (answered h a) us)) ≡ length (filter f us) →
        cond (is_none o || list_any (waits h) us) 1 0
        + length (cond (is_none (cond (is_none o) (Some a) o) && is_some (first_of (answers_among u.command.handle ms))) (answered h a u ∷ filter (fresh ms) (map (answered h a) us)) (filter (fresh ms) (map (answered h a) us)))
        ≡ length (cond (is_none o) (u ∷ filter f us) (filter f us))
    by_answer None none rest = one_more (length (filter (fresh ms) (map (answered h a) us))) (length (filter f us)) (sym (ap (λ b. cond b 1 0 + length (filter (fresh ms) (map (answered h a) us))) none) ∙ rest)
      where
        one_more : (m n : ℕ) → 0 + m ≡ n → 1 + m ≡ suc n
        one_more m n e = omega arith
    by_answer (Some x) none rest = rest

    by_fresh : (b : Bool) → cond (list_any (waits h) us) 1 0 + length (filter (fresh ms) (map (answered h a) us)) ≡ length (filter f us) →
        cond (list_any (waits h) us) 1 0 + length (cond b (answered h a u ∷ filter (fresh ms) (map (answered h a) us)) (filter (fresh ms) (map (answered h a) us))) ≡ length (cond b (u ∷ filter f us) (filter f us))
    by_fresh true rest = one_more (cond (list_any (waits h) us) 1 0) (length (filter (fresh ms) (map (answered h a) us))) (length (filter f us)) rest
      where
        one_more : (k m n : ℕ) → k + m ≡ n → k + suc m ≡ suc n
        one_more k m n e = omega arith
    by_fresh false rest = rest

    by_handle : (b : Bool) → nat_eq u.command.handle h ≡ b → cond (list_any (waits h) us) 1 0 + length (filter (fresh ms) (map (answered h a) us)) ≡ length (filter f us) →
        cond (list_any (waits h) (u ∷ us)) 1 0 + length (filter (fresh ms) (map (answered h a) (u ∷ us))) ≡ length (filter f (u ∷ us))
    by_handle true q rest =
        ap (λ b. cond ((b && is_none u.answer) || list_any (waits h) us) 1 0
        + length (cond (is_none (cond (b && is_none u.answer) (Some a) u.answer) && is_some (first_of (answers_among u.command.handle ms))) (answered h a u ∷ filter (fresh ms) (map (answered h a) us)) (filter (fresh ms) (map (answered h a) us)))) q
        ∙ by_answer u.answer (none_waits h u.command.handle us (sym (eqb-true u.command.handle h q)) r.0) rest
        ∙ sym (ap (λ b. length (cond b (u ∷ filter f us) (filter f us))) (same u q))
    by_handle false q rest =
        ap (λ b. cond ((b && is_none u.answer) || list_any (waits h) us) 1 0
        + length (cond (is_none (cond (b && is_none u.answer) (Some a) u.answer) && is_some (first_of (answers_among u.command.handle ms))) (answered h a u ∷ filter (fresh ms) (map (answered h a) us)) (filter (fresh ms) (map (answered h a) us)))) q
        ∙ by_fresh (fresh ms u) rest
        ∙ sym (ap (λ b. length (cond b (u ∷ filter f us) (filter f us))) (other u q))

counted : (ms : List Msg) (us : List Untaken) → Rises us → answers_by_all ms us ≡ length (filter (fresh ms) us)
counted [] us r = sym (none_fresh us)
counted (KeepAlive form ∷ ms) us r = from_zero (answers_by_all ms us) ∙ counted ms us r
  where
    from_zero : (n : ℕ) → 0 + n ≡ n
    from_zero n = omega arith
counted (Command respond c ∷ ms) us r = from_zero (answers_by_all ms us) ∙ counted ms us r
  where
    from_zero : (n : ℕ) → 0 + n ≡ n
    from_zero n = omega arith
counted (Response x ∷ ms) us r =
    ap (λ n. cond (list_any (waits x.handle) us) 1 0 + n) (counted ms (map (answered x.handle (answer_of_response x)) us) (rises_answered x.handle (answer_of_response x) us r))
    ∙ one_answered x.handle (answer_of_response x) ms (fresh (Response x ∷ ms)) us r
    (λ u q. ap (λ b. is_none u.answer && is_some (first_of (cond b (answer_of_response x ∷ answers_among u.command.handle ms) (answers_among u.command.handle ms)))) q ∙ and-true (is_none u.answer))
    (λ u q. ap (λ b. is_none u.answer && is_some (first_of (cond b (answer_of_response x ∷ answers_among u.command.handle ms) (answers_among u.command.handle ms)))) q)

-- ---- their handles

abbrev handles_of : List Untaken → List ℕ
handles_of us = map (λ u. u.command.handle) us

above_kept : (k : ℕ) (p : Untaken → Bool) (us : List Untaken) → AllByRecursion (λ v. k < v.command.handle) us → AllByRecursion (λ y. k < y) (handles_of (filter p us))
above_kept k p [] a = tt
above_kept k p (u ∷ us) a = on_bool (p u) (λ b. AllByRecursion (λ y. k < y) (handles_of (filter p us)) → AllByRecursion (λ y. k < y) (handles_of (cond b (u ∷ filter p us) (filter p us))))
    (λ rest. (a.0, rest)) (λ rest. rest) (above_kept k p us a.1)

rising_kept : (p : Untaken → Bool) (us : List Untaken) → Rises us → AreRising (handles_of (filter p us))
rising_kept p [] r = tt
rising_kept p (u ∷ us) r = on_bool (p u) (λ b. AreRising (handles_of (filter p us)) → AreRising (handles_of (cond b (u ∷ filter p us) (filter p us))))
    (λ rest. (above_kept u.command.handle p us r.0, rest)) (λ rest. rest) (rising_kept p us r.1)

among_kept : (h : ℕ) (p : Untaken → Bool) (q : ℕ → Bool) (us : List Untaken) → AllByRecursion (λ u. p u ≡ q u.command.handle) us →
    list_any (λ x. nat_eq x h) (handles_of (filter p us)) ≡ (holds h us && q h)
among_kept h p q [] a = refl
among_kept h p q (u ∷ us) a = by_tests (p u) refl (nat_eq u.command.handle h) refl (among_kept h p q us a.1)
  where
    here : (b : Bool) → p u ≡ b → nat_eq u.command.handle h ≡ true → q h ≡ b
    here b e f = ap q (sym (eqb-true u.command.handle h f)) ∙ sym a.0 ∙ e

    by_tests : (b : Bool) → p u ≡ b → (c : Bool) → nat_eq u.command.handle h ≡ c → list_any (λ x. nat_eq x h) (handles_of (filter p us)) ≡ (holds h us && q h) →
        list_any (λ x. nat_eq x h) (handles_of (cond b (u ∷ filter p us) (filter p us))) ≡ ((c || holds h us) && q h)
    by_tests true e true f rest = ap (λ c. c || list_any (λ x. nat_eq x h) (handles_of (filter p us))) f ∙ sym (here true e f)
    by_tests true e false f rest = ap (λ c. c || list_any (λ x. nat_eq x h) (handles_of (filter p us))) f ∙ rest
    by_tests false e true f rest = rest ∙ ap (λ c. holds h us && c) (here false e f) ∙ and-false (holds h us) ∙ sym (here false e f)
    by_tests false e false f rest = rest

as_many : (us : List Untaken) → length (handles_of us) ≡ length us
as_many [] = refl
as_many (u ∷ us) = ap suc (as_many us)

so_many : (device : Peer) (ms : List Msg) (before : List Call) (us : List Untaken) → ((x : ℕ) → holds x us ≡ is_untaken x before) → AreAnswered (λ x. answers_to device x before) us → Rises us →
    AnswersSoMany device ms before (answers_by_all ms us)
so_many device ms before us held are r = record {
  handles = handles_of (filter (fresh ms) us);
  rising = rising_kept (fresh ms) us r;
  each = λ h. among_kept h (fresh ms) (λ x. is_none (first_of (answers_to device x before)) && is_some (first_of (answers_among x ms))) us
      (each_map {Q = λ (u : Untaken). fresh ms u ≡ (is_none (first_of (answers_to device u.command.handle before)) && is_some (first_of (answers_among u.command.handle ms)))}
      (λ u (e : u.answer ≡ first_of (answers_to device u.command.handle before)). ap (λ o. is_none o && is_some (first_of (answers_among u.command.handle ms))) e) us are)
      ∙ ap (λ b. b && (is_none (first_of (answers_to device h before)) && is_some (first_of (answers_among h ms)))) (held h);
  number = as_many (filter (fresh ms) us) ∙ sym (counted ms us r);
}

reception_right : (device from : Peer) (content : Option (List Msg)) (before : List Call) (l : LinkState) (a : Reception) → l.device ≡ device → ((x : ℕ) → holds x l.untaken ≡ is_untaken x before) →
    AreAnswered (λ x. answers_to device x before) l.untaken → Rises l.untaken → a ≡ reception from content l → IsReception device from content before a
reception_right device from content before l a same held are r e = subst (IsReception device from content before) (sym (e ∙ ap (λ d. cond (same_peer from d) (reception_of content l.untaken) receptions.Stranger) same)) (by_sender (same_peer from device) refl)
  where
    by_number : (ms : List Msg) → same_peer from device ≡ true → content ≡ Some ms → (n : ℕ) → answers_by_all ms l.untaken ≡ n → IsReception device from content before (reception_counted n)
    by_number ms q c n p = on_bool (nat_eq n 0) (λ b. nat_eq n 0 ≡ b → IsReception device from content before (cond b receptions.NothingNew (receptions.Answered n)))
        (λ p. subst (AnswersOfDevice device from content before) (eqb-true n 0 p) its) (λ p. (its, positive p)) refl
      where
        its : AnswersOfDevice device from content before n
        its = record { sender = q; messages = ms; content_is = c; answers = subst (AnswersSoMany device ms before) p (so_many device ms before l.untaken held are r) }

        positive : nat_eq n 0 ≡ false → 0 < n
        positive p = grind (arith, nat_tests)

    by_content : (o : Option (List Msg)) → same_peer from device ≡ true → content ≡ o → IsReception device from content before (reception_of o l.untaken)
    by_content None q c = (q, c)
    by_content (Some ms) q c = by_number ms q c (answers_by_all ms l.untaken) refl

    by_sender : (b : Bool) → same_peer from device ≡ b → IsReception device from content before (cond b (reception_of content l.untaken) receptions.Stranger)
    by_sender true q = by_content content q refl
    by_sender false q = q

-- Over a whole history of a link whose span is not 0, each datagram is answered by its sender, its bytes and how many
-- untaken commands it answered first.
pub datagrams_counted : (device : Peer) (first opened span : ℕ) (calls : List Call) (after : LinkState) → 0 < span → IsHistory device first opened span calls after → AnswersDatagrams device calls
datagrams_counted device first opened span [] after some p = tt
datagrams_counted device first opened span (Submits r now a ∷ before) after some p = datagrams_counted device first opened span before p.0 some p.1
datagrams_counted device first opened span (SendsDue now a bytes ∷ before) after some p = datagrams_counted device first opened span before p.0 some p.1
datagrams_counted device first opened span (TakesAnswer x a ∷ before) after some p = datagrams_counted device first opened span before p.0 some p.1
datagrams_counted device first opened span (Receives from bytes content now a ∷ before) after some p =
    let g = holds_after device first opened span before p.0 some p.1 in
    (reception_right device from content before p.0 a g.now.device_is g.now.held g.now.are_answered g.others_are.rises p.2.1, datagrams_counted device first opened span before p.0 some p.1)

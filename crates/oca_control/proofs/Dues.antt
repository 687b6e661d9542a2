-- Which command is due, by what was sent and what came.
use Rattle.oca_control.proofs.Words.{◌≡◌, ℕ, ◌-◌, ◌<◌, ◌≤◌, Bool, true, false, cond, not, ◌&&◌, ◌||◌, List, [], ◌∷◌, ◌++◌, length, map, Option, Some, None, is_none, refl, sym, ap, ◌∙◌, arith, subst}
use Rattle.oca_control.proofs.Words.{suc, nat_eq, nat_le, AllByRecursion, eqb, nat_tests, or-true, eqb-true, CommandFields, Msg, Command, Response, KeepAlive, AnswerFields, answer_of_response}
use Rattle.oca_control.proofs.Words.{Untaken, is_due, first_due, marked_sent, answered, hears_all, without_handle, holds, LinkState, hears_content, Sending, first_of, may_be_sent, on_bool}
use Rattle.oca_control.proofs.Following.{equal_self, each_map, each_both, each_append, IsLast, IsSent, AreSent, AreAnswered}
use Rattle.oca_control.proofs.Calls.{held_answered, each_without}

-- The handles of the untaken commands rise: each is below those behind it.
abbrev pub Rises : List Untaken → Type 0
Rises [] = Unit {0}
Rises (u ∷ us) = AllByRecursion (λ v. u.command.handle < v.command.handle) us × Rises us

-- A link is lost or not, gave something out last at this moment, and its handles rise.
pub record OtherFieldsAre (last : ℕ) (lost : Bool) (l : LinkState) : Type 0 where
  pub lost_is : l.lost ≡ lost
  pub sent_is : l.sent ≡ last
  pub rises : Rises l.untaken

-- Handles rise still with one behind them that is above them all.
pub rises_more : (us : List Untaken) (u : Untaken) → AllByRecursion (λ v. v.command.handle < u.command.handle) us → Rises us → Rises (us ++ u ∷ [])
rises_more [] u a r = (tt, tt)
rises_more (v ∷ us) u a r = (each_append _ us (u ∷ []) r.0 (a.0, tt), rises_more us u a.1 r.1)

kept_marked_sent : (t h k : ℕ) (us : List Untaken) → AllByRecursion (λ v. k < v.command.handle) us → AllByRecursion (λ v. k < v.command.handle) (map (marked_sent t h) us)
kept_marked_sent t h k [] a = tt
kept_marked_sent t h k (u ∷ us) a = (a.0, kept_marked_sent t h k us a.1)

-- Giving a command out leaves the handles as they are, so they rise still.
pub rises_marked_sent : (t h : ℕ) (us : List Untaken) → Rises us → Rises (map (marked_sent t h) us)
rises_marked_sent t h [] r = tt
rises_marked_sent t h (u ∷ us) r = (kept_marked_sent t h u.command.handle us r.0, rises_marked_sent t h us r.1)

-- An answer leaves the handles as they are, so they rise still.
pub rises_answered : (h : ℕ) (a : AnswerFields) (us : List Untaken) → Rises us → Rises (map (answered h a) us)
rises_answered h a [] r = tt
rises_answered h a (u ∷ us) r = (held_answered h a (λ c times last. u.command.handle < c.handle) us r.0, rises_answered h a us r.1)

rises_heard : (ms : List Msg) (us : List Untaken) → Rises us → Rises (hears_all ms us)
rises_heard [] us r = r
rises_heard (Response x ∷ ms) us r = rises_heard ms (map (answered x.handle (answer_of_response x)) us) (rises_answered x.handle (answer_of_response x) us r)
rises_heard (KeepAlive form ∷ ms) us r = rises_heard ms us r
rises_heard (Command respond c ∷ ms) us r = rises_heard ms us r

-- Hearing the content of a datagram, or not, leaves the handles as they are, so they rise still.
pub rises_received : (b : Bool) (content : Option (List Msg)) (us : List Untaken) → Rises us → Rises (cond b (hears_content content us) us)
rises_received true None us r = r
rises_received true (Some ms) us r = rises_heard ms us r
rises_received false content us r = r

-- Handles rise still where the commands of one are taken out.
pub rises_without : (h : ℕ) (us : List Untaken) → Rises us → Rises (without_handle h us)
rises_without h [] r = tt
rises_without h (u ∷ us) r = on_bool (eqb u.command.handle h) (λ b. Rises (without_handle h us) → Rises (cond (not b) (u ∷ without_handle h us) (without_handle h us)))
    (λ rest. rest) (λ rest. (each_without h (λ v. u.command.handle < v.command.handle) us r.0, rest)) (rises_without h us r.1)

-- what holds of all that are held holds of each handle that is
pub each_held : (Q : ℕ → Type 0) (x : ℕ) (us : List Untaken) → AllByRecursion (λ v. Q v.command.handle) us → holds x us ≡ true → Q x
each_held Q x [] a e = cc
each_held Q x (u ∷ us) a e = on_bool (eqb u.command.handle x) (λ b. eqb u.command.handle x ≡ b → (b || holds x us) ≡ true → (holds x us ≡ true → Q x) → Q x)
    (λ q e rest. subst Q (eqb-true u.command.handle x q) a.0) (λ q e rest. rest e) refl e (each_held Q x us a.1)

-- due, by what came and what was sent
abbrev pub due_by : ℕ → (ℕ → List Sending) → (ℕ → List AnswerFields) → ℕ → Bool
due_by t sent came h = is_none (first_of (came h)) && may_be_sent t (sent h)

-- Where what a link holds of its untaken commands agrees with sendings and answers that came, each is due just where
-- those say so.
pub due_same : (t s n : ℕ) (accepted : List CommandFields) (sent : ℕ → List Sending) (came : ℕ → List AnswerFields) (us : List Untaken) →
    AreSent s n accepted sent us → AreAnswered came us → AllByRecursion (λ u. is_due t u ≡ due_by t sent came u.command.handle) us
due_same t s n accepted sent came us a b = each_both (λ u p q. one u p q) us a b
  where
    never : (k : ℕ) → nat_eq (suc k) 0 ≡ false
    never k = grind (arith, nat_tests)

    rests : (times last : ℕ) (xs : List Sending) → times ≡ length xs → IsLast last xs → (nat_eq times 0 || nat_le 250 (t - last)) ≡ may_be_sent t xs
    rests times last [] e p = ap (λ k. nat_eq k 0 || nat_le 250 (t - last)) e
    rests times last (x ∷ xs) e p = ap (λ k. nat_eq k 0 || nat_le 250 (t - last)) e ∙ ap (λ b. b || nat_le 250 (t - last)) (never (length xs)) ∙ ap (λ k. nat_le 250 (t - k)) (sym p)

    one : (u : Untaken) → IsSent s n accepted sent u.command u.times u.last → u.answer ≡ first_of (came u.command.handle) → is_due t u ≡ due_by t sent came u.command.handle
    one u p q = ap (λ o. is_none o && (nat_eq u.times 0 || nat_le 250 (t - u.last))) q
        ∙ ap (λ b. is_none (first_of (came u.command.handle)) && b) (rests u.times u.last (sent u.command.handle) p.count p.last_is)

-- The first due command is one that is held.
pub first_held : (t : ℕ) (us : List Untaken) (u : Untaken) → first_due t us ≡ Some u → holds u.command.handle us ≡ true
first_held t [] u e = cc
first_held t (v ∷ us) u e = by_test (is_due t v) e (first_held t us u)
  where
    by_test : (b : Bool) → cond b (Some v) (first_due t us) ≡ Some u → (first_due t us ≡ Some u → holds u.command.handle us ≡ true) → (eqb v.command.handle u.command.handle || holds u.command.handle us) ≡ true
    by_test true e rest = let same : v ≡ u = cc in
        ap (λ b. b || holds u.command.handle us) (ap (λ (w : Untaken). eqb w.command.handle u.command.handle) same ∙ equal_self u.command.handle)
    by_test false e rest = ap (λ b. eqb v.command.handle u.command.handle || b) (rest e) ∙ or-true (eqb v.command.handle u.command.handle)

-- Where handles rise, the first due command has the lowest handle of those that are due.
pub first_lowest : (t : ℕ) (us : List Untaken) (u : Untaken) → Rises us → first_due t us ≡ Some u → AllByRecursion (λ v. is_due t v ≡ true → u.command.handle ≤ v.command.handle) us
first_lowest t [] u r e = tt
first_lowest t (v ∷ us) u r e = by_test (is_due t v) refl e (first_lowest t us u r.1)
  where
    least : (a b : ℕ) → b ≡ a → a ≤ b
    least a b e = omega arith

    below : (a b c : ℕ) → a ≡ b → a < c → b ≤ c
    below a b c e p = omega arith

    by_test : (b : Bool) → is_due t v ≡ b → cond b (Some v) (first_due t us) ≡ Some u →
        (first_due t us ≡ Some u → AllByRecursion (λ w. is_due t w ≡ true → u.command.handle ≤ w.command.handle) us) →
        (is_due t v ≡ true → u.command.handle ≤ v.command.handle) × AllByRecursion (λ w. is_due t w ≡ true → u.command.handle ≤ w.command.handle) us
    by_test true q e rest =
        let same : v ≡ u = cc in (
          (λ d. least u.command.handle v.command.handle (ap (λ (w : Untaken). w.command.handle) same)),
          each_map (λ w p d. below v.command.handle u.command.handle w.command.handle (ap (λ (z : Untaken). z.command.handle) same) p) us r.0,
        )
    by_test false q e rest = ((λ d. absurd (differs (sym q ∙ d))), rest e)
      where
        differs : false ≡ true → ⊥
        differs e = cc

-- Where there is no first due command, none is due.
pub none_first : (t : ℕ) (us : List Untaken) → first_due t us ≡ None → AllByRecursion (λ v. is_due t v ≡ false) us
none_first t [] e = tt
none_first t (v ∷ us) e =
    on_bool (is_due t v) (λ b. is_due t v ≡ b → cond b (Some v) (first_due t us) ≡ None → (first_due t us ≡ None → AllByRecursion (λ w. is_due t w ≡ false) us) → (is_due t v ≡ false) × AllByRecursion (λ w. is_due t w ≡ false) us)
    (λ q e rest. cc) (λ q e rest. (q, rest e)) refl e (none_first t us)

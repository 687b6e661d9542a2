-- The state of a link by its calls.
use Rattle.oca_control.proofs.Words.{◌≡◌, ℕ, ◌<◌, ◌≤◌, Bool, true, false, cond, ◌&&◌, ◌||◌, max, List, [], ◌∷◌, Option, Some, None, Result, Ok, Err, is_some, refl, sym, ap, ◌∙◌, arith, subst}
use Rattle.oca_control.proofs.Words.{AllByRecursion, eqb, or-true, and_from, and_parts, Peer, Handle, RequestFields, same_peer, ControlFault, AnswerFields, Untaken, first_answered, holds, LinkState}
use Rattle.oca_control.proofs.Words.{submission, after_submission, Decision, GivesCommand, GivesKeepAlive, GivesNothing, IsLost, decision, present_moment, after_due, Call, Submits, SendsDue, Receives}
use Rattle.oca_control.proofs.Words.{TakesAnswer, IsHistory, clock_of_calls, answers_to, first_of, is_untaken, last_heard, IsFirstAnswered, AgreesWithCalls, on_bool}
use Rattle.oca_control.proofs.Following.{equal_self, each_map, each_both, AreAnswered}
use Rattle.oca_control.proofs.Dues.{Rises, each_held}
use Rattle.oca_control.proofs.Histories.{holds_after}

-- ---- when it was heard from

submit_heard : (a : Result Handle ControlFault) (r : RequestFields) (now : ℕ) (l : LinkState) → (after_submission a r now l).heard ≡ l.heard
submit_heard (Err fault) r now l = refl
submit_heard (Ok h) r now l = refl

due_heard : (d : Decision) (t : ℕ) (l : LinkState) → (after_due d t l).heard ≡ l.heard
due_heard (GivesCommand c) t l = refl
due_heard _ t l = refl

heard_is : (device : Peer) (first opened s : ℕ) (calls : List Call) (after : LinkState) → 0 < s → IsHistory device first opened s calls after → after.heard ≡ last_heard device opened calls
heard_is device first opened s [] after some h = ap (λ (l : LinkState). l.heard) h
heard_is device first opened s (Submits r now a ∷ before) after some h =
    ap (λ (l : LinkState). l.heard) h.2.1 ∙ submit_heard (submission r h.0) r now h.0 ∙ heard_is device first opened s before h.0 some h.1
heard_is device first opened s (SendsDue now a bytes ∷ before) after some h =
    ap (λ (l : LinkState). l.heard) h.2.2 ∙ due_heard (decision now h.0) (present_moment now h.0) h.0 ∙ heard_is device first opened s before h.0 some h.1
heard_is device first opened s (Receives from bytes content now a ∷ before) after some h =
    let g = (holds_after device first opened s before h.0 some h.1).now in
    ap (λ (l : LinkState). l.heard) h.2.2
    ∙ ap (λ (p : Peer). cond (same_peer from p && is_some content) (max h.0.moment now) h.0.heard) g.device_is
    ∙ ap (λ (m : ℕ). cond (same_peer from device && is_some content) (max m now) h.0.heard) g.moment_is
    ∙ ap (λ (m : ℕ). cond (same_peer from device && is_some content) (max (clock_of_calls opened before) now) m) (heard_is device first opened s before h.0 some h.1)
heard_is device first opened s (TakesAnswer x a ∷ before) after some h =
    ap (λ (l : LinkState). l.heard) h.2.1 ∙ heard_is device first opened s before h.0 some h.1

-- ---- which answer is there first

none_answered : (us : List Untaken) → first_answered us ≡ None → AllByRecursion (λ v. is_some v.answer ≡ false) us
none_answered [] e = tt
none_answered (u ∷ us) e =
    on_bool (is_some u.answer) (λ b. is_some u.answer ≡ b → cond b (Some u.command.handle) (first_answered us) ≡ None → (first_answered us ≡ None → AllByRecursion (λ w. is_some w.answer ≡ false) us) →
    (is_some u.answer ≡ false) × AllByRecursion (λ w. is_some w.answer ≡ false) us)
    (λ q e rest. cc) (λ q e rest. (q, rest e)) refl e (none_answered us)

-- of the first that has its answer
record IsLowest (came : ℕ → List AnswerFields) (h : ℕ) (us : List Untaken) : Type 0 where
  pub held : holds h us ≡ true
  pub came_is : is_some (first_of (came h)) ≡ true
  pub lowest : AllByRecursion (λ v. is_some v.answer ≡ true → h ≤ v.command.handle) us

first_lowest : (came : ℕ → List AnswerFields) (h : ℕ) (us : List Untaken) → AreAnswered came us → Rises us → first_answered us ≡ Some h → IsLowest came h us
first_lowest came h [] p r e = cc
first_lowest came h (u ∷ us) p r e = by_test (is_some u.answer) refl e (first_lowest came h us p.1 r.1)
  where
    differs : false ≡ true → ⊥
    differs e = cc

    at_most : (a b : ℕ) → a ≡ h → a ≤ b → h ≤ b
    at_most a b e p = omega arith

    by_test : (b : Bool) → is_some u.answer ≡ b → cond b (Some u.command.handle) (first_answered us) ≡ Some h → (first_answered us ≡ Some h → IsLowest came h us) → IsLowest came h (u ∷ us)
    by_test true q e rest =
        let same : u.command.handle ≡ h = cc in
        record {
          held = ap (λ b. b || holds h us) (ap (λ k. eqb k h) same ∙ equal_self h);
          came_is = subst (λ (k : ℕ). is_some (first_of (came k)) ≡ true) same (ap is_some (sym p.0) ∙ q);
          lowest = (
            λ some. at_most u.command.handle u.command.handle same (omega arith),
            each_map {Q = λ (v : Untaken). is_some v.answer ≡ true → h ≤ v.command.handle} (λ v (w : u.command.handle < v.command.handle) some. at_most u.command.handle v.command.handle same (let p = w in omega arith)) us r.0,
          );
        }
    by_test false q e rest =
        let t = rest e in
        record {
          held = ap (λ b. eqb u.command.handle h || b) t.held ∙ or-true (eqb u.command.handle h);
          came_is = t.came_is;
          lowest = ((λ some. absurd (differs (sym q ∙ some))), t.lowest);
        }

first_answered_is : (device : Peer) (calls : List Call) (us : List Untaken) → ((x : ℕ) → holds x us ≡ is_untaken x calls) → AreAnswered (λ x. answers_to device x calls) us → Rises us →
    (o : Option ℕ) → first_answered us ≡ o → IsFirstAnswered device calls o
first_answered_is device calls us held p r None e = λ x. by_open x (is_untaken x calls) refl
  where
    by_open : (x : ℕ) (b : Bool) → is_untaken x calls ≡ b → (b && is_some (first_of (answers_to device x calls))) ≡ false
    by_open x true q = each_held (λ y. is_some (first_of (answers_to device y calls)) ≡ false) x us
        (each_both (λ v (a : v.answer ≡ first_of (answers_to device v.command.handle calls)) (b : is_some v.answer ≡ false). ap is_some (sym a) ∙ b) us p (none_answered us e)) (held x ∙ q)
    by_open x false q = refl
first_answered_is device calls us held p r (Some h) e =
    let first = first_lowest (λ x. answers_to device x calls) h us p r e in (
      and_from (is_untaken h calls) (is_some (first_of (answers_to device h calls))) (sym (held h) ∙ first.held) first.came_is,
      λ x q. let b = and_parts (is_untaken x calls) (is_some (first_of (answers_to device x calls))) q in
          each_held (λ y. is_some (first_of (answers_to device y calls)) ≡ true → h ≤ y) x us (lowest_came first) (held x ∙ b.0) b.1,
    )
  where
    lowest_came : IsLowest (λ x. answers_to device x calls) h us → AllByRecursion (λ v. is_some (first_of (answers_to device v.command.handle calls)) ≡ true → h ≤ v.command.handle) us
    lowest_came first = each_both {R = λ (v : Untaken). is_some (first_of (answers_to device v.command.handle calls)) ≡ true → h ≤ v.command.handle}
        (λ v (a : v.answer ≡ first_of (answers_to device v.command.handle calls)) (b : is_some v.answer ≡ true → h ≤ v.command.handle) c. b (ap is_some a ∙ c)) us p first.lowest

-- The state of a link whose span is not 0 is what its history says: when it last heard its device, whether it is
-- lost, and its lowest answered handle.
pub agrees_with_calls : (device : Peer) (first opened span : ℕ) (calls : List Call) (after : LinkState) → 0 < span → IsHistory device first opened span calls after → AgreesWithCalls device opened calls after
agrees_with_calls device first opened span calls after some h =
    let g = holds_after device first opened span calls after some h in
    record {
      heard_is = heard_is device first opened span calls after some h;
      lost_is = g.others_are.lost_is;
      answered_is = first_answered_is device calls after.untaken g.now.held g.now.are_answered g.others_are.rises (first_answered after.untaken) refl;
    }

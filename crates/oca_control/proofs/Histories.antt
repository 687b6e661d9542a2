-- What a link's history says of the link.
use Rattle.oca_control.proofs.Words.{◌≡◌, ℕ, ◌+◌, ◌-◌, ◌<◌, ◌≤◌, Bool, true, false, cond, ◌&&◌, ◌||◌, max, List, [], ◌∷◌, length, Option, Some, None, Result, Ok, Err, is_some, refl, sym, ap, ◌∙◌}
use Rattle.oca_control.proofs.Words.{arith, subst, inl, inr, nat_eq, nat_lt, nat_le, AllByRecursion, eqb, nat_tests, and_from, eqb-true, ltb-true, leb-true, and_parts, or-true, Peer, Handle}
use Rattle.oca_control.proofs.Words.{CommandFields, same_peer, most_command_parameter_bytes, Msg, ControlFault, AnswerFields, IsContent, Untaken, new_untaken, span_has_room, is_due, first_due}
use Rattle.oca_control.proofs.Words.{answer_under, without_handle, holds, LinkState, Request, new_link, present_moment, command_under, submission, submission_under, submitted, after_submission}
use Rattle.oca_control.proofs.Words.{handle_after, Decision, GivesCommand, GivesKeepAlive, GivesNothing, IsLost, decision, decision_among, due_answer, due_bytes, after_due, gone_on, received, taken}
use Rattle.oca_control.proofs.Words.{Call, Submits, SendsDue, Receives, TakesAnswer, IsCall, IsHistory, clock_of_calls, commands, Sending, sendings, answers_to, first_of, is_untaken, last_given}
use Rattle.oca_control.proofs.Words.{is_lost, TakesTheFirst, IsLowestDue, NoneIsDue, HasSpanRoom, IsFull, IsSubmitAnswer, AnswersSubmits, IsDueAnswer, GivesWhatIsDue, IsLawful, on_bool}
use Rattle.oca_pdu.specs.Laws.{OneListOfMessages}
use Rattle.oca_control.specs.declared.fault.ControlFault.TheVariants as faults
use Rattle.oca_control.proofs.Following.{equal_self, each_map, each_both, end_of, IsSent, AreSent, Follows, opens}
use Rattle.oca_control.proofs.Calls.{room_each, is_accepted, submits, is_given, each_first, gives, passes, receives, answer_is, takes}
use Rattle.oca_control.proofs.Dues.{Rises, OtherFieldsAre, rises_more, rises_marked_sent, rises_received, rises_without, each_held, due_by, due_same, first_held, first_lowest, none_first}

abbrev pub Now : Peer → ℕ → ℕ → ℕ → List Call → LinkState → Type 0
Now device first opened s calls l = Follows device first s (clock_of_calls opened calls) (commands calls) (λ h. sendings opened h calls) (λ h. answers_to device h calls) (λ h. is_untaken h calls) l

submit_step : (device : Peer) (first opened s : ℕ) (before : List Call) (l after : LinkState) (r : Request) (now : ℕ) (a : Result Handle ControlFault) → 0 < s →
    a ≡ submission r l → after ≡ after_submission (submission r l) r now l → Now device first opened s before l → Now device first opened s (Submits r now a ∷ before) after
submit_step device first opened s before l after r now (Err fault) some e f g = subst (λ m. Now device first opened s before m) (sym (f ∙ ap (λ a. after_submission a r now l) (sym e))) g
submit_step device first opened s before l after r now (Ok h) some e f g =
    subst (λ m. Now device first opened s (Submits r now (Ok h) ∷ before) m) (sym (f ∙ ap (λ a. after_submission a r now l) (sym e)))
    (submits device first s (clock_of_calls opened before) now (commands before) (λ x. sendings opened x before) (λ x. answers_to device x before) (λ x. is_untaken x before) l h r some (is_accepted r h l (sym e)) g)

due_step : (device : Peer) (first opened s : ℕ) (before : List Call) (l : LinkState) (now : ℕ) (d : Decision) → decision now l ≡ d → Now device first opened s before l →
    Now device first opened s (SendsDue now (due_answer d) (due_bytes d) ∷ before) (after_due d (present_moment now l) l)
due_step device first opened s before l now (GivesCommand c) e g =
    gives device first s (clock_of_calls opened before) now (commands before) (λ x. sendings opened x before) (λ x. answers_to device x before) (λ x. is_untaken x before) l c (is_given (present_moment now l) l.sent l.lost c l.untaken e) g
due_step device first opened s before l now GivesKeepAlive e g =
    passes device first s (clock_of_calls opened before) now (present_moment now l) l.lost (commands before) (λ x. sendings opened x before) (λ x. answers_to device x before) (λ x. is_untaken x before) l g
due_step device first opened s before l now GivesNothing e g =
    passes device first s (clock_of_calls opened before) now l.sent l.lost (commands before) (λ x. sendings opened x before) (λ x. answers_to device x before) (λ x. is_untaken x before) l g
due_step device first opened s before l now IsLost e g =
    passes device first s (clock_of_calls opened before) now l.sent true (commands before) (λ x. sendings opened x before) (λ x. answers_to device x before) (λ x. is_untaken x before) l g

take_step : (device : Peer) (first opened s : ℕ) (before : List Call) (l after : LinkState) (h : ℕ) (a : Option AnswerFields) →
    a ≡ answer_under h l.untaken → after ≡ taken h l → Now device first opened s before l → Now device first opened s (TakesAnswer h a ∷ before) after
take_step device first opened s before l after h None e f g =
    subst (λ m. Now device first opened s before m) (sym (f ∙ ap (λ (o : Option AnswerFields). let m : LinkState = record l { untaken = cond (is_some o) (without_handle h l.untaken) l.untaken } in m) (sym e))) g
take_step device first opened s before l after h (Some a) e f g =
    subst (λ m. Now device first opened s (TakesAnswer h (Some a) ∷ before) m)
    (sym (f ∙ ap (λ (o : Option AnswerFields). let m : LinkState = record l { untaken = cond (is_some o) (without_handle h l.untaken) l.untaken } in m) (sym e)))
    (takes device first s (clock_of_calls opened before) (commands before) (λ x. sendings opened x before) (λ x. answers_to device x before) (λ x. is_untaken x before) l h g)

-- the answer of `due`
due_right : (device : Peer) (first opened s t : ℕ) (before : List Call) (l : LinkState) (d : Decision) → Now device first opened s before l → Rises l.untaken →
    cond (is_lost before) IsLost (decision_among t (last_given opened before) (first_due t l.untaken)) ≡ d →
    IsDueAnswer device opened t (due_bytes d) before (due_answer d)
due_right device first opened s t before l d g r e =
    on_bool (is_lost before) (λ b. is_lost before ≡ b → cond b IsLost (decision_among t (last_given opened before) (first_due t l.untaken)) ≡ d → IsDueAnswer device opened t (due_bytes d) before (due_answer d))
    (λ q e. subst (λ x. IsDueAnswer device opened t (due_bytes x) before (due_answer x)) e (inl q, refl)) (λ q e. by_first q (first_due t l.untaken) refl e) refl e
  where
    same : AllByRecursion (λ u. is_due t u ≡ due_by t (λ x. sendings opened x before) (λ x. answers_to device x before) u.command.handle) l.untaken
    same = due_same t s (first + length (commands before)) (commands before) (λ x. sendings opened x before) (λ x. answers_to device x before) l.untaken g.are_sent g.are_answered

    none_due : first_due t l.untaken ≡ None → NoneIsDue device opened t before
    none_due q x = by_open (is_untaken x before) refl
      where
        by_open : (b : Bool) → is_untaken x before ≡ b → (b && due_by t (λ x. sendings opened x before) (λ x. answers_to device x before) x) ≡ false
        by_open true p = each_held (λ y. due_by t (λ x. sendings opened x before) (λ x. answers_to device x before) y ≡ false) x l.untaken
            (each_both (λ v (a : is_due t v ≡ due_by t (λ x. sendings opened x before) (λ x. answers_to device x before) v.command.handle) (b : is_due t v ≡ false). sym a ∙ b) l.untaken same (none_first t l.untaken q))
            (g.held x ∙ p)
        by_open false p = refl

    all_lowest : (u : Untaken) → first_due t l.untaken ≡ Some u →
        AllByRecursion (λ v. due_by t (λ x. sendings opened x before) (λ x. answers_to device x before) v.command.handle ≡ true → u.command.handle ≤ v.command.handle) l.untaken
    all_lowest u q = each_both {R = λ (v : Untaken). due_by t (λ x. sendings opened x before) (λ x. answers_to device x before) v.command.handle ≡ true → u.command.handle ≤ v.command.handle} (λ v (a : is_due t v ≡ due_by t (λ x. sendings opened x before) (λ x. answers_to device x before) v.command.handle) (b : is_due t v ≡ true → u.command.handle ≤ v.command.handle) c. b (a ∙ c)) l.untaken same (first_lowest t l.untaken u r q)

    lowest_due : (u : Untaken) → first_due t l.untaken ≡ Some u → IsLowestDue device opened t u.command.handle before
    lowest_due u q = record {
      due = and_from (is_untaken u.command.handle before) (due_by t (λ x. sendings opened x before) (λ x. answers_to device x before) u.command.handle)
          (sym (g.held u.command.handle) ∙ first_held t l.untaken u q)
          (let f = each_first (λ v. is_due t v ≡ due_by t (λ x. sendings opened x before) (λ x. answers_to device x before) v.command.handle) t l.untaken u same q in sym f.0 ∙ f.1);
      lowest = λ x p. let b = and_parts (is_untaken x before) (due_by t (λ x. sendings opened x before) (λ x. answers_to device x before) x) p in
          each_held (λ y. due_by t (λ x. sendings opened x before) (λ x. answers_to device x before) y ≡ true → u.command.handle ≤ y) x l.untaken (all_lowest u q)
          (g.held x ∙ b.0) b.1;
    }

    count : (u : Untaken) → first_due t l.untaken ≡ Some u → u.times ≡ length (sendings opened u.command.handle before)
    count u q = (each_first (λ v. IsSent s (first + length (commands before)) (commands before) (λ x. sendings opened x before) v.command v.times v.last) t l.untaken u g.are_sent q).0.count

    by_times : (u : Untaken) → is_lost before ≡ false → first_due t l.untaken ≡ Some u → (b : Bool) → nat_lt u.times 20 ≡ b → cond b (GivesCommand u.command) IsLost ≡ d →
        IsDueAnswer device opened t (due_bytes d) before (due_answer d)
    by_times u lost q true p e = subst (λ x. IsDueAnswer device opened t (due_bytes x) before (due_answer x)) e
        (lost, lowest_due u q, fewer u.times (length (sendings opened u.command.handle before)) (count u q) (ltb-true u.times 20 p))
      where
        fewer : (a b : ℕ) → a ≡ b → a < 20 → b < 20
        fewer a b e p = omega arith
    by_times u lost q false p e = subst (λ x. IsDueAnswer device opened t (due_bytes x) before (due_answer x)) e
        (inr (u.command.handle, lowest_due u q, twenty u.times (length (sendings opened u.command.handle before)) (count u q) p (g.at_most_20 u.command.handle)), refl)
      where
        twenty : (a b : ℕ) → a ≡ b → nat_lt a 20 ≡ false → b ≤ 20 → b ≡ 20
        twenty a b e p q = grind (arith, nat_tests)

    by_silence : is_lost before ≡ false → first_due t l.untaken ≡ None → (b : Bool) → nat_le 2500 (t - last_given opened before) ≡ b → cond b GivesKeepAlive GivesNothing ≡ d →
        IsDueAnswer device opened t (due_bytes d) before (due_answer d)
    by_silence lost q true p e = subst (λ x. IsDueAnswer device opened t (due_bytes x) before (due_answer x)) e (lost, none_due q, long (last_given opened before) p, refl)
      where
        long : (k : ℕ) → nat_le 2500 (t - k) ≡ true → k + 2500 ≤ t
        long k p = let q : 2500 ≤ t - k = leb-true 2500 (t - k) p in omega arith
    by_silence lost q false p e = subst (λ x. IsDueAnswer device opened t (due_bytes x) before (due_answer x)) e (lost, none_due q, short (last_given opened before) p, refl)
      where
        short : (k : ℕ) → nat_le 2500 (t - k) ≡ false → t < k + 2500
        short k p = grind (arith, nat_tests)

    by_first : is_lost before ≡ false → (o : Option Untaken) → first_due t l.untaken ≡ o → decision_among t (last_given opened before) o ≡ d → IsDueAnswer device opened t (due_bytes d) before (due_answer d)
    by_first lost None q e = by_silence lost q (nat_le 2500 (t - last_given opened before)) refl e
    by_first lost (Some u) q e = by_times u lost q (nat_lt u.times 20) refl e

-- What holds of a link after these calls: it follows its history, its handles rise, and its calls of `due` and `take`
-- gave what they should.
pub record HoldsAfter (device : Peer) (first opened s : ℕ) (calls : List Call) (l : LinkState) : Type 0 where
  pub now : Now device first opened s calls l
  pub others_are : OtherFieldsAre (last_given opened calls) (is_lost calls) l
  pub dues_are : GivesWhatIsDue device opened calls
  pub takes_are : TakesTheFirst device calls

submit_others : (device : Peer) (first opened s : ℕ) (before : List Call) (l after : LinkState) (r : Request) (now : ℕ) (a : Result Handle ControlFault) →
    a ≡ submission r l → after ≡ after_submission (submission r l) r now l → Now device first opened s before l → OtherFieldsAre (last_given opened before) (is_lost before) l →
    OtherFieldsAre (last_given opened before) (is_lost before) after
submit_others device first opened s before l after r now (Err fault) e f g q = subst (λ m. OtherFieldsAre (last_given opened before) (is_lost before) m) (sym (f ∙ ap (λ a. after_submission a r now l) (sym e))) q
submit_others device first opened s before l after r now (Ok h) e f g q =
    subst (λ m. OtherFieldsAre (last_given opened before) (is_lost before) m) (sym (f ∙ ap (λ a. after_submission a r now l) (sym e)))
    (record {
      lost_is = q.lost_is;
      sent_is = q.sent_is;
      rises = rises_more l.untaken (new_untaken (present_moment now l) (command_under h.0 r)) (each_map (λ u p. older u.command u.times u.last p) l.untaken g.are_sent) q.rises;
    })
  where
    older : (c : CommandFields) (times last : ℕ) → IsSent s (first + length (commands before)) (commands before) (λ x. sendings opened x before) c times last → c.handle < h.0
    older c times last p =
        let b : c.handle < first + length (commands before) = p.below in
        let n : end_of l.next ≡ h.0 = ap end_of (is_accepted r h l (sym e)).next in
        let m : end_of l.next ≡ first + length (commands before) = g.next_is in
        omega arith

due_others : (opened : ℕ) (before : List Call) (l : LinkState) (now : ℕ) (d : Decision) → present_moment now l ≡ max (clock_of_calls opened before) now → OtherFieldsAre (last_given opened before) (is_lost before) l →
    OtherFieldsAre (last_given opened (SendsDue now (due_answer d) (due_bytes d) ∷ before)) (is_lost (SendsDue now (due_answer d) (due_bytes d) ∷ before)) (after_due d (present_moment now l) l)
due_others opened before l now (GivesCommand c) e q = record { lost_is = q.lost_is; sent_is = e; rises = rises_marked_sent (present_moment now l) c.handle l.untaken q.rises }
due_others opened before l now GivesKeepAlive e q = record { lost_is = q.lost_is; sent_is = e; rises = q.rises }
due_others opened before l now GivesNothing e q = record { lost_is = q.lost_is; sent_is = q.sent_is; rises = q.rises }
due_others opened before l now IsLost e q = record { lost_is = refl; sent_is = q.sent_is; rises = q.rises }

take_others : (last h : ℕ) (lost : Bool) (l : LinkState) → OtherFieldsAre last lost l → OtherFieldsAre last lost (taken h l)
take_others last h lost l q = record { lost_is = q.lost_is; sent_is = q.sent_is; rises = by_test (is_some (answer_under h l.untaken)) }
  where
    by_test : (b : Bool) → Rises (cond b (without_handle h l.untaken) l.untaken)
    by_test true = rises_without h l.untaken q.rises
    by_test false = q.rises

due_holds_after : (device : Peer) (first opened s : ℕ) (before : List Call) (l : LinkState) (now : ℕ) → HoldsAfter device first opened s before l →
    HoldsAfter device first opened s (SendsDue now (due_answer (decision now l)) (due_bytes (decision now l)) ∷ before) (after_due (decision now l) (present_moment now l) l)
due_holds_after device first opened s before l now g = record {
  now = due_step device first opened s before l now (decision now l) refl g.now;
  others_are = due_others opened before l now (decision now l) now_is g.others_are;
  dues_are = (
    due_right device first opened s (max (clock_of_calls opened before) now) before l (decision now l) g.now g.others_are.rises
        (sym (ap (λ b. cond b IsLost (decision_among (present_moment now l) l.sent (first_due (present_moment now l) l.untaken))) g.others_are.lost_is
        ∙ ap (λ k. cond (is_lost before) IsLost (decision_among (present_moment now l) k (first_due (present_moment now l) l.untaken))) g.others_are.sent_is
        ∙ ap (λ k. cond (is_lost before) IsLost (decision_among k (last_given opened before) (first_due k l.untaken))) now_is)),
    g.dues_are,
  );
  takes_are = g.takes_are;
}
  where
    now_is : present_moment now l ≡ max (clock_of_calls opened before) now
    now_is = ap (λ m. max m now) g.now.moment_is

-- A call makes another of a link, as `IsCall` says, whatever the content of a datagram is.
abbrev pub IsMade : LinkState → Call → LinkState → Type 0
IsMade l (Submits request now answer) after = (answer ≡ submission request l) × (after ≡ submitted request now l)
IsMade l (SendsDue now answer bytes) after = (answer ≡ due_answer (decision now l)) × (bytes ≡ due_bytes (decision now l)) × (after ≡ gone_on now l)
IsMade l (Receives from bytes content now answer) after = after ≡ received from content now l
IsMade l (TakesAnswer h answer) after = (answer ≡ answer_under h l.untaken) × (after ≡ taken h l)

-- a new link becomes this one by these calls
abbrev pub IsMadeBy : Peer → ℕ → ℕ → ℕ → List Call → LinkState → Type 0
IsMadeBy device first opened span [] after = after ≡ new_link device first opened span
IsMadeBy device first opened span (call ∷ before) after = (l : LinkState) × IsMadeBy device first opened span before l × IsMade l call after

is_made : (l : LinkState) (call : Call) (after : LinkState) → IsCall l call after → IsMade l call after
is_made l (Submits request now answer) after c = c
is_made l (SendsDue now answer bytes) after c = c
is_made l (Receives from bytes content now answer) after c = c.2
is_made l (TakesAnswer h answer) after c = c

-- A history makes the link also without what is said of the contents of its datagrams.
pub is_made_by : (device : Peer) (first opened s : ℕ) (calls : List Call) (after : LinkState) → IsHistory device first opened s calls after → IsMadeBy device first opened s calls after
is_made_by device first opened s [] after h = h
is_made_by device first opened s (call ∷ before) after h = (h.0, is_made_by device first opened s before h.0 h.1, is_made h.0 call after h.2)

step : (device : Peer) (first opened s : ℕ) (before : List Call) (l after : LinkState) (call : Call) → 0 < s → HoldsAfter device first opened s before l → IsMade l call after →
    HoldsAfter device first opened s (call ∷ before) after
step device first opened s before l after (Submits r now a) some g c = record {
  now = submit_step device first opened s before l after r now a some c.0 c.1 g.now;
  others_are = submit_others device first opened s before l after r now a c.0 c.1 g.now g.others_are;
  dues_are = g.dues_are;
  takes_are = g.takes_are;
}
step device first opened s before l after (SendsDue now a bytes) some g c = rw (c.0, c.1, c.2) (due_holds_after device first opened s before l now g)
step device first opened s before l after (Receives from bytes content now a) some g c = record {
  now = subst (λ m. Now device first opened s (Receives from bytes content now a ∷ before) m) (sym c)
      (receives device first s (clock_of_calls opened before) now (commands before) (λ x. sendings opened x before) (λ x. answers_to device x before) (λ x. is_untaken x before) l from content g.now);
  others_are = subst (λ m. OtherFieldsAre (last_given opened before) (is_lost before) m) (sym c)
      (record { lost_is = g.others_are.lost_is; sent_is = g.others_are.sent_is; rises = rises_received (same_peer from l.device) content l.untaken g.others_are.rises });
  dues_are = g.dues_are;
  takes_are = g.takes_are;
}
step device first opened s before l after (TakesAnswer h a) some g c = record {
  now = take_step device first opened s before l after h a c.0 c.1 g.now;
  others_are = subst (λ m. OtherFieldsAre (last_given opened before) (is_lost before) m) (sym c.1) (take_others (last_given opened before) h (is_lost before) l g.others_are);
  dues_are = g.dues_are;
  takes_are = (
    c.0 ∙ answer_is h (λ x. answers_to device x before) l.untaken g.now.are_answered ∙ ap (λ b. cond b (first_of (answers_to device h before)) None) (g.now.held h),
    g.takes_are,
  );
}

-- All this holds of a link whose span is not 0 after calls of it, whatever the contents of datagrams are.
pub holds_after_calls : (device : Peer) (first opened s : ℕ) (calls : List Call) (after : LinkState) → 0 < s → IsMadeBy device first opened s calls after → HoldsAfter device first opened s calls after
holds_after_calls device first opened s [] after some h = subst (λ m. HoldsAfter device first opened s [] m) (sym h) (record {
  now = opens device first opened s;
  others_are = record { lost_is = refl; sent_is = refl; rises = tt };
  dues_are = tt;
  takes_are = tt;
})
holds_after_calls device first opened s (call ∷ before) after some h =
    step device first opened s before h.0 after call some (holds_after_calls device first opened s before h.0 some h.1) h.2

-- All this holds of a link whose span is not 0 after each history.
pub holds_after : (device : Peer) (first opened s : ℕ) (calls : List Call) (after : LinkState) → 0 < s → IsHistory device first opened s calls after → HoldsAfter device first opened s calls after
holds_after device first opened s calls after some h = holds_after_calls device first opened s calls after some (is_made_by device first opened s calls after h)

-- ---- what a submit answers

abbrev pub Fits32 : Option ℕ → Type 0
Fits32 None = Unit {0}
Fits32 (Some n) = n ≤ 4294967295

fits_after : (h : ℕ) → h ≤ 4294967295 → Fits32 (handle_after h)
fits_after h p = on_bool (nat_eq h 4294967295) (λ b. nat_eq h 4294967295 ≡ b → Fits32 (cond b None (Some (h + 1)))) (λ q. tt) (λ q. further q) refl
  where
    further : nat_eq h 4294967295 ≡ false → h + 1 ≤ 4294967295
    further q = grind (arith, nat_tests)

-- room, or one without
no_room : (s n : ℕ) (us : List Untaken) → span_has_room s n us ≡ false → (x : ℕ) × (holds x us ≡ true) × (x + s ≤ n)
no_room s n [] e = cc
no_room s n (u ∷ us) e = by_test (nat_lt n (u.command.handle + s)) refl e (no_room s n us)
  where
    far : (a : ℕ) → nat_lt n (a + s) ≡ false → a + s ≤ n
    far a q = grind (arith, nat_tests)

    by_test : (b : Bool) → nat_lt n (u.command.handle + s) ≡ b → (b && span_has_room s n us) ≡ false → (span_has_room s n us ≡ false → (x : ℕ) × (holds x us ≡ true) × (x + s ≤ n)) →
        (x : ℕ) × ((eqb u.command.handle x || holds x us) ≡ true) × (x + s ≤ n)
    by_test true q e rest = let r = rest e in (r.0, ap (λ b. eqb u.command.handle r.0 || b) r.1 ∙ or-true (eqb u.command.handle r.0), r.2)
    by_test false q e rest = (u.command.handle, ap (λ b. b || holds u.command.handle us) (equal_self u.command.handle), far u.command.handle q)

submit_right : (device : Peer) (first opened s : ℕ) (before : List Call) (l : LinkState) (r : Request) (a : Result Handle ControlFault) → Now device first opened s before l →
    l.lost ≡ is_lost before → Fits32 l.next → submission r l ≡ a → IsSubmitAnswer s (first + length (commands before)) (length r.params) before a
submit_right device first opened s before l r a g lost fits e =
    on_bool l.lost (λ b. b ≡ is_lost before → cond b (Err faults.Lost) (submission_under most_command_parameter_bytes r l.next l) ≡ a → IsSubmitAnswer s (first + length (commands before)) (length r.params) before a)
    (λ q e. subst (λ x. IsSubmitAnswer s (first + length (commands before)) (length r.params) before x) e (sym q)) (λ q e. by_next (sym q) l.next g.next_is fits e) lost e
  where
    room_of : (k : ℕ) → k ≡ first + length (commands before) → span_has_room l.span k l.untaken ≡ true → HasSpanRoom s (first + length (commands before)) before
    room_of k n q x p = each_held (λ y. first + length (commands before) < y + s) x l.untaken
        (each_map (λ u (w : k < u.command.handle + l.span). nearer u.command.handle (first + length (commands before)) l.span w n g.span_is) l.untaken (room_each l.span k l.untaken q))
        (g.held x ∙ p)
      where
        nearer : (y m sp : ℕ) → k < y + sp → k ≡ m → sp ≡ s → m < y + s
        nearer y m sp w n e = omega arith

    full_of : (k : ℕ) → k ≡ first + length (commands before) → span_has_room l.span k l.untaken ≡ false → IsFull s (first + length (commands before)) before
    full_of k n q = let f = no_room l.span k l.untaken q in (f.0, sym (g.held f.0) ∙ f.1, further f.0 l.span (first + length (commands before)) f.2 n g.span_is)
      where
        further : (y sp m : ℕ) → y + sp ≤ k → k ≡ m → sp ≡ s → y + s ≤ m
        further y sp m w n e = omega arith

    low : (k m : ℕ) → k ≤ 4294967295 → k ≡ m → m ≤ 4294967295
    low k m p q = omega arith

    by_length : is_lost before ≡ false → (k : ℕ) → k ≡ first + length (commands before) → k ≤ 4294967295 → span_has_room l.span k l.untaken ≡ true →
        (b : Bool) → nat_lt most_command_parameter_bytes (length r.params) ≡ b → cond b (Err faults.TooLong) (Ok (let h : Handle = record { 0 = k } in h)) ≡ a →
        IsSubmitAnswer s (first + length (commands before)) (length r.params) before a
    by_length q k n f room true p e = subst (λ x. IsSubmitAnswer s (first + length (commands before)) (length r.params) before x) e
        (q, low k (first + length (commands before)) f n, room_of k n room, ltb-true 1445 (length r.params) p)
    by_length q k n f room false p e = subst (λ x. IsSubmitAnswer s (first + length (commands before)) (length r.params) before x) e
        (q, n, low k (first + length (commands before)) f n, room_of k n room, short (length r.params) p)
      where
        short : (m : ℕ) → nat_lt 1445 m ≡ false → m ≤ 1445
        short m p = grind (arith, nat_tests)

    by_room : is_lost before ≡ false → (k : ℕ) → k ≡ first + length (commands before) → k ≤ 4294967295 → (b : Bool) → span_has_room l.span k l.untaken ≡ b →
        cond b (cond (nat_lt most_command_parameter_bytes (length r.params)) (Err faults.TooLong) (Ok (let h : Handle = record { 0 = k } in h))) (Err faults.SpanFull) ≡ a →
        IsSubmitAnswer s (first + length (commands before)) (length r.params) before a
    by_room q k n f true p e = by_length q k n f p (nat_lt most_command_parameter_bytes (length r.params)) refl e
    by_room q k n f false p e = subst (λ x. IsSubmitAnswer s (first + length (commands before)) (length r.params) before x) e
        (q, low k (first + length (commands before)) f n, full_of k n p)

    by_next : is_lost before ≡ false → (o : Option ℕ) → end_of o ≡ first + length (commands before) → Fits32 o → submission_under most_command_parameter_bytes r o l ≡ a →
        IsSubmitAnswer s (first + length (commands before)) (length r.params) before a
    by_next q None n f e = subst (λ x. IsSubmitAnswer s (first + length (commands before)) (length r.params) before x) e (q, spent (first + length (commands before)) n)
      where
        spent : (m : ℕ) → 4294967296 ≡ m → 4294967295 < m
        spent m n = omega arith
    by_next q (Some k) n f e = by_room q k n f (span_has_room l.span k l.untaken) refl e

-- the next handle has 32 bits, and so each submit answers what it must
pub record Fit (first s : ℕ) (calls : List Call) (l : LinkState) : Type 0 where
  pub next : Fits32 l.next
  pub submits_are : AnswersSubmits first s calls

fit_submit : (r : Request) (now : ℕ) (l : LinkState) (a : Result Handle ControlFault) → submission r l ≡ a → Fits32 l.next → Fits32 (after_submission a r now l).next
fit_submit r now l (Err fault) e f = f
fit_submit r now l (Ok h) e f = fits_after h.0 (subst Fits32 (is_accepted r h l e).next f)

fit_due : (d : Decision) (t : ℕ) (l : LinkState) → Fits32 l.next → Fits32 (after_due d t l).next
fit_due (GivesCommand c) t l f = f
fit_due _ t l f = f

fit : (device : Peer) (first opened s : ℕ) (calls : List Call) (after : LinkState) → 0 < s → first ≤ 4294967295 → IsHistory device first opened s calls after → Fit first s calls after
fit device first opened s [] after some low h = record { next = subst (λ (m : LinkState). Fits32 m.next) (sym h) low; submits_are = tt }
fit device first opened s (Submits r now a ∷ before) after some low h =
    let f = fit device first opened s before h.0 some low h.1 in
    let g = holds_after device first opened s before h.0 some h.1 in
    record {
      next = subst (λ (m : LinkState). Fits32 m.next) (sym h.2.1) (fit_submit r now h.0 (submission r h.0) refl f.next);
      submits_are = (submit_right device first opened s before h.0 r a g.now g.others_are.lost_is f.next (sym h.2.0), f.submits_are);
    }
fit device first opened s (SendsDue now a bytes ∷ before) after some low h =
    let f = fit device first opened s before h.0 some low h.1 in
    record { next = subst (λ (m : LinkState). Fits32 m.next) (sym h.2.2) (fit_due (decision now h.0) (present_moment now h.0) h.0 f.next); submits_are = f.submits_are }
fit device first opened s (Receives from bytes content now a ∷ before) after some low h =
    let f = fit device first opened s before h.0 some low h.1 in
    record { next = subst (λ (m : LinkState). Fits32 m.next) (sym h.2.2) f.next; submits_are = f.submits_are }
fit device first opened s (TakesAnswer x a ∷ before) after some low h =
    let f = fit device first opened s before h.0 some low h.1 in
    record { next = subst (λ (m : LinkState). Fits32 m.next) (sym h.2.1) f.next; submits_are = f.submits_are }

-- a held handle lies near the next one
near_held : (s n h : ℕ) (accepted : List CommandFields) (sent : ℕ → List Sending) (us : List Untaken) → AreSent s n accepted sent us → holds h us ≡ true → n ≤ h + s
near_held s n h accepted sent [] p e = cc
near_held s n h accepted sent (u ∷ us) p e = on_bool (eqb u.command.handle h) (λ b. eqb u.command.handle h ≡ b → (b || holds h us) ≡ true → (holds h us ≡ true → n ≤ h + s) → n ≤ h + s)
    (λ q e rest. near_is u.command.handle p.0.near (eqb-true u.command.handle h q)) (λ q e rest. rest e) refl e (near_held s n h accepted sent us p.1)
  where
    near_is : (x : ℕ) → n ≤ x + s → x ≡ h → n ≤ h + s
    near_is x a e = omega arith

-- Each history of a link whose span is not 0 is lawful.
pub lawful : (device : Peer) (first opened span : ℕ) (calls : List Call) (after : LinkState) → 0 < span → IsHistory device first opened span calls after →
    IsLawful device first opened span calls
lawful device first opened span calls after some h =
    let g = holds_after device first opened span calls after some h in
    record {
      handles = g.now.handles;
      submits_are = λ low. (fit device first opened span calls after some low h).submits_are;
      copies = g.now.copies;
      at_most_20 = g.now.at_most_20;
      apart = g.now.apart;
      dues_are = g.dues_are;
      answers = g.takes_are;
      within_span = λ x e. near_held span (first + length (commands calls)) x (commands calls) (λ y. sendings opened y calls) after.untaken g.now.are_sent (g.now.held x ∙ e);
    }

-- ---- what bytes hold

-- Bytes have one content where a datagram has one list of messages.
pub one_content : OneListOfMessages → (bytes : List ℕ) (one other : Option (List Msg)) → IsContent one bytes → IsContent other bytes → one ≡ other
one_content law bytes None None a b = refl
one_content law bytes None (Some ms) a b = absurd (a b.0 b.1)
one_content law bytes (Some ms) None a b = absurd (b a.0 a.1)
one_content law bytes (Some ms) (Some ns) a b = ap Some (sym a.2 ∙ law bytes a.0 b.0 a.1 b.1 ∙ b.2)

-- No other call takes the answer that a call takes: each answer is taken once, and no handle is given twice.
use Rattle.oca_pair.proofs.Words.{on_bool}
use Rattle.std.proofs.Common.{◌≡◌, ℕ, ◌+◌, ◌<◌, Bool, true, false, cond, not, ◌||◌, List, [], ◌∷◌, ◌++◌, map, Option, Some, None, Result, Ok, Err, is_some, refl, sym, ap, ◌∙◌, subst, arith}
use Rattle.std.specs.List.{AllByRecursion, filter, list_any}
use Rattle.oca_promise.specs.Words.{AnswerFields, ControlFault, Handle, LinkState, RequestFields, command_under}
use Rattle.oca_promise.specs.Words.{content_read, decision, gone_on, received, submission, submitted, taken}
use Rattle.std.proofs.Math.Dec.{eqb}
use Rattle.std.proofs.lemmas.Bool.Decides.{nat_tests}
use Rattle.std.proofs.lemmas.Bool.{eqb-true}
use Rattle.oca_types.specs.Peers.{same_peer}
use Rattle.oca_pdu.specs.Messages.{Msg, Command, Response, KeepAlive}
use Rattle.oca_control.specs.Answers.{answer_of_response}
use Rattle.oca_control.specs.Untaken.{Untaken, new_untaken, marked_sent, answered, hears_all, answer_under, without_handle}
use Rattle.oca_control.specs.Links.{Decision, GivesCommand, GivesKeepAlive, GivesNothing, IsLost, after_due, after_submission, handle_after, hears_content, present_moment}
use Rattle.oca_control.proofs.Calls.{is_accepted, each_without}
use Rattle.oca_control.proofs.Following.{each_append}
use Rattle.oca_promise.specs.Doings.{Doing, Submits, Sends, Hears, Takes, done, all_done, is_begun_or_taken, is_taking}

-- ---- each answer that is taken is there

unfoldable pub AreHeld : List Doing → LinkState → Type 0
AreHeld [] l = Unit {0}
AreHeld (Takes h ∷ xs) l = (is_some (answer_under h l.untaken) ≡ true) × AreHeld xs (taken h l)
AreHeld (Submits request now ∷ xs) l = AreHeld xs (submitted request now l)
AreHeld (Sends now ∷ xs) l = AreHeld xs (gone_on now l)
AreHeld (Hears bytes now ∷ xs) l = AreHeld xs (received l.device (content_read bytes) now l)

pub held_both : (xs ys : List Doing) (l : LinkState) → AreHeld xs l → AreHeld ys (all_done xs l) → AreHeld (xs ++ ys) l
unfolding all_done AreHeld
held_both [] ys l a b = b
held_both (Takes h ∷ xs) ys l a b = (a.0, held_both xs ys (taken h l) a.1 b)
held_both (Submits request now ∷ xs) ys l a b = held_both xs ys (submitted request now l) a b
held_both (Sends now ∷ xs) ys l a b = held_both xs ys (gone_on now l) a b
held_both (Hears bytes now ∷ xs) ys l a b = held_both xs ys (received l.device (content_read bytes) now l) a b

-- where nothing is taken
pub held_of_none : (xs : List Doing) (l : LinkState) → filter is_begun_or_taken xs ≡ [] → AreHeld xs l
unfolding AreHeld
held_of_none [] l e = tt
held_of_none (Takes h ∷ xs) l e = cc
held_of_none (Submits request now ∷ xs) l e = cc
held_of_none (Sends now ∷ xs) l e = held_of_none xs (gone_on now l) e
held_of_none (Hears bytes now ∷ xs) l e = held_of_none xs (received l.device (content_read bytes) now l) e

pub held_behind_submit : (request : RequestFields) (now : ℕ) (xs : List Doing) (l : LinkState) → filter is_begun_or_taken xs ≡ [] → AreHeld (Submits request now ∷ xs) l
unfolding AreHeld
held_behind_submit request now xs l e = held_of_none xs (submitted request now l) e

pub held_one : (h : ℕ) (a : AnswerFields) (l : LinkState) → answer_under h l.untaken ≡ Some a → AreHeld (Takes h ∷ []) l
unfolding AreHeld
held_one h a l e = (ap is_some e, tt)

-- ---- no command is held under a handle, and the next handle is above it

abbrev pub NoneHeld : ℕ → List Untaken → Type 0
NoneHeld h us = AllByRecursion (λ u. eqb u.command.handle h ≡ false) us

abbrev pub IsAbove : ℕ → Option ℕ → Type 0
IsAbove h None = Unit {0}
IsAbove h (Some n) = h < n

above_after : (h k : ℕ) → h < k + 1 → IsAbove h (handle_after k)
above_after h k less = on_bool (eqb k 4294967295) (λ b. IsAbove h (cond b None (Some (k + 1)))) tt less

pub above_own : (request : RequestFields) (now h : ℕ) (l : LinkState) → submission request l ≡ Ok (record { 0 = h }) → IsAbove h (submitted request now l).next
above_own request now h l e =
    subst (λ (o : Result Handle ControlFault). IsAbove h (after_submission o request now l).next) (sym e) (above_after h h (omega arith))

due_next : (d : Decision) (now : ℕ) (l : LinkState) → (after_due d now l).next ≡ l.next
due_next (GivesCommand c) now l = refl
due_next _ now l = refl

next_above : (h : ℕ) (r : RequestFields) (k : Handle) (l : LinkState) → IsAbove h l.next → submission r l ≡ Ok k → h < k.0
next_above h r k l a e = subst (λ (o : Option ℕ). IsAbove h o) (is_accepted r k l e).next a

above_done : (h : ℕ) (x : Doing) (l : LinkState) → IsAbove h l.next → IsAbove h (done x l).next
above_done h (Submits r now) l a = by (submission r l) refl
  where
    by : (o : Result Handle ControlFault) → submission r l ≡ o → IsAbove h (after_submission o r now l).next
    by (Err fault) e = a
    by (Ok k) e = let less = next_above h r k l a e in above_after h k.0 (omega (arith, less))
above_done h (Sends now) l a = subst (λ (o : Option ℕ). IsAbove h o) (sym (due_next (decision now l) (present_moment now l) l)) a
above_done h _ l a = a

-- ---- what is not held stays so

none_marked : (t k h : ℕ) (us : List Untaken) → NoneHeld h us → NoneHeld h (map (marked_sent t k) us)
none_marked t k h [] a = tt
none_marked t k h (u ∷ us) a = (a.0, none_marked t k h us a.1)

none_answered : (k h : ℕ) (x : AnswerFields) (us : List Untaken) → NoneHeld h us → NoneHeld h (map (answered k x) us)
none_answered k h x [] a = tt
none_answered k h x (u ∷ us) a = (a.0, none_answered k h x us a.1)

none_heard : (ms : List Msg) (h : ℕ) (us : List Untaken) → NoneHeld h us → NoneHeld h (hears_all ms us)
none_heard [] h us a = a
none_heard (Response r ∷ ms) h us a = none_heard ms h (map (answered r.handle (answer_of_response r)) us) (none_answered r.handle h (answer_of_response r) us a)
none_heard (KeepAlive form ∷ ms) h us a = none_heard ms h us a
none_heard (Command respond c ∷ ms) h us a = none_heard ms h us a

none_received : (b : Bool) (content : Option (List Msg)) (h : ℕ) (us : List Untaken) → NoneHeld h us → NoneHeld h (cond b (hears_content content us) us)
none_received true None h us a = a
none_received true (Some ms) h us a = none_heard ms h us a
none_received false content h us a = a

none_due : (d : Decision) (now h : ℕ) (l : LinkState) → NoneHeld h l.untaken → NoneHeld h (after_due d now l).untaken
none_due (GivesCommand c) now h l a = none_marked now c.handle h l.untaken a
none_due _ now h l a = a

unlike : (a b : ℕ) → a < b → eqb b a ≡ false
unlike a b less = grind (arith, nat_tests)

none_done : (h : ℕ) (x : Doing) (l : LinkState) → IsAbove h l.next → NoneHeld h l.untaken → NoneHeld h (done x l).untaken
none_done h (Submits r now) l a none = by (submission r l) refl
  where
    by : (o : Result Handle ControlFault) → submission r l ≡ o → NoneHeld h (after_submission o r now l).untaken
    by (Err fault) e = none
    by (Ok k) e =
        each_append (λ (u : Untaken). eqb u.command.handle h ≡ false) l.untaken (new_untaken (present_moment now l) (command_under k.0 r) ∷ []) none
        (unlike h k.0 (next_above h r k l a e), tt)
none_done h (Sends now) l a none = none_due (decision now l) (present_moment now l) h l none
none_done h (Hears bytes now) l a none = none_received (same_peer l.device l.device) (content_read bytes) h l.untaken none
none_done h (Takes k) l a none = by (answer_under k l.untaken)
  where
    by : (o : Option AnswerFields) → NoneHeld h (cond (is_some o) (without_handle k l.untaken) l.untaken)
    by None = none
    by (Some x) = each_without k (λ (u : Untaken). eqb u.command.handle h ≡ false) l.untaken none

none_all_done : (h : ℕ) (xs : List Doing) (l : LinkState) → IsAbove h l.next → NoneHeld h l.untaken → NoneHeld h (all_done xs l).untaken
unfolding all_done
none_all_done h [] l a none = none
none_all_done h (x ∷ xs) l a none = none_all_done h xs (done x l) (above_done h x l a) (none_done h x l a none)

none_under : (h : ℕ) (us : List Untaken) → NoneHeld h us → answer_under h us ≡ None
none_under h [] a = refl
none_under h (u ∷ us) a = ap (λ b. cond b u.answer (answer_under h us)) a.0 ∙ none_under h us a.1

-- an answer that is taken is gone
none_without : (h : ℕ) (us : List Untaken) → NoneHeld h (without_handle h us)
none_without h [] = tt
none_without h (u ∷ us) =
    on_bool (eqb u.command.handle h) (λ b. eqb u.command.handle h ≡ b → NoneHeld h (without_handle h us) → NoneHeld h (cond (not b) (u ∷ without_handle h us) (without_handle h us)))
    (λ e rest. rest) (λ e rest. (e, rest)) refl (none_without h us)

none_taken : (h k : ℕ) (l : LinkState) → eqb k h ≡ true → is_some (answer_under k l.untaken) ≡ true → NoneHeld h (taken k l).untaken
none_taken h k l same held = on_bool (is_some (answer_under k l.untaken)) (λ b. b ≡ true → NoneHeld h (cond b (without_handle k l.untaken) l.untaken))
    (λ e. subst (λ (x : ℕ). NoneHeld h (without_handle x l.untaken)) (sym is) (none_without h l.untaken)) (λ e. cc) held
  where
    is : k ≡ h
    is = eqb-true k h same

-- ---- the whole

-- An answer that a link holds at the end under a handle below its next one was not taken before.
pub none_took : (h : ℕ) (a : AnswerFields) (xs : List Doing) (l : LinkState) → IsAbove h l.next → AreHeld xs l → answer_under h (all_done xs l).untaken ≡ Some a → list_any (is_taking h) (filter is_begun_or_taken xs) ≡ false
unfolding all_done AreHeld
none_took h a [] l above held e = refl
none_took h a (Submits request now ∷ xs) l above held e = none_took h a xs (submitted request now l) (above_done h (Submits request now) l above) held e
none_took h a (Sends now ∷ xs) l above held e = none_took h a xs (gone_on now l) (above_done h (Sends now) l above) held e
none_took h a (Hears bytes now ∷ xs) l above held e = none_took h a xs (received l.device (content_read bytes) now l) (above_done h (Hears bytes now) l above) held e
none_took h a (Takes k ∷ xs) l above held e =
    on_bool (eqb k h) (λ b. eqb k h ≡ b → list_any (is_taking h) (filter is_begun_or_taken xs) ≡ false → (b || list_any (is_taking h) (filter is_begun_or_taken xs)) ≡ false)
    (λ same rest. let no : None ≡ Some a = gone same in absurd (cc)) (λ same rest. rest) refl (none_took h a xs (taken k l) (above_done h (Takes k) l above) held.1 e)
  where
    gone : eqb k h ≡ true → None ≡ Some a
    gone same = sym (none_under h (all_done xs (taken k l)).untaken (none_all_done h xs (taken k l) (above_done h (Takes k) l above) (none_taken h k l same held.0))) ∙ e

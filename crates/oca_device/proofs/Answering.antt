-- The answers to messages are the replies of executions.
use Rattle.oca_device.proofs.Words.{◌≡◌, ℕ, ◌-◌, Bool, true, false, cond, List, [], ◌∷◌, ◌++◌, length, refl, sym, ap, ◌∙◌, subst, map, nat_eq, ◌&&◌, ◌||◌, Option, Some, None, append_assoc, append-nil}
use Rattle.oca_device.proofs.Words.{eqb-true, Peer, same_peer, CommandFields, DeviceSizes, Msg, Command, Response, KeepAlive, Object, after_change, Entry, Fresh, Duplicate, Reused, judge_unaccepted}
use Rattle.oca_device.proofs.Words.{accepts, entry_under, window, asks_the_same, run, is_noted, accepted, State, judged_in, reply_of, after_command, after_messages, time_of, response}
use Rattle.oca_device.proofs.Words.{answer_to_command, answers_to_messages, accepts_handle, accepted_of, is_duplicate, Change, Executes, Releases, Sets, objects, reply, replies}
use Rattle.oca_tree.specs.Execution.{execution}
use Rattle.oca_tree.specs.Locks.{released}
use Rattle.oca_device.proofs.Peers.{same_self}
use Rattle.oca_device.proofs.Acceptance.{commands_of, AreDistinct, accepts_same, found_in_front, found_last, found_after, new_where_accepted, duplicate_is, asks_so}
use Rattle.oca_device.proofs.Messages.{executed_of, fresh_state, entry_of, fresh_known, fresh_accepted, fresh_executed, after_judged, kept_alive, alive_accepted, alive_executed, alive_known, distinct_next}

-- ---- serving messages only adds accepted commands

pub record Grows (A A' : List Entry) : Type 0 where
  pub more : List Entry
  pub grew : A' ≡ A ++ more

accepted_grows : (w : DeviceSizes) (p : Peer) (ms : List Msg) (s : State) → is_noted s.moment s.notes p ≡ true →
    Grows (accepted (run p s.notes)) (accepted (run p (after_messages w p ms s).notes))
accepted_grows w p [] s k = record { more = []; grew = sym (append-nil (accepted (run p s.notes))) }
accepted_grows w p (Command respond c ∷ ms) s k =
    subst (λ (x : State). Grows (accepted (run p s.notes)) (accepted (run p (after_messages w p ms x).notes))) (sym (after_judged w p c s))
    (by (accepts_handle w (executed_of p s.notes) c.handle) (accepted_grows w p ms (fresh_state p c s) (fresh_known p c s)) (accepted_grows w p ms s k))
  where
    by : (b : Bool) →
        Grows (accepted (run p (fresh_state p c s).notes)) (accepted (run p (after_messages w p ms (fresh_state p c s)).notes)) →
        Grows (accepted (run p s.notes)) (accepted (run p (after_messages w p ms s).notes)) →
        Grows (accepted (run p s.notes)) (accepted (run p (after_messages w p ms (cond b (fresh_state p c s) s)).notes))
    by true f g =
        record {
          more = entry_of p c s ∷ [] ++ f.more;
          grew = f.grew ∙ ap (λ (A : List Entry). A ++ f.more) (fresh_accepted p c s k) ∙ append_assoc (accepted (run p s.notes)) (entry_of p c s ∷ []) f.more;
        }
    by false f g = g
accepted_grows w p (KeepAlive form ∷ ms) s k =
    let g = accepted_grows w p ms (kept_alive p (time_of form) s) (alive_known p (time_of form) s) in
    record { more = g.more; grew = g.grew ∙ ap (λ (A : List Entry). A ++ g.more) (alive_accepted p (time_of form) s k) }
accepted_grows w p (Response r ∷ ms) s k = accepted_grows w p ms s k

-- what was executed stays so
found_later : (h : ℕ) (A A' : List Entry) (e : Entry) → Grows A A' → entry_under h A ≡ Some e → entry_under h A' ≡ Some e
found_later h A A' e g f = ap (entry_under h) g.grew ∙ found_in_front h A g.more e f

-- `under` gives the response of each of these entries
abbrev pub AnswersUnder : (ℕ → List Msg) → List Entry → Type 0
AnswersUnder under done = (h : ℕ) (e : Entry) → entry_under h done ≡ Some e → under h ≡ response h e.reply ∷ []

-- one command
module _ (w : DeviceSizes) (p : Peer) (c : CommandFields) (s : State) (under : ℕ → List Msg) where
  abbrev A : List Entry
  A = accepted (run p s.notes)

  command_answered : AreDistinct (commands_of A) →
      (accepts w.window A c.handle ≡ true → under c.handle ≡ response c.handle (reply_of s.tree p c) ∷ []) →
      ((e : Entry) → entry_under c.handle A ≡ Some e → under c.handle ≡ response c.handle e.reply ∷ []) →
      answer_to_command (judged_in w s p c) p c s ≡ cond (accepts_handle w (commands_of A) c.handle || is_duplicate w (commands_of A) c) (under c.handle) []
  command_answered d new old =
      by (accepts w.window A c.handle) refl (entry_under c.handle (window w.window A)) (λ e f. old e (found_after (length A - w.window) c.handle A e d f))
      ∙ ap (λ b. cond (b || asks_so (λ x. x) (entry_under c.handle (window w.window A)) c) (under c.handle) []) (accepts_same w A c.handle)
      ∙ ap (λ b. cond (accepts_handle w (commands_of A) c.handle || b) (under c.handle) []) (sym (duplicate_is w A c d))
    where
      by_asked : (e : Entry) (k : Bool) → under c.handle ≡ response c.handle e.reply ∷ [] →
          answer_to_command (cond k (Duplicate e.reply) Reused) p c s ≡ cond k (under c.handle) []
      by_asked e true q = sym q
      by_asked e false q = refl

      by : (b : Bool) → accepts w.window A c.handle ≡ b → (o : Option Entry) → ((e : Entry) → o ≡ Some e → under c.handle ≡ response c.handle e.reply ∷ []) →
          answer_to_command (cond b Fresh (judge_unaccepted o c)) p c s ≡ cond (b || asks_so (λ x. x) o c) (under c.handle) []
      by true q o f = sym (new q)
      by false q None f = refl
      by false q (Some e) f = by_asked e (asks_the_same e.command c) (f e refl)

pub messages_answered : (w : DeviceSizes) (p : Peer) (ms : List Msg) (s : State) (under : ℕ → List Msg) → is_noted s.moment s.notes p ≡ true → AreDistinct (executed_of p s.notes) →
    AnswersUnder under (accepted (run p (after_messages w p ms s).notes)) →
    answers_to_messages w p ms s ≡ replies w under (executed_of p s.notes) ms
messages_answered w p [] s under k d u = refl
messages_answered w p (Command respond c ∷ ms) s under k d u =
    ap (λ (x : List Msg). cond respond x [] ++ answers_to_messages w p ms (after_command (judged_in w s p c) p c s))
    (command_answered w p c s under d
    (λ is_so. fresh_under (sym (accepts_same w (accepted (run p s.notes)) c.handle) ∙ is_so) is_so)
    (λ e f. u c.handle e (found_later c.handle _ _ e (accepted_grows w p (Command respond c ∷ ms) s k) f)))
    ∙ respond_or respond (accepts_handle w (executed_of p s.notes) c.handle || is_duplicate w (executed_of p s.notes) c)
    ∙ ap (λ (x : State). here ++ answers_to_messages w p ms x) (after_judged w p c s)
    ∙ ap (λ (x : List Msg). here ++ x)
    (by (accepts_handle w (executed_of p s.notes) c.handle) refl
    (λ is_so. messages_answered w p ms (fresh_state p c s) under (fresh_known p c s) (distinct_next w p c s k d is_so) (fresh_all is_so)
    ∙ ap (λ (B : List CommandFields). replies w under B ms) (fresh_executed p c s k))
    (λ is_not. messages_answered w p ms s under k d (same_all is_not)))
  where
    here : List Msg
    here = cond (respond && (accepts_handle w (executed_of p s.notes) c.handle || is_duplicate w (executed_of p s.notes) c)) (under c.handle) []

    respond_or : (r b : Bool) →
        cond r (cond b (under c.handle) []) [] ++ answers_to_messages w p ms (after_command (judged_in w s p c) p c s)
        ≡ cond (r && b) (under c.handle) [] ++ answers_to_messages w p ms (after_command (judged_in w s p c) p c s)
    respond_or true b = refl
    respond_or false b = refl

    fresh_all : accepts_handle w (executed_of p s.notes) c.handle ≡ true → AnswersUnder under (accepted (run p (after_messages w p ms (fresh_state p c s)).notes))
    fresh_all is_so = subst (λ (x : State). AnswersUnder under (accepted (run p (after_messages w p ms x).notes)))
        (after_judged w p c s ∙ ap (λ b. cond b (fresh_state p c s) s) is_so) u

    same_all : accepts_handle w (executed_of p s.notes) c.handle ≡ false → AnswersUnder under (accepted (run p (after_messages w p ms s).notes))
    same_all is_not = subst (λ (x : State). AnswersUnder under (accepted (run p (after_messages w p ms x).notes)))
        (after_judged w p c s ∙ ap (λ b. cond b (fresh_state p c s) s) is_not) u

    fresh_under : accepts_handle w (executed_of p s.notes) c.handle ≡ true → accepts w.window (accepted (run p s.notes)) c.handle ≡ true →
        under c.handle ≡ response c.handle (reply_of s.tree p c) ∷ []
    fresh_under is_so new = fresh_all is_so c.handle (entry_of p c s) (found_later c.handle _ _ (entry_of p c s)
        (accepted_grows w p ms (fresh_state p c s) (fresh_known p c s))
        (ap (entry_under c.handle) (fresh_accepted p c s k) ∙ found_last (accepted (run p s.notes)) (entry_of p c s) (new_where_accepted w (accepted (run p s.notes)) c.handle new)))

    by : (b : Bool) → accepts_handle w (executed_of p s.notes) c.handle ≡ b →
        (accepts_handle w (executed_of p s.notes) c.handle ≡ true → answers_to_messages w p ms (fresh_state p c s) ≡ replies w under (executed_of p s.notes ++ c ∷ []) ms) →
        (accepts_handle w (executed_of p s.notes) c.handle ≡ false → answers_to_messages w p ms s ≡ replies w under (executed_of p s.notes) ms) →
        answers_to_messages w p ms (cond b (fresh_state p c s) s) ≡ replies w under (cond b (executed_of p s.notes ++ c ∷ []) (executed_of p s.notes)) ms
    by true q f g = f q
    by false q f g = g q
messages_answered w p (KeepAlive form ∷ ms) s under k d u =
    let next = kept_alive p (time_of form) s in
    let same = alive_executed p (time_of form) s k in
    ap (λ (x : List Msg). KeepAlive form ∷ x)
    (messages_answered w p ms next under (alive_known p (time_of form) s) (subst (λ (x : List CommandFields). AreDistinct x) (sym same) d) u
    ∙ ap (λ (B : List CommandFields). replies w under B ms) same)
messages_answered w p (Response r ∷ ms) s under k d u = messages_answered w p ms s under k d u

-- ---- the replies over changes one after another

pub objects_both : (tree : List Object) (xs ys : List Change) → objects tree (xs ++ ys) ≡ objects (objects tree xs) ys
objects_both tree [] ys = refl
objects_both tree (Releases p ∷ xs) ys = objects_both (released tree p) xs ys
objects_both tree (Sets ono change ∷ xs) ys = objects_both (after_change tree ono change) xs ys
objects_both tree (Executes p c ∷ xs) ys = objects_both (execution tree p c).tree xs ys

pub reply_both : (p : Peer) (h : ℕ) (r : List Msg) (tree : List Object) (xs ys : List Change) → reply p h r tree (xs ++ ys) ≡ reply p h (reply p h r tree xs) (objects tree xs) ys
reply_both p h r tree [] ys = refl
reply_both p h r tree (Releases q ∷ xs) ys = reply_both p h r (released tree q) xs ys
reply_both p h r tree (Sets ono change ∷ xs) ys = reply_both p h r (after_change tree ono change) xs ys
reply_both p h r tree (Executes q c ∷ xs) ys =
    reply_both p h (cond (same_peer q p && nat_eq c.handle h) (response h (reply_of tree q c) ∷ []) r) (execution tree q c).tree xs ys

pub reply_released : (p : Peer) (h : ℕ) (r : List Msg) (tree : List Object) (ps : List Peer) → reply p h r tree (map Releases ps) ≡ r
reply_released p h r tree [] = refl
reply_released p h r tree (q ∷ ps) = reply_released p h r (released tree q) ps

pub reply_other : (p q : Peer) (h : ℕ) (r : List Msg) (tree : List Object) (cs : List CommandFields) → same_peer p q ≡ false → reply q h r tree (map (Executes p) cs) ≡ r
reply_other p q h r tree [] e = refl
reply_other p q h r tree (c ∷ cs) e =
    ap (λ b. reply q h (cond (b && nat_eq c.handle h) (response h (reply_of tree p c) ∷ []) r) (execution tree p c).tree (map (Executes p) cs)) e
    ∙ reply_other p q h r (execution tree p c).tree cs e

-- the changes give the replies of these entries
abbrev pub Replied : List Object → List Change → Peer → List Entry → Type 0
Replied tree C q A = AnswersUnder (λ h. reply q h [] tree C) A

found_before : (h : ℕ) (A : List Entry) (x : Entry) → nat_eq x.command.handle h ≡ false → entry_under h (A ++ x ∷ []) ≡ entry_under h A
found_before h [] x e = ap (λ b. cond b (Some x) None) e
found_before h (a ∷ A) x e = ap (λ o. cond (nat_eq a.command.handle h) (Some a) o) (found_before h A x e)

or_else : Entry → Option Entry → Entry
or_else d None = d
or_else d (Some e) = e

replied_fresh : (w : DeviceSizes) (p : Peer) (c : CommandFields) (s : State) (tree : List Object) (C : List Change) (A : List Entry) → accepts w.window A c.handle ≡ true → s.tree ≡ objects tree C →
    Replied tree C p A → Replied tree (C ++ Executes p c ∷ []) p (A ++ entry_of p c s ∷ [])
unfolding or_else
replied_fresh w p c s tree C A new same rep = λ h e f.
    reply_both p h [] tree C (Executes p c ∷ [])
    ∙ ap (λ (t : List Object). cond (same_peer p p && nat_eq c.handle h) (response h (reply_of t p c) ∷ []) (reply p h [] tree C)) (sym same)
    ∙ ap (λ b. cond (b && nat_eq c.handle h) (response h (reply_of s.tree p c) ∷ []) (reply p h [] tree C)) (same_self p)
    ∙ by h e f (nat_eq c.handle h) refl
  where
    by : (h : ℕ) (e : Entry) → entry_under h (A ++ entry_of p c s ∷ []) ≡ Some e → (b : Bool) → nat_eq c.handle h ≡ b →
        cond b (response h (reply_of s.tree p c) ∷ []) (reply p h [] tree C) ≡ response h e.reply ∷ []
    by h e f true k =
        let found : Some (entry_of p c s) ≡ Some e =
        sym (found_last A (entry_of p c s) (new_where_accepted w A c.handle new)) ∙ ap (λ (x : ℕ). entry_under x (A ++ entry_of p c s ∷ [])) (eqb-true c.handle h k) ∙ f in
        ap (λ (o : Option Entry). response h (or_else e o).reply ∷ []) found
    by h e f false k = rep h e (sym (found_before h A (entry_of p c s) k) ∙ f)

pub messages_replied : (w : DeviceSizes) (p : Peer) (ms : List Msg) (s : State) (tree : List Object) (C : List Change) → is_noted s.moment s.notes p ≡ true → s.tree ≡ objects tree C →
    Replied tree C p (accepted (run p s.notes)) →
    Replied tree (C ++ map (Executes p) (accepted_of w (executed_of p s.notes) ms)) p (accepted (run p (after_messages w p ms s).notes))
messages_replied w p [] s tree C k same rep = subst (λ (x : List Change). Replied tree x p (accepted (run p s.notes))) (sym (append-nil C)) rep
messages_replied w p (Command respond c ∷ ms) s tree C k same rep =
    let A = accepted (run p s.notes) in
    let cs = executed_of p s.notes in
    let fresh = fresh_state p c s in
    subst (λ (x : State). Replied tree (C ++ map (Executes p) (accepted_of w cs (Command respond c ∷ ms))) p (accepted (run p (after_messages w p ms x).notes))) (sym (after_judged w p c s))
    (by (accepts_handle w cs c.handle) refl
    (λ is_so. subst (λ (x : List Change). Replied tree x p (accepted (run p (after_messages w p ms fresh).notes)))
    (ap (λ (x : List CommandFields). (C ++ Executes p c ∷ []) ++ map (Executes p) (accepted_of w x ms)) (fresh_executed p c s k)
    ∙ append_assoc C (Executes p c ∷ []) (map (Executes p) (accepted_of w (cs ++ c ∷ []) ms)))
    (messages_replied w p ms fresh tree (C ++ Executes p c ∷ []) (fresh_known p c s)
    (ap (λ (t : List Object). (execution t p c).tree) same ∙ sym (objects_both tree C (Executes p c ∷ [])))
    (subst (λ (x : List Entry). Replied tree (C ++ Executes p c ∷ []) p x) (sym (fresh_accepted p c s k))
    (replied_fresh w p c s tree C A (accepts_same w A c.handle ∙ is_so) same rep))))
    (messages_replied w p ms s tree C k same rep))
  where
    by : (b : Bool) → accepts_handle w (executed_of p s.notes) c.handle ≡ b →
        (accepts_handle w (executed_of p s.notes) c.handle ≡ true →
        Replied tree (C ++ map (Executes p) (c ∷ accepted_of w (executed_of p s.notes ++ c ∷ []) ms)) p (accepted (run p (after_messages w p ms (fresh_state p c s)).notes))) →
        Replied tree (C ++ map (Executes p) (accepted_of w (executed_of p s.notes) ms)) p (accepted (run p (after_messages w p ms s).notes)) →
        Replied tree (C ++ map (Executes p) (cond b (c ∷ accepted_of w (executed_of p s.notes ++ c ∷ []) ms) (accepted_of w (executed_of p s.notes) ms))) p
        (accepted (run p (after_messages w p ms (cond b (fresh_state p c s) s)).notes))
    by true q f g = f q
    by false q f g = g
messages_replied w p (KeepAlive form ∷ ms) s tree C k same rep =
    let next = kept_alive p (time_of form) s in
    let still = alive_accepted p (time_of form) s k in
    subst (λ (x : List Entry). Replied tree (C ++ map (Executes p) (accepted_of w (commands_of x) ms)) p (accepted (run p (after_messages w p ms next).notes))) still
    (messages_replied w p ms next tree C (alive_known p (time_of form) s) same (subst (λ (x : List Entry). Replied tree C p x) (sym still) rep))
messages_replied w p (Response r ∷ ms) s tree C k same rep = messages_replied w p ms s tree C k same rep

-- What is true of a link stays true over each call.
use Rattle.oca_control.proofs.Words.{◌≡◌, ℕ, ◌+◌, ◌-◌, ◌<◌, ◌≤◌, Bool, true, false, cond, not, ◌&&◌, ◌||◌, max, List, [], ◌∷◌, ◌++◌, length, map, Option, Some, None, Ok, Err, is_none, refl, sym, ap}
use Rattle.oca_control.proofs.Words.{◌∙◌, arith, subst, suc, append_assoc, append-nil, nat_eq, nat_lt, nat_le, AllByRecursion, eqb, list_any-append, nat_tests, eqb-true, ltb-true, and_parts, or-false}
use Rattle.oca_control.proofs.Words.{Peer, Handle, CommandFields, same_peer, most_command_parameter_bytes, Msg, Command, Response, KeepAlive, Commands, pdu_encoding, AnswerFields, answer_of_response}
use Rattle.oca_control.proofs.Words.{Untaken, new_untaken, span_has_room, is_due, first_due, marked_sent, answered, hears_all, answer_under, without_handle, holds, LinkState, Request, present_moment}
use Rattle.oca_control.proofs.Words.{command_under, submission, submission_under, handle_after, GivesCommand, GivesKeepAlive, GivesNothing, IsLost, decision_among, hears_content, received}
use Rattle.oca_control.proofs.Words.{command_accepted, Sending, answers_among, answers_of, first_of, IsCopy, AreSendingsApart, on_bool}
use Rattle.oca_control.specs.declared.fault.ControlFault.TheVariants as faults
use Rattle.oca_control.proofs.Following.{equal_self, unequal, each_map, each_both, each_append, end_of, end_after, IsLast, IsSent, AreSent, AreAnswered, Follows}

-- ---- a command is submitted

-- Where there is room for a handle, it lies below each untaken one plus the span.
pub room_each : (s h : ℕ) (us : List Untaken) → span_has_room s h us ≡ true → AllByRecursion (λ u. h < u.command.handle + s) us
room_each s h [] e = tt
room_each s h (u ∷ us) e = let p = and_parts (nat_lt h (u.command.handle + s)) (span_has_room s h us) e in (ltb-true h (u.command.handle + s) p.0, room_each s h us p.1)

-- what is answered where a command is accepted
pub record IsAccepted (r : Request) (h : Handle) (l : LinkState) : Type 0 where
  pub next : l.next ≡ Some h.0
  pub room : span_has_room l.span h.0 l.untaken ≡ true

-- Where a submit returns a handle, that is the next one, and there is room for it.
pub is_accepted : (r : Request) (h : Handle) (l : LinkState) → submission r l ≡ Ok h → IsAccepted r h l
is_accepted r h l e = on_bool l.lost (λ b. cond b (Err faults.Lost) (submission_under most_command_parameter_bytes r l.next l) ≡ Ok h → IsAccepted r h l) (λ e. cc) (λ e. by_next l.next refl e) e
  where
    by_length : (n : ℕ) → (b : Bool) → l.next ≡ Some n → span_has_room l.span n l.untaken ≡ true → cond b (Err faults.TooLong) (Ok (let k : Handle = record { 0 = n } in k)) ≡ Ok h → IsAccepted r h l
    by_length n true q room e = cc
    by_length n false q room e =
        let same : (let k : Handle = record { 0 = n } in k) ≡ h = cc in
        let number : n ≡ h.0 = ap (λ (k : Handle). k.0) same in
        record { next = q ∙ ap Some number; room = sym (ap (λ k. span_has_room l.span k l.untaken) number) ∙ room }

    by_room : (n : ℕ) → (b : Bool) → l.next ≡ Some n → span_has_room l.span n l.untaken ≡ b →
        cond b (cond (nat_lt most_command_parameter_bytes (length r.params)) (Err faults.TooLong) (Ok (let k : Handle = record { 0 = n } in k))) (Err faults.SpanFull) ≡ Ok h → IsAccepted r h l
    by_room n true q room e = by_length n (nat_lt most_command_parameter_bytes (length r.params)) q room e
    by_room n false q room e = cc

    by_next : (o : Option ℕ) → l.next ≡ o → submission_under most_command_parameter_bytes r o l ≡ Ok h → IsAccepted r h l
    by_next None q e = cc
    by_next (Some n) q e = by_room n (span_has_room l.span n l.untaken) q refl e

abbrev pub with_submit : ℕ → Request → ℕ → LinkState → LinkState
with_submit h r now l = record l { moment = present_moment now l; next = handle_after h; untaken = l.untaken ++ new_untaken (present_moment now l) (command_under h r) ∷ [] }

-- A link whose span is not 0 and that follows its history follows it still after an accepted submit.
pub submits : (device : Peer) (first s t now : ℕ) (accepted : List CommandFields) (sent : ℕ → List Sending) (came : ℕ → List AnswerFields) (open_at : ℕ → Bool) (l : LinkState) (h : Handle) (r : Request) →
    0 < s → IsAccepted r h l → Follows device first s t accepted sent came open_at l →
    Follows device first s (max t now) (command_under h.0 r ∷ accepted) sent (λ x. cond (eqb x h.0) [] (came x)) (λ x. open_at x || eqb h.0 x) (with_submit h.0 r now l)
submits device first s t now accepted sent came open_at l h r some a g = record {
  device_is = g.device_is;
  moment_is = ap (λ m. max m now) g.moment_is;
  span_is = g.span_is;
  next_is = let e : end_of (handle_after h.0) ≡ h.0 + 1 = end_after h.0 in one_more (length accepted) e number;
  held = λ x. list_any-append (λ (u : Untaken). eqb u.command.handle x) l.untaken (new_untaken (present_moment now l) (command_under h.0 r) ∷ []) ∙ ap (λ b. b || (eqb h.0 x || false)) (g.held x) ∙ ap (λ b. open_at x || b) (or-false (eqb h.0 x));
  are_sent = each_append _ l.untaken (new_untaken (present_moment now l) (command_under h.0 r) ∷ [])
      (each_both (λ u p (q : h.0 < u.command.handle + l.span). still u.command u.times u.last p q) l.untaken g.are_sent (room_each l.span h.0 l.untaken a.room))
      (its, tt);
  are_answered = each_append _ l.untaken (new_untaken (present_moment now l) (command_under h.0 r) ∷ [])
      (each_both (λ u p (q : u.answer ≡ first_of (came u.command.handle)). q ∙ sym (ap (λ b. first_of (cond b [] (came u.command.handle))) (older u.command.handle (below_of u.command u.times u.last p)))) l.untaken g.are_sent g.are_answered)
      (sym (ap (λ b. first_of (cond b [] (came h.0))) (equal_self h.0)), tt);
  fresh = λ x q. g.fresh x (further (length accepted) x q);
  handles = (number, g.handles);
  copies = λ x. by_copy x (eqb x h.0) refl;
  at_most_20 = g.at_most_20;
  apart = g.apart;
}
  where
    number : h.0 ≡ first + length accepted
    number = sym (ap end_of a.next) ∙ g.next_is

    one_more : (k : ℕ) → end_of (handle_after h.0) ≡ h.0 + 1 → h.0 ≡ first + k → end_of (handle_after h.0) ≡ first + suc k
    one_more k e n = omega arith

    further : (k x : ℕ) → first + suc k ≤ x → first + k ≤ x
    further k x q = omega arith

    older : (x : ℕ) → x < first + length accepted → eqb x h.0 ≡ false
    older x q = unequal x h.0 (let n : h.0 ≡ first + length accepted = number in omega arith)

    below_of : (c : CommandFields) (times last : ℕ) → IsSent s (first + length accepted) accepted sent c times last → c.handle < first + length accepted
    below_of c times last p = p.below

    lower : (x k : ℕ) → x < first + k → x < first + suc k
    lower x k p = omega arith

    nearer : (x k sp : ℕ) → h.0 < x + sp → sp ≡ s → h.0 ≡ first + k → first + suc k ≤ x + s
    nearer x k sp p q n = omega arith

    still : (c : CommandFields) (times last : ℕ) → IsSent s (first + length accepted) accepted sent c times last → h.0 < c.handle + l.span →
        IsSent s (first + suc (length accepted)) (command_under h.0 r ∷ accepted) sent c times last
    still c times last p q = record {
      command = ap (λ b. cond b (Some (command_under h.0 r)) (command_accepted c.handle accepted)) (older c.handle p.below) ∙ p.command;
      count = p.count;
      last_is = p.last_is;
      below = lower c.handle (length accepted) p.below;
      near = nearer c.handle (length accepted) l.span q g.span_is number;
    }

    none : sent h.0 ≡ []
    none = g.fresh h.0 (let n : h.0 ≡ first + length accepted = number in omega arith)

    is_under : (k : ℕ) → h.0 ≡ first + k → h.0 < first + suc k
    is_under k n = omega arith

    is_near : (k : ℕ) → h.0 ≡ first + k → first + suc k ≤ h.0 + s
    is_near k n = omega arith

    its : IsSent s (first + suc (length accepted)) (command_under h.0 r ∷ accepted) sent (command_under h.0 r) 0 0
    its = record {
      command = ap (λ b. cond b (Some (command_under h.0 r)) (command_accepted h.0 accepted)) (equal_self h.0);
      count = sym (ap (λ (xs : List Sending). length xs) none);
      last_is = subst (IsLast 0) (sym none) tt;
      below = is_under (length accepted) number;
      near = is_near (length accepted) number;
    }

    by_copy : (x : ℕ) (b : Bool) → eqb x h.0 ≡ b → AllByRecursion (λ y. IsCopy x (command_under h.0 r ∷ accepted) y.bytes) (sent x)
    by_copy x true q = subst (λ xs. AllByRecursion (λ y. IsCopy x (command_under h.0 r ∷ accepted) y.bytes) xs) (sym (g.fresh x (let e : x ≡ h.0 = eqb-true x h.0 q in let n : h.0 ≡ first + length accepted = number in omega arith))) tt
    by_copy x false q = each_map (λ y p. copy_still x y p q) (sent x) (g.copies x)
      where
        copy_still : (x : ℕ) (y : Sending) → IsCopy x accepted y.bytes → eqb x h.0 ≡ false → IsCopy x (command_under h.0 r ∷ accepted) y.bytes
        copy_still x y p q = record {
          command = p.command;
          accepted_under = ap (λ b. cond b (Some (command_under h.0 r)) (command_accepted x accepted)) q ∙ p.accepted_under;
          bytes_are = p.bytes_are;
        }

-- ---- a command is sent

-- what is decided where a command is sent
pub record IsGiven (t : ℕ) (c : CommandFields) (us : List Untaken) : Type 0 where
  pub given : Untaken
  pub first_is : first_due t us ≡ Some given
  pub command_is : given.command ≡ c
  pub few : given.times < 20

-- Where a command is decided on, it is that of the first due one, which was sent less than 20 times.
pub is_given : (t sent : ℕ) (lost : Bool) (c : CommandFields) (us : List Untaken) → cond lost IsLost (decision_among t sent (first_due t us)) ≡ GivesCommand c → IsGiven t c us
is_given t sent true c us e = cc
is_given t sent false c us e = by_first (first_due t us) refl e
  where
    by_times : (u : Untaken) → first_due t us ≡ Some u → (b : Bool) → nat_lt u.times 20 ≡ b → cond b (GivesCommand u.command) IsLost ≡ GivesCommand c → IsGiven t c us
    by_times u q true p e = record { given = u; first_is = q; command_is = cc; few = ltb-true u.times 20 p }
    by_times u q false p e = cc

    by_silence : (b : Bool) → cond b GivesKeepAlive GivesNothing ≡ GivesCommand c → IsGiven t c us
    by_silence true e = cc
    by_silence false e = cc

    by_first : (o : Option Untaken) → first_due t us ≡ o → decision_among t sent o ≡ GivesCommand c → IsGiven t c us
    by_first None q e = by_silence (nat_le 2500 (t - sent)) e
    by_first (Some u) q e = by_times u q (nat_lt u.times 20) refl e

-- what holds of all untaken commands holds of the first due one
pub each_first : (P : Untaken → Type 0) (t : ℕ) (us : List Untaken) (u : Untaken) → AllByRecursion P us → first_due t us ≡ Some u → P u × (is_due t u ≡ true)
each_first P t [] u a e = cc
each_first P t (v ∷ us) u a e =
    on_bool (is_due t v) (λ b. is_due t v ≡ b → cond b (Some v) (first_due t us) ≡ Some u → (first_due t us ≡ Some u → P u × (is_due t u ≡ true)) → P u × (is_due t u ≡ true))
    (λ q e rest. let same : v ≡ u = cc in (subst P same a.0, ap (is_due t) (sym same) ∙ q)) (λ q e rest. rest e) refl e (each_first P t us u a.1)

pub holds_marked_sent : (t h x : ℕ) (us : List Untaken) → holds x (map (marked_sent t h) us) ≡ holds x us
holds_marked_sent t h x [] = refl
holds_marked_sent t h x (u ∷ us) = ap (λ b. eqb u.command.handle x || b) (holds_marked_sent t h x us)

answered_marked_sent : (t h : ℕ) (came : ℕ → List AnswerFields) (us : List Untaken) → AreAnswered came us → AreAnswered came (map (marked_sent t h) us)
answered_marked_sent t h came [] a = tt
answered_marked_sent t h came (u ∷ us) a = (a.0, answered_marked_sent t h came us a.1)

-- the sendings after one more
abbrev pub sent_more : ℕ → Sending → (ℕ → List Sending) → ℕ → List Sending
sent_more h new sent x = cond (eqb x h) (new ∷ sent x) (sent x)

sent_marked_sent : (s n t h : ℕ) (new : Sending) (accepted : List CommandFields) (sent : ℕ → List Sending) (us : List Untaken) → new.at ≡ t →
    AreSent s n accepted sent us → AreSent s n accepted (sent_more h new sent) (map (marked_sent t h) us)
sent_marked_sent s n t h new accepted sent [] e a = tt
sent_marked_sent s n t h new accepted sent (u ∷ us) e a = (
  record {
    command = a.0.command;
    count = by_count (eqb u.command.handle h) a.0.count;
    last_is = by_last (eqb u.command.handle h) a.0.last_is;
    below = a.0.below;
    near = a.0.near;
  },
  sent_marked_sent s n t h new accepted sent us e a.1,
)
  where
    by_count : (b : Bool) → u.times ≡ length (sent u.command.handle) → cond b (u.times + 1) u.times ≡ length (cond b (new ∷ sent u.command.handle) (sent u.command.handle))
    by_count true q = omega arith
    by_count false q = q

    by_last : (b : Bool) → IsLast u.last (sent u.command.handle) → IsLast (cond b t u.last) (cond b (new ∷ sent u.command.handle) (sent u.command.handle))
    by_last true q = e
    by_last false q = q

abbrev pub with_sending : ℕ → CommandFields → LinkState → LinkState
with_sending t c l = record l { moment = t; sent = t; untaken = map (marked_sent t c.handle) l.untaken }

abbrev pub copy_at : ℕ → CommandFields → Sending
copy_at t c = record { at = t; bytes = pdu_encoding (Commands true (c ∷ [])) }

-- A link that follows its history follows it still after a command was sent.
pub gives : (device : Peer) (first s t now : ℕ) (accepted : List CommandFields) (sent : ℕ → List Sending) (came : ℕ → List AnswerFields) (open_at : ℕ → Bool) (l : LinkState) (c : CommandFields) →
    IsGiven (present_moment now l) c l.untaken → Follows device first s t accepted sent came open_at l →
    Follows device first s (max t now) accepted (sent_more c.handle (copy_at (max t now) c) sent) came open_at (with_sending (present_moment now l) c l)
gives device first s t now accepted sent came open_at l c i g = record {
  device_is = g.device_is;
  moment_is = now_is;
  span_is = g.span_is;
  next_is = g.next_is;
  held = λ x. holds_marked_sent (present_moment now l) c.handle x l.untaken ∙ g.held x;
  are_sent = sent_marked_sent s (first + length accepted) (present_moment now l) c.handle (copy_at (max t now) c) accepted sent l.untaken (sym now_is) g.are_sent;
  are_answered = answered_marked_sent (present_moment now l) c.handle came l.untaken g.are_answered;
  fresh = λ x q. ap (λ b. cond b ((copy_at (max t now) c) ∷ sent x) (sent x)) (later x q) ∙ g.fresh x q;
  handles = g.handles;
  copies = λ x. by_copy x (eqb x c.handle) refl;
  at_most_20 = λ x. by_number x (eqb x c.handle) refl;
  apart = λ x. by_apart x (eqb x c.handle) refl;
}
  where
    now_is : present_moment now l ≡ max t now
    now_is = ap (λ m. max m now) g.moment_is

    both : IsSent s (first + length accepted) accepted sent i.given.command i.given.times i.given.last × (is_due (present_moment now l) i.given ≡ true)
    both = each_first (λ u. IsSent s (first + length accepted) accepted sent u.command u.times u.last) (present_moment now l) l.untaken i.given g.are_sent i.first_is

    own : IsSent s (first + length accepted) accepted sent c i.given.times i.given.last
    own = subst (λ (d : CommandFields). IsSent s (first + length accepted) accepted sent d i.given.times i.given.last) i.command_is both.0

    later : (x : ℕ) → first + length accepted ≤ x → eqb x c.handle ≡ false
    later x q = above x c.handle (let b : c.handle < first + length accepted = own.below in omega arith)
      where
        above : (a b : ℕ) → b < a → eqb a b ≡ false
        above a b p = grind (arith, nat_tests)

    its_copy : IsCopy c.handle accepted (copy_at (max t now) c).bytes
    its_copy = record { command = c; accepted_under = own.command; bytes_are = refl }

    by_copy : (x : ℕ) (b : Bool) → eqb x c.handle ≡ b → AllByRecursion (λ y. IsCopy x accepted y.bytes) (cond b ((copy_at (max t now) c) ∷ sent x) (sent x))
    by_copy x true q = (subst (λ y. IsCopy y accepted (copy_at (max t now) c).bytes) (sym (eqb-true x c.handle q)) its_copy, g.copies x)
    by_copy x false q = g.copies x

    number : length ((copy_at (max t now) c) ∷ sent c.handle) ≤ 20
    number = at_most (length (sent c.handle)) own.count i.few
      where
        at_most : (k : ℕ) → i.given.times ≡ k → i.given.times < 20 → suc k ≤ 20
        at_most k p q = omega arith

    by_number : (x : ℕ) (b : Bool) → eqb x c.handle ≡ b → length (cond b ((copy_at (max t now) c) ∷ sent x) (sent x)) ≤ 20
    by_number x true q = subst (λ y. length ((copy_at (max t now) c) ∷ sent y) ≤ 20) (sym (eqb-true x c.handle q)) number
    by_number x false q = g.at_most_20 x

    far : (times last k : ℕ) → times ≡ suc k → (nat_eq times 0 || nat_le 250 (present_moment now l - last)) ≡ true → last + 250 ≤ present_moment now l
    far times last k e q = grind (arith, nat_tests)

    apart_more : (xs : List Sending) → i.given.times ≡ length xs → IsLast i.given.last xs → AreSendingsApart xs → AreSendingsApart ((copy_at (max t now) c) ∷ xs)
    apart_more [] e p a = tt
    apart_more (x ∷ xs) e p a = (
      let d = and_parts (is_none i.given.answer) (nat_eq i.given.times 0 || nat_le 250 (present_moment now l - i.given.last)) both.1 in
          at_least x.at (present_moment now l) i.given.last (max t now) p (far i.given.times i.given.last (length xs) e d.1) now_is,
      a,
    )
      where
        at_least : (a p last m : ℕ) → a ≡ last → last + 250 ≤ p → p ≡ m → a + 250 ≤ m
        at_least a p last m e f q = omega arith

    by_apart : (x : ℕ) (b : Bool) → eqb x c.handle ≡ b → AreSendingsApart (cond b ((copy_at (max t now) c) ∷ sent x) (sent x))
    by_apart x true q = subst (λ y. AreSendingsApart ((copy_at (max t now) c) ∷ sent y)) (sym (eqb-true x c.handle q)) (apart_more (sent c.handle) own.count own.last_is (g.apart c.handle))
    by_apart x false q = g.apart x

-- nothing of a command is sent
pub passes : (device : Peer) (first s t now sent' : ℕ) (lost' : Bool) (accepted : List CommandFields) (sent : ℕ → List Sending) (came : ℕ → List AnswerFields) (open_at : ℕ → Bool) (l : LinkState) →
    Follows device first s t accepted sent came open_at l →
    Follows device first s (max t now) accepted sent came open_at (record l { moment = present_moment now l; sent = sent'; lost = lost' })
passes device first s t now sent' lost' accepted sent came open_at l g = record {
  device_is = g.device_is;
  moment_is = ap (λ m. max m now) g.moment_is;
  span_is = g.span_is;
  next_is = g.next_is;
  held = g.held;
  are_sent = g.are_sent;
  are_answered = g.are_answered;
  fresh = g.fresh;
  handles = g.handles;
  copies = g.copies;
  at_most_20 = g.at_most_20;
  apart = g.apart;
}

-- ---- a datagram is received

-- What holds of the command, the times and the last moment of each untaken one holds still after an answer.
pub held_answered : (h : ℕ) (a : AnswerFields) (P : CommandFields → ℕ → ℕ → Type 0) (us : List Untaken) → AllByRecursion (λ u. P u.command u.times u.last) us →
    AllByRecursion (λ u. P u.command u.times u.last) (map (answered h a) us)
held_answered h a P [] p = tt
held_answered h a P (u ∷ us) p = (p.0, held_answered h a P us p.1)

kept_heard : (ms : List Msg) (P : CommandFields → ℕ → ℕ → Type 0) (us : List Untaken) → AllByRecursion (λ u. P u.command u.times u.last) us →
    AllByRecursion (λ u. P u.command u.times u.last) (hears_all ms us)
kept_heard [] P us p = p
kept_heard (Response r ∷ ms) P us p = kept_heard ms P (map (answered r.handle (answer_of_response r)) us) (held_answered r.handle (answer_of_response r) P us p)
kept_heard (KeepAlive form ∷ ms) P us p = kept_heard ms P us p
kept_heard (Command respond c ∷ ms) P us p = kept_heard ms P us p

pub holds_answered : (h x : ℕ) (a : AnswerFields) (us : List Untaken) → holds x (map (answered h a) us) ≡ holds x us
holds_answered h x a [] = refl
holds_answered h x a (u ∷ us) = ap (λ b. eqb u.command.handle x || b) (holds_answered h x a us)

holds_heard : (ms : List Msg) (x : ℕ) (us : List Untaken) → holds x (hears_all ms us) ≡ holds x us
holds_heard [] x us = refl
holds_heard (Response r ∷ ms) x us = holds_heard ms x (map (answered r.handle (answer_of_response r)) us) ∙ holds_answered r.handle x (answer_of_response r) us
holds_heard (KeepAlive form ∷ ms) x us = holds_heard ms x us
holds_heard (Command respond c ∷ ms) x us = holds_heard ms x us

-- one answer more under a handle
abbrev pub came_more : ℕ → AnswerFields → (ℕ → List AnswerFields) → ℕ → List AnswerFields
came_more h a came x = came x ++ cond (eqb x h) (a ∷ []) []

answered_more : (h : ℕ) (a : AnswerFields) (came : ℕ → List AnswerFields) (us : List Untaken) → AreAnswered came us → AreAnswered (came_more h a came) (map (answered h a) us)
answered_more h a came [] p = tt
answered_more h a came (u ∷ us) p = (by_came (came u.command.handle) (eqb u.command.handle h) u.answer p.0, answered_more h a came us p.1)
  where
    by_came : (xs : List AnswerFields) (b : Bool) (o : Option AnswerFields) → o ≡ first_of xs → cond (b && is_none o) (Some a) o ≡ first_of (xs ++ cond b (a ∷ []) [])
    by_came [] true o e = ap (λ z. cond (is_none z) (Some a) z) e
    by_came [] false o e = e
    by_came (x ∷ xs) true o e = ap (λ z. cond (is_none z) (Some a) z) e
    by_came (x ∷ xs) false o e = e

answered_heard : (ms : List Msg) (came : ℕ → List AnswerFields) (us : List Untaken) → AreAnswered came us → AreAnswered (λ x. came x ++ answers_among x ms) (hears_all ms us)
answered_heard [] came us p = each_map (λ u q. q ∙ ap first_of (sym (append-nil (came u.command.handle)))) us p
answered_heard (Response r ∷ ms) came us p =
    each_map (λ u q. q ∙ ap first_of (regroup (came u.command.handle) (eqb u.command.handle r.handle) (answers_among u.command.handle ms)))
    (hears_all ms (map (answered r.handle (answer_of_response r)) us))
    (answered_heard ms (came_more r.handle (answer_of_response r) came) (map (answered r.handle (answer_of_response r)) us) (answered_more r.handle (answer_of_response r) came us p))
  where
    regroup : (xs : List AnswerFields) (b : Bool) (ys : List AnswerFields) → (xs ++ cond b (answer_of_response r ∷ []) []) ++ ys ≡ xs ++ cond b (answer_of_response r ∷ ys) ys
    regroup xs true ys = append_assoc xs (answer_of_response r ∷ []) ys
    regroup xs false ys = append_assoc xs [] ys
answered_heard (KeepAlive form ∷ ms) came us p = answered_heard ms came us p
answered_heard (Command respond c ∷ ms) came us p = answered_heard ms came us p

kept_received : (b : Bool) (content : Option (List Msg)) (P : CommandFields → ℕ → ℕ → Type 0) (us : List Untaken) → AllByRecursion (λ u. P u.command u.times u.last) us →
    AllByRecursion (λ u. P u.command u.times u.last) (cond b (hears_content content us) us)
kept_received true None P us p = p
kept_received true (Some ms) P us p = kept_heard ms P us p
kept_received false content P us p = p

pub holds_received : (b : Bool) (content : Option (List Msg)) (x : ℕ) (us : List Untaken) → holds x (cond b (hears_content content us) us) ≡ holds x us
holds_received true None x us = refl
holds_received true (Some ms) x us = holds_heard ms x us
holds_received false content x us = refl

answered_received : (b d : Bool) (content : Option (List Msg)) (came : ℕ → List AnswerFields) (us : List Untaken) → b ≡ d → AreAnswered came us →
    AreAnswered (λ x. came x ++ cond d (answers_of x content) []) (cond b (hears_content content us) us)
answered_received true true None came us e p = each_map (λ u q. q ∙ ap first_of (sym (append-nil (came u.command.handle)))) us p
answered_received true true (Some ms) came us e p = answered_heard ms came us p
answered_received true false content came us e p = cc
answered_received false true content came us e p = cc
answered_received false false content came us e p = each_map (λ u q. q ∙ ap first_of (sym (append-nil (came u.command.handle)))) us p

-- A link that follows its history follows it still after a datagram, whoever sent it and whatever it holds.
pub receives : (device : Peer) (first s t now : ℕ) (accepted : List CommandFields) (sent : ℕ → List Sending) (came : ℕ → List AnswerFields) (open_at : ℕ → Bool) (l : LinkState) (from : Peer) (content : Option (List Msg)) →
    Follows device first s t accepted sent came open_at l →
    Follows device first s (max t now) accepted sent (λ x. came x ++ cond (same_peer from device) (answers_of x content) []) open_at (received from content now l)
receives device first s t now accepted sent came open_at l from content g = record {
  device_is = g.device_is;
  moment_is = ap (λ m. max m now) g.moment_is;
  span_is = g.span_is;
  next_is = g.next_is;
  held = λ x. holds_received (same_peer from l.device) content x l.untaken ∙ g.held x;
  are_sent = kept_received (same_peer from l.device) content (λ c times last. IsSent s (first + length accepted) accepted sent c times last) l.untaken g.are_sent;
  are_answered = answered_received (same_peer from l.device) (same_peer from device) content came l.untaken (ap (λ d. same_peer from d) g.device_is) g.are_answered;
  fresh = g.fresh;
  handles = g.handles;
  copies = g.copies;
  at_most_20 = g.at_most_20;
  apart = g.apart;
}

-- ---- an answer is taken

-- The answer that is held under a handle is the first one that came to it, where the handle is held and its command has
-- just that answer; else there is none.
pub answer_is : (h : ℕ) (came : ℕ → List AnswerFields) (us : List Untaken) → AreAnswered came us → answer_under h us ≡ cond (holds h us) (first_of (came h)) None
answer_is h came [] p = refl
answer_is h came (u ∷ us) p =
    on_bool (eqb u.command.handle h) (λ b. eqb u.command.handle h ≡ b → answer_under h us ≡ cond (holds h us) (first_of (came h)) None → cond b u.answer (answer_under h us) ≡ cond (b || holds h us) (first_of (came h)) None)
    (λ q rest. p.0 ∙ ap (λ x. first_of (came x)) (eqb-true u.command.handle h q)) (λ q rest. rest) refl (answer_is h came us p.1)

-- What holds of each untaken command holds of each but those of a handle.
pub each_without : (h : ℕ) (P : Untaken → Type 0) (us : List Untaken) → AllByRecursion P us → AllByRecursion P (without_handle h us)
each_without h P [] p = tt
each_without h P (u ∷ us) p = on_bool (eqb u.command.handle h) (λ b. AllByRecursion P (without_handle h us) → AllByRecursion P (cond (not b) (u ∷ without_handle h us) (without_handle h us)))
    (λ rest. rest) (λ rest. (p.0, rest)) (each_without h P us p.1)

holds_without : (h x : ℕ) (us : List Untaken) → holds x (without_handle h us) ≡ (not (eqb h x) && holds x us)
holds_without h x [] = sym (nothing (eqb h x))
  where
    nothing : (b : Bool) → (not b && false) ≡ false
    nothing true = refl
    nothing false = refl
holds_without h x (u ∷ us) = by_test (eqb u.command.handle h) refl (eqb h x) refl (holds_without h x us)
  where
    differ : (a b c : ℕ) → eqb a b ≡ false → eqb b c ≡ true → eqb a c ≡ false
    differ a b c p q = grind (arith, nat_tests)

    follow : (a b c : ℕ) → eqb a b ≡ true → eqb b c ≡ false → eqb a c ≡ false
    follow a b c p q = grind (arith, nat_tests)

    by_test : (b : Bool) → eqb u.command.handle h ≡ b → (d : Bool) → eqb h x ≡ d → holds x (without_handle h us) ≡ (not d && holds x us) →
        holds x (cond (not b) (u ∷ without_handle h us) (without_handle h us)) ≡ (not d && (eqb u.command.handle x || holds x us))
    by_test true p true q rest = rest
    by_test true p false q rest = rest ∙ sym (ap (λ b. b || holds x us) (follow u.command.handle h x p q))
    by_test false p true q rest = ap (λ b. b || holds x (without_handle h us)) (differ u.command.handle h x p q) ∙ rest
    by_test false p false q rest = ap (λ b. eqb u.command.handle x || b) rest

abbrev pub with_take : ℕ → LinkState → LinkState
with_take h l = record l { untaken = without_handle h l.untaken }

-- A link that follows its history follows it still without the command of a handle.
pub takes : (device : Peer) (first s t : ℕ) (accepted : List CommandFields) (sent : ℕ → List Sending) (came : ℕ → List AnswerFields) (open_at : ℕ → Bool) (l : LinkState) (h : ℕ) →
    Follows device first s t accepted sent came open_at l →
    Follows device first s t accepted sent came (λ x. not (eqb h x) && open_at x) (with_take h l)
takes device first s t accepted sent came open_at l h g = record {
  device_is = g.device_is;
  moment_is = g.moment_is;
  span_is = g.span_is;
  next_is = g.next_is;
  held = λ x. holds_without h x l.untaken ∙ ap (λ b. not (eqb h x) && b) (g.held x);
  are_sent = each_without h _ l.untaken g.are_sent;
  are_answered = each_without h _ l.untaken g.are_answered;
  fresh = g.fresh;
  handles = g.handles;
  copies = g.copies;
  at_most_20 = g.at_most_20;
  apart = g.apart;
}

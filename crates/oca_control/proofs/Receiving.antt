-- Taking messages in, and what a link answers.
use Rattle.oca_control.proofs.Words.{◌≡◌, ℕ, suc, ◌+◌, ◌<◌, ◌≤◌, Bool, true, false, cond, not, List, [], ◌∷◌, length, map, is_some, refl, sym, ap, ◌∙◌, arith, subst, nat_lt, lt-ltb, ltb-true, eqb}
use Rattle.oca_control.proofs.Words.{add_assoc, Msg, Command, Response, KeepAlive, AnswerFields, answer_of_response, Untaken, span_has_room, answered, hears, hears_all, answers_by, answers_by_all}
use Rattle.oca_control.proofs.Words.{answer_under, without_handle, shortened_message, AreShortResponses, IsShortResponse, TableState, on_bool}
use Rattle.std.specs.Prelude.{◌&&◌}

-- Half-way through the messages of a datagram, where an answer may have so many bytes of parameters: so many commands
-- were answered so far, what is still to be heard gives the whole, and the next handle is as it was.
pub record HearsOn (most : ℕ) (rest : List Msg) (us : List Untaken) (hi n : ℕ) (all : List Msg) (first : List Untaken) (start : ℕ) : Type 0 where
  pub few : n + length rest ≤ 146
  pub short : AreShortResponses rest
  pub count : n + answers_by_all (map (shortened_message most) rest) us ≡ answers_by_all (map (shortened_message most) all) first
  pub heard : hears_all (map (shortened_message most) rest) us ≡ hears_all (map (shortened_message most) all) first
  pub next : hi ≡ start

-- The next message to be heard is short.
pub hears_first : (most : ℕ) (m : Msg) (rest rest' all : List Msg) (us first : List Untaken) (hi n start : ℕ) → HearsOn most rest us hi n all first start → rest ≡ m ∷ rest' → IsShortResponse m
hears_first most m rest rest' all us first hi n start h step = (subst AreShortResponses step h.short).0

-- One message more was heard.
pub hears_further : (most : ℕ) (m : Msg) (rest rest' all : List Msg) (us first us' : List Untaken) (hi hi' n n' start : ℕ) → HearsOn most rest us hi n all first start → rest ≡ m ∷ rest' →
    us' ≡ hears (shortened_message most m) us → hi' ≡ hi → n' ≡ n + answers_by (shortened_message most m) us → n' ≤ n + 1 → HearsOn most rest' us' hi' n' all first start
hears_further most m rest rest' all us first us' hi hi' n n' start h step heard next count one = record {
  few = let few : n + length rest ≤ 146 = h.few in let fewer : length rest ≡ length (m ∷ rest') = ap length step in omega arith;
  short = (subst AreShortResponses step h.short).1;
  count = ap (λ k. k + answers_by_all (map (shortened_message most) rest') us') count
      ∙ ap (λ vs. n + answers_by (shortened_message most m) us + answers_by_all (map (shortened_message most) rest') vs) heard
      ∙ add_assoc n (answers_by (shortened_message most m) us) (answers_by_all (map (shortened_message most) rest') (hears (shortened_message most m) us))
      ∙ ap (λ ms. n + answers_by_all (map (shortened_message most) ms) us) (sym step)
      ∙ h.count;
  heard = ap (hears_all (map (shortened_message most) rest')) heard ∙ ap (λ ms. hears_all (map (shortened_message most) ms) us) (sym step) ∙ h.heard;
  next = next ∙ h.next;
}

-- Room within a span is room within 32 handles.
pub room_in_all : (s h : ℕ) (us : List Untaken) → s ≤ 32 → span_has_room s h us ≡ true → span_has_room 32 h us ≡ true
room_in_all s h [] small room = refl
room_in_all s h (u ∷ us) small room = by (nat_lt h (u.command.handle + s)) refl room (room_in_all s h us small)
  where
    wider : (a : ℕ) → nat_lt h (a + s) ≡ true → nat_lt h (a + 32) ≡ true
    wider a p = lt-ltb h (a + 32) (let q : h < a + s = ltb-true h (a + s) p in omega arith)

    by : (b : Bool) → nat_lt h (u.command.handle + s) ≡ b → (b && span_has_room s h us) ≡ true → (span_has_room s h us ≡ true → span_has_room 32 h us ≡ true) →
        (nat_lt h (u.command.handle + 32) && span_has_room 32 h us) ≡ true
    by true p room more = ap (λ b. b && span_has_room 32 h us) (wider u.command.handle p) ∙ more room
    by false p room more = cc

-- ---- how many are untaken

as_many_answered : (h : ℕ) (a : AnswerFields) (us : List Untaken) → length (map (answered h a) us) ≡ length us
as_many_answered h a [] = refl
as_many_answered h a (u ∷ us) = ap suc (as_many_answered h a us)

as_many_heard : (ms : List Msg) (us : List Untaken) → length (hears_all ms us) ≡ length us
as_many_heard [] us = refl
as_many_heard (Response x ∷ ms) us = as_many_heard ms (map (answered x.handle (answer_of_response x)) us) ∙ as_many_answered x.handle (answer_of_response x) us
as_many_heard (KeepAlive form ∷ ms) us = as_many_heard ms us
as_many_heard (Command respond c ∷ ms) us = as_many_heard ms us

no_more_without : (h : ℕ) (us : List Untaken) → length (without_handle h us) ≤ length us
no_more_without h [] = omega arith
no_more_without h (u ∷ us) = on_bool (eqb u.command.handle h) (λ b. length (without_handle h us) ≤ length us → length (cond (not b) (u ∷ without_handle h us) (without_handle h us)) ≤ suc (length us))
    (λ p. wider (length (without_handle h us)) (length us) p) (λ p. one_more (length (without_handle h us)) (length us) p) (no_more_without h us)
  where
    one_more : (a b : ℕ) → a ≤ b → suc a ≤ suc b
    one_more a b p = omega arith

    wider : (a b : ℕ) → a ≤ b → a ≤ suc b
    wider a b p = omega arith

-- within the span still
pub heard_few : (ms : List Msg) (s : ℕ) (t new : TableState) → new ≡ (let x : TableState = record { next = t.next; untaken = hears_all ms t.untaken } in x) → length t.untaken ≤ s → length new.untaken ≤ s
heard_few ms s t new e few =
    subst (λ (k : ℕ). k ≤ s) (sym (ap (λ (x : TableState). length x.untaken) e ∙ as_many_heard ms t.untaken)) few

-- Where at most s commands are untaken, at most s are after an answer is taken.
pub taken_few : (h s : ℕ) (t new : TableState) →
    new ≡ (let x : TableState = record { next = t.next; untaken = cond (is_some (answer_under h t.untaken)) (without_handle h t.untaken) t.untaken } in x) → length t.untaken ≤ s → length new.untaken ≤ s
taken_few h s t new e few = subst (λ (x : TableState). length x.untaken ≤ s) (sym e) (by (is_some (answer_under h t.untaken)))
  where
    both : (a b : ℕ) → a ≤ b → b ≤ s → a ≤ s
    both a b p q = omega arith

    by : (b : Bool) → length (cond b (without_handle h t.untaken) t.untaken) ≤ s
    by true = both (length (without_handle h t.untaken)) (length t.untaken) (no_more_without h t.untaken) few
    by false = few

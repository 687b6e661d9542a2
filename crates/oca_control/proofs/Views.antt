-- What a call makes of the table of commands.
use Rattle.oca_control.proofs.Words.{◌≡◌, ℕ, ◌+◌, ◌-◌, ◌%◌, ◌<◌, ◌≤◌, ◌≢◌, Bool, true, false, cond, List, [], ◌∷◌, ◌++◌, length, map, get_or, set, refl, sym, ap, ◌∙◌, arith, subst, Option, Some, None}
use Rattle.oca_control.proofs.Words.{nat_lt, nat_eq, IfSome, list_any, set-get_or, nat_tests, ne_eqb, AnswerFields, Untaken, new_untaken, first_due, waits, answered, answer_under, without_handle}
use Rattle.oca_control.proofs.Words.{marked_sent, Commands, pdu_encoding, Request, command_under, GivesCommand, IsLost, due_answer, Held, held_at, held_is_due, held_waits, held_answer, held_given}
use Rattle.oca_control.proofs.Words.{held_answered, new_held, untaken_at, IsSlotTable, TableState, IsLowestDueSlot, decided, first_decided, after_decision, bytes_decided}
use Rattle.std.specs.Prelude.{is_some, is_none, ◌||◌, ◌&&◌}
use Rattle.std.specs.Option.{option_map}
use Rattle.oca_control.specs.declared.due.Due.TheVariants as dues
use Rattle.oca_control.specs.PrivateSlots.{untaken_from}
use Rattle.oca_control.proofs.Following.{equal_self}
use Rattle.oca_control.proofs.Places.{slot_read, changed_at, removed_at, waits_at, waits_none, answer_at, answer_none}
use Rattle.oca_control.proofs.Tables.{submitted_is}

-- The table that the slots hold, with the lowest untaken handle and the next one.
abbrev pub view : ℕ → ℕ → List (Option Held) → TableState
view lo hi slots = record { next = hi; untaken = untaken_from lo (hi - lo) slots }

-- The table with this next handle and these untaken commands.
abbrev pub table : ℕ → List Untaken → TableState
table hi us = record { next = hi; untaken = us }

in_range : (lo hi h : ℕ) → ((lo ≤ h) → (h < hi) → ⊥) → (k : ℕ) → lo ≤ k → k < lo + (hi - lo) → k ≢ h
in_range lo hi h out k l u e = out (omega arith) (omega arith)

-- SUBMIT
pub view_put : (lo hi p at : ℕ) (slots : List (Option Held)) (r : Request) (x : Option Held) → IsSlotTable lo hi slots → hi < lo + 32 → p ≡ hi % 32 → x ≡ Some (new_held at r) →
    view lo (hi + 1) (set slots p x) ≡ table (hi + 1) (untaken_from lo (hi - lo) slots ++ new_untaken at (command_under hi r) ∷ [])
view_put lo hi p at slots r x t near place is =
    ap (λ i. view lo (hi + 1) (set slots i x)) place
    ∙ ap (λ y. view lo (hi + 1) (set slots (hi % 32) y)) is
    ∙ ap (table (hi + 1)) (submitted_is lo hi at slots r t near)

-- ANSWER
pub waits_out : (lo hi h : ℕ) (slots : List (Option Held)) → ((lo ≤ h) → (h < hi) → ⊥) → list_any (waits h) (untaken_from lo (hi - lo) slots) ≡ false
waits_out lo hi h slots out = waits_none h lo (hi - lo) slots (in_range lo hi h out)

-- Whether the command of a handle in the range has no answer yet is what its slot says.
pub waits_in : (lo hi h p : ℕ) (slots : List (Option Held)) (d : Option Held) (b : Bool) → IsSlotTable lo hi slots → (lo ≤ h) × (h < hi) × (p ≡ h % 32) → b ≡ held_waits (get_or slots p d) →
    b ≡ list_any (waits h) (untaken_from lo (hi - lo) slots)
waits_in lo hi h p slots d b t at is = is ∙ sym (waits_at lo hi h slots at.0 at.1 ∙ ap held_waits (slot_read h p slots d t.all at.2))

-- An answer to a handle under which no command waits changes nothing.
pub none_answered : (h : ℕ) (a : AnswerFields) (us : List Untaken) → list_any (waits h) us ≡ false → map (answered h a) us ≡ us
none_answered h a [] none = refl
none_answered h a (u ∷ us) none = by (waits h u) refl none (none_answered h a us)
  where
    by : (b : Bool) → waits h u ≡ b → (b || list_any (waits h) us) ≡ false → (list_any (waits h) us ≡ false → map (answered h a) us ≡ us) → map (answered h a) (u ∷ us) ≡ u ∷ us
    by true p none more = cc
    by false p none more =
        ap (λ b. (let v : Untaken = record { command = u.command; submitted = u.submitted; times = u.times; last = u.last; answer = cond b (Some a) u.answer } in v) ∷ map (answered h a) us) p
        ∙ ap (λ vs. u ∷ vs) (more none)

answered_other : (h : ℕ) (a : AnswerFields) (u : Untaken) → u.command.handle ≢ h → answered h a u ≡ u
answered_other h a u other =
    ap (λ b. let v : Untaken = record { command = u.command; submitted = u.submitted; times = u.times; last = u.last; answer = cond (b && is_none u.answer) (Some a) u.answer } in v) (ne_eqb u.command.handle h other)

-- Putting an answer into the slot of a command that waits answers the command of that handle.
pub view_answered : (lo hi h p : ℕ) (slots : List (Option Held)) (d x : Option Held) (a : AnswerFields) → IsSlotTable lo hi slots → (lo ≤ h) × (h < hi) × (p ≡ h % 32) →
    held_waits (get_or slots p d) ≡ true → x ≡ option_map (held_answered a) (get_or slots p d) →
    view lo hi (set slots p x) ≡ table hi (map (answered h a) (untaken_from lo (hi - lo) slots))
view_answered lo hi h p slots d x a t at wait is =
    ap (λ i. view lo hi (set slots i x)) at.2
    ∙ ap (table hi) (changed_at (answered h a) lo hi h slots x at.0 at.1 t.near t.all (answered_other h a) (ap (untaken_at h) (is ∙ ap (option_map (held_answered a)) (sym read)) ∙ by (held_at h slots) (ap held_waits read ∙ wait)))
  where
    read : held_at h slots ≡ get_or slots p d
    read = slot_read h p slots d t.all at.2

    by : (o : Option Held) → held_waits o ≡ true → untaken_at h (option_map (held_answered a) o) ≡ map (answered h a) (untaken_at h o)
    by None w = refl
    by (Some k) w = sym (ap (λ b. (let v : Untaken = record { command = command_under h k.request; submitted = k.submitted; times = k.times; last = k.last; answer = cond (b && is_none k.answer) (Some a) k.answer } in v) ∷ []) (equal_self h)
        ∙ ap (λ b. (let v : Untaken = record { command = command_under h k.request; submitted = k.submitted; times = k.times; last = k.last; answer = cond b (Some a) k.answer } in v) ∷ []) w)

-- SEND
given_other : (now h : ℕ) (u : Untaken) → u.command.handle ≢ h → marked_sent now h u ≡ u
given_other now h u other =
    ap (λ b. let v : Untaken = record { command = u.command; submitted = u.submitted; times = cond b (u.times + 1) u.times; last = cond b now u.last; answer = u.answer } in v) (ne_eqb u.command.handle h other)

-- Noting in the slot of the lowest due command that it was sent does so to the command of that handle.
pub view_given : (now lo hi h p : ℕ) (slots : List (Option Held)) (d x : Option Held) → IsSlotTable lo hi slots → IsLowestDueSlot now slots lo hi (Some h) → p ≡ h % 32 →
    x ≡ option_map (held_given now) (get_or slots p d) →
    view lo hi (set slots p x) ≡ table hi (map (marked_sent now h) (untaken_from lo (hi - lo) slots))
view_given now lo hi h p slots d x t at place is =
    ap (λ i. view lo hi (set slots i x)) place
    ∙ ap (table hi) (changed_at (marked_sent now h) lo hi h slots x at.0 at.1 t.near t.all (given_other now h) (ap (untaken_at h) (is ∙ ap (option_map (held_given now)) (sym (slot_read h p slots d t.all place))) ∙ by (held_at h slots)))
  where
    by : (o : Option Held) → untaken_at h (option_map (held_given now) o) ≡ map (marked_sent now h) (untaken_at h o)
    by None = refl
    by (Some k) = sym (ap (λ b. (let v : Untaken = record { command = command_under h k.request; submitted = k.submitted; times = cond b (k.times + 1) k.times; last = cond b now k.last; answer = k.answer } in v) ∷ []) (equal_self h))

-- what is decided, from the slot of the lowest due command
pub record FirstIs (now h : ℕ) (us : List Untaken) (k : Held) : Type 0 where
  pub first : first_decided now us ≡ Some (cond (nat_lt k.times 20) (GivesCommand (command_under h k.request)) IsLost)

first_is : (now lo hi h p : ℕ) (slots : List (Option Held)) (d : Option Held) (k : Held) → IsSlotTable lo hi slots → IsLowestDueSlot now slots lo hi (Some h) → p ≡ h % 32 →
    get_or slots p d ≡ Some k → FirstIs now h (untaken_from lo (hi - lo) slots) k
first_is now lo hi h p slots d k t at place is = record {
  first = ap (option_map decided) (at.3 ∙ ap (λ o. first_due now (untaken_at h o)) kept ∙ here (sym (ap (held_is_due now) kept) ∙ at.2));
}
  where
    kept : held_at h slots ≡ Some k
    kept = slot_read h p slots d t.all place ∙ is

    here : held_is_due now (Some k) ≡ true → first_due now (untaken_at h (Some k)) ≡ Some (record { command = command_under h k.request; submitted = k.submitted; times = k.times; last = k.last; answer = k.answer })
    here due = ap (λ b. cond b (Some (let v : Untaken = record { command = command_under h k.request; submitted = k.submitted; times = k.times; last = k.last; answer = k.answer } in v)) None) due

-- the slot of the lowest due command holds one
due_kept : (now lo hi h p : ℕ) (slots : List (Option Held)) (d : Option Held) → IsSlotTable lo hi slots → IsLowestDueSlot now slots lo hi (Some h) → p ≡ h % 32 →
    (k : Held) × (get_or slots p d ≡ Some k)
due_kept now lo hi h p slots d t at place = by (get_or slots p d) refl (sym (ap (held_is_due now) (slot_read h p slots d t.all place)) ∙ at.2)
  where
    by : (o : Option Held) → get_or slots p d ≡ o → held_is_due now o ≡ true → (k : Held) × (get_or slots p d ≡ Some k)
    by None e due = cc
    by (Some k) e due = (k, e)

-- it was sent 20 times
pub spent : (now lo hi h p : ℕ) (slots : List (Option Held)) (d : Option Held) (b : Bool) → IsSlotTable lo hi slots → IsLowestDueSlot now slots lo hi (Some h) → p ≡ h % 32 →
    IfSome (get_or slots p d) (λ k. b ≡ nat_lt k.times 20) → b ≡ false → first_decided now (untaken_from lo (hi - lo) slots) ≡ Some IsLost
spent now lo hi h p slots d b t at place test not_so =
    let kept = due_kept now lo hi h p slots d t at place in
    let few : b ≡ nat_lt kept.0.times 20 = subst (λ (o : Option Held). IfSome o (λ k. b ≡ nat_lt k.times 20)) kept.1 test in
    (first_is now lo hi h p slots d kept.0 t at place kept.1).first ∙ ap (λ x. Some (cond x (GivesCommand (command_under h kept.0.request)) IsLost)) (sym few ∙ not_so)

-- it is sent
pub record Gives (now h : ℕ) (us : List Untaken) (slot : Option Held) : Type 0 where
  pub kept : Held
  pub is : slot ≡ Some kept
  pub first : first_decided now us ≡ Some (GivesCommand (command_under h kept.request))

-- The lowest due command, which was sent less than 20 times, is what is decided on.
pub gives : (now lo hi h p : ℕ) (slots : List (Option Held)) (d : Option Held) (b : Bool) → IsSlotTable lo hi slots → IsLowestDueSlot now slots lo hi (Some h) → p ≡ h % 32 →
    IfSome (get_or slots p d) (λ k. b ≡ nat_lt k.times 20) → b ≡ true → Gives now h (untaken_from lo (hi - lo) slots) (get_or slots p d)
gives now lo hi h p slots d b t at place test so =
    let kept = due_kept now lo hi h p slots d t at place in
    let few : b ≡ nat_lt kept.0.times 20 = subst (λ (o : Option Held). IfSome o (λ k. b ≡ nat_lt k.times 20)) kept.1 test in
    record {
      kept = kept.0;
      is = kept.1;
      first = (first_is now lo hi h p slots d kept.0 t at place kept.1).first ∙ ap (λ x. Some (cond x (GivesCommand (command_under h kept.0.request)) IsLost)) (sym few ∙ so);
    }

-- What is returned is that the command of the handle is sent.
pub gives_answer : (now h : ℕ) (us : List Untaken) (o : Option Held) → Gives now h us o → Some (dues.Send (record { 0 = h })) ≡ option_map due_answer (first_decided now us)
gives_answer now h us o g = sym (ap (option_map due_answer) g.first)

-- The bytes in the packet are those of the command that is sent.
pub gives_packet : (now h : ℕ) (us : List Untaken) (o : Option Held) (bytes : List ℕ) → Gives now h us o →
    IfSome o (λ k. bytes ≡ pdu_encoding (Commands true (command_under h k.request ∷ []))) → bytes ≡ bytes_decided (first_decided now us)
gives_packet now h us o bytes g written =
    let there : bytes ≡ pdu_encoding (Commands true (command_under h g.kept.request ∷ [])) = subst (λ (x : Option Held). IfSome x (λ k. bytes ≡ pdu_encoding (Commands true (command_under h k.request ∷ [])))) g.is written in
    there ∙ sym (ap bytes_decided g.first)

-- The table after it is that after the decision.
pub gives_state : (now hi h : ℕ) (us : List Untaken) (o : Option Held) (new : TableState) → Gives now h us o → new ≡ table hi (map (marked_sent now h) us) →
    new ≡ table hi (after_decision now (first_decided now us) us)
gives_state now hi h us o new g is = is ∙ sym (ap (λ d. table hi (after_decision now d us)) g.first)

-- TAKE
pub answer_out : (lo hi h : ℕ) (slots : List (Option Held)) → ((lo ≤ h) → (h < hi) → ⊥) → answer_under h (untaken_from lo (hi - lo) slots) ≡ None
answer_out lo hi h slots out = answer_none h lo (hi - lo) slots (in_range lo hi h out)

-- The answer in the slot of a handle in the range is the one that is held under the handle.
pub answer_in_slot : (lo hi h p : ℕ) (slots : List (Option Held)) (d : Option Held) → IsSlotTable lo hi slots → (lo ≤ h) × (h < hi) × (p ≡ h % 32) →
    held_answer (get_or slots p d) ≡ answer_under h (untaken_from lo (hi - lo) slots)
answer_in_slot lo hi h p slots d t at = sym (answer_at lo hi h slots at.0 at.1 ∙ ap held_answer (slot_read h p slots d t.all at.2))

-- Emptying the slot of a handle whose command is answered, and then skipping empty slots at the lower end, takes that
-- command out.
pub view_taken : (lo hi h p lo' : ℕ) (slots : List (Option Held)) (d x : Option Held) → IsSlotTable lo hi slots → (lo ≤ h) × (h < hi) × (p ≡ h % 32) → p < length slots →
    x ≡ cond (is_some (held_answer (get_or slots p d))) None (get_or slots p d) →
    untaken_from lo' (hi - lo') (set slots p x) ≡ untaken_from lo (hi - lo) (set slots p x) →
    view lo' hi (set slots p x) ≡ table hi (let us = untaken_from lo (hi - lo) slots in cond (is_some (answer_under h us)) (without_handle h us) us)
view_taken lo hi h p lo' slots d x t at inside is same =
    ap (table hi) (same ∙ by (is_some (held_answer (get_or slots p d))) refl
    ∙ ap (λ b. cond b (without_handle h us) us) (ap is_some (answer_in_slot lo hi h p slots d t at)))
  where
    us : List Untaken
    us = untaken_from lo (hi - lo) slots

    by : (b : Bool) → is_some (held_answer (get_or slots p d)) ≡ b →
        untaken_from lo (hi - lo) (set slots p x) ≡ cond b (without_handle h (untaken_from lo (hi - lo) slots)) (untaken_from lo (hi - lo) slots)
    by true e =
        ap (λ i. untaken_from lo (hi - lo) (set slots i x)) at.2
        ∙ ap (λ y. untaken_from lo (hi - lo) (set slots (h % 32) y)) (is ∙ ap (λ b. cond b None (get_or slots p d)) e)
        ∙ removed_at lo hi h slots at.0 at.1 t.near t.all
    by false e =
        ap (λ y. untaken_from lo (hi - lo) (set slots p y)) (is ∙ ap (λ b. cond b None (get_or slots p d)) e)
        ∙ ap (untaken_from lo (hi - lo)) (set-get_or slots p d)

-- Where no answer is held under the handle, nothing is taken out.
pub not_taken : (hi h : ℕ) (us : List Untaken) → answer_under h us ≡ None → table hi us ≡ table hi (cond (is_some (answer_under h us)) (without_handle h us) us)
not_taken hi h us none = sym (ap (λ b. table hi (cond b (without_handle h us) us)) (ap is_some none))

-- The invariant of the table of commands.
use Rattle.oca_control.proofs.Words.{◌≡◌, ℕ, ◌+◌, ◌-◌, ◌%◌, ◌<◌, ◌≤◌, Bool, true, false, List, [], ◌∷◌, ◌++◌, length, set, refl, sym, ap, ◌∙◌, arith, Option, Some, None, ◌⊎◌, inl, inr, nat_lt, nat_eq}
use Rattle.oca_control.proofs.Words.{get_or-set_same, get_or-set_other, length-set, eqb-true, ltb-true, span_has_room, new_untaken, Request, command_under, Held, held_at, new_held, IsSlotTable}
use Rattle.std.specs.Prelude.{◌||◌}
use Rattle.oca_control.specs.PrivateSlots.{untaken_from}
use Rattle.oca_control.proofs.Places.{apart, room_by_lowest, put_at}

within : (a : ℕ) (slots : List (Option Held)) → length slots ≡ 32 → a % 32 < length slots
within a slots all = omega arith

-- the slot of another handle, and the slot that was written
pub kept_other : (h k : ℕ) (slots : List (Option Held)) (x : Option Held) → h < k → k < h + 32 → held_at h (set slots (k % 32) x) ≡ held_at h slots
kept_other h k slots x above near = get_or-set_other slots (k % 32) (h % 32) x None (λ e. apart h k above near (sym e))

pub kept_same : (h : ℕ) (slots : List (Option Held)) (x : Option Held) → length slots ≡ 32 → held_at h (set slots (h % 32) x) ≡ x
kept_same h slots x all = get_or-set_same slots (h % 32) x None (within h slots all)

-- where there is room within 32 handles
pub room_near : (lo hi : ℕ) (slots : List (Option Held)) → IsSlotTable lo hi slots → span_has_room 32 hi (untaken_from lo (hi - lo) slots) ≡ true → hi < lo + 32
room_near lo hi slots t room = by (nat_eq lo hi) (nat_lt hi (lo + 32)) refl refl (sym (room_by_lowest 32 hi lo hi slots t.ordered t.lowest) ∙ room)
  where
    by : (a b : Bool) → nat_eq lo hi ≡ a → nat_lt hi (lo + 32) ≡ b → (a || b) ≡ true → hi < lo + 32
    by true b p q e = let same : lo ≡ hi = eqb-true lo hi p in omega arith
    by false true p q e = ltb-true hi (lo + 32) q
    by false false p q e = cc

-- a command is put in
pub table_put : (lo hi : ℕ) (slots : List (Option Held)) (k : Held) → IsSlotTable lo hi slots → hi < 4294967296 → hi < lo + 32 → IsSlotTable lo (hi + 1) (set slots (hi % 32) (Some k))
table_put lo hi slots k t left near = record {
  ordered = let o = t.ordered in omega arith;
  near = omega arith;
  last = omega arith;
  all = length-set slots (hi % 32) (Some k) ∙ t.all;
  lowest = λ below. elim (cases lo hi t.ordered) [
    | inl same ↦ λ none. is_put hi (ap (λ i. held_at i (set slots (hi % 32) (Some k))) (sym same) ∙ none)
    | inr less ↦ λ none. t.lowest less (sym (kept_other lo hi slots (Some k) less near) ∙ none)
  ];
}
  where
    cases : (a b : ℕ) → a ≤ b → (a ≡ b) ⊎ (a < b)
    cases a b p = grind arith

    is_put : (h : ℕ) → held_at h (set slots (h % 32) (Some k)) ≡ None → ⊥
    is_put h none = let e = sym (kept_same h slots (Some k) t.all) ∙ none in cc

-- a command is taken, and low goes on
pub table_taken : (lo hi h lo' : ℕ) (slots : List (Option Held)) (x : Option Held) → IsSlotTable lo hi slots → lo ≤ lo' → lo' ≤ hi →
    (lo' < hi → held_at lo' (set slots (h % 32) x) ≡ None → ⊥) → IsSlotTable lo' hi (set slots (h % 32) x)
table_taken lo hi h lo' slots x t above below held = record {
  ordered = below;
  near = let n = t.near in omega arith;
  last = t.last;
  all = length-set slots (h % 32) x ∙ t.all;
  lowest = held;
}

-- what the table then is
pub submitted_is : (lo hi at : ℕ) (slots : List (Option Held)) (r : Request) → IsSlotTable lo hi slots → hi < lo + 32 →
    untaken_from lo (hi + 1 - lo) (set slots (hi % 32) (Some (new_held at r))) ≡ untaken_from lo (hi - lo) slots ++ new_untaken at (command_under hi r) ∷ []
submitted_is lo hi at slots r t near = put_at lo hi slots (Some (new_held at r)) t.ordered near t.all

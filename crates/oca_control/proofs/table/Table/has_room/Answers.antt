use Rattle.oca_control.proofs.Words.{◌≡◌, ◌+◌, ◌-◌, ◌<◌, ◌≤◌, ap, ◌∙◌, sym, arith, Bool, ℕ, length, nat_eq, nat_lt, IsTrue, nat_tests, eq-eqb, ne_eqb}
use Rattle.std.specs.Prelude.{◌||◌}
use Rattle.oca_control.specs.PrivateSlots.{untaken_from}
use Rattle.oca_control.proofs.Places.{room_by_lowest, length_from}
use Rattle.oca_control.proofs.table.Table.has_room.Goals as goal

equal : (a b : ℕ) (x : Bool) → a ≡ b → (nat_eq a b || x) ≡ nat_eq a b
equal a b x p = ap (λ t. t || x) (eq-eqb a b p) ∙ sym (eq-eqb a b p)

unequal : (a b : ℕ) (x : Bool) → (a ≡ b → ⊥) → (nat_eq a b || x) ≡ x
unequal a b x p = ap (λ t. t || x) (ne_eqb a b p)

pub returns-then-self-clause-room : goal.returns-then-self-clause-room
returns-then-self-clause-room g c =
    let a = c.self.inside in
    let room = room_by_lowest c.args.span a.next a.low a.next a.slots c.self.invariant.ordered c.self.invariant.lowest in
    rw (← c.self.view_is) (sym (room ∙ equal a.low a.next (nat_lt a.next (a.low + c.args.span)) c.if-self.true))

pub returns-else-self-clause-room : goal.returns-else-self-clause-room
returns-else-self-clause-room g c =
    let a = c.self.inside in
    let room = room_by_lowest c.args.span a.next a.low a.next a.slots c.self.invariant.ordered c.self.invariant.lowest in
    rw (← c.self.view_is) (sym (room ∙ unequal a.low a.next (nat_lt a.next (a.low + c.args.span)) c.if-self.false ∙ ap (λ s. nat_lt a.next (a.low + s)) (sym c.from.ensures)))

pub returns-then-self-clause-few : goal.returns-then-self-clause-few
returns-then-self-clause-few g c =
    let a = c.self.inside in
    rw (← c.self.view_is) (λ _ some. below (length (untaken_from a.low (a.next - a.low) a.slots)) a.next a.low c.args.span (length_from a.low (a.next - a.low) a.slots) c.if-self.true some)
  where
    below : (n hi lo s : ℕ) → n ≤ hi - lo → lo ≡ hi → 0 < s → n < s
    below n hi lo s p q some = omega arith

pub returns-else-self-clause-few : goal.returns-else-self-clause-few
returns-else-self-clause-few g c =
    let a = c.self.inside in
    rw (← c.self.view_is) (λ fits _. below (length (untaken_from a.low (a.next - a.low) a.slots)) a.next a.low c.args.span c.from.result (length_from a.low (a.next - a.low) a.slots) c.self.invariant.ordered c.from.ensures fits)
  where
    below : (n hi lo s s' : ℕ) → n ≤ hi - lo → lo ≤ hi → s' ≡ s → IsTrue (nat_lt hi (lo + s')) → n < s
    below n hi lo s s' p o q fits = let r : hi < lo + s' = grind (arith, nat_tests) in omega arith

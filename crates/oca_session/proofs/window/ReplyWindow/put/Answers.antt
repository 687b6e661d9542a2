use Rattle.std.proofs.Common.{◌≡◌, ℕ, ◌+◌, ◌≤◌, ◌<◌, ◌∷◌, [], ◌++◌, List, length, length-append, sym, subst, ap, ◌∙◌, arith, refl}
use Rattle.std.specs.Prelude.{All, false}
use Rattle.circular_buffer.specs.Buffer.{buffer}
use Rattle.oca_types.specs.declared.words.Command.{Command}
use Rattle.oca_types.specs.Peers.{fields_of}
use Rattle.oca_session.specs.declared.window.Held.{Held}
use Rattle.oca_session.specs.declared.window.ReplyWindow.TheInside.{Inside}
use Rattle.oca_session.specs.Accepted.{Retained, Fresh, entry_under}
use Rattle.oca_session.specs.PrivateCells.{AreHeld, entry_in, entries_of, floor_before, held_in, is_under}
use Rattle.oca_session.specs.Judging.{retained_after, judgement_by_window}
use Rattle.oca_session.proofs.HeldCells.{Within, cell_is, first_out, fresh_not_retained, held_full, held_more, kept_full, kept_more, not_retained}
use Rattle.oca_session.proofs.window.ReplyWindow.put.Goals as goal

-- nothing is held under the handle of the fresh command
none : {C A : ℕ} (a : Inside C A) (k : Retained) → record { size = a.held.capacity; entries = entries_of a.held.items a.cells.items; floor = floor_before a.floor_end } ≡ k → (q : Command)
    → Within a.cells.items a.held.items → judgement_by_window k (fields_of q) ≡ Fresh → All (λ g. is_under q.handle.0 g ≡ false) a.held.items
none a k is q within fresh =
    not_retained q.handle.0 a.held.items a.cells.items within
    (ap (λ (r : Retained). entry_under q.handle.0 r.entries) is ∙ fresh_not_retained k (fields_of q) fresh)

pub invariant_of-self : goal.invariant_of-self
invariant_of-self g c =
    let a = c.self.inside in
    let hs = a.held.items in
    let x = c.args.command.now.handle in
    let n = held_in x (length hs) in
    let le : a.above ≤ c.raise.new.end = omega (arith, c.raise.ensures) in
    let lt : x.0 < c.raise.new.end = omega (arith, c.raise.ensures) in
    let long : length (hs ++ n ∷ []) ≡ length hs + 1 = length-append hs (n ∷ []) in
    let fresh = none c.self.inside c.args.self.now c.self.view_is c.args.command.now c.self.invariant.0.1 c.requires.fresh in
    rw (c.add.ensures.held, c.add.ensures.items.added) (
      held_more hs a.cells.items a.above c.raise.new.end n c.add.ensures.items.cell c.self.invariant.0 fresh le lt refl,
      omega (arith, c.self.invariant.1, le),
      omega (arith, long, c.in_default.ensures),
      c.self.invariant.3,
      c.self.invariant.4,
      omega (arith, c.self.invariant.5, c.add.ensures.capacity),
      c.self.invariant.6,
      c.self.invariant.7,
    )

pub returns-in_default : goal.returns-in_default
returns-in_default g c =
    let a = c.self.inside in
    let hs = a.held.items in
    let n = held_in c.args.command.now.handle (length hs) in
    rw (← c.self.view_is, c.add.ensures.held, c.add.ensures.items.added)
    (kept_more hs a.cells.items a.above a.held.capacity (floor_before a.floor_end) n c.add.ensures.items.cell c.self.invariant.0 c.in_default.ensures refl
    ∙ ap (retained_after _) c.add.ensures.items.holds)

pub invariant_of-self-2 : goal.invariant_of-self-2
invariant_of-self-2 g c =
    let a = c.self.inside in
    let hs = a.held.items in
    let cs = a.cells.items in
    let x = c.args.command.now.handle in
    let o = c.in-Some-push_back.oldest in
    let n = held_in x c.in-Some.cell in
    let out = first_out hs n o a.held.capacity c.self.invariant.3 c.self.invariant.2 (sym c.in-Some-push_back.ensures.value) in
    let rest = out.0 in
    let pushed = c.in-Some-push_back.ensures.items ∙ ap (λ (ys : List Held). buffer ys a.held.capacity) out.3 in
    let held = subst (λ (ys : List Held). AreHeld ys cs a.above) out.1 c.self.invariant.0 in
    let fresh = subst (λ (ys : List Held). All (λ g. is_under x.0 g ≡ false) ys) out.1
    (none c.self.inside c.args.self.now c.self.view_is c.args.command.now c.self.invariant.0.1 c.requires.fresh) in
    let le : a.above ≤ c.raise.new.end = omega (arith, c.raise.ensures) in
    let lt : x.0 < c.raise.new.end = omega (arith, c.raise.ensures) in
    let low : o.handle.0 < a.above = held.3 0 o (omega arith) in
    let long : length (rest ++ n ∷ []) ≡ length rest + 1 = length-append rest (n ∷ []) in
    let one_more : length hs ≡ length rest + 1 = ap (λ (ys : List Held). length ys) out.1 ∙ omega arith in
    rw pushed (
      held_full o rest cs a.above c.raise.new.end n c.set.new.self held fresh le lt (cell_is hs rest o a.held.capacity c.in-Some.cell c.in-Some.ensures out.1),
      omega (arith, c.self.invariant.1, le, low, c.raise-2.ensures),
      omega (arith, long, one_more, c.self.invariant.2),
      c.self.invariant.3,
      c.self.invariant.4,
      c.self.invariant.5,
      c.self.invariant.6,
      c.self.invariant.7,
    )

pub returns : goal.returns
returns g c =
    let a = c.self.inside in
    let hs = a.held.items in
    let cs = a.cells.items in
    let o = c.in-Some-push_back.oldest in
    let n = held_in c.args.command.now.handle c.in-Some.cell in
    let out = first_out hs n o a.held.capacity c.self.invariant.3 c.self.invariant.2 (sym c.in-Some-push_back.ensures.value) in
    let rest = out.0 in
    let pushed = c.in-Some-push_back.ensures.items ∙ ap (λ (ys : List Held). buffer ys a.held.capacity) out.3 in
    let held = subst (λ (ys : List Held). AreHeld ys cs a.above) out.1 c.self.invariant.0 in
    let full = sym (ap (λ (ys : List Held). length ys) out.1) ∙ out.2 in
    let at = cell_is hs rest o a.held.capacity c.in-Some.cell c.in-Some.ensures out.1 in
    rw (← c.self.view_is, pushed, c.raise-2.ensures)
    (kept_full o rest cs a.above a.held.capacity a.floor_end n c.set.new.self held full at
    ∙ ap (λ (ys : List Held). retained_after (record { size = a.held.capacity; entries = entries_of ys cs; floor = floor_before a.floor_end }) (entry_in n.handle c.set.new.self)) (sym out.1)
    ∙ ap (retained_after _) c.set.ensures)

use Rattle.oca_control.proofs.Words.{◌≡◌, ◌-◌, ℕ, ap, ◌∙◌, List, [], Option, arith, TableState, Held}
use Rattle.oca_control.specs.PrivateSlots.{untaken_from}
use Rattle.oca_control.proofs.Places.{done}
use Rattle.oca_control.proofs.table.Table.new.Goals as goal

made : (a b first : ℕ) (slots : List (Option Held)) → a ≡ first → b ≡ first →
    (let t : TableState = record { next = b; untaken = untaken_from a (b - a) slots } in t) ≡ (let t : TableState = record { next = first; untaken = [] } in t)
made a b first slots e f =
    ap (λ us. let t : TableState = record { next = b; untaken = us } in t) (done a b slots (omega arith))
    ∙ ap (λ n. let t : TableState = record { next = n; untaken = [] } in t) f

pub returns : goal.returns
returns g c = made c.from.result c.from-2.result c.args.first.0 c.default.result c.from.ensures c.from-2.ensures

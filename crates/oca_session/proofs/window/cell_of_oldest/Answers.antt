use Rattle.std.proofs.Common.{option_copied, length, sym, ap, ◌∙◌, arith}
use Rattle.oca_session.proofs.HeldCells.{not_full, none_first}
use Rattle.oca_session.proofs.window.cell_of_oldest.Goals as goal

pub returns-then-not-is_full : goal.returns-then-not-is_full
returns-then-not-is_full c =
    let b = c.args.held.now in
    not_full (length b.items) b.capacity c.requires.1 (sym c.is_full.ensures ∙ c.if-not-is_full.true)

pub returns-in_err-front : goal.returns-in_err-front
returns-in_err-front c =
    let none = none_first c.args.held.now.items (sym c.front.ensures ∙ ap option_copied c.in_err-front.was) in
    rw c.from_residual.ensures (omega (arith, none, c.requires.0))

use Rattle.std.proofs.Common.{option_copied, sym, ap, ◌∙◌}
use Rattle.oca_session.proofs.HeldCells.{found_back, found_front, latest_found}
use Rattle.oca_session.proofs.window.held_under.Goals as goal

pub returns : goal.returns
returns c =
    let last = sym c.back.ensures ∙ ap option_copied c.in-Some.is in
    sym (latest_found c.args.handle.0 c.args.held.now.items c.in-Some.latest.now c.requires last (sym c.if-eq.ensures))

pub returns-in-Some-first_under : goal.returns-in-Some-first_under
returns-in-Some-first_under c =
    sym (found_front c.args.handle.0 _ _ c.args.held.now.items c.in-Some-first_under.found.now c.as_slices.ensures (sym c.first_under.ensures ∙ ap option_copied c.in-Some-first_under.is))

pub returns-in-None : goal.returns-in-None
returns-in-None c =
    c.copied.ensures ∙ c.first_under-in-None.ensures ∙ sym (found_back c.args.handle.0 _ _ c.args.held.now.items c.as_slices.ensures (sym c.first_under.ensures ∙ ap option_copied c.in-None.is))

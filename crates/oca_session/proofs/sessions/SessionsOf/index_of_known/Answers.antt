use Rattle.std.proofs.Common.{◌<◌, take, sym, ap, ◌∙◌, arith}
use Rattle.std.proofs.lemmas.List.{length-take, get_or-take}
use Rattle.oca_session.specs.Table.{is_of}
use Rattle.oca_session.proofs.Tables.{placed_at, some_known}
use Rattle.oca_session.proofs.sessions.SessionsOf.index_of_known.Goals as goal

pub returns-then-is_of-clause-place : goal.returns-then-is_of-clause-place
returns-then-is_of-clause-place g c =
    let a = c.self.inside in
    let s = c.index.result.now in
    let long = length-take a.count a.slots.items in
    let some = some_known c.args.peer (take a.count a.slots.items) (rw (← c.self.view_is) at c.requires) in
    let within : a.recent < a.count = c.self.invariant.5 (omega (arith, some, long)) in
    let there = get_or-take a.count a.slots.items a.recent s within ∙ sym c.index.ensures in
    rw (← c.self.view_is) (placed_at c.args.peer (take a.count a.slots.items) a.recent s c.self.invariant.3 (omega (arith, within, long, c.self.invariant.0, c.self.invariant.1))
    (ap (is_of c.args.peer) there ∙ sym c.is_of.ensures ∙ c.if-is_of.true))

use Rattle.std.proofs.Common.{sym, ◌∙◌, ◌≡◌, take, Some, None}
use Rattle.std.specs.Prelude.{position}
use Rattle.oca_session.specs.Table.{is_of}
use Rattle.oca_session.proofs.Lapses.{lapses_found, lapses_never}
use Rattle.oca_session.proofs.sessions.SessionsOf.lapsed_from.Goals as goal

pub returns-in-Some : goal.returns-in-Some
returns-in-Some g c =
    let a = c.self.inside in
    let placed : position (is_of c.args.peer) (take a.count a.slots.items) ≡ Some c.in-Some.at = rw (← c.deref.ensures.value) (sym c.index_of.ensures ∙ c.in-Some.is) in
    rw (← c.self.view_is) (lapses_found c.args.peer a.slots.items a.count c.in-Some.at _ _ c.self.invariant.3 placed c.index.ensures c.lapsed_from.ensures)

pub returns-in-None : goal.returns-in-None
returns-in-None g c =
    let a = c.self.inside in
    let unplaced : position (is_of c.args.peer) (take a.count a.slots.items) ≡ None = rw (← c.deref.ensures.value) (sym c.index_of.ensures ∙ c.in-None.is) in
    rw (← c.self.view_is) (lapses_never c.args.peer (take a.count a.slots.items) unplaced)

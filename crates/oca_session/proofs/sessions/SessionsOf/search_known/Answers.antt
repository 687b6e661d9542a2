use Rattle.std.proofs.Common.{◌≡◌, true, false, take, sym}
use Rattle.oca_session.proofs.Tables.{none_known}
use Rattle.oca_session.proofs.sessions.SessionsOf.search_known.Goals as goal

pub unreachable-requires : goal.unreachable-requires
unreachable-requires g c =
    let a = c.self.inside in
    let none = none_known c.args.peer (take a.count a.slots.items) (rw c.deref.ensures.value at (sym c.in-None.ensures)) in
    let known = rw (← c.self.view_is) at c.requires in
    let wrong : false ≡ true = rw none at known in
    cc

use Rattle.oca_device.proofs.Words.{ap, ◌∙◌, subst, ◌||◌, HoldsFrom, forgets, state_after, releases}
use Rattle.std.proofs.Common.{max}
use Rattle.oca_device.proofs.Lapses.{next_some, next_none}
use Rattle.oca_device.proofs.Opened.{parts_in}
use Rattle.oca_device.proofs.device.DeviceOf.next_lapse.Goals as goal

pub returns-in-Some : goal.returns-in-Some
returns-in-Some g c = λ w T E r.
    let tree = c.self.inside.tree in
    let table = c.self.inside.sessions in
    let was = parts_in tree table c.args.self.now w (state_after w T E) c.self.view_is r.state in
    let h = c.sooner.ensures (forgets table.sessions) (releases tree table.sessions) c.forgotten_from.ensures c.released_from.ensures in
    next_some g.row.ANSWER w (state_after w T E) tree table was.tree was.sessions c.in-Some.first c.max.result
    (subst (HoldsFrom (λ t. forgets table.sessions t || releases tree table.sessions t)) c.in-Some.is h)
    (c.max.ensures ∙ ap (max c.in-Some.first) c.moment.ensures) c.max.type_inv

pub returns-in-None : goal.returns-in-None
returns-in-None g c = λ w T E r.
    let tree = c.self.inside.tree in
    let table = c.self.inside.sessions in
    let was = parts_in tree table c.args.self.now w (state_after w T E) c.self.view_is r.state in
    let h = c.sooner.ensures (forgets table.sessions) (releases tree table.sessions) c.forgotten_from.ensures c.released_from.ensures in
    next_none g.row.ANSWER w (state_after w T E) tree table was.tree was.sessions
    (subst (HoldsFrom (λ t. forgets table.sessions t || releases tree table.sessions t)) c.in-None.is h)

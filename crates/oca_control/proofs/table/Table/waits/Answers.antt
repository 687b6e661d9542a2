use Rattle.oca_control.proofs.Words.{sym}
use Rattle.oca_control.proofs.Views.{waits_out, waits_in}
use Rattle.oca_control.proofs.table.Table.waits.Goals as goal

pub returns : goal.returns
returns g c =
    let a = c.self.inside in
    rw (← c.self.view_is) (waits_in a.low a.next c.args.handle.0 _ a.slots c.index-self-at.result _ c.self.invariant c.in-Some.ensures c.waits.ensures)

pub returns-in_default : goal.returns-in_default
returns-in_default g c =
    let a = c.self.inside in
    rw (← c.self.view_is) (sym (waits_out a.low a.next c.args.handle.0 a.slots c.in_default.ensures))

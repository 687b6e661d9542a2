use Rattle.std.proofs.Common.{sym, arith}
use Rattle.oca_types.specs.Peers.{fields_of}
use Rattle.oca_session.proofs.HeldCells.{fresh_above}
use Rattle.oca_session.proofs.window.ReplyWindow.judge_retained.Goals as goal

pub returns-then-from-self : goal.returns-then-from-self
returns-then-from-self g c =
    let a = c.self.inside in
    rw (← c.self.view_is) (sym (fresh_above a.above a.held.capacity a.floor_end (fields_of c.args.command.now) a.held.items a.cells.items c.self.invariant.0 c.self.invariant.1 (omega arith)))

use Rattle.std.proofs.Common.{arith}
use Rattle.oca_session.proofs.Quiet.{latest_last}
use Rattle.oca_session.proofs.sessions.quiet_until.Goals as goal

pub returns : goal.returns
returns g c =
    let l = c.loop-slot in
    latest_last l.until l.slot-index c.args.slots.now (omega (arith, c.loop-slot-test.false)) l.invariant.within l.invariant.least

use Rattle.std.proofs.Common.{◌≡◌, ◌≤◌, drop}
use Rattle.std.specs.Prelude.{min}
use Rattle.oca_session.specs.PrivateQuiet.{latest_quiet}
use Rattle.oca_session.proofs.sessions.quiet_until.Given as goal

-- the least so far, with those of the sessions to come
abbrev pub invariant-loop-slot : goal.invariant-loop-slot
invariant-loop-slot g l =
    record {
      least : min l.until (latest_quiet (drop l.slot-index l.slots)) ≡ latest_quiet l.slots;
      within : l.until ≤ 18446744073709551615;
    }

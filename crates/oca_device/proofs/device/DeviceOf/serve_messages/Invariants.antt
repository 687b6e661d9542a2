use Rattle.oca_device.proofs.Words.{◌≡◌, ◌+◌, ◌≤◌, length, IsSome, AllByRecursion, DeviceSizes, messages_left, session_of, run, last_noted, State, IsIn, AreGrouped, IsShort, all_commands}
use Rattle.oca_device.proofs.Steps.{IsHalfway}
use Rattle.oca_device.proofs.device.DeviceOf.serve_messages.Given as goal

abbrev pub invariant-loop-message : goal.invariant-loop-message
invariant-loop-message g l =
    let rest = messages_left l.message-iterator in
    record {
      known : IsSome (session_of l.from l.self.sessions.sessions);
      room : l.outbox.room ≡ l.fn.outbox.room;
      groups : AreGrouped l.outbox;
      short : AllByRecursion (IsShort g.row.COMMAND) rest;
      few : l.counts.executed + l.counts.kept + l.counts.old + l.counts.reused + all_commands rest ≤ 86;
      within : length l.self.written ≤ l.counts.executed + l.counts.kept + l.counts.old + l.counts.reused;
      counted : length l.self.effects ≤ l.counts.executed + l.counts.kept + l.counts.old + l.counts.reused;
      served : (w : DeviceSizes) (s : State) → IsIn g.row.ANSWER w l.fn.self s → last_noted (run l.from s.notes) ≡ s.moment →
          IsHalfway g.row.ANSWER w l.from l.self rest (messages_left l.fn.messages) s l.fn.outbox l.outbox l.counts;
    }

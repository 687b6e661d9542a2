-- What a report says of the turns of the loop: a turn is one delivery of the end.
use Rattle.std.specs.Prelude.{[], ◌+◌, ◌∷◌, List, if◌then◌else◌, length, min, nat_le, nat_lt, ℕ}
use Rattle.oca_device.specs.Words.{Datagram, Delivery, DeviceSizes, Failed, Object, Quiet, largest_datagram, last_u64}
use Rattle.oca_device.specs.declared.verdict.Verdict.{Verdict}
use Rattle.oca_device.specs.declared.verdict.Verdict.TheVariants as verdicts
use Rattle.oca_device.specs.declared.report.Report.{Report}
use Rattle.oca_device.specs.Events.{Event}
use Rattle.oca_device.specs.Events as event
use Rattle.oca_device.specs.Answers.{verdict}

-- nothing was done
abbrev pub no_turns : Report
no_turns =
    record {
      turns = 0;
      executed = 0;
      kept = 0;
      old = 0;
      reused = 0;
      malformed = 0;
      no_room = 0;
      oversize = 0;
      quiet = 0;
      failed_receives = 0;
      failed_sends = 0;
    }

-- first the one, then the other
abbrev pub added : Report → Report → Report
added a b =
    record {
      turns = a.turns + b.turns;
      executed = a.executed + b.executed;
      kept = a.kept + b.kept;
      old = a.old + b.old;
      reused = a.reused + b.reused;
      malformed = a.malformed + b.malformed;
      no_room = a.no_room + b.no_room;
      oversize = a.oversize + b.oversize;
      quiet = a.quiet + b.quiet;
      failed_receives = a.failed_receives + b.failed_receives;
      failed_sends = a.failed_sends + b.failed_sends;
    }

-- a number that would pass 64 bits stays at its last value
abbrev pub capped : Report → Report
capped r =
    record {
      turns = min r.turns last_u64;
      executed = min r.executed last_u64;
      kept = min r.kept last_u64;
      old = min r.old last_u64;
      reused = min r.reused last_u64;
      malformed = min r.malformed last_u64;
      no_room = min r.no_room last_u64;
      oversize = min r.oversize last_u64;
      quiet = min r.quiet last_u64;
      failed_receives = min r.failed_receives last_u64;
      failed_sends = min r.failed_sends last_u64;
    }

abbrev pub one_turn : Report
one_turn = record no_turns { turns = 1 }

-- a turn with this verdict
abbrev pub verdict_turn : Verdict → Report
verdict_turn (verdicts.Served executed kept old reused) =
    record one_turn { executed = executed; kept = kept; old = old; reused = reused }
verdict_turn (verdicts.Malformed fault) = record one_turn { malformed = 1 }
verdict_turn verdicts.NoRoom = record one_turn { no_room = 1 }

-- A turn with this delivery, after events, but for the sends that failed.
abbrev pub turn_report : DeviceSizes → List Object → List Event → Delivery → Report
turn_report w tree events (Datagram from bytes now) =
    if nat_le (length bytes) largest_datagram then verdict_turn (verdict w tree events from bytes now)
    else record one_turn { oversize = 1 }
turn_report w tree events (Quiet now) = record one_turn { quiet = 1 }
turn_report w tree events Failed = record one_turn { failed_receives = 1 }

-- The events after a delivery: a datagram of at most 1,472 bytes is a datagram event, a longer one and silence are
-- clock readings, and a failure is no event.
abbrev pub events_after : Delivery → List Event → List Event
events_after (Datagram from bytes now) events =
    if nat_le (length bytes) largest_datagram then event.Datagram from bytes now ∷ events else event.Tick now ∷ events
events_after (Quiet now) events = event.Tick now ∷ events
events_after Failed events = events

-- THE EVENTS after deliveries, of which the first stands first.
abbrev pub events_after_all : List Delivery → List Event → List Event
events_after_all [] events = events
events_after_all (d ∷ deliveries) events = events_after_all deliveries (events_after d events)

-- THE REPORT of the deliveries, but for the sends that failed.
abbrev pub report_of : DeviceSizes → List Object → List Event → List Delivery → Report
report_of w tree events [] = no_turns
report_of w tree events (d ∷ deliveries) =
    added (turn_report w tree events d) (report_of w tree (events_after d events) deliveries)

-- How often a loop of at most `bound` turns receives: once a turn, and once more, which returned Closed, where it took
-- fewer turns.
abbrev pub receives_of : ℕ → ℕ → ℕ
receives_of turns bound = if nat_lt turns bound then turns + 1 else turns

use Rattle.oca_pair.proofs.Stragglers.{fewer_may_still_come, renewals_are_noted}
use Rattle.oca_pair.proofs.AnsweredInTime.{answered_in_time, round_trips_in_time, gets_through_in_time}
use Rattle.oca_pair.proofs.law.law_answered_in_time.Goals as goal

pub returns : goal.returns
returns c = record {
  answered = answered_in_time c.law_written_is_read_back.ensures;
  round_trip = round_trips_in_time c.law_written_is_read_back.ensures;
  getting_through = gets_through_in_time c.law_written_is_read_back.ensures;
  fewer = fewer_may_still_come;
  noted = renewals_are_noted;
}

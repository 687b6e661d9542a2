use Rattle.oca_pair.proofs.RoundTrip.{round_trip_law}
use Rattle.oca_pair.proofs.law.law_round_trip.Goals as goal

pub returns : goal.returns
returns c = round_trip_law c.law_written_is_read_back.ensures

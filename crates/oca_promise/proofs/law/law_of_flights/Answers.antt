use Rattle.oca_promise.proofs.Doing.{every_flight_does}
use Rattle.oca_promise.proofs.Keeping.{flights_keep}
use Rattle.oca_promise.proofs.Promises.{sets_in_flight_keep, readings_in_flight_keep, answers_in_flight_keep}
use Rattle.oca_promise.proofs.law.law_of_flights.Goals as goal

pub returns : goal.returns
returns c =
    let said = c.law_of_what_is_said.ensures in
    let law = c.law_reading.ensures in
    record {
      once = flights_keep _ said.between law;
      in_time = every_flight_does law;
      refused = flights_keep _ said.refused law;
      set = sets_in_flight_keep said.between said.sets law;
      reading = readings_in_flight_keep said.between said.ok said.reads said.met law;
      answer = answers_in_flight_keep said.between said.ok said.met law;
    }

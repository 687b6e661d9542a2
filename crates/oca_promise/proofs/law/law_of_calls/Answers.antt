use Rattle.oca_promise.proofs.Doing.{every_call_does}
use Rattle.oca_promise.proofs.Keeping.{calls_keep}
use Rattle.oca_promise.proofs.Playing.{renewals_are_steps, keep_alives_are_steps, calls_beside_are_steps}
use Rattle.oca_promise.proofs.Promises.{sets_keep, refused_sets_keep, readings_keep, gets_keep, locks_keep, unlocks_keep, classes_keep, roles_keep, labels_keep, members_keep, descriptions_keep}
use Rattle.oca_promise.proofs.law.law_of_calls.Goals as goal

pub returns : goal.returns
returns c =
    let said = c.law_of_what_is_said.ensures in
    let law = c.law_reading.ensures in
    record {
      once = calls_keep _ said.between law;
      in_time = every_call_does law;
      refused = calls_keep _ said.refused law;
      set = sets_keep said.between said.sets law;
      set_refused = refused_sets_keep said.between said.refused law;
      reading = readings_keep said.between said.ok said.reads said.met law;
      get = gets_keep said.between said.ok said.reads said.met law;
      lock = locks_keep said.between said.ok law;
      unlock = unlocks_keep said.between said.ok law;
      class = classes_keep said.between said.ok said.met law;
      role = roles_keep said.between said.ok law;
      label = labels_keep said.between said.ok law;
      members = members_keep said.between said.ok said.met law;
      describes = descriptions_keep said.between said.ok said.met law;
      renewal = renewals_are_steps;
      beside = calls_beside_are_steps;
      keep_alive = keep_alives_are_steps;
    }

use Rattle.oca_control.proofs.Answering.{marked_sent}
use Rattle.oca_control.proofs.InTime.{in_time}
use Rattle.oca_control.proofs.law.law_of_sending.Goals as goal

pub returns-clause-due : goal.returns-clause-due
returns-clause-due c = marked_sent

pub returns-clause-in_time : goal.returns-clause-in_time
returns-clause-in_time c = in_time

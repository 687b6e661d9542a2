use Rattle.oca_control.proofs.Copies.{copies_in_time, every_step, goes_on_in_time, stays_late}
use Rattle.oca_control.proofs.law.law_copies_in_time.Goals as goal

pub returns-clause-copies : goal.returns-clause-copies
returns-clause-copies c = copies_in_time

pub returns-clause-steps : goal.returns-clause-steps
returns-clause-steps c = every_step

pub returns-clause-late : goal.returns-clause-late
returns-clause-late c = stays_late

pub returns-clause-goes_on : goal.returns-clause-goes_on
returns-clause-goes_on c = goes_on_in_time

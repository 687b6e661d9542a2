use Rattle.oca_control.proofs.Asked.{run_asked, begun_in_time, begun_time}
use Rattle.oca_control.proofs.Lifetimes.{time_soon}
use Rattle.oca_control.proofs.Runs.{every_call, own_receive_runs, runs_on, end_serves, every_script}
use Rattle.oca_control.proofs.law.law_of_running.Goals as goal

pub returns-clause-calls : goal.returns-clause-calls
returns-clause-calls c = every_call

pub returns-clause-asked : goal.returns-clause-asked
returns-clause-asked c = run_asked

pub returns-clause-over_an_end : goal.returns-clause-over_an_end
returns-clause-over_an_end c = end_serves

pub returns-clause-begun : goal.returns-clause-begun
returns-clause-begun c = begun_in_time

pub returns-clause-in_memory : goal.returns-clause-in_memory
returns-clause-in_memory c = every_script

pub returns-clause-goes_on : goal.returns-clause-goes_on
returns-clause-goes_on c = runs_on

pub returns-clause-others : goal.returns-clause-others
returns-clause-others c = begun_time

pub returns-clause-soon : goal.returns-clause-soon
returns-clause-soon c = time_soon

pub returns-clause-own_receives : goal.returns-clause-own_receives
returns-clause-own_receives c = own_receive_runs

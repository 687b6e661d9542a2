use Rattle.oca_tree.proofs.SetReads.{settings_read}
use Rattle.oca_tree.proofs.TypedCommands.{commands_typed, refusals_change, writes_refused}
use Rattle.oca_tree.proofs.TypedRight.{answers_right}
use Rattle.oca_tree.proofs.laws.law_of_typed_requests.Goals as goal

pub returns-clause-did : goal.returns-clause-did
returns-clause-did c = commands_typed

pub returns-clause-refused : goal.returns-clause-refused
returns-clause-refused c = refusals_change

pub returns-clause-failing : goal.returns-clause-failing
returns-clause-failing c = writes_refused

pub returns-clause-settings : goal.returns-clause-settings
returns-clause-settings c = settings_read

pub returns-clause-right : goal.returns-clause-right
returns-clause-right c = answers_right

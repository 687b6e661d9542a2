use Rattle.oca_control.proofs.Histories.{lawful, one_content}
use Rattle.oca_control.proofs.AgreeingWithCalls.{agrees_with_calls}
use Rattle.oca_control.proofs.Counting.{datagrams_counted}
use Rattle.oca_control.proofs.law.law_of_histories.Goals as goal

pub returns-clause-law : goal.returns-clause-law
returns-clause-law c = lawful

pub returns-clause-content : goal.returns-clause-content
returns-clause-content c = λ bytes one other a b. one_content c.law_one_list_of_messages.ensures bytes one other a b

pub returns-clause-telling : goal.returns-clause-telling
returns-clause-telling c = agrees_with_calls

pub returns-clause-datagrams : goal.returns-clause-datagrams
returns-clause-datagrams c = datagrams_counted

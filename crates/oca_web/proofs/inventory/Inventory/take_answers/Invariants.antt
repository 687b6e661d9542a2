use Rattle.oca_web.specs.Views.{TakesAnswers}
use Rattle.oca_web.proofs.inventory.Inventory.take_answers.Given as goal

abbrev pub invariant-loop-question : goal.invariant-loop-question
invariant-loop-question g l = TakesAnswers l.fn.panel l.panel

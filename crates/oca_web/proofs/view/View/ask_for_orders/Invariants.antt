use Rattle.std.proofs.Common.{◌≡◌}
use Rattle.oca_web.specs.Views.{AsksQuestions}
use Rattle.oca_web.proofs.view.View.ask_for_orders.Given as goal

abbrev pub invariant-loop-at : goal.invariant-loop-at
invariant-loop-at g l = AsksQuestions l.fn.panel l.panel × (l.self.orders ≡ l.fn.self.orders) × (l.self.current ≡ l.fn.self.current)

abbrev pub invariant-loop-question : goal.invariant-loop-question
invariant-loop-question g l = AsksQuestions l.fn.panel l.panel × (l.self.orders ≡ l.fn.self.orders) × (l.self.current ≡ l.fn.self.current)

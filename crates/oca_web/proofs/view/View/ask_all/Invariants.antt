use Rattle.std.proofs.Common.{◌≡◌}
use Rattle.oca_web.specs.Views.{AsksQuestions}
use Rattle.oca_web.proofs.view.View.ask_all.Given as goal

abbrev pub invariant-loop : goal.invariant-loop
invariant-loop g l = AsksQuestions l.fn.panel l.panel × (l.self.orders ≡ l.fn.self.orders) × (l.self.current ≡ l.fn.self.current)

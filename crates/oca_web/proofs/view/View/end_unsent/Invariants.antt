use Rattle.std.proofs.Common.{◌≡◌}
use Rattle.oca_web.specs.Orders.{EndsUnsent}
use Rattle.oca_web.proofs.view.View.end_unsent.Given as goal

abbrev pub invariant-loop-order : goal.invariant-loop-order
invariant-loop-order l = EndsUnsent l.fn.self.orders l.self.orders × (l.self ≡ record l.fn.self { orders = l.self.orders })

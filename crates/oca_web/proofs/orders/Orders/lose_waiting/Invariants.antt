use Rattle.std.proofs.Common.{◌≡◌, length}
use Rattle.oca_web.specs.Orders.{with_unsent}
use Rattle.oca_web.proofs.orders.Orders.lose_waiting.Given as goal

abbrev pub invariant-loop-order : goal.invariant-loop-order
invariant-loop-order l =
    (l.self.in_flight ≡ l.fn.self.in_flight) × (l.self.tickets ≡ l.fn.self.tickets)
    × (with_unsent l.reason l.self.waiting l.self.results ≡ with_unsent l.reason l.fn.self.waiting l.fn.self.results)

abbrev pub decreases-loop-order : goal.decreases-loop-order
decreases-loop-order l = length l.self.waiting

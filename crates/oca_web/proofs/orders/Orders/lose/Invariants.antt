use Rattle.std.proofs.Common.{◌≡◌, length}
use Rattle.oca_web.specs.Orders.{with_lost}
use Rattle.oca_web.proofs.orders.Orders.lose.Given as goal

abbrev pub invariant-loop-sent : goal.invariant-loop-sent
invariant-loop-sent l =
    (l.self.waiting ≡ l.fn.self.waiting) × (l.self.tickets ≡ l.fn.self.tickets)
    × (with_lost l.self.in_flight l.self.results ≡ with_lost l.fn.self.in_flight l.fn.self.results)

abbrev pub decreases-loop-sent : goal.decreases-loop-sent
decreases-loop-sent l = length l.self.in_flight

use Rattle.oca_web.proofs.OrderLemmas.{AddedSoFar}
use Rattle.oca_web.proofs.orders.Orders.add_all.Given as goal

abbrev pub invariant-loop-order : goal.invariant-loop-order
invariant-loop-order l = AddedSoFar l.wanted l.last l.order-index l.fn.self l.self

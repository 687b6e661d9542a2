use Rattle.oca_web.specs.Orders.{SubmitsOrders}
use Rattle.oca_web.proofs.orders.submit_orders.Given as goal

abbrev pub invariant-loop-order : goal.invariant-loop-order
invariant-loop-order g l = SubmitsOrders l.ahead l.known l.fn.orders l.fn.panel l.orders l.panel

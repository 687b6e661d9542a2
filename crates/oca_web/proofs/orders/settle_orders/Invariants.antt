use Rattle.oca_web.specs.Orders.{SettlesOrders}
use Rattle.oca_web.proofs.orders.settle_orders.Given as goal

abbrev pub invariant-loop-order : goal.invariant-loop-order
invariant-loop-order g l = SettlesOrders l.fn.orders l.fn.panel l.orders l.panel

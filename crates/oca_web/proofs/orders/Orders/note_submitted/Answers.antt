use Rattle.std.proofs.Common.{ap, sym}
use Rattle.oca_web.specs.Orders.{OrdersState}
use Rattle.oca_web.proofs.OrderLemmas.{taken_first}
use Rattle.oca_web.proofs.orders.Orders.note_submitted.Goals as goal

pub returns-clause-first : goal.returns-clause-first
returns-clause-first c =
    taken_first _ c.self.inside.waiting.items _ _ _ c.pop_at.result (ap (λ (s : OrdersState). s.waiting) (sym c.self.view_is)) c.requires c.pop_at.ensures.value
    c.pop_at.ensures.items

use Rattle.std.proofs.Common.{◌≡◌}
use Rattle.oca_web.proofs.site.Site.get_values.Given as goal

abbrev pub invariant-loop-range : goal.invariant-loop-range
invariant-loop-range l = (l.self.view.orders ≡ l.fn.self.view.orders) × (l.self.terms ≡ l.fn.self.terms)

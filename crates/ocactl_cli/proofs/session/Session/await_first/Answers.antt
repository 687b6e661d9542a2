use Rattle.ocactl_cli.proofs.ExchangeLemmas.{first-awaited}
use Rattle.ocactl_cli.proofs.session.Session.await_first.Goals as goal

pub returns : goal.returns
returns g c = first-awaited (tt, _) _ _ _ _ _ _ _ _ _ _ _ _ c.self.view_is c.self.invariant.2 c.in-Some.ensures

use Rattle.ocactl_cli.proofs.ExchangeLemmas.{first-settled, first-unknown}
use Rattle.ocactl_cli.proofs.session.Session.take_first.Goals as goal

pub returns : goal.returns
returns g c = first-settled (tt, _) _ _ _ _ _ _ _ _ _ _ _ _ c.self.view_is c.in-Some.ensures

pub returns-in_default : goal.returns-in_default
returns-in_default g c = first-unknown _ _ _ _ _ _ _ _ _ _ _ _ c.self.view_is c.in_default.ensures

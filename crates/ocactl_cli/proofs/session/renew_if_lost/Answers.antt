use Rattle.std.proofs.Common.{inr}
use Rattle.ocactl_cli.proofs.ExchangeLemmas.{behind-of}
use Rattle.ocactl_cli.proofs.session.renew_if_lost.Goals as goal

pub returns-in-Some : goal.returns-in-Some
returns-in-Some g c =
    inr (c.in-Some.next.0, c.if-not-is_lost.ensures, behind-of _ c.in-Some.next _ c.next_handle.ensures c.in-Some.is, c.renew.ensures)

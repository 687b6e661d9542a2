use Rattle.ocactl_cli.proofs.ExchangeLemmas.{none-when, took-up-anew, took-up-same}
use Rattle.ocactl_cli.proofs.session.Session.take_up.Goals as goal

pub returns-then-not-is_empty : goal.returns-then-not-is_empty
returns-then-not-is_empty g c =
    let s = c.self.inside in
    took-up-same s.in_flight s.panel s.device _ s.ahead s.refused s.socket s.is_open s.at_hand c.args.self.now c.present-now.result c.since.result c.self.view_is
    c.present-now.ensures c.since.ensures

pub returns : goal.returns
returns g c =
    let s = c.self.inside in
    took-up-anew s.in_flight s.panel _ s.device _ s.ahead s.refused s.socket s.is_open s.at_hand c.args.self.now c.present-now.result c.since.result c.self.view_is
    c.present-now.ensures c.since.ensures (none-when s.in_flight c.if-not-is_empty.ensures) c.renew_if_lost.ensures

use Rattle.std.proofs.Common.{refl}
use Rattle.oca_types.specs.Peers.{request_of}
use Rattle.ocactl_cli.proofs.ExchangeLemmas.{submits, refuses, came-late}
use Rattle.ocactl_cli.proofs.session.Session.submit.Goals as goal

pub returns-then-comes_late : goal.returns-then-comes_late
returns-then-comes_late g c =
    let s = c.self.inside in (
      refl,
      came-late (request_of c.args.request) _ s.in_flight s.panel s.device _ s.ahead s.refused s.socket s.is_open s.at_hand c.args.self.now c.present-now.result c.self.view_is
          c.present-now.ensures (c.comes_late.ensures.late c.if-comes_late.true) refl,
    )

pub returns-in-Ok : goal.returns-in-Ok
returns-in-Ok g c =
    submits (request_of c.args.request) c.begin_behind.result c.in-Ok.handle _ _ _ _ _ _ _ _ _ _ _ _ c.present-now.result c.self.view_is c.in-Ok.is c.requires c.begin_behind.ensures
    c.present-now.ensures (c.comes_late.ensures.in_time c.if-comes_late.false)

pub returns-in-Err : goal.returns-in-Err
returns-in-Err g c =
    refuses (request_of c.args.request) c.begin_behind.result c.in-Err.fault _ _ _ _ _ _ _ _ _ _ _ _ c.self.view_is c.in-Err.is c.requires c.begin_behind.ensures

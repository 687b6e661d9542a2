use Rattle.oca_device.proofs.Words.{refl, ap, sym, subst, arith, Report, ServesEndWith}
use Rattle.oca_net.proofs.Running.{received_more}
use Rattle.oca_device.proofs.Turns.{with_none, with_closed, long_none, long_more, long_closed, exact_more, none_within, more_within}
use Rattle.oca_device.proofs.serving.serve_with.Goals as goal

pub loop-turn-init : goal.loop-turn-init
loop-turn-init g c =
    let e = g.E.End.state c.args.end.now in
    let x = g.L.Electronics.state c.args.electronics.now in
    record {
      empty = c.clear.ensures;
      served = long_none c.args.device.now e x _ c.nothing-report.ensures;
      exact = λ _. subst (ServesEndWith c.args.device.now c.args.device.now e e x x) (sym c.nothing-report.ensures) (with_none c.args.device.now e x);
      turns = ap (λ (r : Report). r.turns) c.nothing-report.ensures;
      within = none_within c.nothing-report.result _ c.nothing-report.ensures;
      receives = λ _. omega arith;
    }

pub loop-turn-preserved : goal.loop-turn-preserved
loop-turn-preserved g c =
    let inv = c.loop-turn.invariant in
    let one = c.in-Some.ensures.turn in
    let fits = c.in-Some.ensures.fits in
    record {
      empty = c.in-Some.ensures.outbox;
      served = long_more _ inv.served one.serves c.add-report.ensures;
      exact = λ few. exact_more _ _ (inv.exact (omega (arith, few))) one.serves c.add-report.ensures inv.within fits (omega (arith, few));
      turns = omega (arith, ap (λ (r : Report). r.turns) c.add-report.ensures, inv.turns, one.one);
      within = more_within _ 4294967295 _ c.loop-turn.report c.in-Some.turn c.add-report.result c.add-report.ensures inv.within fits (omega arith);
      receives = received_more _ _ _ c.loop-turn._turn _ inv.receives one.receives refl;
    }

pub returns-in-None-clause-served : goal.returns-in-None-clause-served
returns-in-None-clause-served g c = long_closed c.loop-turn.invariant.served c.in-None.ensures.turn

pub returns-in-None-clause-exact : goal.returns-in-None-clause-exact
returns-in-None-clause-exact g c = λ few. with_closed (c.loop-turn.invariant.exact (omega (arith, few))) c.in-None.ensures.turn

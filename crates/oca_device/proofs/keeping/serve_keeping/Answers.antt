use Rattle.oca_device.proofs.Words.{◌+◌, Bool, cond, ap, arith, Report}
use Rattle.oca_device.proofs.Keepings.{keeps_none, keeps_more, begun}
use Rattle.oca_device.proofs.Turns.{fewer_turns}
use Rattle.oca_device.proofs.keeping.serve_keeping.Goals as goal

pub loop-group-init : goal.loop-group-init
loop-group-init g c = record {
  served = begun c.begin.ensures.behind (keeps_none _ c.args.device.now (g.E.End.state c.args.end.now) (g.L.Electronics.state c.args.electronics.now) (g.S.Store.state c.args.store.now) _ c.nothing-report.ensures);
  turns = omega (arith, ap (λ (r : Report). r.turns) c.nothing-report.ensures);
  many = omega arith;
  receives = λ _. omega (arith, ap (λ (r : Report). r.turns) c.nothing-report.ensures);
  empty = c.clear.ensures;
  none = c.begin.ensures.none;
}

pub loop-group-preserved : goal.loop-group-preserved
loop-group-preserved g c =
    let inv = c.loop-group.invariant in
    let group = c.serve_group-group.ensures in
    record {
      served = keeps_more _ inv.served group.served c.with_group-report.ensures.report;
      turns = omega (arith, c.with_group-report.ensures.turns, inv.turns, group.most);
      many = omega (arith, c.with_group-report.ensures.turns, inv.many, group.some c.if-group.false);
      receives = λ few.
          let here = group.receives few in
          let unclosed = ap (λ (b : Bool). cond b (c.serve_group-group.result.turns + 1) c.serve_group-group.result.turns) c.if-group.false in
          let before = inv.receives (omega (arith, few, here, unclosed)) in
          omega (arith, here, unclosed, before, c.with_group-report.ensures.turns);
      empty = group.outbox;
      none = group.none;
    }

pub returns-then-group-clause-served : goal.returns-then-group-clause-served
returns-then-group-clause-served g c = keeps_more _ c.loop-group.invariant.served c.serve_group-group.ensures.served c.with_group-report.ensures.report

pub returns-then-group-clause-receives : goal.returns-then-group-clause-receives
returns-then-group-clause-receives g c = λ few.
    let inv = c.loop-group.invariant in
    let group = c.serve_group-group.ensures in
    let here = group.receives few in
    let closed = ap (λ (b : Bool). cond b (c.serve_group-group.result.turns + 1) c.serve_group-group.result.turns) c.if-group.true in
    let before = inv.receives (omega (arith, few, here, closed)) in
    let all = fewer_turns c.with_group-report.result.turns c.args.turns (omega (arith, c.with_group-report.ensures.turns, inv.turns, group.fewer c.if-group.true)) in
    omega (arith, here, closed, before, c.with_group-report.ensures.turns, all)

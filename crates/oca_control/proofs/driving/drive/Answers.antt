use Rattle.oca_control.proofs.Words.{◌≡◌, ◌+◌, ◌*◌, ap, ◌∙◌, sym, refl, subst, arith, add-zero, DriveReport, DrivesEnd}
use Rattle.oca_net.proofs.Running.{received_more}
use Rattle.oca_control.proofs.Turns.{turns_none, turns_more, turns_closed, one_turn_more, none_within, more_within, wider, receives_lost, receives_closed, receives_all}
use Rattle.oca_control.proofs.driving.drive.Goals as goal

pub sum-report-requires-clause-a : goal.sum-report-requires-clause-a
sum-report-requires-clause-a g c =
    wider (c.loop-turn._turn * 4294967295) 18446744069414584320 c.loop-turn.report c.loop-turn.invariant.within (let i = c.loop-turn-test.true in let f = c.ranges.turns.fits in omega arith)

pub loop-turn-init : goal.loop-turn-init
loop-turn-init g c =
    let e = g.E.End.state c.args.end.now in
    record {
      driven = subst (DrivesEnd c.args.link.now c.args.link.now e e) (sym c.nothing-report.ensures) (turns_none c.args.link.now e);
      device = refl;
      going = ap (λ (r : DriveReport). r.lost) c.nothing-report.ensures;
      turns = ap (λ (r : DriveReport). r.turns) c.nothing-report.ensures;
      within = none_within c.nothing-report.result _ c.nothing-report.ensures;
      receives = λ _. sym (ap (λ (r : DriveReport). e.receives + r.turns) c.nothing-report.ensures ∙ add-zero e.receives);
    }

pub loop-turn-preserved : goal.loop-turn-preserved
loop-turn-preserved g c =
    let inv = c.loop-turn.invariant in
    let one = c.in-Some.ensures.turn in
    let count : c.sum-report.result.turns ≡ c.loop-turn.report.turns + 1 = one_turn_more c.loop-turn.report c.sum-report.result c.sum-report.ensures one in
    record {
      driven = turns_more c.sum-report.result c.sum-report.ensures inv.driven one inv.going inv.device;
      device = one.device ∙ inv.device;
      going = c.if-report.false;
      turns = count ∙ ap (λ n. n + 1) inv.turns;
      within = more_within (c.loop-turn._turn * 4294967295) 4294967295 _ c.loop-turn.report c.in-Some.turn c.sum-report.result c.sum-report.ensures inv.within c.in-Some.ensures.fits (omega arith);
      receives = received_more _ _ _ c.loop-turn.report.turns c.sum-report.result.turns inv.receives one.receives count;
    }

pub returns-then-report-clause-driven : goal.returns-then-report-clause-driven
returns-then-report-clause-driven g c =
    let inv = c.loop-turn.invariant in
    turns_more c.sum-report.result c.sum-report.ensures inv.driven c.in-Some.ensures.turn inv.going inv.device

pub returns-then-report-clause-receives : goal.returns-then-report-clause-receives
returns-then-report-clause-receives g c =
    let one = c.in-Some.ensures.turn in
    λ below. received_more _ _ _ c.loop-turn.report.turns c.sum-report.result.turns c.loop-turn.invariant.receives one.receives (one_turn_more c.loop-turn.report c.sum-report.result c.sum-report.ensures one) below
    ∙ ap (λ n. (g.E.End.state c.args.end.now).receives + n) (sym (receives_lost c.sum-report.result c.args.turns c.if-report.true))

pub returns-in-None-clause-driven : goal.returns-in-None-clause-driven
returns-in-None-clause-driven g c = turns_closed c.loop-turn.invariant.driven c.in-None.ensures.turn

pub returns-in-None-clause-receives : goal.returns-in-None-clause-receives
returns-in-None-clause-receives g c =
    let inv = c.loop-turn.invariant in
    λ below.
    received_more _ _ _ c.loop-turn.report.turns (c.loop-turn.report.turns + 1) inv.receives c.in-None.ensures.turn.received.receives refl below
    ∙ ap (λ n. (g.E.End.state c.args.end.now).receives + n) (sym (receives_closed c.loop-turn.report c.args.turns inv.going (let t = inv.turns in let i = c.loop-turn-test.true in omega arith)))

pub returns-clause-receives : goal.returns-clause-receives
returns-clause-receives g c =
    let inv = c.loop-turn.invariant in
    λ below. inv.receives below ∙ ap (λ n. (g.E.End.state c.args.end.now).receives + n) (sym (receives_all c.loop-turn.report c.args.turns (let t = inv.turns in let i = c.loop-turn-test.false in omega arith)))

use Rattle.oca_control.proofs.Words.{arith, NoneTaken}
use Rattle.oca_control.specs.declared.outcome.Outcome.TheVariants as outcomes
use Rattle.oca_control.proofs.Asks.{one_more_turn, waits_settled, waits_unsettled, waits_asked}
use Rattle.oca_control.proofs.asking.wait_for.Goals as goal

pub loop-turn-init : goal.loop-turn-init
loop-turn-init g c = NoneTaken

pub loop-turn-preserved : goal.loop-turn-preserved
loop-turn-preserved g c = one_more_turn c.loop-turn.invariant c.in_default.ensures c.take_one-late.ensures

pub returns-in-Some-clause-waits : goal.returns-in-Some-clause-waits
returns-in-Some-clause-waits g c =
    waits_settled c.settled.new.link c.in-Some.outcome c.loop-turn.invariant (let i = c.loop-turn-test.true in omega arith) c.in-Some.ensures

pub returns-in-Some-clause-receives : goal.returns-in-Some-clause-receives
returns-in-Some-clause-receives g c =
    waits_asked c.args.handle.0 c.args.turns c.args.link.now c.settled.new.link (g.E.End.state c.args.end.now) (g.E.End.state c.loop-turn.end) c.in-Some.outcome
    (waits_settled c.settled.new.link c.in-Some.outcome c.loop-turn.invariant (let i = c.loop-turn-test.true in omega arith) c.in-Some.ensures)

pub returns-in-Some-settled-clause-waits : goal.returns-in-Some-settled-clause-waits
returns-in-Some-settled-clause-waits g c =
    waits_settled c.settled-2.new.link c.in-Some-settled.outcome c.loop-turn.invariant c.loop-turn.auto._turn-end c.in-Some-settled.ensures

pub returns-in-Some-settled-clause-receives : goal.returns-in-Some-settled-clause-receives
returns-in-Some-settled-clause-receives g c =
    waits_asked c.args.handle.0 c.args.turns c.args.link.now c.settled-2.new.link (g.E.End.state c.args.end.now) (g.E.End.state c.loop-turn.end) c.in-Some-settled.outcome
    (waits_settled c.settled-2.new.link c.in-Some-settled.outcome c.loop-turn.invariant c.loop-turn.auto._turn-end c.in-Some-settled.ensures)

pub returns-in-None-clause-waits : goal.returns-in-None-clause-waits
returns-in-None-clause-waits g c =
    waits_unsettled c.loop-turn._turn c.loop-turn.invariant (let i = c.loop-turn-test.false in let e = c.loop-turn.auto._turn-end in omega arith) c.in-None.ensures

pub returns-in-None-clause-receives : goal.returns-in-None-clause-receives
returns-in-None-clause-receives g c =
    waits_asked c.args.handle.0 c.args.turns c.args.link.now c.settled-2.new.link (g.E.End.state c.args.end.now) (g.E.End.state c.loop-turn.end) outcomes.Unanswered
    (waits_unsettled c.loop-turn._turn c.loop-turn.invariant (let i = c.loop-turn-test.false in let e = c.loop-turn.auto._turn-end in omega arith) c.in-None.ensures)

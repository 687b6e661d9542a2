use Rattle.oca_control.proofs.Words.{arith}
use Rattle.oca_control.specs.declared.outcome.Outcome.TheVariants as outcomes
use Rattle.oca_control.specs.Waiting.{NoTurn}
use Rattle.oca_control.proofs.Waits.{one_more_before, received_in_wait, waited_until, waited_last, waited_in_vain}
use Rattle.oca_control.proofs.asking.wait_until.Goals as goal

pub loop-turn-init : goal.loop-turn-init
loop-turn-init g c = NoTurn

pub loop-turn-preserved : goal.loop-turn-preserved
loop-turn-preserved g c = one_more_before c.loop-turn.invariant c.in_default.ensures c.take_further-seen.ensures

pub returns-in-Some-clause-waits : goal.returns-in-Some-clause-waits
returns-in-Some-clause-waits g c = waited_until c.ended.new.link c.in-Some.outcome c.loop-turn.invariant (let i = c.loop-turn-test.true in omega arith) c.in-Some.ensures

pub returns-in-Some-clause-receives : goal.returns-in-Some-clause-receives
returns-in-Some-clause-receives g c =
    received_in_wait c.args.handle.0 c.args.until c.args.link.now c.ended.new.link (g.E.End.state c.args.end.now) (g.E.End.state c.loop-turn.end) c.in-Some.outcome
    (waited_until c.ended.new.link c.in-Some.outcome c.loop-turn.invariant (let i = c.loop-turn-test.true in omega arith) c.in-Some.ensures)

pub returns-in-Some-settled-clause-waits : goal.returns-in-Some-settled-clause-waits
returns-in-Some-settled-clause-waits g c = waited_last c.settled.new.link c.in-Some-settled.outcome c.loop-turn.invariant c.loop-turn.auto._turn-end c.in-Some-settled.ensures

pub returns-in-Some-settled-clause-receives : goal.returns-in-Some-settled-clause-receives
returns-in-Some-settled-clause-receives g c =
    received_in_wait c.args.handle.0 c.args.until c.args.link.now c.settled.new.link (g.E.End.state c.args.end.now) (g.E.End.state c.loop-turn.end) c.in-Some-settled.outcome
    (waited_last c.settled.new.link c.in-Some-settled.outcome c.loop-turn.invariant c.loop-turn.auto._turn-end c.in-Some-settled.ensures)

pub returns-in-None-clause-waits : goal.returns-in-None-clause-waits
returns-in-None-clause-waits g c =
    waited_in_vain c.settled.new.link c.loop-turn.invariant c.loop-turn.auto._turn-end
    (let i = c.loop-turn-test.false in let e = c.loop-turn.auto._turn-end in omega arith) c.in-None.ensures

pub returns-in-None-clause-receives : goal.returns-in-None-clause-receives
returns-in-None-clause-receives g c =
    received_in_wait c.args.handle.0 c.args.until c.args.link.now c.settled.new.link (g.E.End.state c.args.end.now) (g.E.End.state c.loop-turn.end) outcomes.Unanswered
    (waited_in_vain c.settled.new.link c.loop-turn.invariant c.loop-turn.auto._turn-end
    (let i = c.loop-turn-test.false in let e = c.loop-turn.auto._turn-end in omega arith) c.in-None.ensures)

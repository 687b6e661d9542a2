use Rattle.oca_control.proofs.Words.{◌+◌, ℕ, ap, ◌∙◌, arith, subst}
use Rattle.oca_control.specs.Driving.{SendsDue}
use Rattle.oca_control.proofs.Turns.{gives_start, gives_more, gives_last, gave_all, none_within, more_within, wider}
use Rattle.oca_control.proofs.driving.give_all.Goals as goal

pub sum-report-requires-clause-a : goal.sum-report-requires-clause-a
sum-report-requires-clause-a g c =
    wider c.loop-call._call 18446744069414584320 c.loop-call.report c.loop-call.invariant.within (let e = c.from-most.ensures in let m = c.span.ensures.most in let i = c.loop-call-test.true in omega arith)

pub loop-call-init : goal.loop-call-init
loop-call-init g c = record {
  gives = gives_start c.args.now _ c.args.link.now (g.E.End.state c.args.end.now) c.nothing-report.result c.nothing-report.ensures;
  within = none_within c.nothing-report.result 0 c.nothing-report.ensures;
}

pub loop-call-preserved : goal.loop-call-preserved
loop-call-preserved g c =
    let inv = c.loop-call.invariant in
    let one = c.give_one-goes_on.ensures in
    record {
      gives = gives_more _ c.sum-report.result c.sum-report.ensures inv.gives one.gives c.if-not-goes_on.false c.loop-call-test.true;
      within = more_within c.loop-call._call 1 (c.loop-call._call + 1) c.loop-call.report c.give_one-goes_on.result.1 c.sum-report.result c.sum-report.ensures inv.within one.fits (omega arith);
    }

pub returns-then-not-goes_on-clause-gives : goal.returns-then-not-goes_on-clause-gives
returns-then-not-goes_on-clause-gives g c =
    subst (λ (n : ℕ). SendsDue c.args.now n c.args.link.now c.give_one-goes_on.new.link (g.E.End.state c.args.end.now) (g.E.End.state c.give_one-goes_on.new.end) c.sum-report.result)
    (ap (λ n. n + 1) (c.from-most.ensures ∙ c.span.ensures.span))
    (gives_last _ c.sum-report.result c.sum-report.ensures c.loop-call.invariant.gives c.give_one-goes_on.ensures.gives c.if-not-goes_on.true c.loop-call-test.true)

pub returns-clause-gives : goal.returns-clause-gives
returns-clause-gives g c =
    subst (λ (n : ℕ). SendsDue c.args.now n c.args.link.now c.loop-call.link (g.E.End.state c.args.end.now) (g.E.End.state c.loop-call.end) c.loop-call.report)
    (ap (λ n. n + 1) (c.from-most.ensures ∙ c.span.ensures.span)) (gave_all c.loop-call.invariant.gives c.loop-call-test.false)

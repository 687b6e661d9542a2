use Rattle.oca_control.proofs.Words.{IsReportWithin}
use Rattle.oca_control.proofs.Turns.{GivesSoFar}
use Rattle.oca_control.proofs.driving.give_all.Given as goal

abbrev pub invariant-loop-call : goal.invariant-loop-call
invariant-loop-call g l = record {
  gives : GivesSoFar l.now l.most l.fn.link l._call l.link (g.E.End.state l.fn.end) (g.E.End.state l.end) l.report;
  within : IsReportWithin l._call l.report;
}

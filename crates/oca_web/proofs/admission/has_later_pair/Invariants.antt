use Rattle.oca_web.proofs.AdmissionLemmas.{LaterSoFar}
use Rattle.oca_web.proofs.admission.has_later_pair.Given as goal

abbrev pub invariant-loop-at : goal.invariant-loop-at
invariant-loop-at l = LaterSoFar l.field l.pair l.at

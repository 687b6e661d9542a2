use Rattle.oca_web.proofs.AdmissionLemmas.{SameSoFar}
use Rattle.oca_web.proofs.admission.constant_time_eq.Given as goal

abbrev pub invariant-loop-at : goal.invariant-loop-at
invariant-loop-at l = SameSoFar l.one l.other l.at l.same

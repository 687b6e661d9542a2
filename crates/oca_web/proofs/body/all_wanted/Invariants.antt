use Rattle.oca_web.proofs.BodyLemmas.{WantedSoFar}
use Rattle.oca_web.proofs.body.all_wanted.Given as goal

abbrev pub invariant-loop-order : goal.invariant-loop-order
invariant-loop-order l = WantedSoFar l.orders l.order-index l.all.items

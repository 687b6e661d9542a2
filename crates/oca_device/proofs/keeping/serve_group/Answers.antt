use Rattle.oca_device.proofs.Words.{arith, not-true, not-false}
use Rattle.oca_device.proofs.Keepings.{keeps_undue, keeps_due, begun, stored_from}
use Rattle.oca_device.proofs.keeping.serve_group.Goals as goal

pub returns-then-not-taken-clause-served : goal.returns-then-not-taken-clause-served
returns-then-not-taken-clause-served g c = begun c.begin.ensures.behind (keeps_undue _ (not-true _ c.if-not-taken.true) (omega (arith, c.take_in-taken.ensures.few, c.take_in-taken.ensures.turns)) c.take_in-taken.ensures.taken c.take_in-taken.ensures.store)

pub returns-clause-served : goal.returns-clause-served
returns-clause-served g c = stored_from c.take_in-taken.ensures.store (keeps_due c.requires.none _ (not-false _ c.if-not-taken.false) (omega (arith, c.take_in-taken.ensures.few, c.take_in-taken.ensures.turns)) c.take_in-taken.ensures.taken c.settle-failed.ensures c.with_failed.ensures.report)

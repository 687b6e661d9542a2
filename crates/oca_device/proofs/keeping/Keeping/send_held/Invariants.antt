use Rattle.oca_device.proofs.Words.{◌≤◌, length, take, SendsAllBut, packets_held}
use Rattle.oca_device.proofs.keeping.Keeping.send_held.Given as goal

abbrev pub invariant-loop-answer : goal.invariant-loop-answer
invariant-loop-answer g l = record {
  sends : SendsAllBut l.failed (g.E.End.state l.fn.end) (g.E.End.state l.end) (take l.answer-index (packets_held l.answer-items));
  few : l.failed ≤ l.answer-index;
  inside : l.answer-index ≤ length l.answer-items;
}

use Rattle.oca_device.proofs.Words.{◌≤◌, length, SendsAllBut, bytes_of_packets}
use Rattle.oca_device.proofs.Turns.{first_sent}
use Rattle.oca_device.proofs.serving.send_all.Given as goal

abbrev pub invariant-loop-packet : goal.invariant-loop-packet
invariant-loop-packet g l = record {
  sends : SendsAllBut l.failed (g.E.End.state l.fn.end) (g.E.End.state l.end) (first_sent l.to l.packet-index (bytes_of_packets l.packet-items));
  few : l.failed ≤ l.packet-index;
  inside : l.packet-index ≤ length l.packet-items;
}

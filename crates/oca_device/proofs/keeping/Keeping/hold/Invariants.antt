use Rattle.oca_device.proofs.Words.{◌≡◌, ◌+◌, ◌≤◌, ◌++◌, length, bytes_of_packets}
use Rattle.oca_device.proofs.Turns.{first_sent}
use Rattle.oca_device.proofs.keeping.Keeping.hold.Given as goal

abbrev pub invariant-loop-packet : goal.invariant-loop-packet
invariant-loop-packet l = record {
  held : l.self.held ≡ l.fn.self.held ++ first_sent l.to l.packet-index (bytes_of_packets l.packet-items);
  behind : l.self.is_behind ≡ l.fn.self.is_behind;
  room : length l.self.held ≡ length l.fn.self.held + l.packet-index;
  inside : l.packet-index ≤ length l.packet-items;
}

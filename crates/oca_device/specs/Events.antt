-- What happens to a device: datagrams, of any bytes and from any peer, clock readings, and changes at its own front.
-- Moments are in milliseconds. In a list of events the latest stands first. A moment earlier than one already seen
-- counts as the one already seen: the clock is in States and in LawByEvents.
use Rattle.std.specs.Prelude.{List, ℕ}
use Rattle.oca_device.specs.Words.{LocalChange, Peer}

-- A change at the front has no moment: it happens at that of the clock.
pub data Event : Type 0 where
  Datagram : (from : Peer) (bytes : List ℕ) (now : ℕ) → Event
  Tick : (now : ℕ) → Event
  Local : (ono : ℕ) (change : LocalChange) → Event

-- What an end of a link delivered and took.
use Rattle.std.specs.Prelude.{ℕ, List}
use Rattle.oca_types.specs.declared.words.Peer.{Peer}

-- What one receive delivered: a datagram of any length, a wait in which none came, or a failure.
pub data Delivery : Type 0 where
  Datagram : (from : Peer) (bytes : List ℕ) (now : ℕ) → Delivery
  Quiet : (now : ℕ) → Delivery
  Failed : Delivery

-- A datagram that an end took, and where it was to go.
pub record Sent : Type 0 where
  pub to : Peer
  pub bytes : List ℕ

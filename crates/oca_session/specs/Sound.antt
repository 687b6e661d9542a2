-- What holds of the sessions at all times.
use Rattle.std.specs.Prelude.{◌≡◌, ℕ, ◌≤◌, false, List, length, All, AllPairs}
use Rattle.oca_types.specs.Peers.{same_peer}
use Rattle.oca_session.specs.Limits.{least_heartbeat, greatest_heartbeat}
use Rattle.oca_session.specs.Table.{Session, Table}

-- a session with a window of this size and a heartbeat within its limits
pub record IsSession (w : ℕ) (s : Session) : Type 0 where
  pub size : s.retained.size ≡ w
  pub least : least_heartbeat ≤ s.heartbeat
  pub most : s.heartbeat ≤ greatest_heartbeat

-- no two sessions are of one peer
abbrev pub IsOnePerPeer : List Session → Type 0
IsOnePerPeer ss = AllPairs (λ s t. same_peer s.peer t.peer ≡ false) ss

-- There are at most as many sessions as were chosen, one for a peer.
pub record IsTable (t : Table) : Type 0 where
  pub few : length t.sessions ≤ t.sizes.peers
  pub one : IsOnePerPeer t.sessions
  pub all : All (IsSession t.sizes.window) t.sessions

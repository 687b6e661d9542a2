-- From which moment on silence passes a limit, where nobody is heard. Moments are in milliseconds.
use Rattle.std.specs.Prelude.{ℕ, Bool, not, List}
use Rattle.std.specs.List.{list_any}
use Rattle.oca_types.specs.declared.words.Peer.{Peer}
use Rattle.oca_types.specs.Peers.{same_peer}
use Rattle.oca_session.specs.Table.{Session, stays, lapsed}

-- some session does not stay
abbrev pub forgets : List Session → ℕ → Bool
forgets ss t = list_any (λ s. not (stays t s)) ss

-- the peer is one of those whose sessions are lapsed
abbrev pub lapses : Peer → List Session → ℕ → Bool
lapses p ss t = list_any (λ q. same_peer q p) (lapsed t ss)

use Rattle.std.proofs.Common.{◌≡◌, ℕ, ◌<◌, get_or, false}
use Rattle.oca_session.specs.Table.{Session, is_of}
use Rattle.oca_session.proofs.sessions.search.Given as goal

-- none of the slots so far has the session of the peer
abbrev pub invariant-loop-at : goal.invariant-loop-at
invariant-loop-at g l = (d : Session) (k : ℕ) → k < l.at → is_of l.peer (get_or l.slots k d) ≡ false

use Rattle.oca_device.proofs.Words.{◌≡◌, drop, released_all}
use Rattle.oca_device.proofs.device.release_all.Given as goal

abbrev pub invariant-loop-peer : goal.invariant-loop-peer
invariant-loop-peer l = released_all (drop l.peer-index l.peers) l.tree ≡ released_all l.peers l.fn.tree

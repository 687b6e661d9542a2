-- Locks and their holders (AES70-2, OcaRoot; that a holder is a peer is the profile's).
use Rattle.std.specs.Prelude.{ℕ, ◌&&◌, not, Bool, true, false, if◌then◌else◌, List, map, Option, Some, None, is_some}
use Rattle.std.specs.List.{sum_by}
use Rattle.oca_types.specs.declared.words.Peer.{Peer}
use Rattle.oca_types.specs.declared.class.Access.{Access}
use Rattle.oca_types.specs.declared.class.Access.TheVariants.{Read, Write, Locking}
use Rattle.oca_types.specs.Peers.{same_peer}
use Rattle.oca_tree.specs.declared.object.Object.{Object}
use Rattle.oca_tree.specs.declared.object.Lock.{Lock}
use Rattle.oca_tree.specs.declared.object.LockKind.{LockKind}
use Rattle.oca_tree.specs.declared.object.LockKind.TheVariants.{Total, Readonly}

-- whether a lock of another peer keeps from this access
abbrev pub keeps_from : LockKind → Access → Bool
keeps_from Total access = true
keeps_from Readonly Read = false
keeps_from Readonly Write = true
keeps_from Readonly Locking = true

-- whether the peer holds the lock
abbrev pub is_held_by : Peer → Option Lock → Bool
is_held_by peer None = false
is_held_by peer (Some lock) = same_peer lock.holder peer

-- whether a lock refuses the peer this access
unfoldable pub lock_refuses : Option Lock → Peer → Access → Bool
lock_refuses None peer access = false
lock_refuses (Some lock) peer access = not (same_peer lock.holder peer) && keeps_from lock.kind access

-- the object without its lock, if the peer holds it
abbrev pub without_lock_of : Peer → Object → Object
without_lock_of peer o = if is_held_by peer o.lock then record o { lock = None } else o

-- the tree with every lock of the peer taken off
unfoldable pub released : List Object → Peer → List Object
released tree peer = map (without_lock_of peer) tree

-- 1 for an object that is locked, else 0
abbrev pub lock_of_one : Object → ℕ
lock_of_one o = if is_some o.lock then 1 else 0

-- how many objects are locked
abbrev pub lock_count : List Object → ℕ
lock_count tree = sum_by lock_of_one tree

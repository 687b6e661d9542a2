-- Whether a command wrote to its object.
use Rattle.std.specs.Prelude.{Bool, true, false, ◌&&◌, List}
use Rattle.oca_types.specs.declared.words.Peer.{Peer}
use Rattle.oca_types.specs.declared.status.Status.{Status}
use Rattle.oca_types.specs.declared.status.Status.TheVariants as status
use Rattle.oca_types.specs.Peers.{CommandFields}
use Rattle.oca_tree.specs.declared.object.Object.{Object}
use Rattle.oca_tree.specs.Objects.{object_of}
use Rattle.oca_tree.specs.Execution.{kind_at, is_write, execution}

-- the method that a command calls of its object writes
abbrev pub calls_a_write : List Object → CommandFields → Bool
calls_a_write tree c = is_write (kind_at (object_of tree c.target) c)

abbrev pub is_ok : Status → Bool
is_ok status.Ok = true
is_ok _ = false

-- A COMMAND WROTE to its object where its status is OK and its method writes, be it that what it set was set before.
abbrev pub wrote : List Object → Peer → CommandFields → Bool
wrote tree peer c = is_ok (execution tree peer c).status && calls_a_write tree c

-- The key of a peer (private contracts alone cite it).
use Rattle.std.specs.Prelude.{ℕ, ◌+◌, ◌*◌}
use Rattle.oca_types.specs.declared.words.Peer.{Peer}

-- a number that a peer alone has: address and port in one
abbrev pub key_of : Peer → ℕ
key_of p = p.ip * 65536 + p.port

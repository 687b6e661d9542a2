-- For private contracts: which locks silence releases.
use Rattle.std.specs.Prelude.{Bool, List, None, Option, Some, false, ℕ}
use Rattle.std.specs.List.{list_any}
use Rattle.oca_device.specs.Words.{Object, Session}
use Rattle.oca_tree.specs.declared.object.Lock.{Lock}
use Rattle.oca_session.specs.Lapses.{lapses}

-- at this moment the holder of the lock is lapsed
abbrev pub frees : List Session → ℕ → Option Lock → Bool
frees ss t None = false
frees ss t (Some lock) = lapses lock.holder ss t

-- at this moment the holder of some lock is lapsed
abbrev pub releases : List Object → List Session → ℕ → Bool
releases tree ss t = list_any (λ o. frees ss t o.lock) tree

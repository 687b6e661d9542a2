-- The objects as a map from their numbers. No public clause cites it.
use Rattle.std.specs.Prelude.{◌≡◌, ℕ, ◌≤◌, ◌+◌, ◌==◌, List, [], ◌∷◌, ◌++◌, Option}
use Rattle.std.specs.List.{position}
use Rattle.indexmap.specs.IndexMap.{IndexMap, index_map_len, spare}
use Rattle.oca_types.specs.declared.words.Ono.{Ono}
use Rattle.oca_tree.specs.declared.object.Object.{Object}
use Rattle.oca_tree.specs.Places.{Place}

-- Each object is there under its number.
abbrev pub IsKeyed : List (Ono × Object) → Type 0
IsKeyed [] = Unit {0}
IsKeyed (e ∷ es) = (e.0 ≡ e.1.ono) × IsKeyed es

-- Each object is there under its number.
pub record IsMap {S : Type 0} (map : IndexMap Ono Object S) : Type 0 where
  pub keyed : IsKeyed map.entries

-- So many objects fit without more memory, and as many indices of containers, of which there are as many as objects.
pub record HasRoom {S : Type 0} (map : IndexMap Ono Object S) (indices capacity room : ℕ) : Type 0 where
  pub objects : room ≤ spare map + index_map_len map
  pub containers : room ≤ capacity
  pub both : indices ≡ index_map_len map

-- the index of the container of each, counted from 0 among those before it; nothing where none of them is it, as for
-- the root
abbrev pub containers_behind : List Place → List Place → List (Option ℕ)
containers_behind before [] = []
containers_behind before (p ∷ ps) =
    position (λ q. q.number == p.container) before ∷ containers_behind (before ++ p ∷ []) ps

abbrev pub containers : List Place → List (Option ℕ)
containers ps = containers_behind [] ps

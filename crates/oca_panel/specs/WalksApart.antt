-- The places of a walk, taken one by one (AES70-2, OcaBlock).
use Rattle.std.specs.Prelude.{[], ◌++◌, ◌∷◌, ◌≡◌, ◌≤◌, ◌⊎◌, Bool, List, None, Option, Some, length, ℕ}
use Rattle.oca_panel.specs.Words.{Ono}
use Rattle.oca_panel.specs.declared.walk.Place.{Place}
use Rattle.oca_panel.specs.Walks.{PutsLastMembers, WalkState, is_visited, most_places}

-- The next place was taken, and this is whether it was visited before.
pub record TakesNext (old : WalkState) (place : Place) (again : Bool) (new : WalkState) : Type 0 where
  pub next : old.waiting ≡ new.waiting ++ place ∷ []
  pub visited : new.visited ≡ old.visited ++ place.ono ∷ []
  pub before : again ≡ is_visited place.ono old.visited

-- No place is left, or so many were visited.
pub record TakesNone (old new : WalkState) : Type 0 where
  pub left : (old.waiting ≡ []) ⊎ (most_places ≤ length old.visited)
  pub same : new ≡ old

abbrev pub TakesPlace : WalkState → Option (Place × Bool) → WalkState → Type 0
TakesPlace old (Some taken) new = TakesNext old taken.0 taken.1 new
TakesPlace old None new = TakesNone old new

-- Memory was refused: the next place waits no more, and its object does not count as visited.
pub record LosesNext (old new : WalkState) : Type 0 where
  pub place : Place
  pub next : old.waiting ≡ new.waiting ++ place ∷ []
  pub visited : new.visited ≡ old.visited

-- Memory was refused for a member of a block: only the members behind it wait.
pub record PutsLast (container : Ono) (members : List ℕ) (old new : WalkState) : Type 0 where
  pub waiting : PutsLastMembers container members old.waiting new.waiting
  pub visited : new.visited ≡ old.visited

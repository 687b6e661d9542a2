-- A walk through the objects of a device: what is asked, in which order, and what is found (AES70-2, OcaBlock).
use Rattle.std.specs.Prelude.{[], ◌++◌, ◌==◌, ◌∷◌, ◌≡◌, ◌≤◌, ◌⊎◌, Bool, Err, List, None, Ok, Option, Result, Some}
use Rattle.std.specs.Prelude.{false, length, true, ℕ}
use Rattle.oca_panel.specs.Words.{Class, Ono, class_with}
use Rattle.std.specs.List.{list_any}
use Rattle.oca_types.specs.declared.class.Class.TheVariants as class
use Rattle.oca_model.specs.declared.request.Request.TheVariants as requests
use Rattle.oca_panel.specs.declared.trouble.Trouble.{Trouble}
use Rattle.oca_panel.specs.declared.walk.Description.{Description}
use Rattle.oca_panel.specs.declared.walk.Found.{Found}
use Rattle.oca_panel.specs.declared.walk.Found.TheVariants as found
use Rattle.oca_panel.specs.declared.walk.Place.{Place}
use Rattle.oca_panel.specs.declared.walk.Visit.{Visit}
use Rattle.oca_panel.specs.Panels.{PanelState}
use Rattle.oca_panel.specs.Outcomes.{on_ok, fields_answered, members_answered, text_answered}
use Rattle.oca_panel.specs.Objects.{Reads}

-- The places that wait, the last of which is visited next, and the objects that were visited, in their order.
pub record WalkState : Type 0 where
  pub waiting : List Place
  pub visited : List Ono

-- a walk that begins at the root block, whose number is 100 and which nothing contains
abbrev pub root_place : Place
root_place = record { ono = record { 0 = 100 }; container = record { 0 = 0 } }

abbrev pub begun_walk : WalkState
begun_walk = record { waiting = root_place ∷ []; visited = [] }

-- at most so many places are visited
abbrev pub most_places : ℕ
most_places = 4096

-- the members of a block as places that wait: the first one last
abbrev pub places_of : Ono → List ℕ → List Place
places_of container [] = []
places_of container (member ∷ members) = places_of container members
    ++ (record { ono = record { 0 = member }; container = container }) ∷ []

-- the object was visited
abbrev pub is_visited : Ono → List Ono → Bool
is_visited ono visited = list_any (λ other. other.0 == ono.0) visited

-- ---- what is asked of an object

-- both, or why one is not there
abbrev pub both : {A B : Type 0} → A → Result B Trouble → Result (A × B) Trouble
both a (Ok b) = Ok (a, b)
both a (Err t) = Err t

abbrev pub DescribesFrom : Result (List ℕ) Trouble → ℕ → PanelState → PanelState → Result (List ℕ × List ℕ) Trouble
    → Type 0
DescribesFrom (Err t) target old new described = (new ≡ old) × (described ≡ Err t)
DescribesFrom (Ok fields) target old new described =
    (role : Result (List ℕ) Trouble) × Reads target class.Block requests.GetRole text_answered old new role
    × (described ≡ both fields role)

-- The class of an object was asked, and then its role.
abbrev pub Describes : ℕ → PanelState → PanelState → Result (List ℕ × List ℕ) Trouble → Type 0
Describes target old new described =
    (fields : Result (List ℕ) Trouble) × (s : PanelState)
    × Reads target class.Block requests.GetClassIdentification fields_answered old s fields
    × DescribesFrom fields target s new described

-- a description's fields and role
abbrev pub parts_of : Description → List ℕ × List ℕ
parts_of d = (d.fields.items, d.role)

-- whether these are the fields of OcaBlock
abbrev pub is_block_class : Option Class → Bool
is_block_class (Some class.Block) = true
is_block_class _ = false

abbrev pub with_members : Ono → List Place → Result (List ℕ) Trouble → List Place
with_members container rest (Ok members) = rest ++ places_of container members
with_members container rest (Err t) = rest

-- Of a block its members were asked, and are put before all that wait.
abbrev pub FindsObject : Bool → Description → Ono → List Place → PanelState → PanelState → Found → List Place → Type 0
FindsObject false d ono rest old new is waiting = (new ≡ old) × (is ≡ found.Object d) × (waiting ≡ rest)
FindsObject true d ono rest old new is waiting =
    (members : Result (List ℕ) Trouble) × Reads ono.0 class.Block requests.GetMembers members_answered old new members
    × (is ≡ found.Block d (on_ok (λ ms. tt) members)) × (waiting ≡ with_members ono rest members)

abbrev pub FindsDescribed : Result Description Trouble → Ono → List Place → PanelState → PanelState → Found → List Place
    → Type 0
FindsDescribed (Err t) ono rest old new is waiting = (new ≡ old) × (is ≡ found.Undescribed t) × (waiting ≡ rest)
FindsDescribed (Ok d) ono rest old new is waiting = FindsObject
    (is_block_class (class_with d.fields.items)) d ono rest old new is waiting

-- An object that was not visited before was asked what it is, and a block for its members; another one was asked
-- nothing.
abbrev pub Finds : Bool → Ono → List Place → PanelState → PanelState → Found → List Place → Type 0
Finds true ono rest old new is waiting = (new ≡ old) × (is ≡ found.Again) × (waiting ≡ rest)
Finds false ono rest old new is waiting =
    (described : Result Description Trouble) × (s : PanelState) × Describes ono.0 old s (on_ok parts_of described)
    × FindsDescribed described ono rest s new is waiting

-- THE NEXT PLACE WAS VISITED, asked unless it counts as visited again, and this was found there: nothing was set.
pub record VisitsPlace (again : Bool) (old : WalkState) (before after : PanelState) (visit : Visit) (new : WalkState)
    : Type 0 where
  pub rest : List Place
  pub next : old.waiting ≡ rest ++ visit.place ∷ []
  pub visited : new.visited ≡ old.visited ++ visit.place.ono ∷ []
  pub finds : Finds again visit.place.ono rest before after visit.found new.waiting

-- No place is left, or so many were visited: nothing was asked.
pub record WalkEnds (old : WalkState) (before after : PanelState) (new : WalkState) : Type 0 where
  pub left : (old.waiting ≡ []) ⊎ (most_places ≤ length old.visited)
  pub same : new ≡ old
  pub panel : after ≡ before

abbrev pub StepsTo : WalkState → PanelState → PanelState → Option Visit → WalkState → Type 0
StepsTo old before after None new = WalkEnds old before after new
StepsTo old before after (Some visit) new =
    VisitsPlace (is_visited visit.place.ono old.visited) old before after visit new

-- the same, where an object that was visited before is asked again
abbrev pub StepsToPlace : WalkState → PanelState → PanelState → Option Visit → WalkState → Type 0
StepsToPlace old before after None new = WalkEnds old before after new
StepsToPlace old before after (Some visit) new = VisitsPlace false old before after visit new

-- ---- memory was refused

-- Memory was refused for a member of a block: only the members behind it were put before all that wait.
pub record PutsLastMembers (container : Ono) (members : List ℕ) (old new : List Place) : Type 0 where
  pub left_out : List ℕ
  pub refused : ℕ
  pub put : List ℕ
  pub all : members ≡ left_out ++ refused ∷ put
  pub places : new ≡ old ++ places_of container put

-- A block was asked for its members, and memory was refused for one of them.
pub record ListsRefused (d : Description) (ono : Ono) (rest : List Place) (old new : PanelState) (waiting : List Place)
    : Type 0 where
  pub block : is_block_class (class_with d.fields.items) ≡ true
  pub members : List ℕ
  pub reads : Reads ono.0 class.Block requests.GetMembers members_answered old new (Ok members)
  pub puts : PutsLastMembers ono members rest waiting

-- An object was asked, is a block, and memory was refused for one of its members.
pub record FindsRefused (again : Bool) (ono : Ono) (rest : List Place) (old new : PanelState) (waiting : List Place)
    : Type 0 where
  pub asked : again ≡ false
  pub description : Description
  pub between : PanelState
  pub describes : Describes ono.0 old between (Ok (parts_of description))
  pub lists : ListsRefused description ono rest between new waiting

-- Memory was refused for the place itself: its object does not count as visited, and was not asked.
pub record LosesPlace (rest : List Place) (old : WalkState) (before after : PanelState) (new : WalkState) : Type 0 where
  pub waiting : new.waiting ≡ rest
  pub visited : new.visited ≡ old.visited
  pub panel : after ≡ before

-- Memory was refused for a member of the block at the place, which counts as visited.
pub record LosesMembers (again : Bool) (ono : Ono) (rest : List Place) (old : WalkState) (before after : PanelState)
    (new : WalkState) : Type 0 where
  pub visited : new.visited ≡ old.visited ++ ono ∷ []
  pub finds : FindsRefused again ono rest before after new.waiting

-- MEMORY WAS REFUSED AT THE NEXT PLACE, which waits no more: for the place, or for a member of the block there.
pub record RefusedNext (old : WalkState) (before after : PanelState) (new : WalkState) : Type 0 where
  pub place : Place
  pub rest : List Place
  pub next : old.waiting ≡ rest ++ place ∷ []
  pub loses : LosesPlace rest old before after new
      ⊎ LosesMembers (is_visited place.ono old.visited) place.ono rest old before after new

-- the same, where an object that was visited before is asked again
pub record RefusedPlace (old : WalkState) (before after : PanelState) (new : WalkState) : Type 0 where
  pub place : Place
  pub rest : List Place
  pub next : old.waiting ≡ rest ++ place ∷ []
  pub loses : LosesPlace rest old before after new ⊎ LosesMembers false place.ono rest old before after new

-- The members of a block, listed or not.
use Rattle.std.proofs.Common.{◌≡◌, ℕ, ◌-◌, ◌≤◌, Bool, true, false, List, [], ◌∷◌, ◌++◌, length, get_or, take, drop, Result, Ok, Err, IfErr}
use Rattle.std.proofs.Common.{refl, sym, ap, ◌∙◌, arith, take_all}
use Rattle.oca_types.specs.declared.class.Class.TheVariants as class
use Rattle.oca_types.specs.declared.words.Ono.{Ono}
use Rattle.oca_model.specs.declared.request.Request.TheVariants as requests
use Rattle.oca_panel.specs.declared.trouble.Trouble.{Trouble}
use Rattle.oca_panel.specs.declared.walk.Description.{Description}
use Rattle.oca_panel.specs.declared.walk.Found.TheVariants as found
use Rattle.oca_panel.specs.declared.walk.Place.{Place}
use Rattle.oca_panel.specs.Panels.{PanelState}
use Rattle.oca_panel.specs.Outcomes.{members_answered}
use Rattle.oca_panel.specs.Objects.{Reads}
use Rattle.oca_panel.specs.Walks.{Describes, FindsObject, FindsRefused, ListsRefused, PutsLastMembers, parts_of, places_of}

not-true : false ≡ true → ⊥
not-true x = cc x

-- a block whose members are listed
pub listed : (all : Bool) (d : Description) (ono : Ono) (rest waiting : List Place) (members : List ℕ) (old new : PanelState)
    → all ≡ true → Reads ono.0 class.Block requests.GetMembers members_answered old new (Ok members) → waiting ≡ rest ++ places_of ono members
    → FindsObject all d ono rest old new (found.Block d (Ok tt)) waiting
listed true d ono rest waiting members old new is h e = (Ok members, h, refl, e)
listed false d ono rest waiting members old new is h e = absurd (not-true is)

-- a block whose members are not listed, and why
pub unlisted : (all : Bool) (d : Description) (ono : Ono) (rest : List Place) (why : Trouble) (old new : PanelState)
    → all ≡ true → Reads ono.0 class.Block requests.GetMembers members_answered old new (Err why)
    → FindsObject all d ono rest old new (found.Block d (Err why)) rest
unlisted true d ono rest why old new is h = (Err why, h, refl, refl)
unlisted false d ono rest why old new is h = absurd (not-true is)

-- ---- memory was refused for a member

pub none-behind : (container : Ono) (first : ℕ) (rest members : List ℕ) (old between new : List Place) → members ≡ first ∷ rest
    → between ≡ old ++ places_of container rest → new ≡ between → PutsLastMembers container members old new
none-behind container first rest members old between new all put same =
    record { left_out = []; refused = first; put = rest; all = all; places = same ∙ put }

pub one-before : (container : Ono) (first : ℕ) (rest members : List ℕ) (old new : List Place) → members ≡ first ∷ rest
    → PutsLastMembers container rest old new → PutsLastMembers container members old new
one-before container first rest members old new all h = record {
  left_out = first ∷ h.left_out;
  refused = h.refused;
  put = h.put;
  all = all ∙ ap (λ (l : List ℕ). first ∷ l) h.all;
  places = h.places;
}

-- members and the first of them
pub split-first : (members : List ℕ) → 1 ≤ length members → members ≡ get_or members 0 0 ∷ take (length members - 1) (drop 1 members)
split-first [] h = absurd (omega (arith, h))
split-first (x ∷ xs) h = ap (λ (l : List ℕ). x ∷ l) (sym (take_all (length (x ∷ xs) - 1) xs (omega arith)))

-- what is so anyhow
pub if-err : {A E X : Type 0} → (r : Result A E) → X → IfErr r (λ why. X)
if-err (Ok a) h = tt
if-err (Err e) h = h

-- an object that was asked, is a block, and has too many members
pub finds-too-many : {A E : Type 0} → (again : Bool) (ono : Ono) (rest : List Place) (old between new : PanelState) (waiting : List Place)
    (d : Description) (r : Result A E) → again ≡ false → Describes ono.0 old between (Ok (parts_of d))
    → IfErr r (λ why. ListsRefused d ono rest between new waiting) → IfErr r (λ why. FindsRefused again ono rest old new waiting)
finds-too-many again ono rest old between new waiting d (Ok a) first asked h = tt
finds-too-many again ono rest old between new waiting d (Err e) first asked h =
    record { asked = first; description = d; between = between; describes = asked; lists = h }

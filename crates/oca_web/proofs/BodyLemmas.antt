-- Orders of one body stand one behind another.
use Rattle.std.proofs.Common.{◌≡◌, ℕ, ◌+◌, ◌<◌, ◌≤◌, List, [], ◌∷◌, ◌++◌, length, drop, get_or, ap, sym, ◌∙◌, append_assoc, append-nil}
use Rattle.std.proofs.lemmas.List.{drop_more, drop_all}
use Rattle.serde_json.specs.declared.value.Value.{Value}
use Rattle.serde_json.specs.View.{items_view, view}
use Rattle.oca_web.specs.declared.order.NewOrder.{NewOrder}
use Rattle.oca_web.specs.Bodies.{AreWanted, IsWanted}

-- with what the items from this one on say, the orders so far are those of all
abbrev pub WantedSoFar : List Value → ℕ → List NewOrder → Type 0
WantedSoFar values i all = (ws : List NewOrder) → AreWanted (items_view (drop i values)) ws → AreWanted (items_view values) (all ++ ws)

pub wanted_more : (values : List Value) (i : ℕ) (v : Value) (w : NewOrder) (all new : List NewOrder) → WantedSoFar values i all → i < length values
    → v ≡ get_or values i v → IsWanted (view v) w → new ≡ all ++ w ∷ [] → WantedSoFar values (i + 1) new
unfolding AreWanted
wanted_more values i v w all new before within e one put ws rest =
    let p : drop i values ≡ v ∷ drop (i + 1) values = drop_more values i v within ∙ ap (λ x. x ∷ drop (i + 1) values) (sym e) in
    rw (put, append_assoc all (w ∷ []) ws) (before (w ∷ ws) (rw p (one, rest)))

pub wanted_all : (values : List Value) (i : ℕ) (all : List NewOrder) → WantedSoFar values i all → length values ≤ i → AreWanted (items_view values) all
unfolding AreWanted
wanted_all values i all before past =
    let k : AreWanted (items_view values) (all ++ []) = before [] (rw (drop_all i values past) tt) in
    rw (append-nil all) at k

pub ruleset wanted_rules = (wanted_more, wanted_all)

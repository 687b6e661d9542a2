use Rattle.oca_tree.proofs.Words.{[], length, ap, ◌∙◌, arith, values, Store, places}
use Rattle.oca_tree.proofs.Chains.{length_places}
use Rattle.oca_tree.proofs.Containers.{containers_length}
use Rattle.oca_tree.proofs.objects.Objects.container_at.Goals as goal

pub bounds-containers-index : goal.bounds-containers-index
bounds-containers-index c =
    let tree = ap (λ (h : Store). length h.list) c.self.view_is in
    let long = ap length c.self.invariant.2 ∙ containers_length [] (places (values c.self.inside.map)) ∙ length_places (values c.self.inside.map) in
    omega (arith, tree, long, ap length c.as_slice-containers.ensures.value, c.requires)

pub offset_bounds-containers-index : goal.offset_bounds-containers-index
offset_bounds-containers-index c =
    let tree = ap (λ (h : Store). length h.list) c.self.view_is in
    let long = ap length c.self.invariant.2 ∙ containers_length [] (places (values c.self.inside.map)) ∙ length_places (values c.self.inside.map) in
    omega (arith, tree, long, ap length c.as_slice-containers.ensures.value, c.requires, c.as_slice-containers.type_inv.1)

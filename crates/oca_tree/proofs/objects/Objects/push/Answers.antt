use Rattle.oca_tree.proofs.Words.{◌++◌, ◌∷◌, [], ap, sym, ◌∙◌, arith, length, length-append, values_of, values, Store, has_number, object_of, place_of, places, containers, lengths, nothing_listed}
use Rattle.indexmap.proofs.CallerLemmas.{insert_entry-new}
use Rattle.oca_tree.proofs.Adding.{places_push, same_store}
use Rattle.oca_tree.proofs.Chains.{position_places}
use Rattle.oca_tree.proofs.Containers.{containers_push}
use Rattle.oca_tree.proofs.Keyed.{lookup_keyed, position_keyed, eqb_comm, keyed_push, values_push, values_length}
use Rattle.oca_tree.proofs.objects.Objects.push.Goals as goal

pub push_index-requires : goal.push_index-requires
push_index-requires c =
    let list = ap (λ (h : Store). length h.list) c.self.view_is in
    let room = ap (λ (h : Store). h.room) c.self.view_is in
    omega (arith, list, room, values_length c.self.inside.map.entries, c.requires.room, c.self.invariant.1.containers, c.self.invariant.1.both)

pub push_none-requires : goal.push_none-requires
push_none-requires c =
    let list = ap (λ (h : Store). length h.list) c.self.view_is in
    let room = ap (λ (h : Store). h.room) c.self.view_is in
    omega (arith, list, room, values_length c.self.inside.map.entries, c.requires.room, c.self.invariant.3.containers, c.self.invariant.3.both)

pub unreachable-requires : goal.unreachable-requires
unreachable-requires c =
    let list = ap (λ (h : Store). length h.list) c.self.view_is in
    let room = ap (λ (h : Store). h.room) c.self.view_is in
    let spare = c.self.invariant.1.objects in
    let long = values_length c.self.inside.map.entries in
    let within = c.requires.room in
    grind (arith, list, room, spare, long, within, c.in-Err.ensures.succeeds)

pub add_last-requires-clause-tree : goal.add_last-requires-clause-tree
add_last-requires-clause-tree c =
    let none = lookup_keyed _ (has_number c.args.object.ono.0) (λ o. eqb_comm c.args.object.ono.0 o.ono.0) c.self.inside.map.entries c.self.invariant.0.keyed ∙ ap (λ (h : Store). object_of h.list c.args.object.ono.0) c.self.view_is ∙ c.requires.free in
    let entries = c.in-Ok.ensures.entries ∙ insert_entry-new _ c.self.inside.map c.args.object.ono c.args.object none in
    let list = c.as_slice.ensures ∙ c.values.ensures.rest ∙ ap values_of entries ∙ values_push c.self.inside.map.entries c.args.object ∙ ap (λ (h : Store). h.list ++ c.args.object ∷ []) c.self.view_is in
    rw list c.requires.tree

pub add_last-requires-clause-containers : goal.add_last-requires-clause-containers
add_last-requires-clause-containers c =
    let none = lookup_keyed _ (has_number c.args.object.ono.0) (λ o. eqb_comm c.args.object.ono.0 o.ono.0) c.self.inside.map.entries c.self.invariant.0.keyed ∙ ap (λ (h : Store). object_of h.list c.args.object.ono.0) c.self.view_is ∙ c.requires.free in
    let entries = c.in-Ok.ensures.entries ∙ insert_entry-new _ c.self.inside.map c.args.object.ono c.args.object none in
    let tree = values c.self.inside.map in
    let container =
    c.get_index_of-container.ensures.index ∙ position_keyed _ (has_number c.args.object.container.0) (λ o. eqb_comm c.args.object.container.0 o.ono.0) c.self.inside.map.entries c.self.invariant.0.keyed
    ∙ position_places tree c.args.object.container.0 in
    let places_new = ap places (c.as_slice.ensures ∙ c.values.ensures.rest ∙ ap values_of entries ∙ values_push c.self.inside.map.entries c.args.object) ∙ places_push tree c.args.object in
    c.as_slice-2.ensures.value ∙ c.push_index.ensures.items ∙ ap (λ cs. cs ++ c.get_index_of-container.result ∷ []) c.self.invariant.2 ∙ ap (λ x. containers (places tree) ++ x ∷ []) container
    ∙ sym (containers_push [] (places tree) (place_of c.args.object)) ∙ ap containers (sym places_new)

pub add_last-requires-clause-new : goal.add_last-requires-clause-new
add_last-requires-clause-new c =
    let none = lookup_keyed _ (has_number c.args.object.ono.0) (λ o. eqb_comm c.args.object.ono.0 o.ono.0) c.self.inside.map.entries c.self.invariant.0.keyed ∙ ap (λ (h : Store). object_of h.list c.args.object.ono.0) c.self.view_is ∙ c.requires.free in
    let entries = c.in-Ok.ensures.entries ∙ insert_entry-new _ c.self.inside.map c.args.object.ono c.args.object none in
    record {
      front = values c.self.inside.map;
      last = c.args.object;
      is = c.as_slice.ensures ∙ c.values.ensures.rest ∙ ap values_of entries ∙ values_push c.self.inside.map.entries c.args.object;
      others = c.push_none.ensures.items ∙ ap (λ ls. ls ++ nothing_listed ∷ []) c.self.invariant.4;
    }

pub invariant_of-self : goal.invariant_of-self
invariant_of-self c =
    let none = lookup_keyed _ (has_number c.args.object.ono.0) (λ o. eqb_comm c.args.object.ono.0 o.ono.0) c.self.inside.map.entries c.self.invariant.0.keyed ∙ ap (λ (h : Store). object_of h.list c.args.object.ono.0) c.self.view_is ∙ c.requires.free in
    let entries = c.in-Ok.ensures.entries ∙ insert_entry-new _ c.self.inside.map c.args.object.ono c.args.object none in
    let more = length-append c.self.inside.map.entries ((c.args.object.ono, c.args.object) ∷ []) in (
      record { keyed = rw entries (keyed_push c.self.inside.map.entries c.args.object c.self.invariant.0.keyed) },
      record {
        objects = omega (arith, c.self.invariant.1.objects, c.in-Ok.ensures.spare, ap length entries, more);
        containers = omega (arith, c.self.invariant.1.containers, c.push_index.ensures.capacity);
        both = omega (arith, c.self.invariant.1.both, c.push_index.ensures.len, ap length entries, more);
      },
      sym c.as_slice-2.ensures.value ∙ add_last-requires-clause-containers c.before ∙ ap (λ xs. containers (places xs)) (c.as_slice.ensures ∙ c.values.ensures.rest),
      record {
        objects = omega (arith, c.self.invariant.3.objects, c.in-Ok.ensures.spare, ap length entries, more);
        containers = omega (arith, c.self.invariant.3.containers, c.push_none.ensures.capacity, c.add_last.ensures.capacity);
        both = omega (arith, c.self.invariant.3.both, c.push_none.ensures.len, c.add_last.ensures.len, ap length entries, more);
      },
      c.add_last.ensures.items ∙ ap lengths (c.as_slice.ensures ∙ c.values.ensures.rest),
    )

pub returns : goal.returns
returns c =
    let none = lookup_keyed _ (has_number c.args.object.ono.0) (λ o. eqb_comm c.args.object.ono.0 o.ono.0) c.self.inside.map.entries c.self.invariant.0.keyed ∙ ap (λ (h : Store). object_of h.list c.args.object.ono.0) c.self.view_is ∙ c.requires.free in
    let entries = c.in-Ok.ensures.entries ∙ insert_entry-new _ c.self.inside.map c.args.object.ono c.args.object none in
    let list = ap values_of entries ∙ values_push c.self.inside.map.entries c.args.object ∙ ap (λ (h : Store). h.list ++ c.args.object ∷ []) c.self.view_is in
    same_store _ _ _ _ (ap (λ (h : Store). h.room) c.self.view_is) list

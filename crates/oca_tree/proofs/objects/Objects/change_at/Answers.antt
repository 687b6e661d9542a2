use Rattle.oca_tree.proofs.Words.{sym, ap, ◌∙◌, arith, values, lock_count, Store, Place, Class, containers}
use Rattle.oca_model.specs.HeldRequests.{asked_by}
use Rattle.oca_tree.proofs.Keyed.{keyed-set_value_at, length-set_value, shapes_kept, change_there, same_ono}
use Rattle.oca_tree.proofs.Locking.{locks_few, lock_counted_get, lock_written_get}
use Rattle.oca_tree.proofs.Sound.{shape_of, changed_shape, same_places}
use Rattle.oca_tree.proofs.Totals.{lengths_kept}
use Rattle.oca_tree.proofs.objects.Objects.change_at.Goals as goal

pub change-requires-clause-room : goal.change-requires-clause-room
change-requires-clause-room c = let few = locks_few c.args.self.now.list 4096 c.requires.tree.few in omega (arith, few, c.requires.count)

pub change-requires-clause-counted : goal.change-requires-clause-counted
change-requires-clause-counted c =
    let one = lock_counted_get (values c.self.inside.map) c.args.at c.index_mut.result.now c.index_mut.ensures.value in
    let same = ap (λ (h : Store). lock_count h.list) c.self.view_is in
    omega (arith, one, same, c.requires.count)

pub invariant_of-self : goal.invariant_of-self
invariant_of-self c =
    let shape = ap shape_of c.change.ensures.object ∙ changed_shape c.index_mut.result.now c.args.peer (asked_by c.args.request) in
    let same = shapes_kept c.self.inside.map.entries c.args.at c.index_mut.result.now c.change.new.object c.index_mut.ensures.value shape in
    let long = length-set_value c.self.inside.map.entries c.args.at c.change.new.object in (
      record {
        keyed = keyed-set_value_at c.self.inside.map.entries c.args.at c.change.new.object c.index_mut.result.now c.index_mut.ensures.value
            (same_ono c.change.new.object c.index_mut.result.now (ap (λ (s : Place × Class). s.0.number) shape)) c.self.invariant.0.keyed;
      },
      record {
        objects = rw long c.self.invariant.1.objects;
        containers = c.self.invariant.1.containers;
        both = c.self.invariant.1.both ∙ sym long;
      },
      c.self.invariant.2 ∙ sym (ap containers (same_places _ _ same)),
      record {
        objects = rw long c.self.invariant.3.objects;
        containers = c.self.invariant.3.containers;
        both = c.self.invariant.3.both ∙ sym long;
      },
      c.self.invariant.4 ∙ sym (lengths_kept _ _ same),
    )

pub returns-clause-objects : goal.returns-clause-objects
returns-clause-objects c = λ d. rw (← c.self.view_is)
    (change_there c.self.inside.map.entries c.args.at c.index_mut.result.now c.change.new.object c.args.peer (asked_by c.args.request) d c.index_mut.ensures.value c.change.ensures.object)

pub returns-clause-count : goal.returns-clause-count
returns-clause-count c =
    lock_written_get c.self.inside.map.entries c.args.at c.index_mut.result.now c.index_mut.ensures.value c.change.new.object c.args.marks.now.locks c.change.new.marks.locks
    (c.requires.count ∙ ap (λ (h : Store). lock_count h.list) (sym c.self.view_is)) c.change.ensures.count

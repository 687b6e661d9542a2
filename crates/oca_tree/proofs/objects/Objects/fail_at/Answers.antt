use Rattle.oca_tree.proofs.Words.{sym, ap, ◌∙◌, arith, lock_count, lock_of_one, Store, Place, Class, containers}
use Rattle.oca_tree.proofs.Keyed.{keyed-set_value_at, length-set_value, shapes_kept, told_there, same_ono}
use Rattle.oca_tree.proofs.Locking.{lock_written_get}
use Rattle.oca_tree.proofs.Sound.{shape_of, same_places}
use Rattle.oca_tree.proofs.Totals.{lengths_kept}
use Rattle.oca_tree.proofs.objects.Objects.fail_at.Goals as goal

pub invariant_of-self : goal.invariant_of-self
invariant_of-self c =
    let shape = ap shape_of c.fail.ensures in
    let same = shapes_kept c.self.inside.map.entries c.args.at c.index_mut.result.now c.fail.new.object c.index_mut.ensures.value shape in
    let long = length-set_value c.self.inside.map.entries c.args.at c.fail.new.object in (
      record {
        keyed = keyed-set_value_at c.self.inside.map.entries c.args.at c.fail.new.object c.index_mut.result.now c.index_mut.ensures.value
            (same_ono c.fail.new.object c.index_mut.result.now (ap (λ (s : Place × Class). s.0.number) shape)) c.self.invariant.0.keyed;
      },
      record {
        objects = rw long c.self.invariant.1.objects;
        containers = c.self.invariant.1.containers;
        both = c.self.invariant.1.both ∙ sym long;
      },
      c.self.invariant.2 ∙ sym (ap containers (same_places _ _ same)),
      record {
        objects = rw long c.self.invariant.3.objects;
        containers = c.self.invariant.3.containers;
        both = c.self.invariant.3.both ∙ sym long;
      },
      c.self.invariant.4 ∙ sym (lengths_kept _ _ same),
    )

pub returns-clause-objects : goal.returns-clause-objects
returns-clause-objects c = λ d. rw (← c.self.view_is)
    (told_there c.self.inside.map.entries c.args.at c.index_mut.result.now c.fail.new.object c.args.failing d c.index_mut.ensures.value c.fail.ensures)

pub returns-clause-count : goal.returns-clause-count
returns-clause-count c =
    let same = ap (λ (h : Store). lock_count h.list) c.self.view_is in
    let lock = ap lock_of_one c.fail.ensures in
    sym (lock_written_get c.self.inside.map.entries c.args.at c.index_mut.result.now c.index_mut.ensures.value c.fail.new.object
    (lock_count c.args.self.now.list) (lock_count c.args.self.now.list) (sym same) (omega (arith, lock)))

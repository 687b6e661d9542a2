use Rattle.oca_tree.proofs.Words.{sym, ap, ◌∙◌, arith, lock_count, Store, Place, front, Class, containers}
use Rattle.oca_model.specs.declared.request.Request.TheVariants as asked
use Rattle.oca_tree.proofs.Keyed.{keyed-set_value_at, length-set_value, shapes_kept, change_there, same_ono}
use Rattle.oca_tree.proofs.Locking.{lock_written_get}
use Rattle.oca_tree.proofs.Sound.{shape_of, changed_shape, same_places}
use Rattle.oca_tree.proofs.Totals.{lengths_kept}
use Rattle.oca_tree.proofs.objects.Objects.relabel_at.Goals as goal

pub invariant_of-self : goal.invariant_of-self
invariant_of-self c =
    let shape = ap shape_of c.relabel.ensures.object ∙ changed_shape c.index_mut.result.now front (asked.SetLabel c.args.label) in
    let same = shapes_kept c.self.inside.map.entries c.args.at c.index_mut.result.now c.relabel.new.object c.index_mut.ensures.value shape in
    let long = length-set_value c.self.inside.map.entries c.args.at c.relabel.new.object in (
      record {
        keyed = keyed-set_value_at c.self.inside.map.entries c.args.at c.relabel.new.object c.index_mut.result.now c.index_mut.ensures.value
            (same_ono c.relabel.new.object c.index_mut.result.now (ap (λ (s : Place × Class). s.0.number) shape)) c.self.invariant.0.keyed;
      },
      record {
        objects = rw long c.self.invariant.1.objects;
        containers = c.self.invariant.1.containers;
        both = c.self.invariant.1.both ∙ sym long;
      },
      c.self.invariant.2 ∙ sym (ap containers (same_places _ _ same)),
      record {
        objects = rw long c.self.invariant.3.objects;
        containers = c.self.invariant.3.containers;
        both = c.self.invariant.3.both ∙ sym long;
      },
      c.self.invariant.4 ∙ sym (lengths_kept _ _ same),
    )

pub returns-clause-objects : goal.returns-clause-objects
returns-clause-objects c = λ d. rw (← c.self.view_is)
    (change_there c.self.inside.map.entries c.args.at c.index_mut.result.now c.relabel.new.object front (asked.SetLabel c.args.label) d c.index_mut.ensures.value c.relabel.ensures.object)

pub returns-clause-count : goal.returns-clause-count
returns-clause-count c =
    let same = ap (λ (h : Store). lock_count h.list) c.self.view_is in
    sym (lock_written_get c.self.inside.map.entries c.args.at c.index_mut.result.now c.index_mut.ensures.value c.relabel.new.object
    (lock_count c.args.self.now.list) (lock_count c.args.self.now.list) (sym same) (omega (arith, c.relabel.ensures.lock)))

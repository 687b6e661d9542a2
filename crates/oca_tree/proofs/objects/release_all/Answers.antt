use Rattle.oca_tree.proofs.Words.{◌<◌, length, ap, ◌∙◌, arith, values, Object}
use Rattle.std.proofs.lemmas.Grind.{common_steps}
use Rattle.oca_tree.specs.Locks.{released}
use Rattle.oca_tree.proofs.Keyed.{keyed-set_value_at, length-set_value, release_step, released_ono, values_length}
use Rattle.oca_tree.proofs.Locking.{lock_counted_get, lock_written_get}
use Rattle.oca_tree.proofs.objects.release_all.Goals as goal

pub release-requires : goal.release-requires
release-requires c =
    let e = lock_counted_get (values c.loop-at.map) c.loop-at.at c.index_mut.result.now c.index_mut.ensures.value in
    omega (arith, e, c.loop-at.invariant.count)

pub loop-at-preserved : goal.loop-at-preserved
loop-at-preserved c =
    let within : c.loop-at.at < length (values c.args.map.now) = rw (values_length c.args.map.now.entries) (rw (← c.len-at-end.ensures.len) c.loop-at-test.true) in
    record {
      valid = record {
        keyed = keyed-set_value_at c.loop-at.map.entries c.loop-at.at c.release.new.self c.index_mut.result.now c.index_mut.ensures.value
            (ap (λ (o : Object). o.ono) c.release.ensures.object ∙ released_ono c.args.peer c.index_mut.result.now) c.loop-at.invariant.valid.keyed;
      };
      free = c.loop-at.invariant.free;
      size = length-set_value c.loop-at.map.entries c.loop-at.at c.release.new.self ∙ c.loop-at.invariant.size;
      long = length-set_value c.loop-at.map.entries c.loop-at.at c.release.new.self ∙ c.loop-at.invariant.long;
      released = release_step c.loop-at.map.entries (values c.args.map.now) c.loop-at.at c.index_mut.result.now c.release.new.self c.args.peer c.index_mut.ensures.value c.release.ensures.object within c.loop-at.invariant.released;
      count = lock_written_get c.loop-at.map.entries c.loop-at.at c.index_mut.result.now c.index_mut.ensures.value c.release.new.self c.loop-at.marks.locks c.release.new.marks.locks c.loop-at.invariant.count c.release.ensures.count;
    }

pub returns-clause-objects : goal.returns-clause-objects
unfolding released
returns-clause-objects c = grind (arith, common_steps, c.loop-at.invariant.released, values_length c.args.map.now.entries, values_length c.loop-at.map.entries)

use Rattle.oca_tree.proofs.Words.{◌+◌, ◌-◌, ◌++◌, length, get_or, refl, sym, ap, ◌∙◌, arith, None, w32, length-set, unsigned_encoding, class_identification_encoding, Lengths, nothing_listed}
use Rattle.std.proofs.lemmas.List.{get_or_default}
use Rattle.oca_tree.proofs.Containers.{container_below}
use Rattle.oca_tree.proofs.Totals.{begun_at, containers_long, member_end, above_end, there, member_few, above_few, member_step, above_step, members_kept, descendants_kept, all_counted}
use Rattle.oca_tree.proofs.lengths.add_last.Goals as goal
use Rattle.oca_tree.proofs.lengths.add_last.Goals.{in-Some, in_default}

pub bounds : goal.bounds
bounds c =
    let begun =
    begun_at c.args.objects.now c.args.lengths.now.items c.requires.new c.index-objects-last.result (length c.args.objects.now - 1) c.item_bytes-bytes.result c.requires.tree refl c.index-objects-last.is
    (c.item_bytes-bytes.ensures.value c.index-objects-last.result.ono.0 ∙ ap (λ k. length (unsigned_encoding w32 c.index-objects-last.result.ono.0 ++ class_identification_encoding k)) c.class.ensures) in
    omega (arith, ap length c.requires.containers, containers_long c.args.objects.now, begun.within)

pub index_mut-requires : goal.index_mut-requires
index_mut-requires c =
    let begun =
    begun_at c.args.objects.now c.args.lengths.now.items c.requires.new c.index-objects-last.result (length c.args.objects.now - 1) c.item_bytes-bytes.result c.requires.tree refl c.index-objects-last.is
    (c.item_bytes-bytes.ensures.value c.index-objects-last.result.ono.0 ∙ ap (λ k. length (unsigned_encoding w32 c.index-objects-last.result.ono.0 ++ class_identification_encoding k)) c.class.ensures) in
    let e = sym c.in-Some.is ∙ ap (λ cs. get_or cs (length c.args.objects.now - 1) None) c.requires.containers in
    omega (arith, there c.args.objects.now c.requires.tree c.args.lengths.now.items begun.long (length c.args.objects.now - 1) begun.within c.in-Some.container e c.item_bytes-bytes.result, c.args.lengths.now.ok)

pub overflow_add-index_mut : goal.overflow_add-index_mut
overflow_add-index_mut c =
    let begun =
    begun_at c.args.objects.now c.args.lengths.now.items c.requires.new c.index-objects-last.result (length c.args.objects.now - 1) c.item_bytes-bytes.result c.requires.tree refl c.index-objects-last.is
    (c.item_bytes-bytes.ensures.value c.index-objects-last.result.ono.0 ∙ ap (λ k. length (unsigned_encoding w32 c.index-objects-last.result.ono.0 ++ class_identification_encoding k)) c.class.ensures) in
    let e = sym c.in-Some.is ∙ ap (λ cs. get_or cs (length c.args.objects.now - 1) None) c.requires.containers in
    omega (arith, member_few c.args.objects.now c.requires.tree c.args.lengths.now.items begun.long (length c.args.objects.now - 1) begun.within c.in-Some.container e c.item_bytes-bytes.result c.index-objects-last.result begun.members, ap (λ (l : Lengths). l.members) (c.index_mut.ensures.value ∙ get_or_default c.args.lengths.now.items c.in-Some.container c.index_mut.result.now nothing_listed (there c.args.objects.now c.requires.tree c.args.lengths.now.items begun.long (length c.args.objects.now - 1) begun.within c.in-Some.container e c.item_bytes-bytes.result)))

pub loop-init : goal.loop-init
loop-init c =
    let begun =
    begun_at c.args.objects.now c.args.lengths.now.items c.requires.new c.index-objects-last.result (length c.args.objects.now - 1) c.item_bytes-bytes.result c.requires.tree refl c.index-objects-last.is
    (c.item_bytes-bytes.ensures.value c.index-objects-last.result.ono.0 ∙ ap (λ k. length (unsigned_encoding w32 c.index-objects-last.result.ono.0 ++ class_identification_encoding k)) c.class.ensures) in
    elim c.match-containers-last.branch [
      | in-Some w ↦
          let e = sym w.in-Some.is ∙ ap (λ cs. get_or cs (length c.args.objects.now - 1) None) c.requires.containers in
          let new : Lengths = record { members = w.index_mut.result.now.members + c.item_bytes-bytes.result; descendants = w.index_mut.result.now.descendants } in
          let old = w.index_mut.ensures.value ∙ get_or_default c.args.lengths.now.items w.in-Some.container w.index_mut.result.now nothing_listed (there c.args.objects.now c.requires.tree c.args.lengths.now.items begun.long (length c.args.objects.now - 1) begun.within w.in-Some.container e c.item_bytes-bytes.result) in
          rw w.lengths-is (record {
            within = begun.within;
            earlier = omega arith;
            long = length-set c.args.lengths.now.items w.in-Some.container new ∙ begun.long;
            members = member_step c.args.objects.now c.requires.tree c.args.lengths.now.items begun.long (length c.args.objects.now - 1) begun.within w.in-Some.container e c.item_bytes-bytes.result new (ap (λ (l : Lengths). l.members + c.item_bytes-bytes.result) old) begun.members;
            above = descendants_kept c.args.objects.now c.requires.tree c.args.lengths.now.items begun.long (length c.args.objects.now - 1) begun.within w.in-Some.container e c.item_bytes-bytes.result new (ap (λ (l : Lengths). l.descendants) old) (c.item_bytes-bytes.result + 4) (length c.args.objects.now - 1) begun.above;
          })
      | in_default w ↦
          let e = sym w.in_default.is ∙ ap (λ cs. get_or cs (length c.args.objects.now - 1) None) c.requires.containers in
          rw w.lengths-is (record {
            within = begun.within;
            earlier = omega arith;
            long = begun.long;
            members = member_end c.args.objects.now c.requires.tree c.args.lengths.now.items begun.long (length c.args.objects.now - 1) begun.within c.item_bytes-bytes.result e begun.members;
            above = begun.above;
          })
    ]

pub offset_bounds-containers-current : goal.offset_bounds-containers-current
offset_bounds-containers-current c = omega (arith, c.loop.invariant.within, c.requires.tree.few)

pub bounds-in-loop : goal.bounds-in-loop
bounds-in-loop c = omega (arith, c.loop.invariant.within, ap length c.requires.containers, containers_long c.args.objects.now)

pub returns-in_default-containers-clause-items : goal.returns-in_default-containers-clause-items
returns-in_default-containers-clause-items c =
    let e = sym c.in_default-containers.is ∙ ap (λ cs. get_or cs c.loop.current None) c.requires.containers in
    let above = above_end c.args.objects.now c.requires.tree c.loop.lengths.items c.loop.invariant.long c.loop.current c.loop.invariant.within (c.item_bytes-bytes.result + 4) e c.loop.invariant.above in
    all_counted c.args.objects.now c.index-objects-last.result c.loop.lengths.items c.loop.invariant.long c.loop.invariant.members above

pub index_mut-requires-in-loop : goal.index_mut-requires-in-loop
index_mut-requires-in-loop c =
    let e = sym c.in-Some-containers.is ∙ ap (λ cs. get_or cs c.loop.current None) c.requires.containers in
    omega (arith, there c.args.objects.now c.requires.tree c.loop.lengths.items c.loop.invariant.long c.loop.current c.loop.invariant.within c.in-Some-containers.above e (c.item_bytes-bytes.result + 4), c.loop.lengths.ok)

pub overflow_add-index_mut-in-loop : goal.overflow_add-index_mut-in-loop
overflow_add-index_mut-in-loop c =
    let e = sym c.in-Some-containers.is ∙ ap (λ cs. get_or cs c.loop.current None) c.requires.containers in
    omega (arith, above_few c.args.objects.now c.requires.tree c.loop.lengths.items c.loop.invariant.long c.loop.current c.loop.invariant.within c.in-Some-containers.above e (c.item_bytes-bytes.result + 4) c.index-objects-last.result c.loop.invariant.above, ap (λ (l : Lengths). l.descendants) (c.index_mut-in-loop.ensures.value ∙ get_or_default c.loop.lengths.items c.in-Some-containers.above c.index_mut-in-loop.result.now nothing_listed (there c.args.objects.now c.requires.tree c.loop.lengths.items c.loop.invariant.long c.loop.current c.loop.invariant.within c.in-Some-containers.above e (c.item_bytes-bytes.result + 4))))

pub loop-preserved : goal.loop-preserved
loop-preserved c =
    let e = sym c.in-Some-containers.is ∙ ap (λ cs. get_or cs c.loop.current None) c.requires.containers in
    let new : Lengths = record { members = c.index_mut-in-loop.result.now.members; descendants = c.index_mut-in-loop.result.now.descendants + (c.item_bytes-bytes.result + 4) } in
    let old = c.index_mut-in-loop.ensures.value ∙ get_or_default c.loop.lengths.items c.in-Some-containers.above c.index_mut-in-loop.result.now nothing_listed (there c.args.objects.now c.requires.tree c.loop.lengths.items c.loop.invariant.long c.loop.current c.loop.invariant.within c.in-Some-containers.above e (c.item_bytes-bytes.result + 4)) in
    let below = container_below c.args.objects.now c.requires.tree c.loop.current c.loop.invariant.within c.in-Some-containers.above e in
    record {
      within = omega (arith, below, c.loop.invariant.within);
      earlier = omega (arith, below, c.loop.invariant.earlier);
      long = length-set c.loop.lengths.items c.in-Some-containers.above new ∙ c.loop.invariant.long;
      members = members_kept c.args.objects.now c.requires.tree c.loop.lengths.items c.loop.invariant.long c.loop.current c.loop.invariant.within c.in-Some-containers.above e (c.item_bytes-bytes.result + 4) new (ap (λ (l : Lengths). l.members) old) c.loop.invariant.members;
      above = above_step c.args.objects.now c.requires.tree c.loop.lengths.items c.loop.invariant.long c.loop.current c.loop.invariant.within c.in-Some-containers.above e (c.item_bytes-bytes.result + 4) new (ap (λ (l : Lengths). l.descendants + (c.item_bytes-bytes.result + 4)) old) c.loop.invariant.above;
    }

pub returns-clause-items : goal.returns-clause-items
returns-clause-items c = absurd (omega (arith, c.loop.invariant.earlier))

use Rattle.oca_tree.proofs.Words.{flat_map, ◌≡◌, ◌<◌, ◌++◌, length, sym, ap, ◌∙◌, arith, true, false, err_from_is_err_and, is_listed, item_encoding}
use Rattle.oca_tree.proofs.Listing.{here_listed, all_behind}
use Rattle.oca_tree.proofs.Puts.{put_step_kept, put_step_passed, put_full_kept, count_kept, count_passed}
use Rattle.oca_tree.proofs.answer.put_items.Goals as goal
use Rattle.oca_tree.proofs.answer.put_items.Goals.{then-is_listed+in_ok-put_item, else-is_listed}

pub returns-in_err-put_item-clause-puts : goal.returns-in_err-put_item-clause-puts
returns-in_err-put_item-clause-puts c =
    let e = err_from_is_err_and c.from_residual.result c.from_residual.ensures.1 in
    let p = is_listed c.args.objects.now.list c.args.block.now.ono.0 c.args.deep in
    let o = c.object_at-object.result.now in
    let within : c.loop-at.at < length c.args.objects.now.list = omega arith in
    let listed : p o ≡ true = here_listed c.args.objects.now.list c.args.place c.requires.within c.args.block.now c.requires.here c.args.deep c.loop-at.at o c.object_at-object.ensures _ c.is_listed.ensures ∙ c.if-is_listed.true in
    rw e.1 (put_full_kept (item_encoding c.args.deep) c.args.objects.now.list c.loop-at.at o within c.object_at-object.ensures p _ _ _ listed c.loop-at.invariant.bytes c.in_err-put_item.ensures)

pub returns-in_err-put_item-clause-count : goal.returns-in_err-put_item-clause-count
returns-in_err-put_item-clause-count c = let e = err_from_is_err_and c.from_residual.result c.from_residual.ensures.1 in rw e.1 tt

pub overflow_add-count : goal.overflow_add-count
overflow_add-count c = omega (arith, c.loop-at.invariant.few, c.requires.tree.few)

pub loop-at-preserved : goal.loop-at-preserved
loop-at-preserved c =
    let p = is_listed c.args.objects.now.list c.args.block.now.ono.0 c.args.deep in
    let o = c.object_at-object.result.now in
    let within : c.loop-at.at < length c.args.objects.now.list = omega arith in
    elim c.if-is_listed.branch [
      | then-is_listed+in_ok-put_item w ↦
          let listed : p o ≡ true = here_listed c.args.objects.now.list c.args.place c.requires.within c.args.block.now c.requires.here c.args.deep c.loop-at.at o c.object_at-object.ensures _ c.is_listed.ensures ∙ w.if-is_listed.true in
          record {
            bytes = rw (w.out-is, w.in_ok-put_item.ensures)
                (put_step_kept (item_encoding c.args.deep) c.args.objects.now.list c.loop-at.at o within c.object_at-object.ensures p _ _ listed c.loop-at.invariant.bytes);
            number = rw w.count-is
                (count_kept (item_encoding c.args.deep) c.args.objects.now.list c.loop-at.at o within c.object_at-object.ensures p _ _ listed c.loop-at.invariant.number);
            few = rw w.count-is (omega (arith, c.loop-at.invariant.few));
          }
      | else-is_listed w ↦
          let other : p o ≡ false = here_listed c.args.objects.now.list c.args.place c.requires.within c.args.block.now c.requires.here c.args.deep c.loop-at.at o c.object_at-object.ensures _ c.is_listed.ensures ∙ w.if-is_listed.false in
          record {
            bytes = rw w.out-is
                (put_step_passed (item_encoding c.args.deep) c.args.objects.now.list c.loop-at.at o within c.object_at-object.ensures p _ _ other c.loop-at.invariant.bytes);
            number = rw w.count-is
                (count_passed (item_encoding c.args.deep) c.args.objects.now.list c.loop-at.at o within c.object_at-object.ensures p _ _ other c.loop-at.invariant.number);
            few = rw w.count-is (omega (arith, c.loop-at.invariant.few));
          }
    ]

pub loop-at-init : goal.loop-at-init
loop-at-init c =
    let all = all_behind c.args.objects.now.list c.requires.tree c.args.place c.requires.within c.args.block.now c.requires.here c.args.deep in
    record {
      bytes = ap (λ xs. c.args.out.now.items ++ flat_map (item_encoding c.args.deep) xs) (sym all);
      number = omega (arith, ap length all);
      few = omega arith;
    }

use Rattle.oca_tree.proofs.Words.{sym, ap, ◌∙◌, eqb-true, Some, has_number, places, depth}
use Rattle.oca_tree.proofs.Chains.{block_there, block_absent}
use Rattle.oca_tree.proofs.Positions.{find_passes}
use Rattle.oca_tree.proofs.place.block_depth.Goals as goal

pub returns-in_default-clause-block : goal.returns-in_default-clause-block
returns-in_default-clause-block c = sym (block_absent c.args.objects.now.list c.args.ono.0 c.in_default.ensures.absent)

pub returns-then-is_block-clause-block : goal.returns-then-is_block-clause-block
returns-then-is_block-clause-block c =
    let found = c.in-Some.ensures.found c.object_at-object.result.now ∙ ap Some (sym c.object_at-object.ensures) in
    c.if-is_block.ensures ∙ sym (block_there c.args.objects.now.list c.args.ono.0 c.object_at-object.result.now found)

pub returns-then-is_block-clause-depth : goal.returns-then-is_block-clause-depth
returns-then-is_block-clause-depth c =
    let o = c.object_at-object.result.now in
    let found = find_passes (has_number c.args.ono.0) c.args.objects.now.list _ (c.in-Some.ensures.found o) in
    c.depth.ensures o ∙ ap (depth (places c.args.objects.now.list)) (eqb-true _ c.args.ono.0 found)

pub returns-else-is_block-clause-block : goal.returns-else-is_block-clause-block
returns-else-is_block-clause-block c =
    let found = c.in-Some.ensures.found c.object_at-object.result.now ∙ ap Some (sym c.object_at-object.ensures) in
    c.if-is_block.ensures ∙ sym (block_there c.args.objects.now.list c.args.ono.0 c.object_at-object.result.now found)

use Rattle.std.proofs.Common.{ℤ, ◌++◌, ap, ◌∙◌, to_z, of_z}
use Rattle.std.specs.Int.{w128}
use Rattle.std.proofs.lemmas.Int.{to_z-of_z}
use Rattle.oca_script.specs.Ends.{output}
use Rattle.oca_textree.specs.Written.{range_fields}
use Rattle.oca_textree.proofs.WritingLemmas.{held-two}
use Rattle.oca_textree.proofs.writing.put_range.Goals as goal

pub returns-clause-value : goal.returns-clause-value
returns-clause-value g c =
    let was = c.args.printer.now in
    held-two _ _ _ _ _ (held-two _ _ _ _ _ c.put_limit.ensures.value c.put_limit-2.ensures.value) c.put_integer.ensures.value
    ∙ ap (λ (z : ℤ). output was.contents (was.held ++ range_fields z (to_z w128 (of_z w128 c.args.greatest)) (to_z w128 (of_z w128 c.args.setting))) was.failed)
    (to_z-of_z w128 c.args.least c.ranges.least)
    ∙ ap (λ (z : ℤ). output was.contents (was.held ++ range_fields c.args.least z (to_z w128 (of_z w128 c.args.setting))) was.failed)
    (to_z-of_z w128 c.args.greatest c.ranges.greatest)
    ∙ ap (λ (z : ℤ). output was.contents (was.held ++ range_fields c.args.least c.args.greatest z) was.failed)
    (to_z-of_z w128 c.args.setting c.ranges.setting)

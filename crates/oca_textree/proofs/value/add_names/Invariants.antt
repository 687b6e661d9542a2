use Rattle.std.proofs.Common.{◌≡◌, map, length}
use Rattle.oca_script.specs.Fields.{split_on}
use Rattle.oca_textree.specs.Lines.{checked, names_by}
use Rattle.oca_textree.proofs.value.add_names.Given as goal

abbrev pub invariant-loop-name : goal.invariant-loop-name
invariant-loop-name l =
    names_by checked (map (λ n. n.now) l.fn.names.items) (split_on 44 l.fn.text)
    ≡ names_by checked (map (λ n. n.now) l.names.items) (split_on 44 l.rest)

abbrev pub decreases-loop-name : goal.decreases-loop-name
decreases-loop-name l = length l.rest

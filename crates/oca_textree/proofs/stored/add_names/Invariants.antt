use Rattle.std.proofs.Common.{◌≡◌, length}
use Rattle.oca_script.specs.Fields.{split_on}
use Rattle.oca_textree.specs.Lines.{names_by}
use Rattle.oca_textree.specs.Stored.{field_text}
use Rattle.oca_textree.proofs.stored.add_names.Given as goal

abbrev pub invariant-loop-name : goal.invariant-loop-name
invariant-loop-name l =
    names_by (field_text l.quoted) l.fn.names.items (split_on 44 l.text) ≡ names_by (field_text l.quoted) l.names.items (split_on 44 l.rest)

abbrev pub decreases-loop-name : goal.decreases-loop-name
decreases-loop-name l = length l.rest

use Rattle.std.proofs.Common.{sym, ◌+◌}
use Rattle.std.proofs.lemmas.List.{take_rest}
use Rattle.oca_script.proofs.SearchLemmas.{split_at-nowhere, split_at-first}
use Rattle.oca_script.proofs.field.split_at_byte.Goals as goal

pub returns-in-Some-clause-value : goal.returns-in-Some-clause-value
returns-in-Some-clause-value c =
    let found = c.in-Some.ensures in
    rw (take_rest c.args.text.now (c.in-Some.i + 1)) (sym (split_at-first c.args.separator c.args.text.now c.in-Some.i found.0.high found.0.before found.1))

pub returns-in-None-clause-value : goal.returns-in-None-clause-value
returns-in-None-clause-value c = sym (split_at-nowhere c.args.separator c.args.text.now c.in-None.ensures)

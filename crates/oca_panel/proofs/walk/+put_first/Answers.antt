use Rattle.oca_panel.proofs.WalkLemmas.{if-err, none-behind, one-before, split-first}
use Rattle.oca_panel.proofs.walk.+put_first.Goals as goal

pub returns-in_err-put_first-clause-refused : goal.returns-in_err-put_first-clause-refused
returns-in_err-put_first-clause-refused t c =
    if-err c.from_residual.result
    (one-before c.args.container _ _ _ _ _ (split-first c.args.members.now c.in-len1-up.len_at_least) c.in_err-put_first.ensures.refused)

pub returns-in-Err-clause-refused : goal.returns-in-Err-clause-refused
returns-in-Err-clause-refused t c =
    none-behind c.args.container _ _ _ _ _ _ (split-first c.args.members.now c.in-len1-up.len_at_least) c.in_ok-put_first.ensures.puts
    c.in-Err.ensures.items

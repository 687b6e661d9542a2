use Rattle.oca_pair.proofs.Words.{◌≡◌, ◌++◌, take, sendings_in}
use Rattle.oca_pair.proofs.running.send_back.Given as goal

abbrev pub invariant-loop-i : goal.invariant-loop-i
invariant-loop-i l = l.to_links.items ≡ l.fn.to_links.items ++ sendings_in l.peer (take l.i l.outbox)

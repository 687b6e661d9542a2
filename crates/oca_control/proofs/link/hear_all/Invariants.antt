use Rattle.oca_control.proofs.Words.{messages_left}
use Rattle.oca_control.proofs.Receiving.{HearsOn}
use Rattle.oca_control.proofs.link.hear_all.Given as goal

-- what is heard, and what is left, is all
abbrev pub invariant-loop-message : goal.invariant-loop-message
invariant-loop-message g l =
    HearsOn g.row.ANSWER (messages_left l.message-iterator) l.table.untaken l.table.next l.answered (messages_left l.fn.messages) l.fn.table.untaken l.fn.table.next

use Rattle.oca_control.proofs.Words.{ℕ, List, [], ◌∷◌, subst, SendsAllBut}
use Rattle.oca_net.proofs.Sending.{sends_one}
use Rattle.oca_control.proofs.driving.send.Goals as goal

pub returns-then-send-clause-sends : goal.returns-then-send-clause-sends
returns-then-send-clause-sends g c =
    subst (λ (bytes : List ℕ). SendsAllBut 0 (g.E.End.state c.args.end.now) (g.E.End.state c.send.new.self) ((record { to = c.args.to; bytes = bytes }) ∷ [])) c.as_slice.ensures.value (sends_one c.if-send.ensures)

pub returns-else-send-clause-sends : goal.returns-else-send-clause-sends
returns-else-send-clause-sends g c =
    subst (λ (bytes : List ℕ). SendsAllBut 1 (g.E.End.state c.args.end.now) (g.E.End.state c.send.new.self) ((record { to = c.args.to; bytes = bytes }) ∷ [])) c.as_slice.ensures.value (sends_one c.if-send.ensures)

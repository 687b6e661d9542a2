use Rattle.oca_pair.proofs.Words.{arith, ap, ◌∙◌, LinkState, reception, received, PeerLink, device_address, content_read}
use Rattle.oca_pair.proofs.Runs.{content_is}
use Rattle.oca_pair.proofs.running.PeerLink.datagram.Goals as goal

pub returns-clause-answer : goal.returns-clause-answer
returns-clause-answer c =
    c.datagram.ensures.answer (content_read c.args.bytes.now) (content_is c.law_reading.ensures c.args.bytes.now (λ i. omega (arith, c.type_inv.bytes i)))
    ∙ ap (λ (x : PeerLink). reception device_address (content_read c.args.bytes.now) x.link) c.self.view_is

pub returns-clause-link : goal.returns-clause-link
returns-clause-link c =
    ap (λ (l : LinkState). let x : PeerLink = record { peer = c.self.inside.peer; link = l } in x)
    (c.datagram.ensures.link (content_read c.args.bytes.now) (content_is c.law_reading.ensures c.args.bytes.now (λ i. omega (arith, c.type_inv.bytes i))))
    ∙ ap (λ (x : PeerLink). let y : PeerLink = record { peer = x.peer; link = received device_address (content_read c.args.bytes.now) c.args.now x.link } in y) c.self.view_is

pub invariant_of-self : goal.invariant_of-self
invariant_of-self c =
    ap (λ (l : LinkState). l.device) (c.datagram.ensures.link (content_read c.args.bytes.now) (content_is c.law_reading.ensures c.args.bytes.now (λ i. omega (arith, c.type_inv.bytes i))))
    ∙ c.self.invariant

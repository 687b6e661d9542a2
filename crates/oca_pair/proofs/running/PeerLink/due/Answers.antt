use Rattle.oca_pair.proofs.Words.{ap, ◌∙◌, LinkState}
use Rattle.oca_pair.proofs.Runs.{device_gone_on}
use Rattle.oca_pair.proofs.running.PeerLink.due.Goals as goal

pub invariant_of-self : goal.invariant_of-self
invariant_of-self c = ap (λ (x : LinkState). x.device) c.due.ensures.link ∙ device_gone_on c.args.now c.self.inside.link ∙ c.self.invariant

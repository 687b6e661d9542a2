use Rattle.oca_pair.proofs.Words.{ap, ◌∙◌, LinkState}
use Rattle.oca_pair.proofs.Runs.{device_submitted}
use Rattle.oca_pair.proofs.running.PeerLink.submit.Goals as goal

pub invariant_of-self : goal.invariant_of-self
invariant_of-self c = ap (λ (x : LinkState). x.device) c.submit.ensures.link ∙ device_submitted _ c.args.now c.self.inside.link ∙ c.self.invariant

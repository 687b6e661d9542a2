use Rattle.oca_pair.proofs.Words.{refl}
use Rattle.oca_pair.proofs.running.Running.tick.Goals as goal

pub returns : goal.returns
returns c = λ n h. (
  refl,
  refl,
  record { address = h.address; device = c.tick.ensures n.sizes n.tree n.events h.device; links = h.links; to_device = h.to_device; to_links = h.to_links; sent = h.sent; answered = h.answered },
)

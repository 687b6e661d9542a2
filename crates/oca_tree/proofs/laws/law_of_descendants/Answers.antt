use Rattle.oca_tree.specs.Places.{places}
use Rattle.oca_tree.proofs.Endings.{reaches_chain}
use Rattle.oca_tree.proofs.laws.law_of_descendants.Goals as goal

pub returns : goal.returns
returns c = λ block container. reaches_chain (places c.args.tree.now) block c.len-sound.ensures.sound.built container

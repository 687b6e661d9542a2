use Rattle.oca_textree.proofs.LinesBack.{tree-back}
use Rattle.oca_textree.proofs.MadeLemmas.{made-back, listed-back}
use Rattle.oca_textree.proofs.laws.law_of_texts.Goals as goal

pub returns-clause-made : goal.returns-clause-made
returns-clause-made c = made-back c.args.tree.now c.len-sound.ensures.sound

pub returns-clause-listed : goal.returns-clause-listed
returns-clause-listed c = listed-back c.args.tree.now c.len-sound.ensures.sound

pub returns-clause-named : goal.returns-clause-named
returns-clause-named c = tree-back c.args.tree.now c.len-sound.ensures.sound

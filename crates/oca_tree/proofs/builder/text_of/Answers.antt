use Rattle.oca_tree.proofs.LocalChanges.{made_text}
use Rattle.oca_tree.proofs.builder.text_of.Goals as goal

pub returns-clause-typed : goal.returns-clause-typed
returns-clause-typed c = made_text c.args.text.now c.new.result c.utf8.text c.new.ensures.variant.0 c.new.ensures.value

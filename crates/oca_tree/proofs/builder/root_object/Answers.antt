use Rattle.std.proofs.Common.{arith}
use Rattle.oca_tree.specs.Copies.{names_in}
use Rattle.oca_tree.proofs.TypesKept.{empty_text}
use Rattle.oca_tree.proofs.builder.root_object.Goals as goal

pub returns-clause-typed : goal.returns-clause-typed
unfolding names_in
returns-clause-typed c = record { role = c.in-Some.ensures.typed; label = rw c.default.ensures empty_text; names = tt; number = omega arith; container = omega arith }

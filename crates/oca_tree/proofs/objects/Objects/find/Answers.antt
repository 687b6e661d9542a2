use Rattle.oca_tree.proofs.Words.{◌∙◌, has_number}
use Rattle.oca_tree.proofs.Keyed.{lookup_keyed, eqb_comm}
use Rattle.oca_tree.proofs.objects.Objects.find.Goals as goal

pub returns : goal.returns
returns c = rw (← c.self.view_is) (c.get.ensures.value ∙ lookup_keyed _ (has_number c.args.ono.0) (λ o. eqb_comm c.args.ono.0 o.ono.0) c.self.inside.map.entries c.self.invariant.0.keyed)

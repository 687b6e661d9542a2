use Rattle.oca_device.proofs.Words.{◌≡◌, ℕ, Bool, cond, refl, ap, ◌∙◌, List, Option, Some, None, is_none, Object, front_fault_in, ToFailing, object_of, DeviceState}
use Rattle.std.specs.Option.{option_map}
use Rattle.oca_model.specs.declared.request.Request.TheVariants as asked
use Rattle.oca_tree.specs.declared.front.FrontFault.TheVariants as faults
use Rattle.oca_tree.specs.LocalChanges.{front_fault}
use Rattle.oca_tree.specs.Readers.{failing_at}
use Rattle.oca_device.proofs.Opened.{local_in}
use Rattle.oca_device.proofs.device.DeviceOf.set_failing.Goals as goal

pub returns-clause-represents : goal.returns-clause-represents
returns-clause-represents g c = local_in _ c.self.inside.tree _ c.self.inside.sessions c.args.self.now c.args.ono.0 (ToFailing c.args.failing) c.self.view_is c.set_failing.ensures.tree

missing_in : (o : Option Object) (truth : Bool) →
    front_fault_in o (asked.SetEnabled truth) ≡ cond (is_none (option_map (λ (x : Object). x.failing) o)) (Some faults.NoObject) None
missing_in None truth = refl
missing_in (Some o) truth = refl

missing : (tree : List Object) (number : ℕ) (truth : Bool) →
    front_fault tree number (asked.SetEnabled truth) ≡ cond (is_none (failing_at tree number)) (Some faults.NoObject) None
unfolding front_fault
missing tree number truth = missing_in (object_of tree number) truth

pub returns-clause-missing : goal.returns-clause-missing
returns-clause-missing g c =
    c.set_failing.ensures.fault ∙ missing c.self.inside.tree c.args.ono.0 c.args.failing
    ∙ ap (λ (t : List Object). cond (is_none (failing_at t c.args.ono.0)) (Some faults.NoObject) None) (ap (λ (d : DeviceState). d.tree) c.self.view_is)

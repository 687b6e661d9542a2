-- A device understands a set request as setting its value.
use Rattle.oca_tree.proofs.Words.{◌≡◌, refl, ap, ◌∙◌, Some, Known, access, class_of_value, kind_at, command_for}
use Rattle.oca_types.specs.Methods.{method_kind}
use Rattle.oca_model.specs.declared.request.Request.TheVariants as asked
use Rattle.oca_model.specs.Requests.{parameters_of}
use Rattle.oca_model.specs.Values.{set_method}
use Rattle.oca_model.proofs.Understood.{requests_understood}
use Rattle.oca_tree.specs.SetRequests.{IsUnderstood}

pub is_understood : IsUnderstood
unfolding parameters_of
is_understood v request handle target o fits sets e =
    let c = command_for handle target request in
    let known : kind_at (Some o) c ≡ Known (set_method v) (access (set_method v)) = ap (λ k. method_kind k request.method) e ∙ sets.method in
    rw (known, e, sets.count, sets.params) (requests_understood (class_of_value v) (asked.Set v) (set_method v) fits (refl, refl))

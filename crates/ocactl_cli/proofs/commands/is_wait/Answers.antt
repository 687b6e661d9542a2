use Rattle.std.proofs.Common.{sym, ap, ◌∙◌, ℕ, List, ◌∷◌, Option}
use Rattle.std.specs.Option.{option_copied}
use Rattle.oca_script.specs.Fields.{fields_after}
use Rattle.ocactl_replay.proofs.FieldLemmas.{after-some}
use Rattle.ocactl_cli.specs.Requests.{is_wait}
use Rattle.ocactl_cli.proofs.commands.is_wait.Goals as goal

-- one field and more are not the one field `wait`
pub returns-in-Some : goal.returns-in-Some
returns-in-Some c =
    let some = after-some (option_copied c.first_field.result.1) _ (ap option_copied c.in-Some.is) in
    sym (ap is_wait (c.first_field.ensures.value ∙ ap (λ (fs : List (List ℕ)). c.first_field.result.0.now ∷ fs) some.are))

-- one field is `wait` where it is that word
pub returns-in-None : goal.returns-in-None
returns-in-None c =
    c.says_wait.ensures
    ∙ sym (ap is_wait (c.first_field.ensures.value ∙ ap (λ (q : Option (List ℕ)). c.first_field.result.0.now ∷ fields_after q) (ap option_copied c.in-None.is)))

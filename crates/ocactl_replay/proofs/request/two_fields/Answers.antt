use Rattle.std.proofs.Common.{ap}
use Rattle.std.specs.Option.{option_copied}
use Rattle.ocactl_replay.proofs.FieldLemmas.{after-is, more_than_two}
use Rattle.ocactl_replay.proofs.request.two_fields.Goals as goal

pub returns-in-Some-clause-value : goal.returns-in-Some-clause-value
returns-in-Some-clause-value c =
    more_than_two (option_copied c.args.rest) (option_copied c.first_field.result.1) (option_copied c.first_field-2.result.1) _ _ _
    (after-is (option_copied c.args.rest) (option_copied c.first_field.result.1) c.in_ok-rest.field-0.now c.first_field.result.0.now (ap option_copied c.in_ok-rest.was) c.first_field.ensures.value)
    (after-is (option_copied c.first_field.result.1) (option_copied c.first_field-2.result.1) c.in_ok-rest-2.field-0.now c.first_field-2.result.0.now (ap option_copied c.in_ok-rest-2.was) c.first_field-2.ensures.value)
    (ap option_copied c.in-Some.is)

use Rattle.std.proofs.Common.{ap}
use Rattle.std.specs.Option.{option_copied}
use Rattle.ocadev_replay.proofs.RequestLemmas.{request-of_four}
use Rattle.ocadev_replay.proofs.request.fields_of.Goals as goal

pub returns-in-Some-rest-2-clause-value : goal.returns-in-Some-rest-2-clause-value
returns-in-Some-rest-2-clause-value c =
    request-of_four c.args.line.now c.first_field.result.0.now c.first_field-2.result.0.now c.first_field-3.result.0.now
    (option_copied c.first_field.result.1) (option_copied c.first_field-2.result.1) (option_copied c.first_field-3.result.1)
    c.in-Some.rest.now c.in-Some-rest.rest.now c.in-Some-rest-2.field-0.now
    c.first_field.ensures.value (ap option_copied c.in-Some.is)
    c.first_field-2.ensures.value (ap option_copied c.in-Some-rest.is)
    c.first_field-3.ensures.value (ap option_copied c.in-Some-rest-2.is)

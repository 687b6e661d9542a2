use Rattle.std.proofs.Common.{ap}
use Rattle.std.specs.Option.{option_copied}
use Rattle.ocactl_replay.proofs.FieldLemmas.{after-is, more_than_one}
use Rattle.ocactl_replay.proofs.request.one_field.Goals as goal

pub returns-in-Some : goal.returns-in-Some
returns-in-Some c =
    more_than_one (option_copied c.args.rest) (option_copied c.first_field.result.1) _ _
    (after-is (option_copied c.args.rest) (option_copied c.first_field.result.1) c.in_ok-rest.field-0.now c.first_field.result.0.now (ap option_copied c.in_ok-rest.was) c.first_field.ensures.value)
    (ap option_copied c.in-Some.is)

use Rattle.std.proofs.Common.{ap}
use Rattle.std.specs.Option.{option_copied}
use Rattle.ocactl_replay.proofs.FieldLemmas.{more_than_none}
use Rattle.ocactl_replay.proofs.request.parse_due.Goals as goal

pub returns-in-Some : goal.returns-in-Some
returns-in-Some c = more_than_none c.args.now.now (option_copied c.args.rest) _ (ap option_copied c.in-Some.is)

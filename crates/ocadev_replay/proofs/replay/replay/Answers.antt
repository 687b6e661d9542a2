use Rattle.ocadev_replay.proofs.ServeLemmas.{outcome-of, known-of}
use Rattle.ocadev_replay.proofs.replay.replay.Goals as goal

pub returns-clause-known : goal.returns-clause-known
returns-clause-known g c = λ w tree events at_old. known-of w tree events _ _ _ _ _ _ at_old c.serve_lines.ensures.known

pub returns-clause-reads : goal.returns-clause-reads
returns-clause-reads g c = λ w tree events at_old. outcome-of w tree events _ _ _ _ _ _ _ at_old c.serve_lines.ensures.reads

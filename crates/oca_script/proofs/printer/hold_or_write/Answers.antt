use Rattle.oca_script.proofs.PrintLemmas.{prints-past}
use Rattle.oca_script.proofs.printer.hold_or_write.Goals as goal

pub returns : goal.returns
returns g c = prints-past _ _ _ _ _ _ _ _ c.in_ok-write_held.ensures.empty c.in_ok-write_held.ensures.prints c.write_bytes.ensures

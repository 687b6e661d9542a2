use Rattle.std.proofs.Common.{ap, arith, length, length-append}
use Rattle.hex.specs.Hex.{encode_lower}
use Rattle.oca_script.proofs.TextLemmas.{length-encode_lower}
use Rattle.oca_script.proofs.printer.put_digits.Goals as goal

pub returns-clause-len : goal.returns-clause-len
returns-clause-len c =
    let e = ap length c.put_digits.ensures in
    omega (arith, e, length-append c.args.held.now (encode_lower c.args.bytes.now), length-encode_lower c.args.bytes.now)

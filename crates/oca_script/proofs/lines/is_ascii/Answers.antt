use Rattle.oca_script.proofs.SearchLemmas.{ascii-told}
use Rattle.oca_script.proofs.lines.is_ascii.Goals as goal

pub returns : goal.returns
returns c = ascii-told c.args.bytes.now c.is_ascii.result c.is_ascii.ensures.cases

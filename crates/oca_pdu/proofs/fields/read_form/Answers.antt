use Rattle.oca_pdu.proofs.Walking.{seconds_of, is_four, millis_of}
use Rattle.oca_pdu.proofs.fields.read_form.Goals as goal

pub u32_in-requires : goal.u32_in-requires
u32_in-requires c = is_four c.args.bytes.now c.if-bytes-eq2.false c.requires

pub returns-then-bytes-eq2 : goal.returns-then-bytes-eq2
returns-then-bytes-eq2 c = seconds_of c.args.bytes.now c.u16_in.result c.if-bytes-eq2.true c.u16_in.ensures

pub returns-else-bytes-eq2 : goal.returns-else-bytes-eq2
returns-else-bytes-eq2 c = millis_of c.args.bytes.now c.u32_in.result (is_four c.args.bytes.now c.if-bytes-eq2.false c.requires) c.u32_in.ensures

use Rattle.std.proofs.Common.{arith, ap, ◌≤◌, length, length-append}
use Rattle.oca_types.specs.Peers.{fields_of}
use Rattle.oca_pdu.proofs.Adding.{adds_command, two_parts}
use Rattle.oca_pdu.proofs.writing.write_command.Goals as goal

pub returns-clause-ok : goal.returns-clause-ok
returns-clause-ok c = two_parts c.args.packet.now.items c.put.new.packet.items c.put-2.new.packet.items _ _ _ c.put.ensures c.put-2.ensures c.command_front.ensures.bytes

pub returns-clause-adds : goal.returns-clause-adds
returns-clause-adds c =
    let is = two_parts c.args.packet.now.items c.put.new.packet.items c.put-2.new.packet.items _ _ _ c.put.ensures c.put-2.ensures c.command_front.ensures.bytes in
    let short : length c.put-2.new.packet.items ≤ 1472 = omega (arith, ap length c.put-2.ensures, ap length c.put.ensures, length-append c.put.new.packet.items c.args.command.now.params.now, length-append c.args.packet.now.items c.command_front.result) in
    adds_command c.args.respond (fields_of c.args.command.now) c.args.packet.now.items c.put-2.new.packet.items c.command_front.ensures.fits is short

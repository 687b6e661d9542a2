use Rattle.std.proofs.Common.{rules}
use Rattle.oca_calls.specs.LinkRooms.{rooms_of}
use Rattle.oca_calls.proofs.Behind.{starts_behind}
use Rattle.oca_calls.proofs.starting.start.Goals as goal

pub returns-clause-starts : goal.returns-clause-starts
returns-clause-starts c =
    starts_behind c.args.handle.now.slot.inner c.put_started.new.self.slot.inner c.deref_mut.result.now c.start-answer.new.self c.number-2.result c.start-answer.result (rooms_of c.args.is_small) c.args.window c.args.peers c.args.packets
    (search rules) (search rules) c.number-2.ensures c.start-answer.ensures.starts

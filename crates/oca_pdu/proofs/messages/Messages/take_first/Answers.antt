use Rattle.std.proofs.Common.{arith, length-take}
use Rattle.oca_pdu.proofs.Walking.{messages_open, step_inside, left_inside}
use Rattle.oca_pdu.proofs.messages.Messages.take_first.Goals as goal

pub slice_bounds-u32_in-end : goal.slice_bounds-u32_in-end
slice_bounds-u32_in-end c =
    let o = messages_open c.args.self.now.kind c.args.self.now.left c.args.self.now.inside.now c.requires.some c.args.self.now.messages in
    omega (arith, o.four, length-take 4 c.args.self.now.inside.now)

pub u32_in-size-requires : goal.u32_in-size-requires
u32_in-size-requires c =
    let o = messages_open c.args.self.now.kind c.args.self.now.left c.args.self.now.inside.now c.requires.some c.args.self.now.messages in
    omega (arith, o.four, length-take 4 c.args.self.now.inside.now)

pub split_at-requires : goal.split_at-requires
split_at-requires c =
    let o = messages_open c.args.self.now.kind c.args.self.now.left c.args.self.now.inside.now c.requires.some c.args.self.now.messages in
    omega (arith, o.within, c.u32_in-size.ensures)

pub invariant_of-self : goal.invariant_of-self
invariant_of-self c =
    let o = messages_open c.args.self.now.kind c.args.self.now.left c.args.self.now.inside.now c.requires.some c.args.self.now.messages in
    record { messages = left_inside c.args.self.now.kind c.args.self.now.left c.u32_in-size.result c.args.self.now.inside.now c.split_at.result.1.now o c.u32_in-size.ensures c.split_at.ensures.back; pdus = c.args.self.now.pdus }

pub read_message-requires : goal.read_message-requires
read_message-requires c =
    let o = messages_open c.args.self.now.kind c.args.self.now.left c.args.self.now.inside.now c.requires.some c.args.self.now.messages in
    omega (arith, o.least, c.u32_in-size.ensures, c.split_at.ensures.front_len)

pub returns : goal.returns
returns c =
    let o = messages_open c.args.self.now.kind c.args.self.now.left c.args.self.now.inside.now c.requires.some c.args.self.now.messages in
    step_inside c.args.self.now.kind c.args.self.now.left c.u32_in-size.result c.args.self.now.inside.now c.split_at.result.0.now c.split_at.result.1.now _ _ o c.u32_in-size.ensures c.split_at.ensures.front c.split_at.ensures.back c.read_message.ensures

use Rattle.oca_control.proofs.Views.{gives, gives_answer, gives_packet, gives_state, view_given}
use Rattle.oca_control.proofs.table.Table.give_first.Goals as goal

pub returns-clause-answer : goal.returns-clause-answer
returns-clause-answer g c =
    let a = c.self.inside in
    let g = gives c.args.now a.low a.next c.in-Some.at c.place.result a.slots c.index-self-place.result c.may_repeat.result c.self.invariant c.in-Some.ensures c.place.ensures.value c.may_repeat.ensures c.if-not-may_repeat.false in
    rw (← c.self.view_is) (gives_answer c.args.now c.in-Some.at _ _ g)

pub returns-clause-packet : goal.returns-clause-packet
returns-clause-packet g c =
    let a = c.self.inside in
    let g = gives c.args.now a.low a.next c.in-Some.at c.place.result a.slots c.index-self-place.result c.may_repeat.result c.self.invariant c.in-Some.ensures c.place.ensures.value c.may_repeat.ensures c.if-not-may_repeat.false in
    rw (← c.self.view_is) (gives_packet c.args.now c.in-Some.at _ _ _ g c.send_due.ensures.packet)

pub returns-clause-state : goal.returns-clause-state
returns-clause-state g c =
    let a = c.self.inside in
    let g = gives c.args.now a.low a.next c.in-Some.at c.place.result a.slots c.index-self-place.result c.may_repeat.result c.self.invariant c.in-Some.ensures c.place.ensures.value c.may_repeat.ensures c.if-not-may_repeat.false in
    rw (← c.self.view_is) (gives_state c.args.now a.next c.in-Some.at _ _ _ g
    (view_given c.args.now a.low a.next c.in-Some.at c.place.result a.slots c.index-self-place.result c.send_due.new.self c.self.invariant c.in-Some.ensures c.place.ensures.value c.send_due.ensures.slot))

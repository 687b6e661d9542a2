use Rattle.oca_device.proofs.Words.{ℕ, ◌+◌, refl, ap, ◌∙◌, arith, Report}
use Rattle.oca_net.proofs.Running.{received_more}
use Rattle.oca_device.proofs.Keepings.{in_none, in_more, in_closed, room_none}
use Rattle.oca_device.proofs.keeping.take_in.Goals as goal

pub loop-turn-init : goal.loop-turn-init
loop-turn-init g c = record {
  taken = in_none c.args.device.now (g.E.End.state c.args.end.now) (g.L.Electronics.state c.args.electronics.now) c.args.keeping.now _ c.nothing.ensures;
  store = refl;
  turns = refl;
  same = ap (λ (r : Report). r.turns) c.nothing.ensures;
  open_yet = refl;
  empty = c.requires.outbox;
  receives = λ _. omega arith;
  room = room_none _ c.requires.none;
}

pub loop-turn-preserved : goal.loop-turn-preserved
loop-turn-preserved g c =
    let inv = c.loop-turn.invariant in
    record {
      taken = in_more inv.taken c.in-Some.ensures.turn c.more-taken.ensures.due c.more-taken.ensures.report;
      store = c.in-Some.ensures.store ∙ inv.store;
      turns = c.more-taken.ensures.turns ∙ ap (λ (n : ℕ). n + 1) inv.turns;
      same = c.more-taken.ensures.same inv.same c.in-Some.ensures.one;
      open_yet = c.more-taken.ensures.closed ∙ inv.open_yet;
      empty = c.in-Some.ensures.outbox;
      receives = received_more _ _ _ c.loop-turn._turn _ inv.receives c.in-Some.ensures.receives refl;
      room = c.goes_on.ensures c.if-not-goes_on.false;
    }

pub returns-then-not-goes_on-clause-taken : goal.returns-then-not-goes_on-clause-taken
returns-then-not-goes_on-clause-taken g c =
    in_more c.loop-turn.invariant.taken c.in-Some.ensures.turn c.more-taken.ensures.due c.more-taken.ensures.report

pub returns-in-None-clause-taken : goal.returns-in-None-clause-taken
returns-in-None-clause-taken g c = in_closed c.loop-turn.invariant.taken c.in-None.ensures.turn refl refl

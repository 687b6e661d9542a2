use Rattle.oca_device.proofs.Words.{rules, ℕ, ◌≡◌, List, ◌∷◌, length, refl, ◌∙◌, sym, ap, arith, subst, AllByRecursion, Msg, IsShort, all_commands, messages_left, counts}
use Rattle.oca_device.proofs.Steps.{IsHalfway, one_further, none_served, all_served}
use Rattle.oca_device.proofs.device.DeviceOf.serve_messages.Goals as goal

first_short : (most : ℕ) (xs ys : List Msg) (m : Msg) → xs ≡ m ∷ ys → AllByRecursion (IsShort most) xs → IsShort most m × AllByRecursion (IsShort most) ys
first_short most xs ys m e h = subst (λ (zs : List Msg). AllByRecursion (IsShort most) zs) e h

pub loop-message-init : goal.loop-message-init
loop-message-init g c =
    let same : c.into_iter-message-iterator.result ≡ c.args.messages = first_of (assumption (c.into_iter-message-iterator.ensures.into_iter_gives), cc, search rules) in
    let left : messages_left c.into_iter-message-iterator.result ≡ messages_left c.args.messages = ap messages_left same in
    record {
      known = c.requires.known;
      room = refl;
      groups = c.requires.groups;
      short = subst (λ (xs : List Msg). AllByRecursion (IsShort g.row.COMMAND) xs) (sym left) c.requires.short;
      few = omega (arith, c.requires.few, ap all_commands left);
      within = omega (arith, ap length c.requires.none);
      counted = omega (arith, ap length c.requires.unserved);
      served = λ w s h now.
          subst (λ (xs : List Msg). IsHalfway g.row.ANSWER w c.args.from c.args.self.now xs (messages_left c.args.messages) s c.args.outbox.now c.args.outbox.now (counts 0 0 0 0)) (sym left)
          (none_served g.row.ANSWER w c.args.from c.args.self.now (messages_left c.args.messages) s c.args.outbox.now h now c.requires.none c.requires.unserved);
    }

pub serve-requires : goal.serve-requires
serve-requires g c =
    let inv = c.loop-message.invariant in
    let step = c.in-Some.ensures.steps in
    (omega arith, (inv.known, (inv.groups, ((first_short _ _ _ _ step inv.short).0, (omega (arith, inv.few, ap all_commands step), (inv.within, inv.counted))))))

pub returns-clause-serves : goal.returns-clause-serves
returns-clause-serves g c = λ w s h now. all_served g.row.ANSWER w c.args.from c.loop-message.self _ _ s c.args.outbox.now c.loop-message.outbox c.loop-message.counts c.in-None.ensures.steps.0 (c.loop-message.invariant.served w s h now)

pub loop-message-preserved : goal.loop-message-preserved
loop-message-preserved g c =
    let inv = c.loop-message.invariant in
    let step = c.in-Some.ensures.steps in
    let commands = ap all_commands step in
    record {
      known = c.serve.ensures.known;
      room = c.serve.ensures.room ∙ inv.room;
      groups = c.serve.ensures.groups;
      short = (first_short _ _ _ _ step inv.short).1;
      few = omega (arith, inv.few, c.serve.ensures.few, commands);
      within = c.serve.ensures.within;
      counted = c.serve.ensures.counted;
      served = λ w s h now.
          let before = inv.served w s h now in
          one_further g.row.ANSWER w c.args.from c.loop-message.self c.serve.new.self _ _ _ _ s _ _ _ _ _ before step inv.known
          (c.serve.ensures.serves w before.mid before.device before.now);
    }

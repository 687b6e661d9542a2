use Rattle.std.proofs.Common.{sym, ap, ◌∙◌, subst, arith, length-append, length, ◌+◌}
use Rattle.std.specs.Prelude.{All}
use Rattle.oca_session.specs.Sound.{IsSession}
use Rattle.std.proofs.lemmas.List.Elements.{All-push}
use Rattle.oca_session.proofs.Tables.{opened_sound}
use Rattle.oca_session.proofs.sessions.spare_slots.Goals as goal

pub loop-i-preserved : goal.loop-i-preserved
loop-i-preserved g c =
    let inv = c.loop-i.invariant in
    let here : IsSession c.args.window c.in_ok-spare.field-0 = subst (IsSession c.args.window) (sym c.in_ok-spare.ensures) (opened_sound c.args.window _ 0) in (
      ap length c.push_reserved.ensures.items ∙ length-append c.loop-i.slots.items _ ∙ ap (λ n. n + 1) inv.0,
      omega (arith, inv.1, c.push_reserved.ensures.capacity),
      subst (All (IsSession c.args.window)) (sym c.push_reserved.ensures.items) (All-push (IsSession c.args.window) c.loop-i.slots.items c.in_ok-spare.field-0 inv.2 here),
    )

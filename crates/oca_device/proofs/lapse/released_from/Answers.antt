use Rattle.oca_device.proofs.Words.{◌≡◌, ◌<◌, length, sym, ◌∙◌, arith, lock_count, lapses, releases}
use Rattle.std.proofs.Common.{take}
use Rattle.oca_device.proofs.Lapses.{releases_none, lock_there, no_lock_there}
use Rattle.oca_device.proofs.lapse.released_from.Goals as goal
use Rattle.oca_device.proofs.lapse.released_from.Goals.{in-Some, in_default}

pub returns-then-lock_count-eq0 : goal.returns-then-lock_count-eq0
returns-then-lock_count-eq0 g c =
    let none : lock_count c.args.tree.now ≡ 0 = omega (arith, c.lock_count.ensures, c.if-lock_count-eq0.true) in
    λ t below. releases_none c.args.tree.now c.args.sessions.now.sessions t none

pub loop-at-preserved : goal.loop-at-preserved
loop-at-preserved g c =
    let tree = c.args.tree.now in
    let ss = c.args.sessions.now.sessions in
    let i = c.loop-at.at in
    let within : i < length tree = omega (arith, c.loop-at-test.true, c.len-at-end.ensures.len) in
    elim c.match-lock_at.branch [
      | in-Some w ↦ rw (w.first-is) (lock_there tree ss i w.in-Some.lock _ within (sym w.in-Some.is ∙ c.lock_at.ensures)
          (w.sooner-first.ensures (releases (take i tree) ss) (lapses w.in-Some.lock.holder ss) c.loop-at.invariant w.lapsed_from.ensures))
      | in_default w ↦ rw (w.first-is) (no_lock_there tree ss i _ within (sym w.in_default.is ∙ c.lock_at.ensures) c.loop-at.invariant)
    ]

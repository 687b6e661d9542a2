use Rattle.std.proofs.Common.{ap, refl, ◌∙◌, arith}
use Rattle.std.proofs.Math.ListN.{length-set}
use Rattle.oca_types.specs.Sizes.{sizes_of}
use Rattle.oca_session.specs.Table.{Table, with_heartbeat, peers_of}
use Rattle.oca_session.proofs.Tables.{changed_in, one_in, sound_in, heartbeat_sound, peers_of-changed, known_same, quiet_in}
use Rattle.oca_session.proofs.sessions.SessionsOf.beat.Goals as goal

pub invariant_of-self : goal.invariant_of-self
invariant_of-self g c =
    let a = c.self.inside in
    let at = c.index_of_known-at in
    let f = with_heartbeat c.args.ms in (
      c.self.invariant.0,
      length-set a.slots.items at.result _ ∙ c.self.invariant.1,
      sound_in a.sizes.window.size c.args.peer f (heartbeat_sound a.sizes.window.size c.args.ms) a.slots.items c.self.inside.slots.items a.count at.result _ _
          c.self.invariant.2 refl (rw (← c.self.view_is) at at.ensures.place) c.index_mut-slot.ensures.value c.set_heartbeat.ensures,
      one_in c.args.peer f (λ s. refl) a.slots.items c.self.inside.slots.items a.count at.result _ _
          c.self.invariant.3 refl (rw (← c.self.view_is) at at.ensures.place) c.index_mut-slot.ensures.value c.set_heartbeat.ensures,
      quiet_in a.quiet_until c.min-self-inside.result a.slots.items a.count at.result _ c.self.invariant.4 (omega arith) (omega (arith, c.quiet_until.ensures)),
      c.self.invariant.5,
      c.self.invariant.6,
      c.self.invariant.7,
    )

pub returns-clause-heartbeat : goal.returns-clause-heartbeat
returns-clause-heartbeat g c =
    let a = c.self.inside in
    let at = c.index_of_known-at in
    rw (← c.self.view_is) (ap (λ ss. let t : Table = record { sizes = sizes_of a.sizes; moment = a.moment; sessions = ss } in t)
    (changed_in c.args.peer (with_heartbeat c.args.ms) a.slots.items c.self.inside.slots.items a.count at.result _ _
    c.self.invariant.3 refl (rw (← c.self.view_is) at at.ensures.place) c.index_mut-slot.ensures.value c.set_heartbeat.ensures))

pub returns-clause-peers : goal.returns-clause-peers
returns-clause-peers g c =
    let a = c.self.inside in
    let at = c.index_of_known-at in
    rw (← c.self.view_is) (ap peers_of
    (changed_in c.args.peer (with_heartbeat c.args.ms) a.slots.items c.self.inside.slots.items a.count at.result _ _
    c.self.invariant.3 refl (rw (← c.self.view_is) at at.ensures.place) c.index_mut-slot.ensures.value c.set_heartbeat.ensures)
    ∙ peers_of-changed c.args.peer (with_heartbeat c.args.ms) (λ s. refl) _)

pub returns-clause-known : goal.returns-clause-known
returns-clause-known g c = λ p. known_same p _ c.args.self.now.sessions (returns-clause-peers g c)

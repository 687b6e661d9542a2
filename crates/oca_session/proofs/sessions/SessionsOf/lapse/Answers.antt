use Rattle.std.proofs.Common.{◌≡◌, ◌∙◌, ap, arith, sym, subst, take, false}
use Rattle.std.specs.Prelude.{All, Contains}
use Rattle.std.proofs.lemmas.List.Kept.{AllPairs-filter}
use Rattle.std.proofs.lemmas.List.Elements.{All-take}
use Rattle.oca_types.specs.Peers.{same_peer}
use Rattle.oca_session.specs.Table.{lapsed, peers_of, forgotten, stays}
use Rattle.oca_session.specs.PrivateQuiet.{IsQuietUntil}
use Rattle.oca_session.specs.Sound.{IsSession, IsOnePerPeer}
use Rattle.oca_session.proofs.Tables.{forgotten_lapsed}
use Rattle.oca_session.proofs.Quiet.{latest_is_quiet}
use Rattle.oca_session.proofs.sessions.SessionsOf.lapse.Goals as goal

pub invariant_of-self : goal.invariant_of-self
invariant_of-self g c =
    let after = c.forget-self-inside.ensures in (
      omega (arith, after.fewer),
      omega (arith, after.length, c.self.invariant.1),
      after.sound c.self.inside.sizes.window.size c.self.invariant.2,
      subst IsOnePerPeer (sym after.front)
          (AllPairs-filter (λ s t. same_peer s.peer t.peer ≡ false) (stays c.self.inside.moment) (take c.self.inside.count c.self.inside.slots.items) c.self.invariant.3),
      subst (IsQuietUntil c.quiet_until-self-inside.result) (ap (take c.forget-self-inside.result) c.deref-2.ensures.value) (latest_is_quiet c.quiet_until-self-inside.result _ c.quiet_until-self-inside.ensures),
      λ some. (omega (arith, some)),
      c.self.invariant.6,
      c.self.invariant.7,
    )

pub returns-clause-forgotten : goal.returns-clause-forgotten
returns-clause-forgotten g c =
    let a = c.self.inside in
    let ss = take a.count a.slots.items in
    let among = forgotten_lapsed a.sizes.window.size a.moment ss (All-take (IsSession a.sizes.window.size) a.count a.slots.items c.self.invariant.2) in
    let answered = c.put_lapsed.ensures ∙ ap (λ xs. lapsed a.moment (take a.count xs)) c.deref.ensures.value in
    rw (← c.self.view_is) (subst (λ qs. All (Contains qs) (peers_of (forgotten a.moment ss))) (sym answered) among)

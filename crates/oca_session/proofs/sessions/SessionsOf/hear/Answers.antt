use Rattle.std.proofs.Common.{ℕ, List, take, length, length-take, ◌≡◌, ◌+◌, ◌*◌, ◌<◌, ap, sym, ◌∙◌, subst, refl, arith, Some, None, ◌++◌, ◌∷◌, []}
use Rattle.std.specs.Prelude.{is_some, min, position}
use Rattle.std.proofs.Math.ListN.{length-set}
use Rattle.std.proofs.lemmas.List.Elements.{All-set}
use Rattle.oca_types.specs.Sizes.{sizes_of}
use Rattle.oca_session.specs.Table.{Session, Table, is_of, session_of, heard_at, with_changed, opened_session}
use Rattle.oca_session.specs.Sound.{IsSession, IsOnePerPeer}
use Rattle.oca_session.proofs.Tables.{changed_in, one_in, sound_in, heard_sound, known_by_place, known_same, peers_of-changed, none_known, opened_in, opened_sound, known-push, same_peer-self, IsOnePerPeer-push, quiet_in, quiet_push, placed_within}
use Rattle.oca_session.proofs.sessions.SessionsOf.hear.Goals as goal

pub invariant_of-self : goal.invariant_of-self
invariant_of-self g c =
    let a = c.self.inside in
    let m = c.max-self-inside.result in
    let at = c.in-Some.at in
    let f = heard_at m in
    let placed = sym c.index_of.ensures ∙ c.in-Some.is in (
      c.self.invariant.0,
      length-set a.slots.items at _ ∙ c.self.invariant.1,
      sound_in a.sizes.window.size c.args.peer f (heard_sound a.sizes.window.size m) a.slots.items c.deref.result.now a.count at _ _
          c.self.invariant.2 c.deref.ensures.value placed c.index_mut-slot.ensures.value c.note.ensures,
      one_in c.args.peer f (λ s. refl) a.slots.items c.deref.result.now a.count at _ _
          c.self.invariant.3 c.deref.ensures.value placed c.index_mut-slot.ensures.value c.note.ensures,
      quiet_in a.quiet_until c.min-self-inside.result a.slots.items a.count at _ c.self.invariant.4 (omega arith) (omega (arith, c.quiet_until.ensures)),
      λ some. placed_within c.args.peer a.slots.items c.deref.result.now a.count at c.deref.ensures.value placed,
      c.self.invariant.6,
      c.self.invariant.7,
    )

pub returns-in-Some-clause-hears : goal.returns-in-Some-clause-hears
returns-in-Some-clause-hears g c =
    let a = c.self.inside in
    let m = c.max-self-inside in
    let at = c.in-Some.at in
    let placed = sym c.index_of.ensures ∙ c.in-Some.is in
    let there : position (is_of c.args.peer) (take a.count a.slots.items) ≡ Some at = rw (← c.deref.ensures.value) placed in
    let table = λ (t : ℕ) (ss : List Session). let x : Table = record { sizes = sizes_of a.sizes; moment = t; sessions = ss } in x in
    rw (← c.self.view_is) (
      sym (known_by_place c.args.peer (take a.count a.slots.items)) ∙ ap is_some there,
      ap (table m.result) (changed_in c.args.peer (heard_at m.result) a.slots.items c.deref.result.now a.count at _ _
          c.self.invariant.3 c.deref.ensures.value placed c.index_mut-slot.ensures.value c.note.ensures)
          ∙ ap (λ (t : ℕ). table t (with_changed c.args.peer (heard_at t) (take a.count a.slots.items))) m.ensures,
    )

pub returns-in-Some-clause-known : goal.returns-in-Some-clause-known
returns-in-Some-clause-known g c =
    let a = c.self.inside in
    let m = c.max-self-inside.result in
    let at = c.in-Some.at in
    let placed = sym c.index_of.ensures ∙ c.in-Some.is in
    let there : position (is_of c.args.peer) (take a.count a.slots.items) ≡ Some at = rw (← c.deref.ensures.value) placed in
    ap (λ ss. is_some (session_of c.args.peer ss)) (changed_in c.args.peer (heard_at m) a.slots.items c.deref.result.now a.count at _ _
    c.self.invariant.3 c.deref.ensures.value placed c.index_mut-slot.ensures.value c.note.ensures)
    ∙ known_same c.args.peer _ (take a.count a.slots.items) (peers_of-changed c.args.peer (heard_at m) (λ s. refl) (take a.count a.slots.items))
    ∙ sym (known_by_place c.args.peer (take a.count a.slots.items)) ∙ ap is_some there

pub returns-then-self-len-clause-hears : goal.returns-then-self-len-clause-hears
returns-then-self-len-clause-hears g c =
    let a = c.self.inside in
    let m = c.max-self-inside in
    let ss = take a.count a.slots.items in
    let unplaced : position (is_of c.args.peer) ss ≡ None = rw (← c.deref.ensures.value) (sym c.index_of.ensures ∙ c.in_default.is) in
    let table = λ (t : ℕ). let x : Table = record { sizes = sizes_of a.sizes; moment = t; sessions = ss } in x in
    rw (← c.self.view_is) (
      none_known c.args.peer ss unplaced,
      omega (arith, length-take a.count a.slots.items, c.self.invariant.1, c.if-self-len.true),
      ap table m.ensures,
    )

pub returns-then-self-len-clause-known : goal.returns-then-self-len-clause-known
returns-then-self-len-clause-known g c =
    let a = c.self.inside in
    let unplaced : position (is_of c.args.peer) (take a.count a.slots.items) ≡ None = rw (← c.deref.ensures.value) (sym c.index_of.ensures ∙ c.in_default.is) in
    none_known c.args.peer (take a.count a.slots.items) unplaced

pub invariant_of-self-2 : goal.invariant_of-self-2
invariant_of-self-2 g c =
    let a = c.self.inside in
    let m = c.max-self-inside.result in
    let ss = take a.count a.slots.items in
    let unplaced : position (is_of c.args.peer) ss ≡ None = rw (← c.deref.ensures.value) (sym c.index_of.ensures ∙ c.in_default.is) in
    let free : a.count < a.sizes.peers.count = omega (arith, c.self.invariant.0, c.self.invariant.1, c.if-self-len.false) in
    let below : a.count < length a.slots.items = omega (arith, c.self.invariant.1) in
    let last = opened_in c.args.peer a.sizes.window.size m a.slots.items a.count _ _ below c.self.invariant.2 c.index_mut-slot-2.ensures.value c.open.ensures in
    let before : IsSession a.sizes.window.size c.index_mut-slot-2.result.now =
    subst (IsSession a.sizes.window.size) (sym c.index_mut-slot-2.ensures.value) (c.self.invariant.2 a.count c.index_mut-slot-2.result.now below) in
    let new : c.open.new.self ≡ opened_session a.sizes.window.size c.args.peer m = c.open.ensures ∙ ap (λ n. opened_session n c.args.peer m) before.size in
    let latest : c.quiet_until-2.result ≡ min (m + 3 * 5000) 18446744073709551615 = rw new at c.quiet_until-2.ensures in (
      omega arith,
      length-set a.slots.items a.count _ ∙ c.self.invariant.1,
      All-set (IsSession a.sizes.window.size) a.slots.items a.count _ (subst (IsSession a.sizes.window.size) (sym new) (opened_sound a.sizes.window.size c.args.peer m)) c.self.invariant.2,
      subst IsOnePerPeer (sym last) (IsOnePerPeer-push ss (opened_session a.sizes.window.size c.args.peer m) (none_known c.args.peer ss unplaced) c.self.invariant.3),
      quiet_push a.quiet_until c.min-self-inside-2.result ss _ (opened_session a.sizes.window.size c.args.peer m) last c.self.invariant.4 (omega arith) (omega (arith, latest)),
      λ some. omega arith,
      c.self.invariant.6,
      c.self.invariant.7,
    )

pub returns-clause-hears : goal.returns-clause-hears
returns-clause-hears g c =
    let a = c.self.inside in
    let m = c.max-self-inside in
    let ss = take a.count a.slots.items in
    let unplaced : position (is_of c.args.peer) ss ≡ None = rw (← c.deref.ensures.value) (sym c.index_of.ensures ∙ c.in_default.is) in
    let free : a.count < a.sizes.peers.count = omega (arith, c.self.invariant.0, c.self.invariant.1, c.if-self-len.false) in
    let below : a.count < length a.slots.items = omega (arith, c.self.invariant.1) in
    let last = opened_in c.args.peer a.sizes.window.size m.result a.slots.items a.count _ _ below c.self.invariant.2 c.index_mut-slot-2.ensures.value c.open.ensures in
    let table = λ (t : ℕ) (ts : List Session). let x : Table = record { sizes = sizes_of a.sizes; moment = t; sessions = ts } in x in
    rw (← c.self.view_is) (
      none_known c.args.peer ss unplaced,
      omega (arith, length-take a.count a.slots.items),
      ap (table m.result) last ∙ ap (λ (t : ℕ). table t (ss ++ opened_session a.sizes.window.size c.args.peer t ∷ [])) m.ensures,
    )

pub returns-clause-known : goal.returns-clause-known
returns-clause-known g c =
    let a = c.self.inside in
    let m = c.max-self-inside.result in
    let below : a.count < length a.slots.items = omega (arith, c.self.invariant.0, c.self.invariant.1, c.if-self-len.false) in
    let last = opened_in c.args.peer a.sizes.window.size m a.slots.items a.count _ _ below c.self.invariant.2 c.index_mut-slot-2.ensures.value c.open.ensures in
    ap (λ ss. is_some (session_of c.args.peer ss)) last
    ∙ known-push c.args.peer (take a.count a.slots.items) (opened_session a.sizes.window.size c.args.peer m) (same_peer-self c.args.peer)

use Rattle.std.proofs.Common.{ℕ, List, ◌∙◌, ap, sym, subst, take}
use Rattle.std.specs.Prelude.{All, Contains}
use Rattle.std.proofs.lemmas.List.Elements.{All-take}
use Rattle.oca_types.specs.Sizes.{sizes_of}
use Rattle.oca_session.specs.Table.{Session, Table, lapsed, peers_of, forgotten, staying}
use Rattle.oca_session.specs.Sound.{IsSession}
use Rattle.oca_session.proofs.Tables.{forgotten_lapsed, quiet_lapsed, quiet_staying}
use Rattle.oca_session.proofs.sessions.SessionsOf.advance_into.Goals as goal

pub returns-then-self-clause-forgotten : goal.returns-then-self-clause-forgotten
returns-then-self-clause-forgotten g c =
    let a = c.self.inside in
    rw (← c.self.view_is) (subst (λ t. All (Contains c.lapse.new.peers.items) (peers_of (forgotten t (take a.count a.slots.items)))) c.max-self-inside.ensures c.lapse.ensures.forgotten)

pub returns-clause-lapsed : goal.returns-clause-lapsed
returns-clause-lapsed g c =
    let a = c.self.inside in
    let m = c.max-self-inside in
    let ss = take a.count a.slots.items in
    rw (← c.self.view_is) (c.empty.ensures ∙ sym (quiet_lapsed a.quiet_until m.result ss c.self.invariant.4 c.if-self.false) ∙ ap (λ t. lapsed t ss) m.ensures)

pub returns-clause-staying : goal.returns-clause-staying
returns-clause-staying g c =
    let a = c.self.inside in
    let m = c.max-self-inside in
    let ss = take a.count a.slots.items in
    let table = λ (t : ℕ) (ts : List Session). let x : Table = record { sizes = sizes_of a.sizes; moment = t; sessions = ts } in x in
    let stay = quiet_staying a.sizes.window.size a.quiet_until m.result ss (All-take (IsSession a.sizes.window.size) a.count a.slots.items c.self.invariant.2) c.self.invariant.4 c.if-self.false in
    rw (← c.self.view_is) (ap (table m.result) (sym stay) ∙ ap (λ (t : ℕ). table t (staying t ss)) m.ensures)

pub returns-clause-forgotten : goal.returns-clause-forgotten
returns-clause-forgotten g c =
    let a = c.self.inside in
    let m = c.max-self-inside in
    let ss = take a.count a.slots.items in
    let among = forgotten_lapsed a.sizes.window.size m.result ss (All-take (IsSession a.sizes.window.size) a.count a.slots.items c.self.invariant.2) in
    let answered = c.empty.ensures ∙ sym (quiet_lapsed a.quiet_until m.result ss c.self.invariant.4 c.if-self.false) in
    rw (← c.self.view_is)
    (subst (λ t. All (Contains c.empty.new.peers.items) (peers_of (forgotten t ss))) m.ensures
    (subst (λ qs. All (Contains qs) (peers_of (forgotten m.result ss))) (sym answered) among))

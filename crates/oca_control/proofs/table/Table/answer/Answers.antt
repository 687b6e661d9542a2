use Rattle.oca_control.proofs.Words.{ap, ◌∙◌, sym, set-get_or}
use Rattle.oca_control.proofs.Views.{waits_out, waits_in, none_answered, view_answered, table, view}
use Rattle.oca_control.proofs.table.Table.answer.Goals as goal

pub returns-clause-new : goal.returns-clause-new
returns-clause-new g c =
    let a = c.self.inside in
    rw (← c.self.view_is) (waits_in a.low a.next c.args.handle.0 _ a.slots c.index-self-at.result _ c.self.invariant c.in-Some.ensures (sym c.if-not-waits.false ∙ c.waits.ensures))

pub returns-clause-state : goal.returns-clause-state
returns-clause-state g c =
    let a = c.self.inside in
    rw (← c.self.view_is) (view_answered a.low a.next c.args.handle.0 _ a.slots c.index-self-at.result c.store.new.self _ c.self.invariant c.in-Some.ensures (sym c.waits.ensures ∙ c.if-not-waits.false) c.store.ensures)

pub returns-in_default-clause-new : goal.returns-in_default-clause-new
returns-in_default-clause-new g c =
    let a = c.self.inside in
    rw (← c.self.view_is) (sym (waits_out a.low a.next c.args.handle.0 a.slots c.in_default.ensures))

pub returns-in_default-clause-state : goal.returns-in_default-clause-state
returns-in_default-clause-state g c =
    let a = c.self.inside in
    rw (← c.self.view_is) (ap (table a.next) (sym (none_answered c.args.handle.0 _ _ (waits_out a.low a.next c.args.handle.0 a.slots c.in_default.ensures))))

pub returns-then-not-waits-clause-new : goal.returns-then-not-waits-clause-new
returns-then-not-waits-clause-new g c =
    let a = c.self.inside in
    rw (← c.self.view_is) (waits_in a.low a.next c.args.handle.0 _ a.slots c.index-self-at.result _ c.self.invariant c.in-Some.ensures (sym c.if-not-waits.true ∙ c.waits.ensures))

pub returns-then-not-waits-clause-state : goal.returns-then-not-waits-clause-state
returns-then-not-waits-clause-state g c =
    let a = c.self.inside in
    rw (← c.self.view_is) (ap (view a.low a.next) (set-get_or a.slots c.in-Some.at c.index-self-at.result)
    ∙ ap (table a.next) (sym (none_answered c.args.handle.0 _ _ (sym (waits_in a.low a.next c.args.handle.0 _ a.slots c.index-self-at.result _ c.self.invariant c.in-Some.ensures (sym c.if-not-waits.true ∙ c.waits.ensures))))))

use Rattle.oca_control.proofs.Words.{◌≡◌, ◌<◌, ◌-◌, true, ap, ◌∙◌, span_has_room, TableState}
use Rattle.oca_control.specs.PrivateSlots.{untaken_from}
use Rattle.oca_control.proofs.Tables.{room_near, table_put}
use Rattle.oca_control.proofs.Views.{view_put}
use Rattle.oca_control.proofs.table.Table.submit.Goals as goal

pub invariant_of-self : goal.invariant_of-self
invariant_of-self g c =
    let a = c.self.inside in
    let room : span_has_room 32 a.next (untaken_from a.low (a.next - a.low) a.slots) ≡ true = ap (λ (t : TableState). span_has_room 32 t.next t.untaken) c.self.view_is ∙ c.requires.room in
    let left : a.next < 4294967296 = rw (← (ap (λ (t : TableState). t.next) c.self.view_is)) at c.requires.left in
    rw (c.place.ensures.value, c.put.ensures) (table_put a.low a.next a.slots _ c.self.invariant left (room_near a.low a.next a.slots c.self.invariant room))

pub returns : goal.returns
returns g c =
    let a = c.self.inside in
    let room : span_has_room 32 a.next (untaken_from a.low (a.next - a.low) a.slots) ≡ true = ap (λ (t : TableState). span_has_room 32 t.next t.untaken) c.self.view_is ∙ c.requires.room in
    rw (← c.self.view_is) (view_put a.low a.next c.place.result c.args.now a.slots _ c.put.new.self c.self.invariant (room_near a.low a.next a.slots c.self.invariant room) c.place.ensures.value c.put.ensures)

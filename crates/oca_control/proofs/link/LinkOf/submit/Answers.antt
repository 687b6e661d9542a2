use Rattle.oca_control.proofs.Words.{rules, ◌∙◌, sym}
use Rattle.oca_control.proofs.Receiving.{room_in_all}
use Rattle.oca_control.proofs.link.LinkOf.submit.Goals as goal

pub submit-requires : goal.submit-requires
submit-requires g c =
    (search rules, (search rules, (room_in_all c.get.result _ _ c.get.ensures.most (sym c.has_room.ensures.room ∙ c.if-not-has_room.false), search rules)))

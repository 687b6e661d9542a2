use Rattle.oca_device.proofs.Words.{◌≤◌, Bool, cond, ◌∙◌, sym, subst, present, Admitted, DeviceState, IsIn, noted, numbers_of}
use Rattle.oca_device.proofs.Opened.{device_with, parts_in}
use Rattle.oca_device.proofs.Steps.{hears_known, hears_opened, hears_no_room, present_is}
use Rattle.oca_device.proofs.device.DeviceOf.admit.Goals as goal
use Rattle.oca_device.proofs.device.DeviceOf.admit.Goals.{in-NoRoom, in-Known, in-Opened}

pub returns-clause-admits : goal.returns-clause-admits
returns-clause-admits g c = λ w s h.
    let old = c.self.inside.sessions in
    let was = parts_in c.self.inside.tree old c.args.self.now w s c.self.view_is h in
    let le = subst (λ (d : DeviceState). c.args.now ≤ d.sessions.moment) (sym c.self.view_is) c.requires in
    let now = present_is g.row.ANSWER w s old c.args.now was.sessions le in
    elim c.match-hear.branch [
      | in-NoRoom b ↦ b.result-is ∙ (hears_no_room g.row.ANSWER w s c.args.from (present old c.args.now) old c.hear.new.self was.sessions now b.in-NoRoom.ensures.hears).0
      | in-Known b ↦ b.result-is ∙ (hears_known g.row.ANSWER w s c.args.from (present old c.args.now) old c.hear.new.self was.sessions now b.in-Known.ensures.hears).0
      | in-Opened b ↦ b.result-is ∙ (hears_opened g.row.ANSWER w s c.args.from (present old c.args.now) old c.hear.new.self was.sessions now b.in-Opened.ensures.hears).0
    ]

pub returns-clause-noted : goal.returns-clause-noted
returns-clause-noted g c = λ w s ms h.
    let old = c.self.inside.sessions in
    let p = c.args.from in
    let was = parts_in c.self.inside.tree old c.args.self.now w s c.self.view_is h in
    let le = subst (λ (d : DeviceState). c.args.now ≤ d.sessions.moment) (sym c.self.view_is) c.requires in
    let now = present_is g.row.ANSWER w s old c.args.now was.sessions le in
    let After : Bool → Type 0 = λ b. IsIn g.row.ANSWER w (device_with c.self.inside.tree c.hear.new.self (numbers_of c.self.inside.written.items) c.self.inside.effects) (cond b (noted p (Admitted ms) s) s) in
    elim c.match-hear.branch [
      | in-NoRoom b ↦ subst After (sym b.result-is) (record { tree = was.tree; sessions = (hears_no_room g.row.ANSWER w s p (present old c.args.now) old c.hear.new.self was.sessions now b.in-NoRoom.ensures.hears).1 })
      | in-Known b ↦ subst After (sym b.result-is) (record { tree = was.tree; sessions = (hears_known g.row.ANSWER w s p (present old c.args.now) old c.hear.new.self was.sessions now b.in-Known.ensures.hears).1 ms })
      | in-Opened b ↦ subst After (sym b.result-is) (record { tree = was.tree; sessions = (hears_opened g.row.ANSWER w s p (present old c.args.now) old c.hear.new.self was.sessions now b.in-Opened.ensures.hears).1 ms })
    ]

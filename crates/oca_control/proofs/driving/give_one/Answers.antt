use Rattle.oca_control.proofs.Words.{ap, ◌∙◌, sym, refl, true, DriveReport, decision}
use Rattle.oca_control.proofs.Turns.{sends, keeps_alive, gives_nothing, gives_lost, gave_out, gave_nothing}
use Rattle.oca_control.proofs.driving.give_one.Goals as goal

pub returns-in-Send-clause-gives : goal.returns-in-Send-clause-gives
returns-in-Send-clause-gives g c =
    let gives = sends c.device-device.result (decision c.args.now c.args.link.now) c.due.result c.due.ensures.answer c.in-Send.field-0.0 c.in-Send.is in
    gave_out _ c.due.ensures.link c.device-device.ensures c.due.ensures.packet
    (gives.0, gives.1, ap (λ (q : DriveReport). let r : DriveReport = record q { sent = 1; failed_sends = c.send.result } in r) c.nothing.ensures ∙ sym (gives.2 c.send.result)) refl c.send.ensures.sends

pub returns-in-KeepAlive-clause-gives : goal.returns-in-KeepAlive-clause-gives
returns-in-KeepAlive-clause-gives g c =
    let gives = keeps_alive c.device-device.result (decision c.args.now c.args.link.now) c.due.result c.due.ensures.answer c.in-KeepAlive.is in
    gave_out _ c.due.ensures.link c.device-device.ensures c.due.ensures.packet
    (gives.0, gives.1, ap (λ (q : DriveReport). let r : DriveReport = record q { keep_alives = 1; failed_sends = c.send-in-KeepAlive.result } in r) c.nothing-in-KeepAlive.ensures ∙ sym (gives.2 c.send-in-KeepAlive.result)) refl c.send-in-KeepAlive.ensures.sends

pub returns-in-Nothing-clause-gives : goal.returns-in-Nothing-clause-gives
returns-in-Nothing-clause-gives g c =
    let gives = gives_nothing c.args.link.now.device (decision c.args.now c.args.link.now) c.due.result c.due.ensures.answer c.in-Nothing.is in
    gave_nothing _ _ c.due.ensures.link (gives.0, gives.1, c.nothing-in-Nothing.ensures ∙ gives.2)

pub returns-in-Lost-clause-gives : goal.returns-in-Lost-clause-gives
returns-in-Lost-clause-gives g c =
    let gives = gives_lost c.args.link.now.device (decision c.args.now c.args.link.now) c.due.result c.due.ensures.answer c.in-Lost.is in
    gave_nothing _ _ c.due.ensures.link (gives.0, gives.1, ap (λ (q : DriveReport). let r : DriveReport = record q { lost = true } in r) c.nothing-in-Lost.ensures ∙ gives.2)

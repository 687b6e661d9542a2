use Rattle.oca_device.proofs.Words.{ℕ, length, arith, ap, ◌∙◌, sym, subst, List, refl, IsSome, session_of, with_sessions, with_changed, with_heartbeat, DeviceState, time_of, append-nil, Msg}
use Rattle.oca_device.proofs.Words.{KeepAlive, with_answers, encodings, first_packets}
use Rattle.oca_device.proofs.Rooms.{kept_alive}
use Rattle.oca_device.proofs.Opened.{parts_in, written_in, effects_in}
use Rattle.oca_device.proofs.Peers.{still_has_session}
use Rattle.oca_device.proofs.Steps.{heartbeat_there, known_there, none_more}
use Rattle.oca_device.proofs.device.DeviceOf.serve.Goals as goal

pub returns-in-KeepAlive-clause-serves : goal.returns-in-KeepAlive-clause-serves
returns-in-KeepAlive-clause-serves g c = λ w s h now.
    let old = c.self.inside.sessions in
    let p = c.args.from in
    let form = c.in-KeepAlive.form in
    let was = parts_in c.self.inside.tree old c.args.self.now w s c.self.view_is h in
    let has = subst (λ (d : DeviceState). IsSome (session_of p d.sessions.sessions)) (sym c.self.view_is) c.requires.known in
    rw c.in-KeepAlive.is (record {
      device = record {
        tree = was.tree;
        sessions = heartbeat_there g.row.ANSWER w (time_of form) s p old c.beat.new.self was.sessions (known_there g.row.ANSWER w s p old was.sessions has) now
            (c.beat.ensures.heartbeat ∙ ap (λ (m : ℕ). with_sessions old (with_changed p (with_heartbeat m) old.sessions)) c.time_of.ensures);
      };
      packets = λ room groups is. c.return_keepalive.ensures.groups room groups is ∙ ap (λ (ms : List Msg). first_packets room (encodings (with_answers groups ms))) (sym (kept_alive g.row.ANSWER (KeepAlive form) refl));
      counts = none_more c.args.counts.now;
      written = written_in c.self.view_is ∙ sym (append-nil c.args.self.now.written);
      effects = effects_in c.self.view_is ∙ sym (append-nil c.args.self.now.effects);
    })

pub returns-in-KeepAlive-clause-known : goal.returns-in-KeepAlive-clause-known
returns-in-KeepAlive-clause-known g c =
    let p = c.args.from in
    let has = subst (λ (d : DeviceState). IsSome (session_of p d.sessions.sessions)) (sym c.self.view_is) c.requires.known in
    still_has_session p c.self.inside.sessions.sessions c.beat.new.self.sessions c.beat.ensures.peers has

pub returns-in-KeepAlive-clause-within : goal.returns-in-KeepAlive-clause-within
returns-in-KeepAlive-clause-within g c = omega (arith, c.requires.within, ap length (written_in c.self.view_is))

pub returns-in-KeepAlive-clause-counted : goal.returns-in-KeepAlive-clause-counted
returns-in-KeepAlive-clause-counted g c = omega (arith, c.requires.counted, ap length (effects_in c.self.view_is))

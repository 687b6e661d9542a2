use Rattle.oca_device.proofs.Words.{Bool, cond, List, [], length, ◌≤◌, arith, ◌∙◌, sym, subst, AllByRecursion, Msg, datagram_messages, messages_left, read_or_none, is_response, not, count_by, Result}
use Rattle.oca_device.proofs.Words.{Admitted, noted, packets_of, answers_to_reading, IsIn, PduFault, shortened_answers, ServesMessages, IsShort}
use Rattle.oca_device.proofs.Bounds.{most_answers, answers_counted, commands_counted, all_short, few_packets, no_packets}
use Rattle.oca_device.proofs.Steps.{refused_whole, taken_whole, admitted_now}
use Rattle.oca_device.proofs.device.DeviceOf.receive.Goals as goal

pub serve_messages-counts-requires : goal.serve_messages-counts-requires
serve_messages-counts-requires g c =
    let found = c.in-Ok.ensures.found in
    let short = subst (λ (ms : List Msg). AllByRecursion (IsShort g.row.COMMAND) ms) (sym (c.messages.ensures.all ∙ found.2)) (all_short g.row.COMMAND found.0 c.args.bytes.now found.1 c.requires.fits) in (
      omega arith,
      (
        c.admit.ensures.known c.if-admit.true,
        (
          ([], c.requires.empty),
          (
            short,
            (
              omega (arith, commands_counted (messages_left c.messages.result), c.messages.ensures.limits.commands),
              (c.admit.ensures.written ∙ c.requires.none, c.admit.ensures.effects ∙ c.requires.unserved),
            ),
          ),
        ),
      ),
    )

pub returns-else-admit-clause-takes : goal.returns-else-admit-clause-takes
returns-else-admit-clause-takes g c = λ w s h.
    let ms = datagram_messages c.in-Ok.datagram in
    let out = sym (c.admit.ensures.admits w s h) ∙ c.if-admit.false in
    let same = subst (λ (b : Bool). IsIn g.row.ANSWER w c.admit.new.self (cond b (noted c.args.from (Admitted ms) s) s)) c.if-admit.false (c.admit.ensures.noted w s ms h) in
    refused_whole g.row.ANSWER w c.admit.new.self c.args.from c.args.bytes.now ms s c.args.outbox.now.room c.args.outbox.now c.in-Ok.ensures.reads out same (c.admit.ensures.written ∙ c.requires.none) (c.admit.ensures.effects ∙ c.requires.unserved) c.requires.empty

pub returns-then-admit-clause-takes : goal.returns-then-admit-clause-takes
returns-then-admit-clause-takes g c = λ w s h.
    let p = c.args.from in
    let ms = datagram_messages c.in-Ok.datagram in
    let let_in = sym (c.admit.ensures.admits w s h) ∙ c.if-admit.true in
    let inside = subst (λ (b : Bool). IsIn g.row.ANSWER w c.admit.new.self (cond b (noted p (Admitted ms) s) s)) c.if-admit.true (c.admit.ensures.noted w s ms h) in
    let serves = c.serve_messages-counts.ensures.serves w (noted p (Admitted ms) s) inside (admitted_now s p ms) in
    taken_whole g.row.ANSWER w c.serve_messages-counts.new.self p c.args.bytes.now ms s c.args.outbox.now.room c.args.outbox.now c.serve_messages-counts.new.outbox c.serve_messages-counts.result
    c.in-Ok.ensures.reads let_in c.requires.empty
    (subst (λ (xs : List Msg). ServesMessages g.row.ANSWER w c.serve_messages-counts.new.self p xs (noted p (Admitted ms) s) c.args.outbox.now c.serve_messages-counts.new.outbox c.serve_messages-counts.result)
    c.messages.ensures.all serves)

pub returns-else-admit-clause-few : goal.returns-else-admit-clause-few
returns-else-admit-clause-few g c = λ w s h.
    let ms = datagram_messages c.in-Ok.datagram in
    let out = sym (c.admit.ensures.admits w s h) ∙ c.if-admit.false in
    subst (λ (r : Result (List Msg) PduFault). length (packets_of (shortened_answers g.row.ANSWER (answers_to_reading w c.args.from r s))) ≤ 122) (sym c.in-Ok.ensures.reads)
    (no_packets g.row.ANSWER w c.args.from ms s 122 out)

pub returns-then-admit-clause-few : goal.returns-then-admit-clause-few
returns-then-admit-clause-few g c = λ w s h.
    let ms = datagram_messages c.in-Ok.datagram in
    let few : most_answers ms ≤ 122 =
    subst (λ (xs : List Msg). most_answers xs ≤ 122) c.messages.ensures.all
    (omega (arith, answers_counted (messages_left c.messages.result), c.messages.ensures.limits.no_responses)) in
    subst (λ (r : Result (List Msg) PduFault). length (packets_of (shortened_answers g.row.ANSWER (answers_to_reading w c.args.from r s))) ≤ 122) (sym c.in-Ok.ensures.reads)
    (few_packets g.row.ANSWER w c.args.from ms s 122 few)

pub returns-else-admit-clause-each : goal.returns-else-admit-clause-each
returns-else-admit-clause-each g c = λ w s h.
    let ms = datagram_messages c.in-Ok.datagram in
    let out = sym (c.admit.ensures.admits w s h) ∙ c.if-admit.false in
    subst (λ (r : Result (List Msg) PduFault). length (packets_of (shortened_answers g.row.ANSWER (answers_to_reading w c.args.from r s))) ≤ count_by (λ m. not (is_response m)) (read_or_none r)) (sym c.in-Ok.ensures.reads)
    (no_packets g.row.ANSWER w c.args.from ms s (count_by (λ m. not (is_response m)) ms) out)

pub returns-then-admit-clause-each : goal.returns-then-admit-clause-each
returns-then-admit-clause-each g c = λ w s h.
    let ms = datagram_messages c.in-Ok.datagram in
    subst (λ (r : Result (List Msg) PduFault). length (packets_of (shortened_answers g.row.ANSWER (answers_to_reading w c.args.from r s))) ≤ count_by (λ m. not (is_response m)) (read_or_none r)) (sym c.in-Ok.ensures.reads)
    (few_packets g.row.ANSWER w c.args.from ms s (count_by (λ m. not (is_response m)) ms) (omega (arith, answers_counted ms)))

use Rattle.oca_device.proofs.Words.{◌≡◌, ℕ, ◌+◌, ◌≤◌, List, [], ◌∷◌, length, cond, ap, ◌∙◌, sym, subst, arith, max, PduFault, TooLong, most_answered, verdict, RepresentsWithin, KeptPackets}
use Rattle.oca_device.proofs.Words.{first_packets, may_be_answered, told, packets_within, state_after, moved_to}
use Rattle.oca_device.specs.declared.verdict.Verdict.TheVariants as verdicts
use Rattle.oca_device.specs.Events.{Datagram}
use Rattle.oca_device.proofs.Steps.{none_sent, malformed_whole}
use Rattle.oca_device.proofs.device.DeviceOf.datagram_within.Goals as goal

pub receive-requires : goal.receive-requires
receive-requires g c = (
  omega arith,
  (
    c.move_clock.ensures.moment,
    (
      sym c.is_taken.ensures ∙ c.if-not-is_taken.false,
      (
        c.clear.ensures ∙ ap (λ (n : ℕ). first_packets n []) (sym (ap (λ (k : KeptPackets). k.room) c.clear.ensures)),
        (c.move_clock.ensures.written ∙ c.begin_datagram.ensures.none, c.move_clock.ensures.effects ∙ c.begin_datagram.ensures.unserved),
      ),
    ),
  ),
)

-- ---- a datagram that is too long

pub returns-then-not-is_taken-clause-represents : goal.returns-then-not-is_taken-clause-represents
returns-then-not-is_taken-clause-represents g c = λ w T E h.
    let none : told g.row.COMMAND c.args.bytes.now ≡ [] = ap (λ b. cond b c.args.bytes.now []) (sym c.is_taken.ensures ∙ c.if-not-is_taken.true) in
    let r = malformed_whole g.row.ANSWER w c.move_clock.new.self c.args.from _ c.args.outbox.now.room c.clear.new.self (c.move_clock.ensures.moved w _ (c.begin_datagram.ensures.same w _ h.state))
    (c.move_clock.ensures.written ∙ c.begin_datagram.ensures.none) (c.move_clock.ensures.effects ∙ c.begin_datagram.ensures.unserved) c.clear.ensures in
    subst (λ (bytes : List ℕ). RepresentsWithin g.row.ANSWER w c.move_clock.new.self T (Datagram c.args.from bytes c.args.now ∷ E)) (sym none)
    record { state = r.device; written = r.written; effects = r.effects }

pub returns-then-not-is_taken-clause-packets : goal.returns-then-not-is_taken-clause-packets
returns-then-not-is_taken-clause-packets g c = λ w T E h.
    let none : told g.row.COMMAND c.args.bytes.now ≡ [] = ap (λ b. cond b c.args.bytes.now []) (sym c.is_taken.ensures ∙ c.if-not-is_taken.true) in
    let s = state_after w T E in
    c.clear.ensures ∙ ap (λ (ps : List (List ℕ)). first_packets c.args.outbox.now.room ps) (sym (none_sent g.row.ANSWER w c.args.from (moved_to (max s.moment c.args.now) s)))
    ∙ ap (λ (bytes : List ℕ). first_packets c.args.outbox.now.room (packets_within g.row.ANSWER w T E (Datagram c.args.from bytes c.args.now))) (sym none)

pub returns-then-not-is_taken-clause-verdict : goal.returns-then-not-is_taken-clause-verdict
returns-then-not-is_taken-clause-verdict g c = λ w T E h.
    ap (λ (f : PduFault). verdicts.Malformed f) c.too_long.ensures
    ∙ sym (ap (λ b. cond b (verdict w T E c.args.from c.args.bytes.now c.args.now) (verdicts.Malformed (record { kind = TooLong; at = g.row.COMMAND + 27 }))) (sym c.is_taken.ensures ∙ c.if-not-is_taken.true))

pub returns-then-not-is_taken-clause-few : goal.returns-then-not-is_taken-clause-few
returns-then-not-is_taken-clause-few g c = λ w T E h.
    let none : told g.row.COMMAND c.args.bytes.now ≡ [] = ap (λ b. cond b c.args.bytes.now []) (sym c.is_taken.ensures ∙ c.if-not-is_taken.true) in
    let s = state_after w T E in
    let sent = none_sent g.row.ANSWER w c.args.from (moved_to (max s.moment c.args.now) s) in
    subst (λ (bytes : List ℕ). length (packets_within g.row.ANSWER w T E (Datagram c.args.from bytes c.args.now)) ≤ most_answered) (sym none)
    (omega (arith, ap length sent))

pub returns-then-not-is_taken-clause-each : goal.returns-then-not-is_taken-clause-each
returns-then-not-is_taken-clause-each g c = λ w T E h.
    let none : told g.row.COMMAND c.args.bytes.now ≡ [] = ap (λ b. cond b c.args.bytes.now []) (sym c.is_taken.ensures ∙ c.if-not-is_taken.true) in
    let s = state_after w T E in
    let sent = none_sent g.row.ANSWER w c.args.from (moved_to (max s.moment c.args.now) s) in
    subst (λ (bytes : List ℕ). length (packets_within g.row.ANSWER w T E (Datagram c.args.from bytes c.args.now)) ≤ may_be_answered c.args.bytes.now) (sym none)
    (omega (arith, ap length sent))

pub returns-then-not-is_taken-clause-room : goal.returns-then-not-is_taken-clause-room
returns-then-not-is_taken-clause-room g c = ap (λ (k : KeptPackets). k.room) c.clear.ensures

-- ---- any other

pub returns-clause-represents : goal.returns-clause-represents
returns-clause-represents g c = λ w T E h.
    let same : told g.row.COMMAND c.args.bytes.now ≡ c.args.bytes.now = ap (λ b. cond b c.args.bytes.now []) (sym c.is_taken.ensures ∙ c.if-not-is_taken.false) in
    let r = c.receive.ensures.takes w _ (c.move_clock.ensures.moved w _ (c.begin_datagram.ensures.same w _ h.state)) in
    subst (λ (bytes : List ℕ). RepresentsWithin g.row.ANSWER w c.receive.new.self T (Datagram c.args.from bytes c.args.now ∷ E)) (sym same)
    record { state = r.device; written = r.written; effects = r.effects }

pub returns-clause-packets : goal.returns-clause-packets
returns-clause-packets g c = λ w T E h.
    let same : told g.row.COMMAND c.args.bytes.now ≡ c.args.bytes.now = ap (λ b. cond b c.args.bytes.now []) (sym c.is_taken.ensures ∙ c.if-not-is_taken.false) in
    (c.receive.ensures.takes w _ (c.move_clock.ensures.moved w _ (c.begin_datagram.ensures.same w _ h.state))).packets
    ∙ ap (λ (n : ℕ). first_packets n (packets_within g.row.ANSWER w T E (Datagram c.args.from c.args.bytes.now c.args.now))) (ap (λ (k : KeptPackets). k.room) c.clear.ensures)
    ∙ ap (λ (bytes : List ℕ). first_packets c.args.outbox.now.room (packets_within g.row.ANSWER w T E (Datagram c.args.from bytes c.args.now))) (sym same)

pub returns-clause-few : goal.returns-clause-few
returns-clause-few g c = λ w T E h.
    let same : told g.row.COMMAND c.args.bytes.now ≡ c.args.bytes.now = ap (λ b. cond b c.args.bytes.now []) (sym c.is_taken.ensures ∙ c.if-not-is_taken.false) in
    subst (λ (bytes : List ℕ). length (packets_within g.row.ANSWER w T E (Datagram c.args.from bytes c.args.now)) ≤ most_answered) (sym same)
    (c.receive.ensures.few w _ (c.move_clock.ensures.moved w _ (c.begin_datagram.ensures.same w _ h.state)))

pub returns-clause-each : goal.returns-clause-each
returns-clause-each g c = λ w T E h.
    let same : told g.row.COMMAND c.args.bytes.now ≡ c.args.bytes.now = ap (λ b. cond b c.args.bytes.now []) (sym c.is_taken.ensures ∙ c.if-not-is_taken.false) in
    subst (λ (bytes : List ℕ). length (packets_within g.row.ANSWER w T E (Datagram c.args.from bytes c.args.now)) ≤ may_be_answered c.args.bytes.now) (sym same)
    (c.receive.ensures.each w _ (c.move_clock.ensures.moved w _ (c.begin_datagram.ensures.same w _ h.state)))

pub returns-clause-room : goal.returns-clause-room
returns-clause-room g c = c.receive.ensures.room ∙ ap (λ (k : KeptPackets). k.room) c.clear.ensures

pub returns-clause-verdict : goal.returns-clause-verdict
returns-clause-verdict g c = λ w T E h.
    (c.receive.ensures.takes w _ (c.move_clock.ensures.moved w _ (c.begin_datagram.ensures.same w _ h.state))).verdict_is
    ∙ sym (ap (λ b. cond b (verdict w T E c.args.from c.args.bytes.now c.args.now) (verdicts.Malformed (record { kind = TooLong; at = g.row.COMMAND + 27 }))) (sym c.is_taken.ensures ∙ c.if-not-is_taken.false))

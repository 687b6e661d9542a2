-- A datagram is within the limits.
use Rattle.oca_pdu.proofs.Words.{◌≡◌, ℕ, ◌+◌, ◌*◌, ◌<◌, ◌≤◌, Bool, true, List, [], ◌∷◌, length, map, refl, sym, ap, subst, ◌∙◌, arith, length-append, cond, not, is_ok, flat_map, AllByRecursion, flat_map-cons, append-nil, CommandFields, Form, Seconds, Millis, Msg, Command, Response, ResponseFields, Pdu, Commands, Responses, OneKeepAlive, messages_of, command_encoding, response_encoding, pdu_encoding, PduFits, IsDatagram, IsWithinLimits, read_or_none}
use Rattle.std.specs.Prelude.{count_by}
use Rattle.std.proofs.lemmas.List.Sums.{sum_by-append}
use Rattle.oca_pdu.specs.Limits.{is_command, is_response}
use Rattle.oca_pdu.specs.Reading.{read_datagram}
use Rattle.oca_pdu.proofs.Codec.{IsBytes}
use Rattle.oca_pdu.proofs.Exact.{check_found}

abbrev answerable : Msg → Bool
answerable m = not (is_response m)

-- the bytes of messages
commands_long : (cs : List CommandFields) → 17 * length cs ≤ length (flat_map command_encoding cs)
commands_long [] = omega arith
commands_long (c ∷ cs) = omega (arith, commands_long cs, ap length (flat_map-cons command_encoding c cs), length-append (command_encoding c) (flat_map command_encoding cs))

responses_long : (rs : List ResponseFields) → 10 * length rs ≤ length (flat_map response_encoding rs)
responses_long [] = omega arith
responses_long (r ∷ rs) = omega (arith, responses_long rs, ap length (flat_map-cons response_encoding r rs), length-append (response_encoding r) (flat_map response_encoding rs))

one_more : (p : Msg → Bool) (m : Msg) (ms : List Msg) → count_by p (m ∷ ms) ≡ cond (p m) 1 0 + count_by p ms
one_more p m ms =
    let alone : count_by p (m ∷ []) ≡ cond (p m) 1 0 = omega arith in
    sum_by-append (λ m. cond (p m) 1 0) (m ∷ []) ms ∙ ap (λ (n : ℕ). n + count_by p ms) alone

-- how many of each there are in a PDU
commands_in : (respond : Bool) (cs : List CommandFields) → (length (map (λ c. Command respond c) cs) ≡ length cs) × (count_by is_command (map (λ c. Command respond c) cs) ≡ length cs) × (count_by answerable (map (λ c. Command respond c) cs) ≡ length cs)
commands_in respond [] = (refl, refl, refl)
commands_in respond (c ∷ cs) =
    let others = commands_in respond cs in
    let one : 1 + length cs ≡ length (c ∷ cs) = omega arith in
    (omega (arith, others.0), one_more is_command (Command respond c) (map (λ c. Command respond c) cs) ∙ ap (λ (n : ℕ). 1 + n) others.1 ∙ one, one_more answerable (Command respond c) (map (λ c. Command respond c) cs) ∙ ap (λ (n : ℕ). 1 + n) others.2 ∙ one)

responses_in : (rs : List ResponseFields) → (length (map (λ r. Response r) rs) ≡ length rs) × (count_by is_command (map (λ r. Response r) rs) ≡ 0) × (count_by answerable (map (λ r. Response r) rs) ≡ 0)
responses_in [] = (refl, refl, refl)
responses_in (r ∷ rs) =
    let others = responses_in rs in
    (omega (arith, others.0), one_more is_command (Response r) (map (λ r. Response r) rs) ∙ ap (λ (n : ℕ). 0 + n) others.1, one_more answerable (Response r) (map (λ r. Response r) rs) ∙ ap (λ (n : ℕ). 0 + n) others.2)

record Takes (q : Pdu) : Type 0 where
  messages : 10 * length (messages_of q) + 2 ≤ length (pdu_encoding q)
  commands : 17 * count_by is_command (messages_of q) ≤ length (pdu_encoding q)
  answered : 12 * count_by answerable (messages_of q) ≤ length (pdu_encoding q)
  alone : length (pdu_encoding q) ≤ 1472 → length (messages_of q) ≤ 146

keep_alive_takes : (form : Form) → Takes (OneKeepAlive form)
keep_alive_takes (Seconds n) = record { messages = omega arith; commands = omega arith; answered = omega arith; alone = λ short. omega arith }
keep_alive_takes (Millis n) = record { messages = omega arith; commands = omega arith; answered = omega arith; alone = λ short. omega arith }

takes : (q : Pdu) → Takes q
takes (Commands respond cs) =
    let are = commands_in respond cs in
    let long = commands_long cs in
    record { messages = omega (arith, are.0, long); commands = omega (arith, are.1, long); answered = omega (arith, are.2, long); alone = λ short. omega (arith, are.0, long, short) }
takes (Responses rs) =
    let are = responses_in rs in
    let long = responses_long rs in
    record { messages = omega (arith, are.0, long); commands = omega (arith, are.1); answered = omega (arith, are.2); alone = λ short. omega (arith, are.0, long, short) }
takes (OneKeepAlive form) = keep_alive_takes form

record TakeAll (qs : List Pdu) : Type 0 where
  messages : 10 * length (flat_map messages_of qs) + 2 * length qs ≤ length (flat_map pdu_encoding qs)
  commands : 17 * count_by is_command (flat_map messages_of qs) ≤ length (flat_map pdu_encoding qs)
  answered : 12 * count_by answerable (flat_map messages_of qs) ≤ length (flat_map pdu_encoding qs)

counted : (p : Msg → Bool) (q : Pdu) (qs : List Pdu) → count_by p (flat_map messages_of (q ∷ qs)) ≡ count_by p (messages_of q) + count_by p (flat_map messages_of qs)
counted p q qs = ap (count_by p) (flat_map-cons messages_of q qs) ∙ sum_by-append (λ m. cond (p m) 1 0) (messages_of q) (flat_map messages_of qs)

take_all : (qs : List Pdu) → TakeAll qs
take_all [] = record { messages = omega arith; commands = omega arith; answered = omega arith }
take_all (q ∷ qs) =
    let one = takes q in
    let others = take_all qs in
    let bytes : length (flat_map pdu_encoding (q ∷ qs)) ≡ length (pdu_encoding q) + length (flat_map pdu_encoding qs) = ap length (flat_map-cons pdu_encoding q qs) ∙ length-append (pdu_encoding q) (flat_map pdu_encoding qs) in
    let messages : length (flat_map messages_of (q ∷ qs)) ≡ length (messages_of q) + length (flat_map messages_of qs) = ap length (flat_map-cons messages_of q qs) ∙ length-append (messages_of q) (flat_map messages_of qs) in
    record {
      messages = omega (arith, bytes, messages, one.messages, others.messages);
      commands = omega (arith, bytes, counted is_command q qs, one.commands, others.commands);
      answered = omega (arith, bytes, counted answerable q qs, one.answered, others.answered);
    }

few : (qs : List Pdu) → length (flat_map pdu_encoding qs) ≤ 1472 → length (flat_map messages_of qs) ≤ 146
few [] short = omega arith
few (q ∷ []) short =
    let all : flat_map messages_of (q ∷ []) ≡ messages_of q = append-nil (messages_of q) in
    let bytes : flat_map pdu_encoding (q ∷ []) ≡ pdu_encoding q = append-nil (pdu_encoding q) in
    omega (arith, ap length all, (takes q).alone (omega (arith, ap length bytes, short)))
few (q ∷ r ∷ qs) short = omega (arith, (take_all (q ∷ r ∷ qs)).messages, short)

-- a datagram has a PDU, and each PDU a message
has_one : (q : Pdu) → PduFits q → 0 < length (messages_of q)
has_one (Commands respond cs) fits = omega (arith, (commands_in respond cs).0, fits.0)
has_one (Responses rs) fits = omega (arith, (responses_in rs).0, fits.0)
has_one (OneKeepAlive form) fits = omega arith

have_one : (qs : List Pdu) → 0 < length qs → AllByRecursion PduFits qs → 0 < length (flat_map messages_of qs)
have_one [] some fits = omega (arith, some)
have_one (q ∷ qs) some fits =
    let messages : length (flat_map messages_of (q ∷ qs)) ≡ length (messages_of q) + length (flat_map messages_of qs) = ap length (flat_map-cons messages_of q qs) ∙ length-append (messages_of q) (flat_map messages_of qs) in
    omega (arith, messages, has_one q fits.0)

within : (qs : List Pdu) (bytes : List ℕ) → IsDatagram qs bytes → IsWithinLimits (flat_map messages_of qs)
within qs bytes are =
    let short : length (flat_map pdu_encoding qs) ≤ 1472 = omega (arith, ap length are.bytes_are, are.within_limit) in
    let all = take_all qs in
    record { some = have_one qs are.nonempty are.well_formed; messages = few qs short; commands = omega (arith, all.commands, short); no_responses = omega (arith, all.answered, short) }

-- what is read is within the limits of its numbers
pub limited : (bytes : List ℕ) → IsBytes bytes → is_ok (read_datagram bytes) ≡ true → IsWithinLimits (read_or_none (read_datagram bytes))
limited bytes fits ok =
    let h = check_found bytes fits ok in
    subst IsWithinLimits (sym h.2) (within h.0 bytes h.1)

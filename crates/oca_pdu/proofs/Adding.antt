-- A PDU behind others.
use Rattle.oca_pdu.proofs.Words.{◌≡◌, ℕ, ◌+◌, ◌*◌, ◌≤◌, ◌<◌, ◌^◌, Bool, List, [], ◌∷◌, ◌++◌, length, sym, ap, ◌∙◌, append_assoc, arith, length-append, w16, flat_map, append-nil, flat_map-cons, from_be_bytes-to_be_bytes_2, flat_map-append, CommandFields, ResponseFields, Pdu, Commands, Responses, response_encoding, pdu_encoding, CommandFits, ResponseFits, PduFits, IsDatagram, number_at}
use Rattle.std.specs.Prelude.{Result, Ok, Err, OnOk, OnErr}
use Rattle.arrayvec.specs.ArrayVec.{ArrayVec as Items}
use Rattle.oca_types.specs.declared.status.Status.{Status}
use Rattle.oca_types.specs.declared.status.Status.TheVariants as status
use Rattle.oca_types.specs.Status.{status_number}
use Rattle.oca_pdu.specs.Writing.{AddsPdu, IsResponses, HoldsResponses}
use Rattle.oca_pdu.proofs.Decided.{each-append}

pub adds : (p : Pdu) (old new : List ℕ) → PduFits p → new ≡ old ++ pdu_encoding p → length new ≤ 1472 → AddsPdu p old new
adds p old new fits is short ps all parts =
    let one : flat_map pdu_encoding (p ∷ []) ≡ pdu_encoding p = append-nil (pdu_encoding p) in
    record {
      nonempty = omega (arith, length-append ps (p ∷ []));
      well_formed = each-append PduFits ps (p ∷ []) all (fits, tt);
      bytes_are = is ∙ ap (λ (l : List ℕ). l ++ pdu_encoding p) parts ∙ ap (λ (l : List ℕ). flat_map pdu_encoding ps ++ l) (sym one) ∙ sym (flat_map-append pdu_encoding ps (p ∷ []));
      within_limit = short;
    }

-- a PDU of one message
pub adds_command : (respond : Bool) (c : CommandFields) (old new : List ℕ) → CommandFits c → new ≡ old ++ pdu_encoding (Commands respond (c ∷ [])) → length new ≤ 1472 → AddsPdu (Commands respond (c ∷ [])) old new
adds_command respond c old new fits is short =
    let len : length new ≡ length old + length (pdu_encoding (Commands respond (c ∷ []))) = ap length is ∙ length-append old (pdu_encoding (Commands respond (c ∷ []))) in
    adds (Commands respond (c ∷ [])) old new (omega arith, omega arith, (fits, tt), omega (arith, len, short)) is short

-- a response in an empty datagram is the only one
pub adds_response : (r : ResponseFields) (old new : List ℕ) → ResponseFits r → new ≡ old ++ pdu_encoding (Responses (r ∷ [])) → length new ≤ 1472 → AddsPdu (Responses (r ∷ [])) old new
adds_response r old new fits is short =
    let len : length new ≡ length old + length (pdu_encoding (Responses (r ∷ []))) = ap length is ∙ length-append old (pdu_encoding (Responses (r ∷ []))) in
    adds (Responses (r ∷ [])) old new (omega arith, omega arith, (fits, tt), omega (arith, len, short)) is short

-- the front of a PDU, and its parameters
pub two_parts : (old first new front params pdu : List ℕ) → first ≡ old ++ front → new ≡ first ++ params → front ++ params ≡ pdu → new ≡ old ++ pdu
two_parts old first new front params pdu e1 e2 e3 = e2 ∙ ap (λ (l : List ℕ). l ++ params) e1 ∙ append_assoc old front params ∙ ap (λ (l : List ℕ). old ++ l) e3

-- a status is one byte
pub status_below : (s : Status) → status_number s < 2 ^ 8
status_below status.Ok = omega arith
status_below status.ProtocolVersionError = omega arith
status_below status.DeviceError = omega arith
status_below status.Locked = omega arith
status_below status.BadFormat = omega arith
status_below status.BadOno = omega arith
status_below status.ParameterError = omega arith
status_below status.ParameterOutOfRange = omega arith
status_below status.NotImplemented = omega arith
status_below status.InvalidRequest = omega arith
status_below status.ProcessingFailed = omega arith
status_below status.BadMethod = omega arith
status_below status.PartiallySucceeded = omega arith
status_below status.Timeout = omega arith
status_below status.BufferOverflow = omega arith

-- ---- one response more in a PDU

-- a response has 10 bytes at least
ten_each : (rs : List ResponseFields) → 10 * length rs ≤ length (flat_map response_encoding rs)
ten_each [] = omega arith
ten_each (r ∷ rs) = omega (arith, ten_each rs, ap length (flat_map-cons response_encoding r rs), length-append (response_encoding r) (flat_map response_encoding rs))

responses_len : (rs : List ResponseFields) → length (pdu_encoding (Responses rs)) ≡ 10 + length (flat_map response_encoding rs)
responses_len rs = omega arith

-- a datagram has room for the count of its messages
pub count_below : (bytes : List ℕ) → HoldsResponses bytes → length bytes ≤ 1472 → number_at w16 8 bytes + 1 < 2 ^ 16
count_below bytes holds short =
    let rs : List ResponseFields = holds.0 in
    let many : length rs < 2 ^ 16 = omega (arith, ten_each rs, responses_len rs, ap length holds.1, short) in
    let count : number_at w16 8 bytes ≡ length rs = ap (number_at w16 8) holds.1 ∙ from_be_bytes-to_be_bytes_2 (length rs) many in
    omega (arith, count, ten_each rs, responses_len rs, ap length holds.1, short)

-- a response joins those that are there
pub joins_responses : (rs : List ResponseFields) (r : ResponseFields) (old new : List ℕ) → ResponseFits r → IsDatagram (Responses rs ∷ []) old → IsResponses (rs ++ r ∷ []) new → length new ≤ 1472
    → IsDatagram (Responses (rs ++ r ∷ []) ∷ []) new
joins_responses rs r old new fits was is short =
    let all : List ResponseFields = rs ++ r ∷ [] in
    let len : length new ≡ 10 + length (flat_map response_encoding all) = ap length is ∙ responses_len all in
    record {
      nonempty = omega arith;
      well_formed = ((omega (arith, length-append rs (r ∷ [])), omega (arith, ten_each all, len, short), each-append ResponseFits rs (r ∷ []) was.well_formed.0.2 (fits, tt), omega (arith, len, short)), tt);
      bytes_are = is ∙ sym (append-nil (pdu_encoding (Responses all)));
      within_limit = short;
    }

pub is_responses : (rs : List ResponseFields) (bytes : List ℕ) → IsDatagram (Responses rs ∷ []) bytes → IsResponses rs bytes
is_responses rs bytes s = s.bytes_are ∙ append-nil (pdu_encoding (Responses rs))

-- ---- what holds responses

-- a datagram of one response holds responses
pub holds_one : (r : ResponseFields) (old new : List ℕ) → old ≡ [] → new ≡ old ++ pdu_encoding (Responses (r ∷ [])) → HoldsResponses new
holds_one r old new none is = (r ∷ [], is ∙ ap (λ (l : List ℕ). l ++ pdu_encoding (Responses (r ∷ []))) none)

-- and so does one with a response more
pub holds_more : {T E : Type 0} (result : Result T E) (r : ResponseFields) (old new : Items ℕ) → HoldsResponses old.items
    → ((rs : List ResponseFields) → IsResponses rs old.items → OnOk result (IsResponses (rs ++ r ∷ []) new.items)) → OnErr result (new ≡ old) → HoldsResponses new.items
holds_more (Ok x) r old new holds ok err = (holds.0 ++ r ∷ [], ok holds.0 holds.1)
holds_more (Err e) r old new holds ok err = (holds.0, ap (λ (v : Items ℕ). v.items) err ∙ holds.1)

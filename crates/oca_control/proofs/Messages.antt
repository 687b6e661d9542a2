-- What is known of the content of bytes.
use Rattle.oca_control.proofs.Words.{◌≡◌, ℕ, ◌+◌, ◌≤◌, true, cond, List, [], ◌∷◌, length, map, refl, sym, ap, ◌∙◌, arith, subst, Option, Some, None, Result, Ok, Err, Bool, length-append, nat_le}
use Rattle.oca_control.proofs.Words.{flat_map, nat_tests, le-ltb, CommandFields, Peer, Msg, Command, Response, KeepAlive, Pdu, Commands, Responses, OneKeepAlive, ResponseFields, messages_of}
use Rattle.oca_control.proofs.Words.{IsDatagram, pdu_encoding, response_encoding, read_datagram, Reception, IsContent, LinkState, reception, received, shortened_message, shortened, ReceivesWithin}
use Rattle.oca_control.proofs.Words.{IsShortResponse, AreShortResponses, on_bool}
use Rattle.std.proofs.lemmas.List.Concat.{flat_map-cons}
use Rattle.oca_pdu.specs.declared.fault.PduFault.{PduFault}
use Rattle.oca_pdu.proofs.Codec.{IsBytes}
use Rattle.oca_pdu.proofs.Decided.{each-append}
use Rattle.oca_pdu.proofs.Encoded.{datagram_again}
use Rattle.oca_pdu.proofs.Exact.{is_found, not_refused}

-- what reading gives
abbrev pub content_read : Result (List Msg) PduFault → Option (List Msg)
content_read (Ok ms) = Some ms
content_read (Err f) = None

-- What is read of bytes is their content.
pub has_content : (bytes : List ℕ) → IsBytes bytes → IsContent (content_read (read_datagram bytes)) bytes
has_content bytes fits = by (read_datagram bytes) refl
  where
    by : (r : Result (List Msg) PduFault) → read_datagram bytes ≡ r → IsContent (content_read r) bytes
    by (Ok ms) e = is_found bytes ms fits e
    by (Err f) e = λ ps are. not_refused ps bytes f are e

-- The content of bytes is what is read of them.
pub one_content : (bytes : List ℕ) (content : Option (List Msg)) → IsBytes bytes → IsContent content bytes → content_read (read_datagram bytes) ≡ content
one_content bytes (Some ms) fits is = ap content_read (datagram_again is.0 bytes is.1) ∙ ap (λ (x : List Msg). Some x) is.2
one_content bytes None fits is = by (read_datagram bytes) refl
  where
    by : (r : Result (List Msg) PduFault) → read_datagram bytes ≡ r → content_read r ≡ None
    by (Ok ms) e = let found = is_found bytes ms fits e in absurd (is found.0 found.1)
    by (Err f) e = refl

-- the parameters of responses
commands_short : (respond : Bool) (cs : List CommandFields) → AreShortResponses (map (λ c. Command respond c) cs)
commands_short respond [] = tt
commands_short respond (c ∷ cs) = (tt, commands_short respond cs)

responses_short : (rs : List ResponseFields) → 10 + length (flat_map response_encoding rs) ≤ 1472 → AreShortResponses (map (λ r. Response r) rs)
responses_short [] fits = tt
responses_short (r ∷ rs) fits =
    let len : length (flat_map response_encoding (r ∷ rs)) ≡ 10 + length r.params + length (flat_map response_encoding rs) =
    omega (arith, ap length (flat_map-cons response_encoding r rs), length-append (response_encoding r) (flat_map response_encoding rs)) in
    let here : length r.params ≤ 1452 = omega arith in
    (here, responses_short rs (omega arith))

pdu_short : (p : Pdu) → length (pdu_encoding p) ≤ 1472 → AreShortResponses (messages_of p)
pdu_short (Commands respond cs) fits = commands_short respond cs
pdu_short (Responses rs) fits = responses_short rs (let len : length (pdu_encoding (Responses rs)) ≡ 10 + length (flat_map response_encoding rs) = omega arith in omega arith)
pdu_short (OneKeepAlive form) fits = (tt, tt)

pdus_short : (ps : List Pdu) → length (flat_map pdu_encoding ps) ≤ 1472 → AreShortResponses (flat_map messages_of ps)
pdus_short [] fits = tt
pdus_short (p ∷ ps) fits =
    let len : length (flat_map pdu_encoding (p ∷ ps)) ≡ length (pdu_encoding p) + length (flat_map pdu_encoding ps) =
    ap length (flat_map-cons pdu_encoding p ps) ∙ length-append (pdu_encoding p) (flat_map pdu_encoding ps) in
    let first : AreShortResponses (messages_of p) = pdu_short p (omega arith) in
    let others : AreShortResponses (flat_map messages_of ps) = pdus_short ps (omega arith) in
    subst AreShortResponses (sym (flat_map-cons messages_of p ps)) (each-append IsShortResponse (messages_of p) (flat_map messages_of ps) first others)

-- The messages of a datagram are short: the parameters of each response have at most 1,452 bytes.
pub datagram_short : (ps : List Pdu) (bytes : List ℕ) (ms : List Msg) → IsDatagram ps bytes → ms ≡ flat_map messages_of ps → AreShortResponses ms
datagram_short ps bytes ms are same =
    subst AreShortResponses (sym same) (pdus_short ps (let short = are.within_limit in let whole = ap length are.bytes_are in omega arith))

-- What is short enough is not shortened.
kept_answer : (most : ℕ) (r : ResponseFields) → length r.params ≤ most → shortened_message most (Response r) ≡ Response r
kept_answer most r short = ap (λ b. Response (record { handle = r.handle; status = cond b 14 r.status; count = cond b 0 r.count; params = cond b [] r.params })) (le-ltb most (length r.params) short)

-- Where an answer may have as many bytes of parameters as a datagram holds, no message of a datagram is shortened.
kept_messages : (most : ℕ) (ms : List Msg) → 1452 ≤ most → AreShortResponses ms → map (shortened_message most) ms ≡ ms
kept_messages most [] wide short = refl
kept_messages most (Command respond c ∷ ms) wide short = ap (λ xs. Command respond c ∷ xs) (kept_messages most ms wide short.1)
kept_messages most (Response r ∷ ms) wide short =
    ap (λ m. m ∷ map (shortened_message most) ms) (kept_answer most r (let s = short.0 in omega arith))
    ∙ ap (λ xs. Response r ∷ xs) (kept_messages most ms wide short.1)
kept_messages most (KeepAlive form ∷ ms) wide short = ap (λ xs. KeepAlive form ∷ xs) (kept_messages most ms wide short.1)

-- The messages of a datagram, each shortened.
pub shortened_is : (most : ℕ) (ms : List Msg) → AreShortResponses ms → shortened most (Some ms) ≡ Some (map (shortened_message most) ms)
shortened_is most ms short = on_bool (nat_le 1452 most) (λ b. nat_le 1452 most ≡ b → cond b (Some ms) (Some (map (shortened_message most) ms)) ≡ Some (map (shortened_message most) ms))
    (λ p. ap (λ (x : List Msg). Some x) (sym (kept_messages most ms (wide most p) short))) (λ p. refl) refl
  where
    wide : (a : ℕ) → nat_le 1452 a ≡ true → 1452 ≤ a
    wide a p = grind (arith, nat_tests)

-- Bytes that are no datagram hold nothing to shorten.
pub shortened_none : (most : ℕ) → shortened most None ≡ None
shortened_none most = on_bool (nat_le 1452 most) (λ b. (let x : Option (List Msg) = cond b None None in x) ≡ None) refl refl

-- A datagram was heard whose messages are these, each shortened.
pub received_messages : {most now : ℕ} {from : Peer} {bytes : List ℕ} {old new : LinkState} {returned : Reception} (ms : List Msg) → IsContent (Some ms) bytes → AreShortResponses ms →
    returned ≡ reception from (Some (map (shortened_message most) ms)) old → new ≡ received from (Some (map (shortened_message most) ms)) now old → ReceivesWithin most from bytes now old returned new
received_messages {most} {now} {from} {old = old} ms holds short answer_is link_is = record {
  content = Some ms;
  holds = holds;
  answer_is = answer_is ∙ ap (λ (o : Option (List Msg)). reception from o old) (sym (shortened_is most ms short));
  link_is = link_is ∙ ap (λ (o : Option (List Msg)). received from o now old) (sym (shortened_is most ms short));
}

-- Bytes that reading refuses hold nothing.
pub no_content : (bytes : List ℕ) (f : PduFault) → read_datagram bytes ≡ Err f → IsContent None bytes
no_content bytes f e = λ ps are. not_refused ps bytes f are e

-- Bytes were heard that are no datagram.
pub received_none : {most now : ℕ} {from : Peer} {bytes : List ℕ} {old new : LinkState} {returned : Reception} → IsContent None bytes →
    returned ≡ reception from None old → new ≡ received from None now old → ReceivesWithin most from bytes now old returned new
received_none {most} {now} {from} {old = old} holds answer_is link_is = record {
  content = None;
  holds = holds;
  answer_is = answer_is ∙ ap (λ (o : Option (List Msg)). reception from o old) (sym (shortened_none most));
  link_is = link_is ∙ ap (λ (o : Option (List Msg)). received from o now old) (sym (shortened_none most));
}

-- What was heard follows from any content of the bytes, since they have one.
pub answer_of_content : {most now : ℕ} {from : Peer} {bytes : List ℕ} {old new : LinkState} {returned : Reception} → IsBytes bytes → ReceivesWithin most from bytes now old returned new →
    (content : Option (List Msg)) → IsContent content bytes → returned ≡ reception from (shortened most content) old
answer_of_content {most} {from = from} {bytes = bytes} {old = old} fits x content is =
    x.answer_is ∙ ap (λ o. reception from (shortened most o) old) (sym (one_content bytes x.content fits x.holds) ∙ one_content bytes content fits is)

pub link_of_content : {most now : ℕ} {from : Peer} {bytes : List ℕ} {old new : LinkState} {returned : Reception} → IsBytes bytes → ReceivesWithin most from bytes now old returned new →
    (content : Option (List Msg)) → IsContent content bytes → new ≡ received from (shortened most content) now old
link_of_content {most} {now} {from} {bytes} {old} fits x content is =
    x.link_is ∙ ap (λ o. received from (shortened most o) now old) (sym (one_content bytes x.content fits x.holds) ∙ one_content bytes content fits is)

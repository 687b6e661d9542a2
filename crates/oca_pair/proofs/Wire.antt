-- What is read of the datagrams that a link and a device send.
use Rattle.oca_pair.proofs.Words.{append-nil, ◌≡◌, ◌≤◌, true, [], ◌∷◌, length, sym, arith, lit<, lit≤, Ok, CommandFields, Seconds, ResponseFields, Command, Response, KeepAlive, Pdu, Commands}
use Rattle.oca_pair.proofs.Words.{Responses, OneKeepAlive, messages_of, pdu_encoding, CommandFits, ResponseFits, PduFits, read_datagram, WrittenIsReadBack}
use Rattle.std.proofs.Common.{length-append}

read_one : WrittenIsReadBack → (p : Pdu) → PduFits p → length (pdu_encoding p) ≤ 1472 → read_datagram (pdu_encoding p) ≡ Ok (messages_of p)
read_one law p fits short = law [] p (pdu_encoding p) (record { nonempty = lit< tt; well_formed = (fits, tt); bytes_are = sym (append-nil (pdu_encoding p)); within_limit = short })

-- a command that fits a datagram
pub record IsSendable (c : CommandFields) : Type 0 where
  pub fits : CommandFits c
  pub short : length c.params ≤ 1445

pub read_command : WrittenIsReadBack → (c : CommandFields) → IsSendable c → read_datagram (pdu_encoding (Commands true (c ∷ []))) ≡ Ok (Command true c ∷ [])
read_command law c s =
    let short : length c.params ≤ 1445 = s.short in
    read_one law (Commands true (c ∷ [])) (lit< tt, lit< tt, (s.fits, tt), omega (arith, length-append c.params [])) (omega (arith, length-append c.params []))

pub read_keep_alive : WrittenIsReadBack → read_datagram (pdu_encoding (OneKeepAlive (Seconds 5))) ≡ Ok (KeepAlive (Seconds 5) ∷ [])
read_keep_alive law = read_one law (OneKeepAlive (Seconds 5)) (lit< tt) (lit≤ tt)

pub read_response : WrittenIsReadBack → (r : ResponseFields) → ResponseFits r → length r.params ≤ 1452 → read_datagram (pdu_encoding (Responses (r ∷ []))) ≡ Ok (Response r ∷ [])
read_response law r fits short =
    read_one law (Responses (r ∷ [])) (lit< tt, lit< tt, (fits, tt), omega (arith, length-append r.params [])) (omega (arith, length-append r.params []))

-- What the writers do to a packet.
use Rattle.std.specs.Prelude.{◌≡◌, ℕ, Bool, true, false, List, [], ◌∷◌, ◌++◌, length}
use Rattle.std.specs.List.{flat_map, AllByRecursion}
use Rattle.oca_pdu.specs.Messages.{ResponseFields, Pdu, Commands, Responses, OneKeepAlive}
use Rattle.oca_pdu.specs.Encoding.{PduFits, pdu_encoding, IsDatagram}

-- Where the old bytes are the encodings of PDUs, none or more, the new bytes are a datagram of those and this one after
-- them.
abbrev pub AddsPdu : Pdu → List ℕ → List ℕ → Type 0
AddsPdu p old new = (ps : List Pdu) → AllByRecursion PduFits ps → old ≡ flat_map pdu_encoding ps →
    IsDatagram (ps ++ p ∷ []) new

-- The bytes are one PDU of these responses.
abbrev pub IsResponses : List ResponseFields → List ℕ → Type 0
IsResponses rs bytes = bytes ≡ pdu_encoding (Responses rs)

-- The bytes are one PDU of some responses.
abbrev pub HoldsResponses : List ℕ → Type 0
HoldsResponses bytes = (rs : List ResponseFields) × IsResponses rs bytes

-- the PDU is of responses
abbrev pub is_of_responses : Pdu → Bool
is_of_responses (Responses rs) = true
is_of_responses (OneKeepAlive form) = false
is_of_responses (Commands respond cs) = false

-- how many bytes a PDU of these responses has: 10 of its header, and those of the responses
abbrev pub responses_size : List ResponseFields → ℕ
responses_size rs = length (pdu_encoding (Responses rs))

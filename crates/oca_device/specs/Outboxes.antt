-- The packets of an outbox, as their bytes; and what an outbox keeps that has room for some of them only.
use Rattle.std.specs.Prelude.{Bool, List, count_by, length, map, nat_lt, not, take, ℕ}
use Rattle.oca_device.specs.Words.{read_datagram}
use Rattle.arrayvec.specs.ArrayVec.{ArrayVec}
use Rattle.oca_pdu.specs.Limits.{is_response}
use Rattle.oca_pdu.specs.Datagrams.{read_or_none}

abbrev pub bytes_of_packets : List (ArrayVec ℕ) → List (List ℕ)
bytes_of_packets packets = map (λ p. p.items) packets

-- The packets that are kept, for how many there is room, and whether some were left out.
pub record KeptPackets : Type 0 where
  pub packets : List (List ℕ)
  pub room : ℕ
  pub is_cut : Bool

-- Of packets the first ones are kept, as many as there is room for. Some were left out where there are more.
abbrev pub first_packets : ℕ → List (List ℕ) → KeptPackets
first_packets room packets = record { packets = take room packets; room = room; is_cut = nat_lt room (length packets) }

-- How many packets may answer a datagram: one for each of its messages but responses.
abbrev pub may_be_answered : List ℕ → ℕ
may_be_answered bytes = count_by (λ m. not (is_response m)) (read_or_none (read_datagram bytes))

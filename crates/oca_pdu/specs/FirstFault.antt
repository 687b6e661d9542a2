-- The first fault of bytes that are no datagram (*profile*). The checks are made in the order of the rules below: of
-- the whole, then PDU by PDU, and in a PDU message by message. A rule says that its check fails and that those before
-- it hold. A field that is not wholly inside the datagram fails in its turn; after PduSize there is none, since the PDU
-- then lies inside and has at least 12 bytes.
use Rattle.std.specs.Prelude.{◌≡◌, ◌≢◌, ℕ, ◌+◌, ◌<◌, ◌≤◌, ◌^◌, ◌⊎◌, Bool, List, [], ◌∷◌, ◌++◌, length}
use Rattle.std.specs.List.{flat_map, AllByRecursion}
use Rattle.std.specs.Int.{w16, w32}
use Rattle.oca_types.specs.Numbers.{unsigned_encoding}
use Rattle.oca_types.specs.Sizes.{largest_datagram}
use Rattle.oca_pdu.specs.declared.fault.PduFault.{PduFault}
use Rattle.oca_pdu.specs.declared.fault.PduFaultKind.TheVariants.{Empty, TooLong, Sync, Version, PduSize, PduType}
use Rattle.oca_pdu.specs.declared.fault.PduFaultKind.TheVariants.{Count, MessageSize, Truncated}
use Rattle.oca_pdu.specs.Faults.{IsFaultAt}
use Rattle.oca_pdu.specs.Encoding.{sync_value, command_head, response_head, command_encoding, response_encoding}
use Rattle.oca_pdu.specs.Encoding.{pdu_frame, command_type, pdu_encoding, CommandFits, ResponseFits, PduFits}

-- The bytes are the encodings of `before`, each of which holds, and then the rest.
pub record HoldsUpTo {X : Type 0} (encoding : X → List ℕ) (Fits : X → Type 0) (rest bytes : List ℕ) : Type 0 where
  pub before : List X
  pub each : AllByRecursion Fits before
  pub parts : bytes ≡ flat_map encoding before ++ rest

-- The messages of the PDU at p fail. They lie in body, from p + 10 to the PDU's end, and are to be `count`; `least` is
-- the least size of one.
pub data MessagesFail {X : Type 0} (encoding : X → List ℕ) (Fits : X → Type 0) (least count p : ℕ) (body : List ℕ)
    (f : PduFault) : Type 0 where
  -- the PDU ends, and messages are still to come
  MessagesMissing : (end : HoldsUpTo encoding Fits [] body) → length end.before < count
      → IsFaultAt f Count (p + 8) → MessagesFail encoding Fits least count p body f
  -- fewer than 4 bytes are left for a message's size
  MessageCutOff : (rest : List ℕ) (here : HoldsUpTo encoding Fits rest body) → length here.before < count
      → 0 < length rest → length rest < 4
      → IsFaultAt f MessageSize (p + 10 + length (flat_map encoding here.before))
      → MessagesFail encoding Fits least count p body f
  -- the message's size is below the least, or the message would end after the PDU
  MessageOfWrongSize : (rest : List ℕ) (here : HoldsUpTo encoding Fits rest body) (size : ℕ) (behind : List ℕ)
      → length here.before < count
      → rest ≡ unsigned_encoding w32 size ++ behind → size < 2 ^ 32 → (size < least) ⊎ (length rest < size)
      → IsFaultAt f MessageSize (p + 10 + length (flat_map encoding here.before))
      → MessagesFail encoding Fits least count p body f
  -- after the last message, the PDU goes on
  BytesLeft : (rest : List ℕ) (here : HoldsUpTo encoding Fits rest body) → length here.before ≡ count → 0 < length rest
      → IsFaultAt f Count (p + 8) → MessagesFail encoding Fits least count p body f

-- The rest begins with the frame of a PDU: sync, ProtocolVersion and PduSize hold, and the PDU ends within the
-- datagram.
pub record BeginsWithFrame (type count : ℕ) (body behind rest : List ℕ) : Type 0 where
  pub parts : rest ≡ pdu_frame type count body ++ behind
  pub count_fits : count < 2 ^ 16
  pub size_fits : 9 + length body < 2 ^ 32
  pub least_size : 11 ≤ 9 + length body

-- The PDU at p, with which the rest of the datagram begins, fails.
pub data PduFails (p : ℕ) (rest : List ℕ) (f : PduFault) : Type 0 where
  -- the byte at p is not 3B
  WrongSync : (first : ℕ) (behind : List ℕ) → rest ≡ first ∷ behind → first ≢ sync_value
      → IsFaultAt f Sync p → PduFails p rest f
  -- ProtocolVersion is not wholly inside the datagram
  VersionCutOff : (behind : List ℕ) → rest ≡ sync_value ∷ behind → length behind < 2
      → IsFaultAt f Truncated (p + 1) → PduFails p rest f
  -- ProtocolVersion is not 1
  WrongVersion : (version : ℕ) (behind : List ℕ) → rest ≡ sync_value ∷ unsigned_encoding w16 version ++ behind
      → version < 2 ^ 16 → version ≢ 1
      → IsFaultAt f Version (p + 1) → PduFails p rest f
  -- PduSize is not wholly inside the datagram
  SizeCutOff : (behind : List ℕ) → rest ≡ sync_value ∷ unsigned_encoding w16 1 ++ behind → length behind < 4
      → IsFaultAt f Truncated (p + 3) → PduFails p rest f
  -- PduSize is below 11
  SizeTooSmall : (size : ℕ) (behind : List ℕ)
      → rest ≡ sync_value ∷ unsigned_encoding w16 1 ++ unsigned_encoding w32 size ++ behind → size < 11
      → IsFaultAt f PduSize (p + 3) → PduFails p rest f
  -- the PDU, which has the sync and PduSize bytes, ends after the datagram
  PduCutOff : (size : ℕ) (behind : List ℕ)
      → rest ≡ sync_value ∷ unsigned_encoding w16 1 ++ unsigned_encoding w32 size ++ behind → size < 2 ^ 32 → 11 ≤ size
      → length rest < 1 + size
      → IsFaultAt f Truncated (p + 3) → PduFails p rest f
  -- PduType is not 0, 1, 3 or 4
  WrongType : (type count : ℕ) (body behind : List ℕ) → BeginsWithFrame type count body behind rest → type ≢ 0
      → type ≢ 1 → type ≢ 3 → type ≢ 4
      → IsFaultAt f PduType (p + 7) → PduFails p rest f
  -- MessageCount is 0
  NoMessages : (type : ℕ) (body behind : List ℕ) → BeginsWithFrame type 0 body behind rest
      → (type ≡ 0) ⊎ (type ≡ 1) ⊎ (type ≡ 3) ⊎ (type ≡ 4)
      → IsFaultAt f Count (p + 8) → PduFails p rest f
  -- MessageCount of a keep-alive PDU is not 1
  WrongKeepAliveCount : (count : ℕ) (body behind : List ℕ) → BeginsWithFrame 4 count body behind rest → count ≢ 1
      → IsFaultAt f Count (p + 8) → PduFails p rest f
  -- PduSize of a keep-alive PDU is not 11 or 13
  WrongKeepAliveSize : (body behind : List ℕ) → BeginsWithFrame 4 1 body behind rest → 9 + length body ≢ 11
      → 9 + length body ≢ 13
      → IsFaultAt f MessageSize (p + 10) → PduFails p rest f
  -- the commands fail
  InCommands : (respond : Bool) (count : ℕ) (body behind : List ℕ)
      → BeginsWithFrame (command_type respond) count body behind rest → count ≢ 0
      → MessagesFail command_encoding CommandFits command_head count p body f → PduFails p rest f
  -- the responses fail
  InResponses : (count : ℕ) (body behind : List ℕ) → BeginsWithFrame 3 count body behind rest → count ≢ 0
      → MessagesFail response_encoding ResponseFits response_head count p body f → PduFails p rest f

-- The first fault of the bytes is f: of the number of bytes, or else of the first PDU that fails.
pub data IsFirstFault (bytes : List ℕ) (f : PduFault) : Type 0 where
  -- there are no bytes
  NoBytes : bytes ≡ []
      → IsFaultAt f Empty 0 → IsFirstFault bytes f
  -- there are more than 1,472 bytes
  TooManyBytes : largest_datagram < length bytes
      → IsFaultAt f TooLong largest_datagram → IsFirstFault bytes f
  -- the bytes are the encodings of PDUs, none or more, and a rest, and the PDU with which the rest begins fails
  InPdu : (rest : List ℕ) (here : HoldsUpTo pdu_encoding PduFits rest bytes) → length bytes ≤ largest_datagram
      → 0 < length rest
      → PduFails (length (flat_map pdu_encoding here.before)) rest f → IsFirstFault bytes f

-- The encodings of messages, PDUs and datagrams (AES70-3, OCP.1).
use Rattle.std.specs.Prelude.{◌≡◌, ℕ, ◌+◌, ◌<◌, ◌≤◌, ◌^◌, Bool, true, false, List, ◌∷◌, ◌++◌, length}
use Rattle.std.specs.List.{flat_map, AllByRecursion}
use Rattle.std.specs.Int.{w16, w32}
use Rattle.oca_types.specs.Numbers.{unsigned_encoding}
use Rattle.oca_types.specs.Sizes.{largest_datagram}
use Rattle.oca_types.specs.Peers.{CommandFields}
use Rattle.oca_pdu.specs.declared.message.Form.{Form}
use Rattle.oca_pdu.specs.declared.message.Form.TheVariants.{Seconds, Millis}
use Rattle.oca_pdu.specs.Messages.{ResponseFields, Pdu, Commands, Responses, OneKeepAlive}

-- the sync, with which each PDU begins
abbrev pub sync_value : ℕ
sync_value = 0x3B

-- the bytes of a command before its parameters, and of a response
abbrev pub command_head : ℕ
command_head = 17

abbrev pub response_head : ℕ
response_head = 10

-- a command: CommandSize, which counts all its bytes (17 of the fields and the parameters), handle, target ONo,
-- DefLevel, MethodIndex, ParamCount, parameters
abbrev pub command_encoding : CommandFields → List ℕ
command_encoding c = unsigned_encoding w32 (command_head + length c.params) ++ unsigned_encoding w32 c.handle
    ++ unsigned_encoding w32 c.target
    ++ unsigned_encoding w16 c.level ++ unsigned_encoding w16 c.index ++ c.count ∷ c.params

-- a response: ResponseSize, which counts all its bytes (10 of the fields and the parameters), handle, status,
-- ParamCount, parameters
abbrev pub response_encoding : ResponseFields → List ℕ
response_encoding r = unsigned_encoding w32 (response_head + length r.params) ++ unsigned_encoding w32 r.handle
    ++ r.status ∷ r.count ∷ r.params

-- a keep-alive: its time
abbrev pub keep_alive_encoding : Form → List ℕ
keep_alive_encoding (Seconds n) = unsigned_encoding w16 n
keep_alive_encoding (Millis n) = unsigned_encoding w32 n

-- a PDU of this PduType, MessageCount and messages: sync, ProtocolVersion 1, PduSize, which counts all bytes but the
-- sync (9 of the header and the messages), PduType, MessageCount, messages
abbrev pub pdu_frame : ℕ → ℕ → List ℕ → List ℕ
pdu_frame type count body = sync_value ∷ unsigned_encoding w16 1 ++ unsigned_encoding w32 (9 + length body)
    ++ type ∷ unsigned_encoding w16 count ++ body

-- commands are of type 1 where they ask for responses, and else of type 0
abbrev pub command_type : Bool → ℕ
command_type false = 0
command_type true = 1

-- a PDU: of type 0 or 1 with commands, of type 3 with responses, of type 4 with a keep-alive
abbrev pub pdu_encoding : Pdu → List ℕ
pdu_encoding (Commands respond cs) = pdu_frame (command_type respond) (length cs) (flat_map command_encoding cs)
pdu_encoding (Responses rs) = pdu_frame 3 (length rs) (flat_map response_encoding rs)
pdu_encoding (OneKeepAlive form) = pdu_frame 4 1 (keep_alive_encoding form)

-- What has an encoding (AES70-3): each number fits its width.
pub record CommandFits (c : CommandFields) : Type 0 where
  pub handle : c.handle < 2 ^ 32
  pub target : c.target < 2 ^ 32
  pub level : c.level < 2 ^ 16
  pub index : c.index < 2 ^ 16
  pub count : c.count < 2 ^ 8
  pub size : command_head + length c.params < 2 ^ 32

-- the same of a response
pub record ResponseFits (r : ResponseFields) : Type 0 where
  pub handle : r.handle < 2 ^ 32
  pub status : r.status < 2 ^ 8
  pub count : r.count < 2 ^ 8
  pub size : response_head + length r.params < 2 ^ 32

-- the same of the time of a keep-alive
abbrev pub FormFits : Form → Type 0
FormFits (Seconds n) = n < 2 ^ 16
FormFits (Millis n) = n < 2 ^ 32

-- A PDU has at least one message, and a keep-alive PDU has one (*profile*); the counts and sizes fit their fields.
abbrev pub PduFits : Pdu → Type 0
PduFits (Commands respond cs) = (0 < length cs) × (length cs < 2 ^ 16) × AllByRecursion CommandFits cs
    × (9 + length (flat_map command_encoding cs) < 2 ^ 32)
PduFits (Responses rs) = (0 < length rs) × (length rs < 2 ^ 16) × AllByRecursion ResponseFits rs
    × (9 + length (flat_map response_encoding rs) < 2 ^ 32)
PduFits (OneKeepAlive form) = FormFits form

-- The bytes are the encodings of these PDUs, one or more (AES70-3), and at most 1,472 (*profile*).
pub record IsDatagram (ps : List Pdu) (bytes : List ℕ) : Type 0 where
  pub nonempty : 0 < length ps
  pub well_formed : AllByRecursion PduFits ps
  pub bytes_are : bytes ≡ flat_map pdu_encoding ps
  pub within_limit : length bytes ≤ largest_datagram

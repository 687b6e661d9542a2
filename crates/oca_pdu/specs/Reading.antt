-- Reading a datagram from left to right: its messages, or its first fault. The code takes the same steps, and so this
-- module, and `messages_left` of Datagrams, which cites it, read by offsets, as no other definition does. That reading
-- gives what the encodings and the first fault say is the law `ReadingIsExact` of Laws: who reads Encoding and
-- FirstFault needs nothing of this.
use Rattle.std.specs.Prelude.{ℕ, zero, suc, ◌+◌, ◌-◌, Bool, true, false, ◌||◌, not, List, [], ◌∷◌, ◌++◌, length, take}
use Rattle.std.specs.Prelude.{drop, slice_index, Result, Ok, Err, nat_lt, ◌==◌, Option, Some, None, if◌then◌else◌}
use Rattle.std.specs.Int.{Width, w16, w32, byte_len, from_be_bytes}
use Rattle.oca_pdu.specs.declared.fault.PduFault.{PduFault}
use Rattle.oca_pdu.specs.declared.fault.PduFaultKind.{PduFaultKind}
use Rattle.oca_pdu.specs.declared.fault.PduFaultKind.TheVariants.{Empty, TooLong, Sync, Version, PduSize, PduType}
use Rattle.oca_pdu.specs.declared.fault.PduFaultKind.TheVariants.{Count, MessageSize, Truncated}
use Rattle.oca_pdu.specs.declared.message.Form.TheVariants.{Seconds, Millis}
use Rattle.oca_pdu.specs.declared.message.Kind.{Kind}
use Rattle.oca_pdu.specs.declared.message.Kind.TheVariants as kinds
use Rattle.oca_pdu.specs.declared.message.Content.{Content}
use Rattle.oca_pdu.specs.declared.message.Content.TheVariants as contents
use Rattle.oca_types.specs.Sizes.{largest_datagram}
use Rattle.oca_pdu.specs.Messages.{Msg, Command, Response, KeepAlive}
use Rattle.oca_pdu.specs.Encoding.{sync_value, command_head, response_head}

infixl 10 ◌>>=◌
abbrev pub ◌>>=◌ : {A B : Type 0} → Result A PduFault → (A → Result B PduFault) → Result B PduFault
(Ok x) >>= f = f x
(Err e) >>= f = Err e

abbrev pub fault : {A : Type 0} → PduFaultKind → ℕ → Result A PduFault
fault kind at = Err (record { kind = kind; at = at })

-- the number in the bytes from byte i on
abbrev pub number_at : Width → ℕ → List ℕ → ℕ
number_at w i bytes = from_be_bytes w (take (byte_len w) (drop i bytes))

-- the least size of a message
abbrev pub least_size : Kind → ℕ
least_size kinds.Command = command_head
least_size kinds.CommandWithResponse = command_head
least_size kinds.Response = response_head

-- the message that is all of the bytes
abbrev pub command_in : Bool → List ℕ → Msg
command_in respond bytes = Command respond (record {
  handle = number_at w32 4 bytes;
  target = number_at w32 8 bytes;
  level = number_at w16 12 bytes;
  index = number_at w16 14 bytes;
  count = slice_index bytes 16;
  params = drop 17 bytes;
})

abbrev pub message_in : Kind → List ℕ → Msg
message_in kinds.Command bytes = command_in false bytes
message_in kinds.CommandWithResponse bytes = command_in true bytes
message_in kinds.Response bytes = Response (record {
  handle = number_at w32 4 bytes;
  status = slice_index bytes 8;
  count = slice_index bytes 9;
  params = drop 10 bytes;
})

-- the message at m, and what is after it in its PDU
unfoldable pub message_at : Kind → ℕ → List ℕ → Result (Msg × List ℕ) PduFault
message_at kind m bytes =
    if nat_lt (length bytes) 4 then fault MessageSize m
    else (if nat_lt (number_at w32 0 bytes) (least_size kind) || nat_lt (length bytes) (number_at w32 0 bytes)
    then fault MessageSize m
    else Ok (message_in kind (take (number_at w32 0 bytes) bytes), drop (number_at w32 0 bytes) bytes))

-- n messages from m on in the PDU at p, which are all of the bytes
unfoldable pub messages_at : Kind → ℕ → ℕ → ℕ → List ℕ → Result (List Msg) PduFault
messages_at kind zero p m bytes = if length bytes == 0 then Ok [] else fault Count (p + 8)
messages_at kind (suc n) p m bytes = if length bytes == 0 then fault Count (p + 8)
    else (message_at kind m bytes >>= λ first.
    messages_at kind n p (m + (length bytes - length first.1)) first.1 >>= λ others. Ok (first.0 ∷ others))

unfoldable pub keep_alive_at : ℕ → List ℕ → Result (List Msg) PduFault
keep_alive_at p bytes = if length bytes == 2 then Ok (KeepAlive (Seconds (number_at w16 0 bytes)) ∷ [])
    else (if length bytes == 4 then Ok (KeepAlive (Millis (number_at w32 0 bytes)) ∷ [])
    else fault MessageSize (p + 10))

abbrev pub content_of : ℕ → Option Content
content_of type = if type == 0 then Some (contents.Messages kinds.Command)
    else (if type == 1 then Some (contents.Messages kinds.CommandWithResponse)
    else (if type == 3 then Some (contents.Messages kinds.Response)
    else (if type == 4 then Some contents.KeepAlive else None)))

-- what the PDU at p holds, with this MessageCount and these bytes after the header
unfoldable pub content_at : Option Content → ℕ → ℕ → List ℕ → Result (List Msg) PduFault
content_at None count p body = fault PduType (p + 7)
content_at (Some (contents.Messages kind)) count p body =
    if count == 0 then fault Count (p + 8) else messages_at kind count p (p + 10) body
content_at (Some contents.KeepAlive) count p body =
    if not (count == 1) then fault Count (p + 8) else keep_alive_at p body

-- the messages of the PDU at p, which is all of the bytes
unfoldable pub inside_at : ℕ → List ℕ → Result (List Msg) PduFault
inside_at p bytes = content_at (content_of (slice_index bytes 7)) (number_at w16 8 bytes) p (drop 10 bytes)

-- the messages of the PDU at p, and what is after it
unfoldable pub pdu_at : ℕ → List ℕ → Result (List Msg × List ℕ) PduFault
pdu_at p bytes =
    if not (slice_index bytes 0 == sync_value) then fault Sync p
    else (if nat_lt (length bytes) 3 then fault Truncated (p + 1)
    else (if not (number_at w16 1 bytes == 1) then fault Version (p + 1)
    else (if nat_lt (length bytes) 7 then fault Truncated (p + 3)
    else (if nat_lt (number_at w32 3 bytes) 11 then fault PduSize (p + 3)
    else (if nat_lt (length bytes) (1 + number_at w32 3 bytes) then fault Truncated (p + 3)
    else (inside_at p (take (1 + number_at w32 3 bytes) bytes) >>= λ ms.
    Ok (ms, drop (1 + number_at w32 3 bytes) bytes)))))))

-- the PDUs from p on, which are all of the bytes, where n is at least their number; n only makes it end
unfoldable pub pdus_at : ℕ → ℕ → List ℕ → Result (List Msg) PduFault
pdus_at zero p bytes = Ok []
pdus_at (suc n) p bytes = if length bytes == 0 then Ok []
    else (pdu_at p bytes >>= λ first.
    pdus_at n (p + (length bytes - length first.1)) first.1 >>= λ others. Ok (first.0 ++ others))

unfoldable pub read_datagram : List ℕ → Result (List Msg) PduFault
read_datagram bytes = if length bytes == 0 then fault Empty 0
    else (if nat_lt largest_datagram (length bytes) then fault TooLong largest_datagram
    else pdus_at (length bytes) 0 bytes)

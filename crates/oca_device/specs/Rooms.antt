-- What a device answers, retains and takes that has room for so many bytes of parameters.
use Rattle.std.specs.Prelude.{[], ◌&&◌, ◌+◌, ◌||◌, Bool, List, if◌then◌else◌, length, map, nat_le, nat_lt, ℕ}
use Rattle.oca_device.specs.Words.{Command, DeviceSizes, Entry, KeepAlive, Msg, Object, Peer, Reply, Response}
use Rattle.oca_device.specs.Words.{most_command_parameter_bytes, most_parameter_bytes, status_number}
use Rattle.oca_types.specs.declared.status.Status.TheVariants as status
use Rattle.oca_pdu.specs.declared.fault.PduFaultKind.TheVariants.{TooLong}
use Rattle.oca_device.specs.declared.verdict.Verdict.{Verdict}
use Rattle.oca_device.specs.declared.verdict.Verdict.TheVariants as verdicts
use Rattle.oca_device.specs.Events.{Event}
use Rattle.oca_device.specs.Answers.{answers, packets_of, verdict}

-- ---- replies

-- A reply with more bytes of parameters than there is room for becomes BufferOverflow (AES70-2, OcaStatus) without
-- parameters. No reply has more than 1,452.
abbrev pub is_too_long : ℕ → List ℕ → Bool
is_too_long room params = nat_lt room most_parameter_bytes && nat_lt room (length params)

abbrev pub shortened_reply : ℕ → Reply → Reply
shortened_reply room r =
    if is_too_long room r.params.items then record {
      status = status.BufferOverflow;
      count = 0;
      params = record { items = [] };
    } else r

-- accepted commands, with such replies
abbrev pub shortened_entry : ℕ → Entry → Entry
shortened_entry room e = record { command = e.command; reply = shortened_reply room e.reply }

abbrev pub shortened_entries : ℕ → List Entry → List Entry
shortened_entries room A = if nat_le most_parameter_bytes room then A else map (shortened_entry room) A

-- a response with such a reply; commands and keep-alives stay
abbrev pub shortened_response : ℕ → Msg → Msg
shortened_response room (Command respond c) = Command respond c
shortened_response room (Response r) =
    if is_too_long room r.params then Response (record {
      handle = r.handle;
      status = status_number status.BufferOverflow;
      count = 0;
      params = [];
    }) else Response r
shortened_response room (KeepAlive form) = KeepAlive form

abbrev pub shortened_answers : ℕ → List Msg → List Msg
shortened_answers room ms = if nat_le most_parameter_bytes room then ms else map (shortened_response room) ms

-- THE PACKETS of a device with so much room, to an event after events: the answers as without it, but shortened.
abbrev pub packets_within : ℕ → DeviceSizes → List Object → List Event → Event → List (List ℕ)
packets_within room w tree events e = packets_of (shortened_answers room (answers w tree events e))

-- ---- datagrams

-- A datagram is short enough with at most 27 bytes more than there is room for. Room for 1,445 is room for each
-- command.
abbrev pub is_short_enough : ℕ → List ℕ → Bool
is_short_enough room bytes = nat_le most_command_parameter_bytes room || nat_le (length bytes) (room + 27)

-- what a device with so much room is told of a datagram: one that does not fit is as one without bytes
abbrev pub told : ℕ → List ℕ → List ℕ
told room bytes = if is_short_enough room bytes then bytes else []

-- THE VERDICT of a device with so much room on a datagram after events: one that does not fit is too long, from the
-- first byte on that has no room.
abbrev pub verdict_within : ℕ → DeviceSizes → List Object → List Event → Peer → List ℕ → ℕ → Verdict
verdict_within room w tree events from bytes now =
    if is_short_enough room bytes then verdict w tree events from bytes now
    else verdicts.Malformed (record { kind = TooLong; at = room + 27 })

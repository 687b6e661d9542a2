-- The messages of a checked datagram, and those that an iterator over them has still to give.
use Rattle.std.specs.Prelude.{List, [], ◌++◌, length, Result, Ok, Err}
use Rattle.oca_pdu.specs.declared.fault.PduFault.{PduFault}
use Rattle.oca_pdu.specs.declared.datagram.Datagram.{Datagram}
use Rattle.oca_pdu.specs.declared.messages.Messages.{Messages}
use Rattle.oca_pdu.specs.Messages.{Msg}
use Rattle.oca_pdu.specs.Reading.{messages_at, pdus_at, read_datagram}

-- what was read, and nothing where reading failed
abbrev pub read_or_none : Result (List Msg) PduFault → List Msg
read_or_none (Ok ms) = ms
read_or_none (Err f) = []

-- the messages of a datagram in order
abbrev pub datagram_messages : Datagram → List Msg
datagram_messages d = read_or_none (read_datagram d.bytes.now)

-- the messages that are left: those of the PDU that was begun, and those of the PDUs after it
abbrev pub messages_left : Messages → List Msg
messages_left it = read_or_none (messages_at it.kind it.left 0 0 it.inside.now)
    ++ read_or_none (pdus_at (length it.rest.now) 0 it.rest.now)

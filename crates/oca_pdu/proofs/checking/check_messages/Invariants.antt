use Rattle.std.proofs.Common.{◌+◌, ◌-◌, ◌≤◌, length}
use Rattle.oca_pdu.specs.Reading.{messages_at}
use Rattle.oca_pdu.proofs.MessageLoop.{Reads}
use Rattle.oca_pdu.proofs.checking.check_messages.Given as goal

abbrev pub invariant-loop : goal.invariant-loop
invariant-loop l = (length l.rest ≤ length l.bytes) × Reads l.kind l.count l.counter l.pdu (l.pdu + 10 + (length l.bytes - length l.rest)) l.rest (messages_at l.kind l.count l.pdu (l.pdu + 10) l.bytes)

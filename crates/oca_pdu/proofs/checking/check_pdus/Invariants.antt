use Rattle.std.proofs.Common.{◌-◌, ◌≤◌, length}
use Rattle.oca_pdu.specs.Reading.{pdus_at}
use Rattle.oca_pdu.proofs.PduLoop.{Reads}
use Rattle.oca_pdu.proofs.checking.check_pdus.Given as goal

abbrev pub invariant-loop : goal.invariant-loop
invariant-loop l = (length l.rest ≤ length l.bytes) × Reads (length l.bytes) l.counter (length l.bytes - length l.rest) l.rest (pdus_at (length l.bytes) 0 l.bytes)

use Rattle.std.proofs.Common.{◌≡◌, count_by, ◌+◌, ◌≤◌}
use Rattle.oca_pdu.specs.Limits.{is_command}
use Rattle.oca_pdu.specs.Datagrams.{datagram_messages, messages_left}
use Rattle.oca_core_tests.proofs.tests.pdu.reading.commands_in.Given as goal

abbrev pub invariant-loop-message : goal.invariant-loop-message
invariant-loop-message l = record {
  can : (goal.iterator-loop-message).can_next l.message-iterator;
  ends : (goal.iterator-loop-message).is_finite l.message-iterator;
  counted : l.count + count_by is_command (messages_left l.message-iterator) ≡ count_by is_command (datagram_messages l.datagram);
  few : count_by is_command (datagram_messages l.datagram) ≤ 86;
}

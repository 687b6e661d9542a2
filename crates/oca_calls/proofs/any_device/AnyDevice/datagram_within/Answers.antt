use Rattle.std.proofs.Common.{rules, ◌≡◌, subst}
use Rattle.oca_device.specs.Events.{Datagram}
use Rattle.oca_device.specs.Outboxes.{first_packets}
use Rattle.oca_device.specs.Rooms.{packets_within, told}
use Rattle.oca_calls.specs.LinkRooms.{Rooms, small_rooms}
use Rattle.oca_calls.proofs.any_device.AnyDevice.datagram_within.Goals as goal
use Rattle.oca_calls.proofs.any_device.AnyDevice.datagram_within.Goals.{in-Full, in-Small}

pub returns-clause-packets : goal.returns-clause-packets
returns-clause-packets c r w T E h =
    elim c.match-self.branch [
      | in-Full b ↦ search rules
      | in-Small b ↦
          let is_small : small_rooms ≡ r = search rules in
          subst (λ (x : Rooms). c.match-self.outbox ≡ first_packets c.args.outbox.now.room (packets_within x.answer w T E (Datagram c.args.from (told x.command c.args.bytes.now) c.args.now)))
          is_small
          (search rules)
    ]

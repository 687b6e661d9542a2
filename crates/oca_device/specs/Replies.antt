-- What the loop sends: the packets of each datagram, to its sender.
use Rattle.std.specs.Prelude.{[], ◌++◌, ◌+◌, ◌<◌, ◌∷◌, ◌≡◌, IsTrue, List, if◌then◌else◌, length, map, nat_le, ℕ}
use Rattle.oca_device.specs.Words.{Datagram, Delivery, DeviceSizes, EndState, Failed, Object, Peer, Quiet, Sent}
use Rattle.oca_device.specs.Words.{TakesAllBut, largest_datagram, last_u64}
use Rattle.oca_device.specs.declared.report.Report.{Report}
use Rattle.oca_device.specs.Events.{Event}
use Rattle.oca_device.specs.Events as event
use Rattle.oca_device.specs.Answers.{packets}
use Rattle.oca_device.specs.Devices.{DeviceState, Represents}
use Rattle.oca_device.specs.Reports.{events_after, events_after_all, report_of}

-- these packets to one peer
abbrev pub sent_to : Peer → List (List ℕ) → List Sent
sent_to p packets = map (λ bytes. record { to = p; bytes = bytes }) packets

-- what is sent for a delivery, after events
abbrev pub sent_for : DeviceSizes → List Object → List Event → Delivery → List Sent
sent_for w tree events (Datagram from bytes now) =
    if nat_le (length bytes) largest_datagram then sent_to from (packets w tree events (event.Datagram from bytes now))
    else []
sent_for w tree events _ = []

-- ALL THAT IS SENT for deliveries, after events, in order.
abbrev pub sent_in_all : DeviceSizes → List Object → List Event → List Delivery → List Sent
sent_in_all w tree events [] = []
sent_in_all w tree events (d ∷ deliveries) =
    sent_for w tree events d ++ sent_in_all w tree (events_after d events) deliveries

-- A DEVICE SERVED THESE DELIVERIES, one a turn: for each tree and events that it represented, it then represents these
-- with the deliveries' events, and the report is that of the deliveries and of the sends that failed.
pub record Serves (deliveries : List Delivery) (old new : DeviceState) (report : Report) : Type 0 where
  pub turns : report.turns ≡ length deliveries
  pub represents : (w : DeviceSizes) (tree : List Object) (events : List Event) → Represents w old tree events →
      Represents w new tree (events_after_all deliveries events)
  pub reported : (w : DeviceSizes) (tree : List Object) (events : List Event) → Represents w old tree events →
      report ≡ record (report_of w tree events deliveries) { failed_sends = report.failed_sends }

-- A DEVICE SERVED AN END: there are deliveries that it served, the report counts the calls of the end that failed, and
-- the end was handed just as many datagrams as are sent for these deliveries.
-- Where the end tells, these deliveries are what it delivered, and it took what was sent for them but for those whose
-- send failed.
pub record ServesEnd (old new : DeviceState) (before after : EndState) (report : Report) : Type 0 where
  pub deliveries : List Delivery
  pub serves : Serves deliveries old new report
  pub telling : after.tells ≡ before.tells
  pub delivered : IsTrue before.tells → after.delivered ≡ before.delivered ++ deliveries
  pub sent : IsTrue before.tells → (w : DeviceSizes) (tree : List Object) (events : List Event) →
      Represents w old tree events →
      TakesAllBut report.failed_sends before.taken after.taken (sent_in_all w tree events deliveries)
  pub failures : after.failures < last_u64 →
      after.failures ≡ before.failures + (report.failed_receives + report.failed_sends)
  pub sends : after.sends < last_u64 → (w : DeviceSizes) (tree : List Object) (events : List Event) →
      Represents w old tree events → after.sends ≡ before.sends + length (sent_in_all w tree events deliveries)

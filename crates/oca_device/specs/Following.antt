-- What the electronics of a device are handed.
use Rattle.std.specs.Prelude.{[], ◌++◌, ◌∷◌, ◌≡◌, Bool, IsTrue, List, if◌then◌else◌, length, nat_le, ℕ}
use Rattle.oca_device.specs.Words.{Datagram, Delivery, DeviceSizes, EndState, Failed, Object, Quiet, largest_datagram}
use Rattle.oca_device.specs.declared.report.Report.{Report}
use Rattle.oca_device.specs.Events.{Event}
use Rattle.oca_device.specs.Events as event
use Rattle.oca_device.specs.States.{state_after}
use Rattle.oca_device.specs.Written.{written}
use Rattle.oca_device.specs.Devices.{DeviceState, Represents}
use Rattle.oca_device.specs.Reports.{capped, events_after}
use Rattle.oca_device.specs.Replies.{ServesEnd}

-- what a datagram did: the objects as it left them, and the numbers of those that it wrote to
pub record Followed : Type 0 where
  pub tree : List Object
  pub written : List ℕ

-- Whether electronics tell what they were handed, and all that they were handed, the latest last, which says nothing of
-- electronics that do not tell.
pub record ElectronicsState : Type 0 where
  pub tells : Bool
  pub followed : List Followed

-- Electronics were handed these objects and these numbers.
pub record Follows (tree : List Object) (numbers : List ℕ) (old new : ElectronicsState) : Type 0 where
  pub telling : new.tells ≡ old.tells
  pub followed : IsTrue old.tells → new.followed ≡ old.followed ++ (record { tree = tree; written = numbers }) ∷ []

-- what is handed of a delivery, after events: of a datagram of at most 1,472 bytes what it did, and of any other
-- delivery nothing
abbrev pub handed_of : DeviceSizes → List Object → List Event → Delivery → List Followed
handed_of w tree events (Datagram from bytes now) =
    let after = event.Datagram from bytes now ∷ events in
    if nat_le (length bytes) largest_datagram then (record {
      tree = (state_after w tree after).tree;
      written = written w tree after;
    }) ∷ [] else []
handed_of w tree events _ = []

-- WHAT IS HANDED of deliveries, after events, in order.
abbrev pub handed : DeviceSizes → List Object → List Event → List Delivery → List Followed
handed w tree events [] = []
handed w tree events (d ∷ deliveries) = handed_of w tree events d ++ handed w tree (events_after d events) deliveries

-- A DEVICE SERVED AN END WITH ELECTRONICS: it served the end, and the electronics were handed what each datagram did,
-- in order.
pub record ServesEndWith (old new : DeviceState) (before after : EndState) (idle moved : ElectronicsState)
    (report : Report) : Type 0 where
  pub serves : ServesEnd old new before after report
  pub telling : moved.tells ≡ idle.tells
  pub followed : IsTrue idle.tells → (w : DeviceSizes) (tree : List Object) (events : List Event) →
      Represents w old tree events →
      moved.followed ≡ idle.followed ++ handed w tree events serves.deliveries

-- A DEVICE SERVED AN END WITH ELECTRONICS FOR LONG: what is returned is the report of that, but for numbers that would
-- pass 64 bits.
pub record ServesLongWith (old new : DeviceState) (before after : EndState) (idle moved : ElectronicsState)
    (returned : Report) : Type 0 where
  pub report : Report
  pub serves : ServesEndWith old new before after idle moved report
  pub returns : returned ≡ capped report

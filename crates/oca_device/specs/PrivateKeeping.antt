-- What is taken in and held until the objects are stored.
use Rattle.std.specs.Prelude.{[], ◌&&◌, ◌++◌, ◌+◌, ◌<◌, ◌≡◌, Bool, IsTrue, List, None, Option, Some, if◌then◌else◌}
use Rattle.std.specs.Prelude.{length, map, not, ℕ}
use Rattle.oca_device.specs.Words.{Delivery, DeviceSizes, EndState, Object, Peer, Receives, SendsAllBut, Sent}
use Rattle.oca_device.specs.Words.{TakesAllBut, last_u64}
use Rattle.oca_net.specs.declared.end.Heard.TheVariants as heard
use Rattle.oca_device.specs.declared.report.Report.{Report}
use Rattle.oca_device.specs.declared.keeping.HeldPacket.{HeldPacket}
use Rattle.oca_device.specs.declared.keeping.Turn.{Turn}
use Rattle.oca_device.specs.Events.{Event}
use Rattle.oca_device.specs.Devices.{DeviceState, Represents}
use Rattle.oca_device.specs.Reports.{capped}
use Rattle.oca_device.specs.Replies.{Serves}
use Rattle.oca_device.specs.Following.{ElectronicsState, handed}
use Rattle.oca_device.specs.Keeping.{KeepingState, StoreState, Stores, at_once, waiting, behind_all, some_wait}

-- what these answers are, and to whom
abbrev pub packets_held : List HeldPacket → List Sent
packets_held answers = map (λ a. record { to = a.to; bytes = a.packet.items }) answers

-- Deliveries were taken in: what does not wait was sent, and what waits is held. They are due where the answers to one
-- of them wait.
pub record TakesExactly (due : Bool) (old new : DeviceState) (before after : EndState) (idle moved : ElectronicsState)
    (was is : KeepingState) (report : Report) : Type 0 where
  pub deliveries : List Delivery
  pub serves : Serves deliveries old new report
  pub telling : after.tells ≡ before.tells
  pub delivered : IsTrue before.tells → after.delivered ≡ before.delivered ++ deliveries
  pub failures : after.failures < last_u64 →
      after.failures ≡ before.failures + (report.failed_receives + report.failed_sends)
  pub sent : IsTrue before.tells → (w : DeviceSizes) (tree : List Object) (events : List Event) →
      Represents w old tree events →
      TakesAllBut report.failed_sends before.taken after.taken (at_once was.is_behind w tree events deliveries)
  pub sends : after.sends < last_u64 → (w : DeviceSizes) (tree : List Object) (events : List Event) →
      Represents w old tree events → after.sends ≡
      before.sends + length (at_once was.is_behind w tree events deliveries)
  pub following : moved.tells ≡ idle.tells
  pub followed : IsTrue idle.tells → (w : DeviceSizes) (tree : List Object) (events : List Event) →
      Represents w old tree events →
      moved.followed ≡ idle.followed ++ handed w tree events deliveries
  pub holding : (w : DeviceSizes) (tree : List Object) (events : List Event) → Represents w old tree events →
      is.held ≡ was.held ++ waiting was.is_behind w tree events deliveries
  pub unstored : (w : DeviceSizes) (tree : List Object) (events : List Event) → Represents w old tree events →
      is.is_behind ≡ behind_all was.is_behind w tree events deliveries
  pub waited : (w : DeviceSizes) (tree : List Object) (events : List Event) → Represents w old tree events →
      due ≡ some_wait was.is_behind w tree events deliveries

-- the same, with a report whose numbers stay at the last of 64 bits
pub record TakesIn (due : Bool) (old new : DeviceState) (before after : EndState) (idle moved : ElectronicsState)
    (was is : KeepingState) (returned : Report) : Type 0 where
  pub report : Report
  pub returns : returned ≡ capped report
  pub takes : TakesExactly due old new before after idle moved was is report

-- The store was handed these objects, and what was held was sent where it said that it holds them. Nothing is held
-- then.
pub record SettlesGroup (tree : List Object) (before after : EndState) (was is : KeepingState) (had has : StoreState)
    (failed : ℕ) : Type 0 where
  pub stored : Bool
  pub stores : Stores stored tree had has
  pub sends : SendsAllBut failed before after (if stored then was.held else [])
  pub behind : is.is_behind ≡ (was.is_behind && not stored)
  pub none : is.held ≡ []

-- at Closed all is as it was
pub record StaysClosed (old new : DeviceState) (before after : EndState) (idle moved : ElectronicsState)
    (was is : KeepingState) : Type 0 where
  pub device : new ≡ old
  pub electronics : moved ≡ idle
  pub keeping : is ≡ was
  pub received : Receives heard.Closed [] before after

-- a turn takes one delivery in, or the end is closed
abbrev pub TakesOneIn : DeviceState → DeviceState → EndState → EndState → ElectronicsState → ElectronicsState →
    KeepingState → KeepingState → Option Turn → Type 0
TakesOneIn old new before after idle moved was is None = StaysClosed old new before after idle moved was is
TakesOneIn old new before after idle moved was is (Some turn) =
    TakesExactly turn.waits old new before after idle moved was is turn.report

-- A datagram was served after it was received, and its answers were sent or are held.
pub record TakesDatagramIn (turn : Turn) (from : Peer) (bytes : List ℕ) (now : ℕ) (old new : DeviceState)
    (before after : EndState) (idle moved : ElectronicsState) (was is : KeepingState) : Type 0 where
  pub taken : (start : EndState) → Receives (heard.Datagram from now) bytes start before →
      TakesExactly turn.waits old new start after idle moved was is turn.report
  pub one : turn.report.turns ≡ 1

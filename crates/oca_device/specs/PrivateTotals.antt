-- What a turn returns, and numbers of reports that fit.
use Rattle.std.specs.Prelude.{[], ◌≡◌, ◌≤◌, None, Option, Some, ℕ}
use Rattle.oca_device.specs.Words.{EndState, Receives, one_more}
use Rattle.oca_net.specs.declared.end.Heard.TheVariants as heard
use Rattle.oca_device.specs.declared.report.Report.{Report}
use Rattle.oca_device.specs.Devices.{DeviceState}
use Rattle.oca_device.specs.Following.{ElectronicsState, ServesEndWith}

-- no number of the report is above m
pub record IsAtMostEach (m : ℕ) (r : Report) : Type 0 where
  pub turns : r.turns ≤ m
  pub executed : r.executed ≤ m
  pub kept : r.kept ≤ m
  pub old : r.old ≤ m
  pub reused : r.reused ≤ m
  pub malformed : r.malformed ≤ m
  pub no_room : r.no_room ≤ m
  pub oversize : r.oversize ≤ m
  pub quiet : r.quiet ≤ m
  pub failed_receives : r.failed_receives ≤ m
  pub failed_sends : r.failed_sends ≤ m

-- A turn serves an end with electronics, and receives once.
pub record ServesTurn (old new : DeviceState) (before after : EndState) (idle moved : ElectronicsState) (turn : Report)
    : Type 0 where
  pub serves : ServesEndWith old new before after idle moved turn
  pub one : turn.turns ≡ 1
  pub receives : after.receives ≡ one_more before.receives

-- at Closed the device and the electronics are as they were
pub record IsClosed (old new : DeviceState) (before after : EndState) (idle moved : ElectronicsState) : Type 0 where
  pub device : new ≡ old
  pub electronics : moved ≡ idle
  pub received : Receives heard.Closed [] before after

abbrev pub TakesTurn : DeviceState → DeviceState → EndState → EndState → ElectronicsState → ElectronicsState →
    Option Report → Type 0
TakesTurn old new before after idle moved None = IsClosed old new before after idle moved
TakesTurn old new before after idle moved (Some turn) = ServesTurn old new before after idle moved turn

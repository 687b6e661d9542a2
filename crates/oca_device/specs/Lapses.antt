-- When a clock reading next changes something. Moments are in milliseconds.
use Rattle.std.specs.Prelude.{◌<◌, ◌^◌, ◌≡◌, ◌≤◌, ℕ}
use Rattle.oca_device.specs.Words.{DeviceSizes}
use Rattle.oca_device.specs.Events.{Tick}
use Rattle.oca_device.specs.States.{State, after_event}
use Rattle.oca_device.specs.Devices.{table_of}

-- A clock reading of t leaves the objects and the sessions as they are. (It may move the clock.)
pub record TickKeeps (w : DeviceSizes) (s : State) (t : ℕ) : Type 0 where
  pub objects : (after_event w (Tick t) s).tree ≡ s.tree
  pub sessions : (table_of w (after_event w (Tick t) s)).sessions ≡ (table_of w s).sessions

-- NEXT LAPSE. A clock reading of t changes the objects or the sessions, and one of an earlier moment, from the clock's
-- own on, does not.
pub record IsNextLapse (w : DeviceSizes) (s : State) (t : ℕ) : Type 0 where
  pub own : s.moment ≤ t
  pub changes : TickKeeps w s t → ⊥
  pub earlier : (u : ℕ) → s.moment ≤ u → u < t → TickKeeps w s u

-- no clock reading of 64 bits, from the clock's own moment on, changes the objects or the sessions
pub record NeverLapses (w : DeviceSizes) (s : State) : Type 0 where
  pub never : (t : ℕ) → s.moment ≤ t → t < 2 ^ 64 → TickKeeps w s t

-- What a replay does to a device, and what it writes.
use Rattle.std.specs.Prelude.{◌≡◌, ℕ, List, ◌∷◌, ◌++◌, Result, Err}
use Rattle.oca_types.specs.Sizes.{DeviceSizes}
use Rattle.oca_tree.specs.declared.object.Object.{Object}
use Rattle.oca_device.specs.Devices.{DeviceState, Represents}
use Rattle.oca_device.specs.Events.{Event}
use Rattle.oca_script.specs.declared.fault.ReplayFault.{ReplayFault}
use Rattle.oca_script.specs.declared.fault.ReplayFault.TheVariants.{Read, Write}
use Rattle.oca_script.specs.declared.fault.WriteFailed.{WriteFailed}
use Rattle.oca_script.specs.Ends.{Input, Output}
use Rattle.oca_script.specs.Printing.{Prints, WritesWhole}
use Rattle.oca_script.specs.Script.{Script, script}
use Rattle.oca_script.specs.Replaying.{BeginsWithRequests, ReadsInput, Writes, known_bytes}
use Rattle.ocadev_replay.specs.Requests.{asked_event}
use Rattle.ocadev_replay.specs.Printing.{event_text, events_text, events_then}

-- From old, whatever it represents, the event leads to new, and prints the text.
pub record ServesEvent (old : DeviceState) (e : Event) (new : DeviceState) (text : List ℕ) : Type 0 where
  pub represents : (w : DeviceSizes) (tree : List Object) (events : List Event) → Represents w old tree events
      → Represents w new tree (e ∷ events)
  pub prints : (w : DeviceSizes) (tree : List Object) (events : List Event) → Represents w old tree events → text
      ≡ event_text w tree events e

-- the event was served, and its text printed, as far as the writes went
pub record ServesEventAndPrints (old : DeviceState) (e : Event) (new : DeviceState) (result : Result Unit WriteFailed)
    (was is : Output) : Type 0 where
  pub text : List ℕ
  pub serves : ServesEvent old e new text
  pub prints : Prints result was is text

-- ---- the whole replay

-- what a script asks of the device
abbrev pub device_script : List ℕ → Script Event
device_script bytes = script asked_event bytes

-- The script ended so: the text of its events was written, and the device represents them after those before.
pub record Whole (w : DeviceSizes) (tree : List Object) (events : List Event) (new : DeviceState) (was is : Output)
    (result : Result Unit ReplayFault) (given : List ℕ) : Type 0 where
  pub ending : (device_script given).ending ≡ result
  pub writes : WritesWhole was is (events_text w tree events (device_script given).requests)
  pub represents : Represents w new tree (events_then events (device_script given).requests)

-- A read or a write failed: some first events were served, and their text was written, or a front of it.
pub record Part (w : DeviceSizes) (tree : List Object) (events : List Event) (new : DeviceState) (was is : Output)
    (result : Result Unit ReplayFault) (given : List ℕ) : Type 0 where
  pub first : List Event
  pub begins : BeginsWithRequests first (device_script given)
  pub writes : Writes result was is (events_text w tree events first)
  pub represents : Represents w new tree (events_then events first)

-- what a replay of `given` did, by its result
abbrev pub ReplaysEvents : DeviceSizes → List Object → List Event → DeviceState → Output → Output
    → Result Unit ReplayFault → List ℕ → Type 0
ReplaysEvents w tree events new was is (Err Read) given = Part w tree events new was is (Err Read) given
ReplaysEvents w tree events new was is (Err Write) given = Part w tree events new was is (Err Write) given
ReplaysEvents w tree events new was is ended given = Whole w tree events new was is ended given

-- There are bytes, those that the source gave where they are known, and the script of these and of what it has left was
-- replayed.
abbrev pub ReplayOutcome : DeviceSizes → List Object → List Event → DeviceState → Output → Output → Input → Input
    → Result Unit ReplayFault → Type 0
ReplayOutcome w tree events new was is had has result = (taken : List ℕ) × ReadsInput had has result taken
    × ReplaysEvents w tree events new was is result (taken ++ known_bytes has.remaining)

-- A device with what it has room for: the value that is behind an open handle once it is started.
use Rattle.std.specs.Prelude.{◌≡◌, List, ◌∷◌}
use Rattle.oca_types.specs.Sizes.{DeviceSizes}
use Rattle.oca_tree.specs.declared.object.Object.{Object}
use Rattle.oca_device.specs.Devices.{DeviceState, RepresentsWithin}
use Rattle.oca_device.specs.Events.{Event}
use Rattle.oca_calls.specs.LinkRooms.{Rooms, full_rooms, small_rooms}
use Rattle.oca_calls.specs.declared.any_device.EitherSize.{EitherSize}
use Rattle.oca_calls.specs.declared.any_device.EitherSize.TheVariants.{Full, Small}

-- a device's state with its rooms
pub record RoomedDevice : Type 0 where
  pub device : DeviceState
  pub rooms : Rooms

-- the state of a device of either size
abbrev pub roomed_device : EitherSize → RoomedDevice
roomed_device (Full d) = record { device = d; rooms = full_rooms }
roomed_device (Small d) = record { device = d; rooms = small_rooms }

-- THE DEVICE HAS THESE ROOMS, AND REPRESENTS the tree and the events
abbrev pub RunsWithin : Rooms → DeviceSizes → RoomedDevice → List Object → List Event → Type 0
RunsWithin r w d tree events = (d.rooms ≡ r) × RepresentsWithin r.answer w d.device tree events

-- This is so of the rooms, the sizes, the opening tree and the events, whichever the device represents.
abbrev pub WhateverItRuns : RoomedDevice → (Rooms → DeviceSizes → List Object → List Event → Type 0) → Type 0
WhateverItRuns d IsSo =
    (r : Rooms) (w : DeviceSizes) (tree : List Object) (events : List Event) →
    RunsWithin r w d tree events → IsSo r w tree events

-- THE EVENT IS APPENDED to those that the device represents.
abbrev pub AppendsWithin : RoomedDevice → RoomedDevice → Event → Type 0
AppendsWithin old new e = WhateverItRuns old (λ r w tree events. RunsWithin r w new tree (e ∷ events))

-- What the calls promise of what is behind a handle.
use Rattle.std.specs.Prelude.{◌≡◌, ◌⊎◌, ℕ, ◌≤◌, List, [], ◌∷◌, take, map, length, Option, Some, None, IsSome}
use Rattle.std.specs.Prelude.{IsSomeAnd}
use Rattle.std.specs.Str.{IsUtf8}
use Rattle.oca_types.specs.Sizes.{DeviceSizes}
use Rattle.oca_tree.specs.declared.object.Object.{Object}
use Rattle.oca_tree.specs.declared.builder.Kind.{Kind}
use Rattle.oca_tree.specs.declared.builder.Kind.TheVariants as kinds
use Rattle.oca_tree.specs.declared.setting.SetFault.{SetFault}
use Rattle.oca_tree.specs.Building.{root}
use Rattle.oca_tree.specs.Objects.{Store}
use Rattle.oca_device.specs.Events.{Event}
use Rattle.oca_device.specs.Outboxes.{KeptPackets, first_packets}
use Rattle.oca_calls.specs.declared.answer.Answer.{Answer}
use Rattle.oca_calls.specs.declared.answer.Answer.TheVariants as answers
use Rattle.oca_calls.specs.declared.device.DeviceBehind.{DeviceBehind}
use Rattle.oca_calls.specs.declared.name.Name.{Name}
use Rattle.oca_calls.specs.DeviceRooms.{RunsWithin}
use Rattle.oca_calls.specs.LinkRooms.{Rooms}
use Rattle.oca_calls.specs.Storings.{HasUnstored, all_stored}
use Rattle.oca_calls.specs.Numbers.{set_answer}

-- ---- where a device stands

-- a tree is being built: so many objects have room, and these are there
abbrev pub Builds : DeviceBehind → Store → Type 0
Builds behind built = (behind.builder ≡ Some built) × (behind.device ≡ None)

-- a device with these rooms runs, and it represents the tree and the events
abbrev pub RunsBehind : Rooms → DeviceSizes → DeviceBehind → List Object → List Event → Type 0
RunsBehind r w behind tree events =
    (behind.builder ≡ None) × IsSomeAnd behind.device (λ d. RunsWithin r w d tree events)

-- the same behind an open handle
abbrev pub HandleBuilds : Option DeviceBehind → Store → Type 0
HandleBuilds behind built = IsSomeAnd behind (λ b. Builds b built)

abbrev pub HandleRuns : Rooms → DeviceSizes → Option DeviceBehind → List Object → List Event → Type 0
HandleRuns r w behind tree events = IsSomeAnd behind (λ b. RunsBehind r w b tree events)

-- This is so of the rooms, the sizes, the opening tree and the events, whichever the device represents; and behind an
-- open handle.
abbrev pub WhateverRunsBehind : DeviceBehind → (Rooms → DeviceSizes → List Object → List Event → Type 0) → Type 0
WhateverRunsBehind behind IsSo =
    (r : Rooms) (w : DeviceSizes) (tree : List Object) (events : List Event) →
    RunsBehind r w behind tree events → IsSo r w tree events

abbrev pub WhateverHandleRuns
    : Option DeviceBehind → (Rooms → DeviceSizes → List Object → List Event → Type 0) → Type 0
WhateverHandleRuns behind IsSo =
    (r : Rooms) (w : DeviceSizes) (tree : List Object) (events : List Event) →
    HandleRuns r w behind tree events → IsSo r w tree events

-- behind an open handle this is kept of the packets that answer
abbrev pub HasPackets : Option DeviceBehind → KeptPackets → Type 0
HasPackets behind kept = IsSomeAnd behind (λ b. b.outbox ≡ kept)

-- behind an open handle there is a device, and this is kept of the packets that answer
abbrev pub AnsweredWith : Option DeviceBehind → KeptPackets → Type 0
AnsweredWith behind kept = IsSomeAnd behind (λ b. IsSome b.device × (b.outbox ≡ kept))

-- what is kept of the packets stays
abbrev pub KeepsPackets : Option DeviceBehind → Option DeviceBehind → Type 0
KeepsPackets old new = (kept : KeptPackets) → HasPackets old kept → HasPackets new kept

-- Of the packets that answer a datagram the first are kept, as many as there is room for; there are never more than
-- 122.
abbrev pub KeepsFirst : Option DeviceBehind → Option DeviceBehind → List (List ℕ) → Type 0
KeepsFirst old new packets =
    ((kept : KeptPackets) → HasPackets old kept → HasPackets new (first_packets kept.room packets))
    × (length packets ≤ 122)

-- ---- refusals

-- what is closed refuses, and stays closed
abbrev pub RefusesClosed : {X : Type 0} → Option X → Option X → ℕ → Type 0
RefusesClosed old new number = old ≡ None → (number ≡ 9) × (new ≡ None)

-- where there is no device, as before the start, nothing is asked of one
abbrev pub RefusesBuilding : Option DeviceBehind → Option DeviceBehind → ℕ → Type 0
RefusesBuilding old new number = IsSomeAnd old (λ b. b.device ≡ None) → (number ≡ 11) × (new ≡ old)

-- where no tree is being built, as after the start, nothing is added to one and none is started
abbrev pub RefusesRunning : Option DeviceBehind → Option DeviceBehind → ℕ → Type 0
RefusesRunning old new number = IsSomeAnd old (λ b. b.builder ≡ None) → (number ≡ 12) × (new ≡ old)

-- ---- opening and starting

-- a room for objects
abbrev pub IsRoom : ℕ → Type 0
IsRoom room = (1 ≤ room) × (room ≤ 4096)

-- a root alone, with this room
abbrev pub root_alone : ℕ → Store
root_alone room = record { room = room; list = root ∷ [] }

-- A closed struct is opened: with room for so many objects; or not, where that is no room, or for want of memory.
abbrev pub Opens : ℕ → Option DeviceBehind → ℕ → Type 0
Opens number new room =
    ((number ≡ 0) × IsRoom room × HandleBuilds new (root_alone room))
    ⊎ (((number ≡ 8) × IsRoom room × (new ≡ None)) ⊎ ((number ≡ 15) × (IsRoom room → ⊥) × (new ≡ None)))

-- a size of a window, or a number of peers
abbrev pub IsSize : ℕ → Type 0
IsSize size = (1 ≤ size) × (size ≤ 64)

-- a room for packets that answer a datagram
abbrev pub IsPacketRoom : ℕ → Type 0
IsPacketRoom packets = (1 ≤ packets) × (packets ≤ 122)

-- the objects are gone, and there is no device
abbrev pub IsSpent : DeviceBehind → Type 0
IsSpent behind = (behind.builder ≡ None) × (behind.device ≡ None)

-- A device with these rooms is started with the objects, no packet is there, and nothing is to be stored; or not, for
-- want of memory, which loses the objects, or where a size is none, which changes nothing.
abbrev pub Starts : Answer → DeviceBehind → DeviceBehind → Rooms → ℕ → ℕ → ℕ → List Object → Type 0
Starts answer old new r window peers packets tree =
    ((answer ≡ answers.Done) × IsSize window × IsSize peers × IsPacketRoom packets
    × RunsBehind r (record { window = window; peers = peers }) new tree [] × (new.outbox ≡ first_packets packets [])
    × (new.unstored ≡ all_stored))
    ⊎ (((answer ≡ answers.NoMemory) × IsSize window × IsSize peers × IsPacketRoom packets × IsSpent new)
    ⊎ ((answer ≡ answers.BadSize) × (IsSize window → IsSize peers → IsPacketRoom packets → ⊥) × (new ≡ old)))

-- what a start leaves behind its handle: nothing, where memory was refused
abbrev pub left_by_start : Answer → DeviceBehind → Option DeviceBehind
left_by_start answers.NoMemory behind = None
left_by_start _ behind = Some behind

-- the same behind an open handle, which is closed where memory was refused
abbrev pub HandleStarts : ℕ → Option DeviceBehind → Option DeviceBehind → Rooms → ℕ → ℕ → ℕ → List Object → Type 0
HandleStarts number old new r window peers packets tree =
    ((number ≡ 0) × IsSize window × IsSize peers × IsPacketRoom packets
    × HandleRuns r (record { window = window; peers = peers }) new tree [] × HasPackets new (first_packets packets [])
    × HasUnstored new all_stored)
    ⊎ (((number ≡ 8) × IsSize window × IsSize peers × IsPacketRoom packets × (new ≡ None))
    ⊎ ((number ≡ 15) × (IsSize window → IsSize peers → IsPacketRoom packets → ⊥) × (new ≡ old)))

-- the bytes of a name, and whether it is one
abbrev pub name_bytes : Name → List ℕ
name_bytes name = take name.size name.text

-- the bytes that names count, one after another
abbrev pub name_sizes : List Name → List ℕ
name_sizes names = map (λ name. name.size) names

abbrev pub IsName : Name → Type 0
IsName name = (name.size ≤ 64) × IsUtf8 (name_bytes name)

-- a switch with these names of positions, at this position
abbrev pub IsSwitch : Kind → List (List ℕ) → ℕ → Type 0
IsSwitch (kinds.Switch names at) texts position = (map (λ name. name.now) names.now ≡ texts) × (at ≡ position)
IsSwitch _ texts position = ⊥

-- ---- changes at the front

-- what a change at the front is answered with
abbrev pub set_answers : Option SetFault → Answer
set_answers None = answers.Done
set_answers (Some fault) = set_answer fault

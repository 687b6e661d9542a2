-- A device represents an opening tree and events where it is what they say.
use Rattle.std.specs.Prelude.{◌∷◌, ◌≡◌, List, map, ℕ}
use Rattle.oca_device.specs.Words.{Object, Peer, retained_of}
pub use Rattle.std.specs.Result.{result_err}
pub use Rattle.oca_types.specs.Sizes.{DeviceSizes, most_parameter_bytes, window_size, sizes_of}
pub use Rattle.oca_pdu.specs.Limits.{most_answered, most_commands}
pub use Rattle.oca_tree.specs.Settings.{set_fault}
pub use Rattle.oca_tree.specs.LocalChanges.{front_fault, ToValue, ToLabel, ToEnabled, ToUnlocked, ToFailing}
pub use Rattle.oca_tree.specs.Readers.{failing_at}
pub use Rattle.oca_session.specs.Table.{Session, Table, peers_of}
use Rattle.oca_device.specs.declared.effect.Effect.{Effect}
pub use Rattle.oca_device.specs.Events.{Event, Datagram, Tick, Local}
use Rattle.oca_device.specs.Notes.{Note, run, noted_peers, last_noted, heartbeat_noted, accepted}
pub use Rattle.oca_device.specs.States.{State, state_after, known_after}
use Rattle.oca_device.specs.Written.{written}
use Rattle.oca_device.specs.Effects.{effects}
pub use Rattle.oca_device.specs.Rooms.{shortened_entries, packets_within, told, verdict_within}
pub use Rattle.oca_device.specs.Outboxes.{may_be_answered}

-- What a device is: its objects, its clock and sessions, the numbers of the objects that the last datagram wrote to,
-- and what became of each command of this datagram.
pub record DeviceState : Type 0 where
  pub tree : List Object
  pub sessions : Table
  pub written : List ℕ
  pub effects : List Effect

-- The session of a peer: the moment of its last datagram, its heartbeat, and what a reply window of its size retains of
-- its accepted commands: the last of them with their replies, and the greatest handle outside these. A reply that the
-- window has no room for is shortened.
abbrev pub session_within : ℕ → DeviceSizes → List Note → Peer → Session
session_within room w notes p =
    let own = run p notes in
    record {
      peer = p;
      heard = last_noted own;
      heartbeat = heartbeat_noted own;
      retained = retained_of w.window (shortened_entries room (accepted own));
    }

-- the clock, and the sessions of the known peers in order of opening
abbrev pub table_within : ℕ → DeviceSizes → State → Table
table_within room w s =
    record {
      sizes = w;
      moment = s.moment;
      sessions = map (session_within room w s.notes) (noted_peers s.moment s.notes);
    }

-- where there is room for each reply
abbrev pub table_of : DeviceSizes → State → Table
table_of w s = table_within most_parameter_bytes w s

-- the objects, the clock and the sessions of the device are what the state says
pub record IsIn (room : ℕ) (w : DeviceSizes) (d : DeviceState) (s : State) : Type 0 where
  pub tree : d.tree ≡ s.tree
  pub sessions : d.sessions ≡ table_within room w s

-- THE DEVICE REPRESENTS the tree and the events, with sizes w and so much room for each reply that it retains.
pub record RepresentsWithin (room : ℕ) (w : DeviceSizes) (d : DeviceState) (tree : List Object) (events : List Event)
    : Type 0 where
  pub state : IsIn room w d (state_after w tree events)
  pub written : d.written ≡ written w tree events
  pub effects : d.effects ≡ effects w tree events

-- and where there is room for each reply
abbrev pub Represents : DeviceSizes → DeviceState → List Object → List Event → Type 0
Represents w d tree events = RepresentsWithin most_parameter_bytes w d tree events

-- THE EVENT IS APPENDED: whatever the device represented before a call, it represents after it with this event, the
-- latest.
abbrev pub Appends : ℕ → DeviceState → DeviceState → Event → Type 0
Appends room old new e =
    (w : DeviceSizes) (tree : List Object) (events : List Event) →
    RepresentsWithin room w old tree events → RepresentsWithin room w new tree (e ∷ events)

-- This is so of the sizes, the opening tree and the events, whichever the device represents.
abbrev pub WhateverItRepresents
    : ℕ → DeviceState → (DeviceSizes → List Object → List Event → Type 0) → Type 0
WhateverItRepresents room d IsSo =
    (w : DeviceSizes) (tree : List Object) (events : List Event) →
    RepresentsWithin room w d tree events → IsSo w tree events

-- Which objects the last datagram wrote to.
use Rattle.std.specs.Prelude.{[], ◌++◌, ◌∷◌, Err, List, Ok, Result, if◌then◌else◌, map, max, ℕ}
use Rattle.oca_device.specs.Words.{Command, CommandFields, DeviceSizes, Duplicate, Fresh, Judgement, KeepAlive, Msg}
use Rattle.oca_device.specs.Words.{Object, Old, PduFault, Peer, Response, Reused, read_datagram, wrote}
use Rattle.oca_types.specs.declared.words.Ono.{Ono}
use Rattle.oca_device.specs.Events.{Event, Datagram, Tick, Local}
use Rattle.oca_device.specs.Notes.{Admitted}
use Rattle.oca_device.specs.States.{State, noted, moved_to, admits, judged_in, after_message, state_after}

-- objects by their numbers
abbrev pub numbers_of : List Ono → List ℕ
numbers_of onos = map (λ o. o.0) onos

-- an executed command that wrote names its object, and one that read, locked or was refused none
abbrev pub written_by_execution : List Object → Peer → CommandFields → List ℕ
written_by_execution tree p c = if wrote tree p c then c.target ∷ [] else []

-- a command is executed where it is fresh
abbrev pub written_by_command : Judgement → Peer → CommandFields → State → List ℕ
written_by_command Fresh p c s = written_by_execution s.tree p c
written_by_command _ p c s = []

abbrev pub written_by_message : DeviceSizes → Peer → Msg → State → List ℕ
written_by_message w p (Command respond c) s = written_by_command (judged_in w s p c) p c s
written_by_message w p _ s = []

abbrev pub written_by_messages : DeviceSizes → Peer → List Msg → State → List ℕ
written_by_messages w p [] s = []
written_by_messages w p (m ∷ messages) s =
    written_by_message w p m s ++ written_by_messages w p messages (after_message w p m s)

abbrev pub written_by_reading : DeviceSizes → Peer → Result (List Msg) PduFault → State → List ℕ
written_by_reading w p (Err fault) s = []
written_by_reading w p (Ok messages) s =
    if admits w s p then written_by_messages w p messages (noted p (Admitted messages) s) else []

-- THE OBJECTS WRITTEN by the last datagram of events: in order, each as often as it was; none before the first. Clock
-- readings and changes at the front leave them.
abbrev pub written : DeviceSizes → List Object → List Event → List ℕ
written w tree [] = []
written w tree (Datagram from bytes now ∷ events) =
    let s = state_after w tree events in
    written_by_reading w from (read_datagram bytes) (moved_to (max s.moment now) s)
written w tree (Tick now ∷ events) = written w tree events
written w tree (Local ono change ∷ events) = written w tree events

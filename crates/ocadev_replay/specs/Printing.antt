-- What is printed for an event.
use Rattle.std.specs.Prelude.{ℕ, ◌==◌, if◌then◌else◌, List, [], ◌∷◌, ◌++◌, codes, decimal}
use Rattle.std.specs.List.{flat_map}
use Rattle.oca_types.specs.Sizes.{DeviceSizes}
use Rattle.oca_tree.specs.declared.object.Object.{Object}
use Rattle.oca_pdu.specs.Faults.{fault_number}
use Rattle.oca_device.specs.declared.verdict.Verdict.{Verdict}
use Rattle.oca_device.specs.declared.verdict.Verdict.TheVariants as verdicts
use Rattle.oca_device.specs.Events.{Event, Datagram, Tick, Local}
use Rattle.oca_device.specs.Answers.{packets, verdict}
use Rattle.oca_script.specs.Fields.{hex_text}

-- how many commands asked something else under a kept handle, where there are any
abbrev pub reused_text : ℕ → List ℕ
reused_text reused = if reused == 0 then [] else codes " reused " ++ decimal reused

-- the line of what became of a datagram
abbrev pub verdict_text : Verdict → List ℕ
verdict_text (verdicts.Served executed kept old reused) =
    codes "served " ++ decimal executed ++ codes " " ++ decimal kept ++ codes " " ++ decimal old ++ reused_text reused
    ++ codes "\n"
verdict_text (verdicts.Malformed fault) = codes "malformed " ++ decimal (fault_number fault.kind) ++ codes " at "
    ++ decimal fault.at ++ codes "\n"
verdict_text verdicts.NoRoom = codes "no-room\n"

-- the line of a packet
abbrev pub packet_text : List ℕ → List ℕ
packet_text packet = codes "> " ++ hex_text packet ++ codes "\n"

-- What is printed for an event after events: of a datagram its verdict and the packets that answer it.
unfoldable pub event_text : DeviceSizes → List Object → List Event → Event → List ℕ
event_text w tree events (Datagram from bytes now) =
    verdict_text (verdict w tree events from bytes now) ++ flat_map packet_text
    (packets w tree events (Datagram from bytes now))
event_text w tree events (Tick now) = codes "quiet\n"
event_text w tree events (Local ono change) = []

-- further events after events; the latest stands first in the result, as in each list of a device's events
abbrev pub events_then : List Event → List Event → List Event
events_then events [] = events
events_then events (e ∷ more) = events_then (e ∷ events) more

-- what is printed for further events, in order
abbrev pub events_text : DeviceSizes → List Object → List Event → List Event → List ℕ
events_text w tree events [] = []
events_text w tree events (e ∷ more) = event_text w tree events e ++ events_text w tree (e ∷ events) more

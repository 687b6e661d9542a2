-- What the program's own values of a line's request say.
use Rattle.std.specs.Prelude.{◌≡◌, ◌≤◌, ℕ, List, [], ◌∷◌, length, Option, Some, Result, Ok, Err}
use Rattle.std.specs.Option.{option_map}
use Rattle.oca_script.specs.declared.fault.LineFault.{LineFault}
use Rattle.oca_script.specs.declared.fault.LineFault.TheVariants.{Form, Hex}
use Rattle.oca_script.specs.Fields.{moment_of, peer_of, hex_of, then_in, read_before}
use denote.Ref.{Bor}
use Rattle.oca_types.specs.declared.words.Peer.{Peer}
use Rattle.oca_device.specs.Events.{Event, Datagram, Tick}
use Rattle.oca_script.specs.LineFields.{needs}
use Rattle.ocadev_replay.specs.Requests.{asked_event}
use Rattle.ocadev_replay.specs.declared.request.Fields.{Fields}
use Rattle.ocadev_replay.specs.declared.request.Fields.TheVariants as fields
use Rattle.ocadev_replay.specs.declared.request.ScriptEvent.{ScriptEvent}
use Rattle.ocadev_replay.specs.declared.request.ScriptEvent.TheVariants as events

abbrev pub event_of : ScriptEvent → Event
event_of (events.Tick now) = Tick now
event_of (events.Datagram now from bytes) = Datagram from bytes.now now

abbrev pub event_asked : Result ScriptEvent LineFault → Result Event LineFault
event_asked (Ok r) = Ok (event_of r)
event_asked (Err fault) = Err fault

-- the fields, where there are two or three; else they ask for nothing
abbrev pub AreFields : Fields → List (List ℕ) → Type 0
AreFields (fields.Two a b) fs = fs ≡ a.now ∷ b.now ∷ []
AreFields (fields.Three a b c) fs = fs ≡ a.now ∷ b.now ∷ c.now ∷ []
AreFields fields.Other fs = asked_event fs ≡ Err Form

abbrev pub FieldsWithin : Fields → ℕ → Type 0
FieldsWithin (fields.Two a b) n = (length a.now ≤ n) × (length b.now ≤ n)
FieldsWithin (fields.Three a b c) n = (length a.now ≤ n) × (length b.now ≤ n) × (length c.now ≤ n)
FieldsWithin fields.Other n = Unit {0}

-- the moment and the peer that a line begins with, each before a space, and what stands after them
abbrev pub moment_and_peer_of : List ℕ → Option (ℕ × Peer × List ℕ)
moment_and_peer_of line =
    then_in (read_before moment_of 32 line) (λ m.
    then_in (read_before peer_of 32 m.1) (λ p. Some (m.0, p.0, p.1)))

-- the same as the program has it
abbrev pub begun : Option (ℕ × Peer × Bor (List ℕ)) → Option (ℕ × Peer × List ℕ)
begun r = option_map (λ b. (b.0, b.1, b.2.now)) r

-- what the fields after the moment and the peer of a datagram make the line ask for
abbrev pub datagram_after : ℕ → Peer → List (List ℕ) → Result Event LineFault
datagram_after now from (bytes ∷ []) = needs Hex (hex_of bytes) (λ sent. Ok (Datagram from sent now))
datagram_after now from other = Err Form

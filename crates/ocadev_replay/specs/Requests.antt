-- What the lines of the device's scripts ask for.
use Rattle.std.specs.Prelude.{ℕ, Bool, if◌then◌else◌, List, [], ◌∷◌, codes, Result, Ok, Err}
use Rattle.std.specs.Str.{bytes_eq}
use Rattle.oca_script.specs.Fields.{moment_of, peer_of, hex_of}
use Rattle.oca_script.specs.declared.fault.LineFault.{LineFault}
use Rattle.oca_script.specs.declared.fault.LineFault.TheVariants.{Form, Moment, Peer, Hex}
use Rattle.oca_script.specs.LineFields.{needs}
use Rattle.oca_device.specs.Events.{Event, Datagram, Tick}

abbrev pub is_quiet : List ℕ → Bool
is_quiet word = bytes_eq word (codes "quiet")

-- a clock reading at a moment
unfoldable pub tick_of : List ℕ → Result Event LineFault
tick_of moment = needs Moment (moment_of moment) (λ now. Ok (Tick now))

-- a datagram: its moment, its sender and its bytes
unfoldable pub datagram_of : List ℕ → List ℕ → List ℕ → Result Event LineFault
datagram_of moment peer bytes =
    needs Moment (moment_of moment) (λ now.
    needs Peer (peer_of peer) (λ from.
    needs Hex (hex_of bytes) (λ sent. Ok (Datagram from sent now))))

-- The event that the fields of a line ask for. Where the second field is `quiet` it is a clock reading, and a datagram
-- else.
abbrev pub asked_event : List (List ℕ) → Result Event LineFault
asked_event (moment ∷ second ∷ []) = if is_quiet second then tick_of moment else Err Form
asked_event (moment ∷ second ∷ third ∷ []) = if is_quiet second then Err Form else datagram_of moment second third
asked_event other = Err Form

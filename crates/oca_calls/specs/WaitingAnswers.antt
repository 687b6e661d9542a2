-- Which answers of a device wait until the objects are stored, as its caller in C is told.
use Rattle.std.specs.Prelude.{◌≡◌, ℕ, ◌≤◌, ◌==◌, ◌||◌, ◌&&◌, not, Bool, List, ◌∷◌, length}
use Rattle.oca_types.specs.declared.words.Peer.{Peer}
use Rattle.oca_types.specs.Sizes.{DeviceSizes, most_command_parameter_bytes}
use Rattle.oca_net.specs.Deliveries as delivery
use Rattle.oca_net.specs.Ends.{largest_datagram}
use Rattle.oca_tree.specs.declared.object.Object.{Object}
use Rattle.oca_device.specs.declared.verdict.Verdict.{Verdict}
use Rattle.oca_device.specs.declared.verdict.Verdict.TheVariants.{Served, Malformed, NoRoom}
use Rattle.oca_device.specs.Rooms.{told, verdict_within}
use Rattle.oca_device.specs.Events.{Event, Datagram}
use Rattle.oca_device.specs.Keeping.{answers_wait, behind_after}
use Rattle.oca_device.specs.Written.{written}
use Rattle.oca_calls.specs.declared.unstored.Unstored.{Unstored}

-- how many of a datagram's commands were duplicates, whose answers are those of earlier ones
abbrev pub duplicates_of : Verdict → ℕ
duplicates_of (Served executed kept old reused) = kept
duplicates_of (Malformed fault) = 0
duplicates_of NoRoom = 0

-- THE ANSWERS TO A DATAGRAM WAIT where it wrote to an object; and, while something written is not stored, where it
-- holds a duplicate. What it wrote is not stored, until it is said to be.
abbrev pub unstored_after : Unstored → Bool → ℕ → Unstored
unstored_after before wrote duplicates =
    record {
      is_behind = wrote || before.is_behind;
      waits = wrote || (not (duplicates == 0) && before.is_behind);
    }

-- the same behind this datagram, of a device with room for so many bytes of parameters of a command
abbrev pub unstored_behind : Unstored → ℕ → DeviceSizes → List Object → List Event → Peer → List ℕ → ℕ → Unstored
unstored_behind before room w tree events from bytes now =
    unstored_after before (not (length (written w tree (Datagram from (told room bytes) now ∷ events)) == 0))
    (duplicates_of (verdict_within room w tree events from bytes now))

-- THE RULE IS THAT OF A DEVICE WHICH KEEPS ITS OBJECTS IN A STORE (`serve_keeping` of oca_device): which answers to a
-- datagram of at most 1,472 bytes wait, and whether something written is not stored then. The device has room for each
-- command.
abbrev pub WaitsAsKept : Type 0
WaitsAsKept = (before : Unstored) (w : DeviceSizes) (tree : List Object) (events : List Event) (from : Peer)
    (bytes : List ℕ) (now : ℕ) → length bytes ≤ largest_datagram →
    let noted = unstored_behind before most_command_parameter_bytes w tree events from bytes now in
    (noted.waits ≡ answers_wait before.is_behind w tree events (delivery.Datagram from bytes now))
    × (noted.is_behind ≡ behind_after before.is_behind w tree events (delivery.Datagram from bytes now))

-- A link with what it has room for: the value that is behind an open handle.
use Rattle.std.specs.Prelude.{ℕ, Bool, true, false}
use Rattle.oca_types.specs.Sizes.{most_command_parameter_bytes, most_parameter_bytes}
use Rattle.oca_control.specs.Links.{LinkState}
use Rattle.oca_calls.specs.declared.link.AnyLink.{AnyLink}
use Rattle.oca_calls.specs.declared.link.AnyLink.TheVariants.{Full, Small}

-- how many bytes of parameters a command may have, and an answer: a command with more is refused (by a link) or makes
-- its datagram too long (for a device), and an answer with more is shortened
pub record Rooms : Type 0 where
  pub command : ℕ
  pub answer : ℕ

-- as many as a datagram holds; and those of a small link or device
abbrev pub full_rooms : Rooms
full_rooms = record { command = most_command_parameter_bytes; answer = most_parameter_bytes }

abbrev pub small_rooms : Rooms
small_rooms = record { command = 64; answer = 264 }

abbrev pub rooms_of : Bool → Rooms
rooms_of true = small_rooms
rooms_of false = full_rooms

-- a link's state with its rooms
pub record RoomedLink : Type 0 where
  pub link : LinkState
  pub rooms : Rooms

-- the state of a link of either size
abbrev pub roomed_link : AnyLink → RoomedLink
roomed_link (Full l) = record { link = l.value; rooms = full_rooms }
roomed_link (Small l) = record { link = l.value; rooms = small_rooms }

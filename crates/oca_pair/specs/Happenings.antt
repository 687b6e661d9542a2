-- WHAT HAPPENED TO THE DEVICE of a network, in the words of the device's law by events. Of events and happenings the
-- latest stands first.
use Rattle.std.specs.Prelude.{[], ◌++◌, ◌∷◌, Err, List, Ok, Result}
use Rattle.oca_pair.specs.Words.{Datagram, Event, EventsAreBytes, Happened, Happening, Local, Msg, Passes, PduFault}
use Rattle.oca_pair.specs.Words.{Peer, Says, Sets, Tick, read_datagram}

-- what a peer says with bytes of which this was read: the messages of a datagram, and nothing with other bytes
abbrev pub sayings : Peer → Result (List Msg) PduFault → List Happening
sayings p (Ok messages) = Says p messages ∷ []
sayings p (Err fault) = []

abbrev pub happenings : List Event → List Happening
happenings [] = []
happenings (Datagram from bytes now ∷ before) = sayings from (read_datagram bytes) ++ Passes now ∷ happenings before
happenings (Tick now ∷ before) = Passes now ∷ happenings before
happenings (Local ono change ∷ before) = Sets ono change ∷ happenings before

-- They are what the law by events says that happened.
abbrev pub TheseHappened : Type 0
TheseHappened = (E : List Event) → EventsAreBytes E → Happened E (happenings E)

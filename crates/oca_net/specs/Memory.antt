-- An end in memory: a script that it delivers, and room for what it takes.
use Rattle.std.specs.Prelude.{ℕ, ◌==◌, nat_le, nat_lt, Bool, true, false, not, ◌&&◌, if◌then◌else◌, List, [], ◌∷◌, ◌++◌}
use Rattle.std.specs.Prelude.{length, map, Option, Some, None}
use Rattle.oca_types.specs.declared.words.Peer.{Peer}
use Rattle.arrayvec.specs.ArrayVec.{ArrayVec}
use Rattle.oca_net.specs.declared.end.Heard.{Heard}
use Rattle.oca_net.specs.declared.end.Heard.TheVariants as heard
use Rattle.oca_net.specs.declared.memory.Scripted.{Scripted}
use Rattle.oca_net.specs.declared.memory.Scripted.TheVariants as scripted
use Rattle.oca_net.specs.Deliveries.{Delivery, Datagram, Quiet, Failed, Sent}
use Rattle.oca_net.specs.Ends.{largest_datagram, one_more, failures_after, failures_sent, taken_after}
use Rattle.oca_net.specs.EndStates.{EndState}

-- What an end in memory has delivered (the latest last), what it will deliver (the next first), what it took (the
-- latest last) and for how many it has room, the number of the next send and of the one that fails, whether it has
-- returned Closed, and its counts of failures and of receives.
pub record MemoryState : Type 0 where
  pub delivered : List Delivery
  pub to_come : List Delivery
  pub taken : List Sent
  pub room : ℕ
  pub send_number : ℕ
  pub fail_send : Option ℕ
  pub closed : Bool
  pub failures : ℕ
  pub receives : ℕ

-- An end in memory tells, and keeps no time: its present moment is 0.
abbrev pub state_of_memory : MemoryState → EndState
state_of_memory e =
    record {
      tells = true;
      delivered = e.delivered;
      taken = e.taken;
      closed = e.closed;
      failures = e.failures;
      receives = e.receives;
      sends = e.send_number;
      moment = None;
      earliest = 0;
      latest = 0;
    }

-- an entry of a script
abbrev pub delivery_of : Scripted → Delivery
delivery_of (scripted.Datagram from bytes now) = Datagram from bytes.items now
delivery_of (scripted.Quiet now) = Quiet now
delivery_of scripted.Failed = Failed

-- the entries of a script
abbrev pub deliveries_of : List Scripted → List Delivery
deliveries_of entries = map delivery_of entries

-- a packet that was taken
abbrev pub sent_of : Peer × ArrayVec ℕ → Sent
sent_of x = record { to = x.0; bytes = x.1.items }

abbrev pub sent_packets : List (Peer × ArrayVec ℕ) → List Sent
sent_packets packets = map sent_of packets

-- a new one has delivered and taken nothing, and counted nothing
abbrev pub new_memory : List Delivery → ℕ → Option ℕ → MemoryState
new_memory script room fail_send =
    record {
      delivered = [];
      to_come = script;
      taken = [];
      room = room;
      send_number = 0;
      fail_send = fail_send;
      closed = false;
      failures = 0;
      receives = 0;
    }

-- how an entry is heard, and what the packet then holds: a datagram of more than 1,472 bytes is oversize
abbrev pub heard_of : Delivery → Heard
heard_of (Datagram from bytes now) =
    if nat_le (length bytes) largest_datagram then heard.Datagram from now else heard.Oversize now
heard_of (Quiet now) = heard.Quiet now
heard_of Failed = heard.Failed

abbrev pub bytes_of : Delivery → List ℕ
bytes_of (Datagram from bytes now) = if nat_le (length bytes) largest_datagram then bytes else []
bytes_of (Quiet now) = []
bytes_of Failed = []

-- A receive delivers the next entry of the script. Behind the last it returns Closed.
abbrev pub next_heard : List Delivery → Heard
next_heard [] = heard.Closed
next_heard (d ∷ rest) = heard_of d

abbrev pub next_bytes : List Delivery → List ℕ
next_bytes [] = []
next_bytes (d ∷ rest) = bytes_of d

abbrev pub after_next : List Delivery → MemoryState → MemoryState
after_next [] e = record e { closed = true; receives = one_more e.receives }
after_next (d ∷ rest) e =
    record e {
      delivered = e.delivered ++ d ∷ [];
      to_come = rest;
      failures = failures_after (heard_of d) e.failures;
      receives = one_more e.receives;
    }

-- the end after a receive
abbrev pub after_receive : MemoryState → MemoryState
after_receive e = after_next e.to_come e

-- the send number n is the one that fails
abbrev pub is_number : Option ℕ → ℕ → Bool
is_number None n = false
is_number (Some k) n = n == k

-- a send is taken where there is room and it is not the one that fails
abbrev pub takes : MemoryState → Bool
takes e = nat_lt (length e.taken) e.room && not (is_number e.fail_send e.send_number)

-- After a send: each counts in the numbering, which stays at its last value.
abbrev pub after_send : MemoryState → Peer → List ℕ → MemoryState
after_send e to bytes =
    record e {
      taken = taken_after (takes e) to bytes e.taken;
      send_number = one_more e.send_number;
      failures = failures_sent (takes e) e.failures;
    }

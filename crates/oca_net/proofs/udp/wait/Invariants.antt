use Rattle.std.proofs.Common.{◌≡◌, ◌+◌, ◌<◌, ◌≤◌, min, true}
use Rattle.oca_net.specs.Ends.{last_u64}
use Rattle.oca_net.specs.Moments.{milliseconds_of}
use Rattle.oca_net.specs.PrivateMoments.{IsFresh}
use Rattle.oca_net.specs.Sockets.{IsUnheardFor, is_interrupted}
use Rattle.oca_net.proofs.udp.wait.Given as goal

abbrev pub invariant-loop-try : goal.invariant-loop-try
invariant-loop-try g l =
    IsFresh l.now l.socket.latest (milliseconds_of l.socket.system.reading) l.socket.system.looked l.socket.system.calls
    × (l.socket.latest ≡ l.fn.socket.latest) × (l.socket.until ≡ l.until) × (l.socket.begun ≡ l.begun) × (l.socket.system.taken ≡ l.fn.socket.system.taken)
    × (min (l.fn.socket.system.calls + l._try) last_u64 ≤ l.socket.system.calls)
    × (0 < l._try → is_interrupted l.socket.fault ≡ true)
    × (0 < l._try → IsUnheardFor l.socket.fault l.socket.system.refused)

use Rattle.std.proofs.Common.{◌≡◌, ◌-◌}
use Rattle.oca_net.specs.Sockets.{many_more}
use Rattle.oca_net.proofs.udp.send_datagram.Given as goal

abbrev pub invariant-loop-try : goal.invariant-loop-try
invariant-loop-try g l =
    (l.socket.latest ≡ l.fn.socket.latest) × (l.socket.until ≡ l.fn.socket.until)
    × (l.socket.begun ≡ l.fn.socket.begun)
    × (l.socket.system.calls ≡ many_more l.fn.socket.system.calls (l._try - 1))
    × (l.socket.system.signals ≡ many_more l.fn.socket.system.signals (l._try - 1))

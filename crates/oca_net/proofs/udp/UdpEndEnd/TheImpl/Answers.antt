-- It tells nothing, so nothing is claimed of what it delivered and took.
use Rattle.std.proofs.Common.{refl, sym, ap, Some}
use Rattle.std.proofs.lemmas.Bool.{false≢true}
use Rattle.oca_net.specs.Sockets.{SocketState}
use Rattle.oca_net.proofs.Hearing.{heard_by}
use Rattle.oca_net.proofs.udp.UdpEndEnd.TheImpl.Goals as goal

pub receive-tells : goal.receive-tells
receive-tells g c = record {
  telling = refl;
  delivered = λ told. absurd (false≢true told);
  taken = λ told. absurd (false≢true told);
  packet = c.ensures.packet;
  closed = search sym;
  failures = ap (λ (e : SocketState). e.failures) c.ensures.end;
  receives = ap (λ (e : SocketState). e.receives) c.ensures.end;
  sends = ap (λ (e : SocketState). e.sends) c.ensures.end;
  moment = (_, refl, c.ensures.later, heard_by _ _ c.ensures.said);
}

pub receive_by-tells : goal.receive_by-tells
receive_by-tells g c = record {
  heard = record {
    telling = refl;
    delivered = λ told. absurd (false≢true told);
    taken = λ told. absurd (false≢true told);
    packet = c.ensures.packet;
    closed = search sym;
    failures = ap (λ (e : SocketState). e.failures) c.ensures.end;
    receives = ap (λ (e : SocketState). e.receives) c.ensures.end;
    sends = ap (λ (e : SocketState). e.sends) c.ensures.end;
    moment = (_, refl, c.ensures.later, heard_by _ _ c.ensures.said);
  };
  waits = c.ensures.until;
}

pub send-tells : goal.send-tells
send-tells g c = record {
  telling = refl;
  delivered = λ told. absurd (false≢true told);
  taken = λ told. absurd (false≢true told);
  closed = refl;
  failures = ap (λ (e : SocketState). e.failures) c.ensures.end;
  receives = ap (λ (e : SocketState). e.receives) c.ensures.end;
  sends = ap (λ (e : SocketState). e.sends) c.ensures.end;
  moment = ap (λ (e : SocketState). Some e.moment) c.ensures.end;
}

pub now-tells : goal.now-tells
now-tells g c = record { from = c.ensures.later; to = c.ensures.fits; later = λ _. c.ensures.later }

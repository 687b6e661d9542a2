use Rattle.oca_pair.proofs.Words.{◌≡◌, ◌++◌, take, drop, map, option_or, SentDatagram, device_address, hears_datagram, first_heard}
use Rattle.oca_pair.proofs.running.hear.Given as goal

abbrev pub invariant-loop-i : goal.invariant-loop-i
invariant-loop-i l =
    let d : SentDatagram = record { peer = l.peer; bytes = l.bytes } in
    let old = l.fn.links.items in
    record {
      long : l.links.len ≡ l.fn.links.len;
      links : l.links.items ≡ map (hears_datagram device_address d l.now) (take l.i old) ++ drop l.i old;
      answer : option_or l.answer (first_heard d (drop l.i old)) ≡ first_heard d old;
    }

use Rattle.std.proofs.Common.{◌≡◌, Some, ap, sym, ◌∙◌}
use Rattle.std.specs.Prelude.{slice_get}
use Rattle.std.specs.Option.{option_map}
use Rattle.std.proofs.lemmas.Result.{err_from_is_err_and}
use Rattle.ocadev_replay.specs.Printing.{packet_text}
use Rattle.ocadev_replay.proofs.PacketLemmas.{packets-more, packets-less}
use Rattle.ocadev_replay.proofs.answer.print_packets.Goals as goal

pub returns-in_err-print_packet : goal.returns-in_err-print_packet
returns-in_err-print_packet g c =
    let p = err_from_is_err_and c.from_residual.result c.from_residual.ensures.1 in
    let found : slice_get c.args.outbox.now c.loop-i.i ≡ Some c.in-Some.packet.now.items = sym c.get.ensures ∙ ap (option_map (λ p. p.now.items)) c.in-Some.is in
    let text : packet_text c.as_slice.result.now ≡ packet_text c.in-Some.packet.now.items = ap packet_text c.as_slice.ensures.value in
    packets-less _ p.0 _ c.loop-i.printer _ packet_text c.args.outbox.now c.loop-i.i c.in-Some.packet.now.items found p.1 c.loop-i.invariant (rw text at c.in_err-print_packet.ensures)

pub loop-i-preserved : goal.loop-i-preserved
loop-i-preserved g c =
    let found : slice_get c.args.outbox.now c.loop-i.i ≡ Some c.in-Some.packet.now.items = sym c.get.ensures ∙ ap (option_map (λ p. p.now.items)) c.in-Some.is in
    let text : packet_text c.as_slice.result.now ≡ packet_text c.in-Some.packet.now.items = ap packet_text c.as_slice.ensures.value in
    packets-more _ c.loop-i.printer _ packet_text c.args.outbox.now c.loop-i.i c.in-Some.packet.now.items found c.loop-i.invariant (rw text at c.in_ok-print_packet.ensures)

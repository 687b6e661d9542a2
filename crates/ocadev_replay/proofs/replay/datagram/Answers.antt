use Rattle.std.proofs.lemmas.Result.{err_from_is_err_and}
use Rattle.oca_script.proofs.PrintLemmas.{prints-less, prints-then}
use Rattle.ocadev_replay.proofs.ServeLemmas.{datagram-serves}
use Rattle.ocadev_replay.proofs.replay.datagram.Goals as goal

pub returns-in_err-print_verdict : goal.returns-in_err-print_verdict
returns-in_err-print_verdict g c =
    let p = err_from_is_err_and c.from_residual.result c.from_residual.ensures.1 in
    let d = c.datagram-verdict in
    record { text = _; serves = datagram-serves _ _ _ _ _ d.result d.new.outbox d.ensures.represents d.ensures.packets d.ensures.verdict; prints = prints-less _ p.0 _ _ _ _ p.1 c.in_err-print_verdict.ensures }

pub returns : goal.returns
returns g c =
    let d = c.datagram-verdict in
    record { text = _; serves = datagram-serves _ _ _ _ _ d.result d.new.outbox d.ensures.represents d.ensures.packets d.ensures.verdict; prints = prints-then _ _ _ _ _ _ c.in_ok-print_verdict.ensures c.print_packets.ensures }

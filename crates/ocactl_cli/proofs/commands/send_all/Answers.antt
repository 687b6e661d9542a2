use Rattle.std.proofs.Common.{ap, sym, Result}
use Rattle.oca_script.specs.declared.fault.WriteFailed.{WriteFailed}
use Rattle.ocactl_cli.specs.Exchanges.{ended_by}
use Rattle.ocactl_cli.proofs.ExchangeLemmas.{finishes-unwritten, finishes, concludes, sends-lines}
use Rattle.ocactl_cli.proofs.commands.send_all.Goals as goal

pub returns-then-is_unwritten : goal.returns-then-is_unwritten
returns-then-is_unwritten g c =
    let s = c.serve_lines-ended in
    sends-lines _ s.new.state _ _ s.new.printer _ _ _ s.result _ s.ensures.known s.ensures.reads (finishes-unwritten _ _ _ (sym c.if-is_unwritten.ensures))

pub returns-in-Ok : goal.returns-in-Ok
returns-in-Ok g c =
    let s = c.serve_lines-ended in
    sends-lines _ s.new.state _ _ s.new.printer _ _ _ s.result _ s.ensures.known s.ensures.reads
    (finishes _ _ _ _ _ _ (sym c.if-is_unwritten.ensures)
    (concludes _ _ _ _ _ c.flush_unless_failed.result _ _ _ c.await_until-written.ensures.awaits c.flush_unless_failed.ensures.goes_on c.flush_unless_failed.ensures.empty
    (sym (ap (λ (z : Result Unit WriteFailed). ended_by z s.result) c.in-Ok.is))))

pub returns-in-Err : goal.returns-in-Err
returns-in-Err g c =
    let s = c.serve_lines-ended in
    sends-lines _ s.new.state _ _ s.new.printer _ _ _ s.result _ s.ensures.known s.ensures.reads
    (finishes _ _ _ _ _ _ (sym c.if-is_unwritten.ensures)
    (concludes _ _ _ _ _ c.flush_unless_failed.result _ _ _ c.await_until-written.ensures.awaits c.flush_unless_failed.ensures.goes_on c.flush_unless_failed.ensures.empty
    (sym (ap (λ (z : Result Unit WriteFailed). ended_by z s.result) c.in-Err.is))))

use Rattle.std.proofs.Common.{◌≡◌, ◌⊎◌, ℕ, ◌<◌, ◌≤◌, Result, arith, [], refl, inl, inr, length}
use Rattle.std.specs.Prelude.{OnOk}
use Rattle.oca_script.specs.declared.fault.WriteFailed.{WriteFailed}
use Rattle.oca_script.specs.Ends.{Output}
use Rattle.ocactl_cli.specs.Exchanges.{SessionState, NoneAwaited, OneAwaited}
use Rattle.ocactl_cli.specs.PrivateExchanges.{FlushesWhereAwaited}
use Rattle.ocactl_cli.proofs.ExchangeLemmas.{and-then, fewer, goes-nil}
use Rattle.ocactl_cli.proofs.commands.await_until.Goals as goal

-- whether none was waited for so far, or what was printed was flushed
abbrev FlushedSoFar : ℕ → (first now : SessionState) → Result Unit WriteFailed → (was is : Output) → Type 0
FlushedSoFar left first now so_far was is =
    ((length now.in_flight ≡ length first.in_flight) × (is ≡ was)) ⊎ ((left < length first.in_flight) × OnOk so_far (is.held ≡ []))

more-than-left : (left : ℕ) (first now : SessionState) (r : Result Unit WriteFailed) (was is : Output) → FlushedSoFar left first now r was is → left < length now.in_flight
    → left < length first.in_flight
more-than-left left first now r was is (inl same) more = let n = same.0 in omega (arith, n, more)
more-than-left left first now r was is (inr done) more = done.0

flushes-so : (left : ℕ) (first now : SessionState) (r : Result Unit WriteFailed) (was is : Output) → FlushedSoFar left first now r was is → length now.in_flight ≤ left
    → FlushesWhereAwaited left first r was is
flushes-so left first now r was is (inl same) few = let n = same.0 in record { awaited = λ more. absurd (omega (arith, n, few, more)); none = λ fewer. same.1 }
flushes-so left first now r was is (inr done) few = let n = done.0 in record { awaited = λ more. done.1; none = λ fewer. absurd (omega (arith, n, fewer)) }

pub loop-session-init : goal.loop-session-init
loop-session-init g c = record {
  awaits = record { text = []; does = NoneAwaited; prints = goes-nil c.args.written c.args.printer.now };
  flushed = inl (refl, refl);
}

pub loop-session-preserved : goal.loop-session-preserved
loop-session-preserved g c = record {
  awaits = and-then _ c.loop-session.so_far _ _ c.loop-session.printer _ _ c.loop-session.invariant.awaits c.write_unless_failed-so_far.ensures.prints
      (λ text does. OneAwaited c.await_first-outcome.result does (omega arith) c.await_first-outcome.ensures);
  flushed = inr (more-than-left _ c.args.session.now c.loop-session.session _ _ _ c.loop-session.invariant.flushed (omega arith), c.write_unless_failed-so_far.ensures.empty);
}

pub loop-session-smaller : goal.loop-session-smaller
loop-session-smaller g c = let one = fewer _ _ _ c.await_first-outcome.ensures in omega (arith, one)

pub returns-clause-awaits : goal.returns-clause-awaits
returns-clause-awaits g c =
    let h = c.loop-session.invariant.awaits in
    record { text = h.text; does = (h.does, omega arith); prints = h.prints }

pub returns-clause-flushes : goal.returns-clause-flushes
returns-clause-flushes g c = flushes-so _ c.args.session.now c.loop-session.session _ _ _ c.loop-session.invariant.flushed (omega arith)

use Rattle.std.proofs.Common.{refl, ◌∙◌}
use Rattle.std.proofs.lemmas.Result.{err_from_is_err_and}
use Rattle.ocactl_cli.proofs.ExchangeLemmas.{idles-not, idles-and, idles-turned}
use Rattle.ocactl_cli.proofs.commands.idle.Goals as goal

pub loop-turn-init : goal.loop-turn-init
loop-turn-init g c = record { idles = idles-not _ tt _; source = refl }

pub returns-in_err-print_settled-clause-idles : goal.returns-in_err-print_settled-clause-idles
returns-in_err-print_settled-clause-idles g c =
    let p = err_from_is_err_and c.from_residual.result c.from_residual.ensures.1 in
    rw p.1 (idles-and _ c.loop-turn.session _ tt _ _ c.loop-turn.printer _ c.loop-turn.invariant.idles c.in_err-print_settled.ensures.idles)

pub returns-then-is_over-clause-idles : goal.returns-then-is_over-clause-idles
returns-then-is_over-clause-idles g c =
    idles-and _ c.loop-turn.session _ tt _ _ c.loop-turn.printer _ c.loop-turn.invariant.idles c.in_ok-print_settled.ensures.idles

pub returns-then-await_input-clause-idles : goal.returns-then-await_input-clause-idles
returns-then-await_input-clause-idles g c =
    idles-and _ c.loop-turn.session _ tt _ _ c.loop-turn.printer _ c.loop-turn.invariant.idles c.in_ok-print_settled.ensures.idles

pub returns-then-turn-clause-idles : goal.returns-then-turn-clause-idles
returns-then-turn-clause-idles g c =
    let settled = idles-and _ c.loop-turn.session _ tt _ _ c.loop-turn.printer _ c.loop-turn.invariant.idles c.in_ok-print_settled.ensures.idles in
    idles-and _ c.turn.new.self _ tt _ _ c.print_settled.new.printer _
    (idles-turned _ c.print_settled.new.session c.turn.new.self _ tt _ _ settled c.in_ok-print_settled.ensures.first c.turn.ensures) c.await_rest.ensures.idles

pub loop-turn-preserved : goal.loop-turn-preserved
loop-turn-preserved g c =
    let settled = idles-and _ c.loop-turn.session _ tt _ _ c.loop-turn.printer _ c.loop-turn.invariant.idles c.in_ok-print_settled.ensures.idles in
    record {
      idles = idles-turned _ c.print_settled.new.session c.turn.new.self _ tt _ _ settled c.in_ok-print_settled.ensures.first c.turn.ensures;
      source = c.await_input.ensures.source ∙ c.loop-turn.invariant.source;
    }

pub returns-clause-idles : goal.returns-clause-idles
returns-clause-idles g c =
    idles-and _ c.loop-turn.session _ tt _ _ c.loop-turn.printer _ c.loop-turn.invariant.idles c.await_rest-2.ensures.idles

use Rattle.oca_pair.proofs.Words.{◌<◌, ◌≤◌, length, refl, sym, ◌∙◌, arith, map, sizes_of, span_size, Network, run_setup, opening, step_of}
use Rattle.oca_pair.proofs.Runs.{begun_at, goes_on_at, stops_at, ended_at, all_there, all_done}
use Rattle.oca_pair.proofs.pair.run_pair_with_sizes.Goals as goal

pub loop-number-init : goal.loop-number-init
loop-number-init c = begun_at c.in-Ok.running c.new-log.result.items _ _ c.in-Ok.ensures c.new-log.ensures.items

pub returns-in-Err-Missing : goal.returns-in-Err-Missing
returns-in-Err-Missing c =
    let within : c.loop-number.number < length c.args.steps.now = omega arith in (
      sym c.are_apart.ensures ∙ c.if-not-are_apart.false,
      stops_at step_of c.args.steps.now c.loop-number.number c.index-steps-number.result c.loop-number.running c.take_step.new.self c.loop-number.log.items _ c.in-Err-Missing.field-0 within c.index-steps-number.is c.in-Err-Missing.field-0-is
          c.loop-number.invariant c.in-Err-Missing.ensures,
    )

pub loop-number-preserved : goal.loop-number-preserved
loop-number-preserved c =
    let within : c.loop-number.number < length c.args.steps.now = omega arith in
    goes_on_at step_of c.args.steps.now c.loop-number.number c.index-steps-number.result c.loop-number.running c.take_step.new.self c.loop-number.log.items c.add.new.log.items _ c.in-Ok-take_step.outcome within c.index-steps-number.is
    c.loop-number.invariant c.in-Ok-take_step.ensures c.in-Ok-add.ensures

pub returns : goal.returns
returns c =
    let past : length c.args.steps.now ≤ c.loop-number.number = omega arith in
    let from : Network = opening (sizes_of c.args.sizes) (run_setup (span_size c.args.span)) c.args.tree c.args.starts.now in
    let h = ended_at step_of c.args.steps.now c.loop-number.number c.loop-number.running c.loop-number.log.items from past c.loop-number.invariant in (
      sym c.are_apart.ensures ∙ c.if-not-are_apart.false,
      all_there c.loop-number.running c.loop-number.log.items c.loop-number.number (map step_of c.args.steps.now) from h,
      all_done _ c.loop-number.running c.loop-number.log.items c.loop-number.number (map step_of c.args.steps.now) from h refl refl refl refl,
    )

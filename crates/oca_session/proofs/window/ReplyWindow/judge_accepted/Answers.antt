use Rattle.std.proofs.Common.{length, ◌<◌, refl, sym, ap, ◌∙◌, arith, true, false, cond}
use Rattle.std.proofs.lemmas.Option.{slice_get_read}
use Rattle.oca_types.specs.Peers.{fields_of}
use Rattle.oca_types.specs.Replies.{Reply}
use Rattle.oca_session.specs.declared.window.Held.{Held}
use Rattle.oca_session.specs.Accepted.{Duplicate, Reused}
use Rattle.oca_session.proofs.HeldCells.{found_holds, judged_where_held, judged_where_none, before_end, from_end}
use Rattle.oca_session.proofs.window.ReplyWindow.judge_accepted.Goals as goal

pub index-cell-requires : goal.index-cell-requires
index-cell-requires g c =
    let a = c.self.inside in
    let within = found_holds c.args.command.now.handle.0 (λ (g : Held). g.cell < length a.cells.items) a.held.items c.in-Some.held (sym c.held_under.ensures ∙ c.in-Some.is) c.self.invariant.0.1 in
    omega (arith, within)

pub returns-then-asks_the_same : goal.returns-then-asks_the_same
returns-then-asks_the_same g c =
    let a = c.self.inside in
    let found = sym c.held_under.ensures ∙ c.in-Some.is in
    let within = found_holds c.args.command.now.handle.0 (λ (g : Held). g.cell < length a.cells.items) a.held.items c.in-Some.held found c.self.invariant.0.1 in
    let there = slice_get_read a.cells.items (length a.cells.items) c.in-Some.held.cell c.index-cell.result.now refl within c.index-cell.ensures in
    let judged = judged_where_held c.args.self.now (fields_of c.args.command.now) _ _ a.held.items a.cells.items c.in-Some.held c.index-cell.result.now c.self.view_is c.self.invariant.0.1 found there in
    sym (judged ∙ ap (λ b. cond b (Duplicate c.index-cell.result.now.reply) Reused) (sym c.asks_the_same.ensures ∙ c.if-asks_the_same.true)
    ∙ ap (λ (r : Reply). Duplicate r) (sym c.reply.ensures))

pub returns-in-Some : goal.returns-in-Some
returns-in-Some g c =
    let a = c.self.inside in
    let found = sym c.held_under.ensures ∙ c.in-Some.is in
    let within = found_holds c.args.command.now.handle.0 (λ (g : Held). g.cell < length a.cells.items) a.held.items c.in-Some.held found c.self.invariant.0.1 in
    let there = slice_get_read a.cells.items (length a.cells.items) c.in-Some.held.cell c.index-cell.result.now refl within c.index-cell.ensures in
    let judged = judged_where_held c.args.self.now (fields_of c.args.command.now) _ _ a.held.items a.cells.items c.in-Some.held c.index-cell.result.now c.self.view_is c.self.invariant.0.1 found there in
    sym (judged ∙ ap (λ b. cond b (Duplicate c.index-cell.result.now.reply) Reused) (sym c.asks_the_same.ensures ∙ c.if-asks_the_same.false))

pub returns-then-from-self : goal.returns-then-from-self
returns-then-from-self g c =
    let q = fields_of c.args.command.now in
    let a = c.self.inside in
    sym (judged_where_none c.args.self.now q false _ _ a.held.items a.cells.items c.self.view_is c.self.invariant.0.1 (sym c.held_under.ensures ∙ c.in_default.is)
    (before_end a.floor_end q.handle (omega (arith, c.if-from-self.true, c.from.ensures))))

pub returns : goal.returns
returns g c =
    let q = fields_of c.args.command.now in
    let a = c.self.inside in
    sym (judged_where_none c.args.self.now q true _ _ a.held.items a.cells.items c.self.view_is c.self.invariant.0.1 (sym c.held_under.ensures ∙ c.in_default.is)
    (from_end a.floor_end q.handle (omega (arith, c.if-from-self.false, c.from.ensures))))

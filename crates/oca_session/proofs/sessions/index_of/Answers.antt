use Rattle.std.proofs.Common.{sym, ◌∙◌, subst, ◌≡◌}
use Rattle.std.specs.Prelude.{true}
use Rattle.oca_session.specs.Table.{is_of}
use Rattle.oca_session.proofs.Tables.{placed_at}
use Rattle.oca_session.proofs.sessions.index_of.Goals as goal

pub returns-then-is_of : goal.returns-then-is_of
returns-then-is_of g c =
    sym (placed_at c.args.peer c.args.slots.now c.args.recent _ c.requires c.if-recent-slots.true
    (subst (λ s. is_of c.args.peer s ≡ true) c.index-slots-recent.is (sym c.is_of.ensures ∙ c.if-is_of.true)))

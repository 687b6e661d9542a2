use Rattle.std.proofs.Common.{ℕ}
use Rattle.std.specs.Prelude.{All}
use Rattle.std.proofs.lemmas.List.Filters.{FiltersInPlace}
use Rattle.oca_session.specs.Table.{stays}
use Rattle.oca_session.specs.Sound.{IsSession}
use Rattle.oca_session.proofs.sessions.forget.Given as goal

abbrev pub invariant-loop-i : goal.invariant-loop-i
invariant-loop-i g l =
    record {
      filters : FiltersInPlace (stays l.moment) l.fn.slots.items l.slots.items l.kept l.i;
      sound : (w : ℕ) → All (IsSession w) l.fn.slots.items → All (IsSession w) l.slots.items;
    }

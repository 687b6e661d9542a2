use Rattle.std.proofs.Common.{◌≡◌, ◌≤◌, ◌+◌, ◌++◌, ℕ, List, length, true, Ok}
use Rattle.std.specs.Prelude.{IsTrue}
use Rattle.oca_script.specs.Script.{is_ascii}
use Rattle.oca_script.specs.PrivateSteps.{ReplayStep}
use Rattle.oca_script.specs.PrivateScript.{script_from}
use Rattle.oca_script.proofs.lines.serve_piece.Given as goal

abbrev pub invariant-loop-end : goal.invariant-loop-end
invariant-loop-end g l = record {
  ascii : IsTrue l.ascii → is_ascii l.rest ≡ true;
  number : l.progress.number + length l.rest ≤ l.fn.progress.number + length l.piece;
  step : ReplayStep g.L.Language.serves g.L.Language.idles l.fn.state l.state l.fn.printer l.printer (Ok tt)
      (λ (m : ℕ × List ℕ). script_from g.L.Language.asked l.fn.progress.number l.fn.progress.line (length l.piece + m.0) (l.piece ++ m.1))
      (λ m. script_from g.L.Language.asked l.progress.number l.progress.line (length l.rest + m.0) (l.rest ++ m.1));
}

abbrev pub decreases-loop-end : goal.decreases-loop-end
decreases-loop-end g l = length l.rest
